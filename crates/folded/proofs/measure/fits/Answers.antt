use Rattle.std.proofs.Common.{◌∙◌, arith}
use Rattle.folded.proofs.Measuring.{measuring_asks, measuring_on, measuring_out, measuring_end}
use Rattle.folded.proofs.measure.fits.Goals as goal

pub take_line-requires : goal.take_line-requires
take_line-requires c =
    let q = c.requires in
    measuring_asks q c.args.whole (c.loop-n.invariant.1 q) c.loop-n-test.true (omega (arith, c.loop-n.invariant.0))

pub returns-in-None : goal.returns-in-None
returns-in-None c = λ q. measuring_out q c.args.whole (c.loop-n.invariant.1 q) c.loop-n-test.true (omega (arith, c.loop-n.invariant.0)) c.take_line.new.t c.in-None.ensures

pub loop-n-preserved : goal.loop-n-preserved
loop-n-preserved c = (
  c.take_line.auto.t ∙ c.loop-n.invariant.0,
  λ q. measuring_on q c.args.whole (c.loop-n.invariant.1 q) c.loop-n-test.true (omega (arith, c.loop-n.invariant.0)) c.in-Some.b _ c.in-Some.ensures,
)

pub returns : goal.returns
returns c = λ q. measuring_end q c.args.whole (c.loop-n.invariant.1 q) c.loop-n-test.false
