use Rattle.std.proofs.Common.{◌∙◌, arith}
use Rattle.folded.proofs.Writing.{common-fewer, name-fits, name-laid}
use Rattle.folded.proofs.write.put_stack.Goals as goal

pub again-end-requires : goal.again-end-requires
again-end-requires c = let q = c.requires in (q.common.before, omega (arith, q.fits, q.common.chars_are, common-fewer q))

pub put_name-end-requires : goal.put_name-end-requires
put_name-end-requires c = name-fits c.requires c.loop-k.k c.loop-k-test.true (c.loop-k.invariant.1 c.requires) c.loop-k.invariant.0 _

pub loop-k-preserved : goal.loop-k-preserved
loop-k-preserved c = (
  c.put_name-end.auto.out ∙ c.loop-k.invariant.0,
  λ q. name-laid q c.loop-k.k c.loop-k-test.true (c.loop-k.invariant.1 q) c.loop-k.invariant.0 _ c.put_name-end.ensures,
)
