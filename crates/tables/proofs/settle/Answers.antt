use native.Mathlib.Omega.{arith}
use Rattle.tables.proofs.OnSpan.{moved_more}
use Rattle.tables.proofs.settle.Goals as goal

pub loop-i-preserved : goal.loop-i-preserved
loop-i-preserved c =
    rw c.pair_at-x.ensures (moved_more c.loop-i.i c.args.m c.args.t.now c.args.rows.now c.loop-i.rows c.loop-i-test.true (omega (arith, c.requires.1, c.loop-i.auto.rows)) c.loop-i.invariant)
