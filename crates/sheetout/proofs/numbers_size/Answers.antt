use native.Mathlib.Omega.{arith}
use Rattle.sheetout.proofs.Counting.{sized_none, sized_more}
use Rattle.sheetout.proofs.numbers_size.Goals as goal

pub loop-x-init : goal.loop-x-init
loop-x-init c =
    let a = c.args in
    (c.requires, sized_none a.numbers.now)

pub loop-x-preserved : goal.loop-x-preserved
loop-x-preserved c =
    (c.loop-x.invariant.0, sized_more _ c.loop-x.invariant.1 c.loop-x-test.true (omega (arith, c.shared_slice_known-1.given c.loop-x.x-index)) c.size.ensures)
