use Rattle.std.proofs.Common.{arith}
use Rattle.sheetin.proofs.Stores.{not-filled, filling_none, filling_no, filling_more, filling_end}
use Rattle.sheetin.proofs.fill.fill_numerals.Goals as goal

pub loop-x-init : goal.loop-x-init
loop-x-init c = filling_none c.args.s.now c.args.part.now

pub returns-in_err-x : goal.returns-in_err-x
returns-in_err-x c =
    not-filled _ _ c.from_residual.ensures
    (filling_no c.args.s.now c.loop-x.rest.now c.args.part.now c.loop-x.part c.loop-x.x-index c.loop-x.invariant (omega arith) c.in_err-x.ensures)

pub loop-x-preserved : goal.loop-x-preserved
loop-x-preserved c =
    filling_more c.args.s.now c.loop-x.rest.now c.args.part.now c.loop-x.part c.loop-x.x-index c.loop-x.invariant (omega arith) _ _ c.in_ok-x.ensures

pub returns : goal.returns
returns c =
    filling_end c.args.s.now c.loop-x.rest.now c.args.part.now c.loop-x.part c.loop-x.x-index c.loop-x.invariant (omega arith) _ c.line_end.ensures
