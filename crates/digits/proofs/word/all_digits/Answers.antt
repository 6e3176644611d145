-- `digits::word::all_digits` meets its contract. Assumes nothing.
use Rattle.std.proofs.Common.{sym, arith}
use Rattle.digits.proofs.Tested.{wrong-top, room, small-room, all_tested}
use Rattle.digits.proofs.word.all_digits.Goals as goal

pub returns-then-w-ne0 : goal.returns-then-w-ne0
returns-then-w-ne0 c = sym (wrong-top c.args.w c.ranges.w.fits c.if-w-ne0.true)

pub overflow_add-figure : goal.overflow_add-figure
overflow_add-figure c = omega (arith, room c.args.w c.ranges.w.fits c.if-w-ne0.false)

pub overflow_add-figure-2 : goal.overflow_add-figure-2
overflow_add-figure-2 c = omega (arith, room c.args.w c.ranges.w.fits c.if-w-ne0.false)

pub overflow_add-letter : goal.overflow_add-letter
overflow_add-letter c = omega (arith, small-room c.args.w c.ranges.w.fits c.if-w-ne0.false)

pub overflow_add-letter-2 : goal.overflow_add-letter-2
overflow_add-letter-2 c = omega (arith, small-room c.args.w c.ranges.w.fits c.if-w-ne0.false)

pub returns : goal.returns
returns c = all_tested c.args.w c.ranges.w.fits c.if-w-ne0.false
