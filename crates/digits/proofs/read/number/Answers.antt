use Rattle.std.proofs.Common.{get_or, arith}
use Rattle.digits.proofs.Reading.{reads-room, reads_more, reads-fits, worth-small}
use Rattle.digits.proofs.read.number.Goals as goal

pub overflow_mul-value : goal.overflow_mul-value
overflow_mul-value c =
    let v = c.loop-c.invariant in
    omega (arith, reads-room v.1 v.0)

pub overflow_add-value : goal.overflow_add-value
overflow_add-value c =
    let s = c.args.s.now in
    omega (arith, reads-room c.loop-c.invariant.1 c.loop-c.invariant.0, c.worth-w.ensures, worth-small (get_or s c.loop-c.c-index 0))

pub loop-c-preserved : goal.loop-c-preserved
loop-c-preserved c =
    (c.loop-c.invariant.0, reads_more c.loop-c.invariant.1 _ _ c.loop-c-test.true c.worth-w.ensures c.from.ensures)

pub overflow_cast-result : goal.overflow_cast-result
overflow_cast-result c =
    let v = c.loop-c.invariant in
    record { fits = reads-fits v.1 v.0 c.loop-c-test.false c.if-good.true }
