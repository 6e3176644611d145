-- `nyolifuwe::nyo_refusal` meets its contract: each answer is what is decided by the tests that led to it. Assumes
-- nothing.
use lib.ListN.{length}
use Rattle.report.specs.Refusal.{print_refusal}
use Rattle.nyolifuwe.proofs.Decided.{untold, counted_is, tells, print_1_number, print_1_line, print_4, print_at_0}
use Rattle.nyolifuwe.proofs.nyo_refusal.Goals as goal

pub returns-then-number-gt255 : goal.returns-then-number-gt255
returns-then-number-gt255 c =
    let a = c.args in
    untold 1 0 a.out.now a.written.now (print_1_number a.number a.line (length a.out.now) (length a.written.now) c.if-number-gt255.true)

pub returns-then-line-gt4294967295 : goal.returns-then-line-gt4294967295
returns-then-line-gt4294967295 c =
    let a = c.args in
    untold 1 0 a.out.now a.written.now (print_1_line a.number a.line (length a.out.now) (length a.written.now) c.if-number-gt255.false c.if-line-gt4294967295.true)

pub returns-then-written-lt1 : goal.returns-then-written-lt1
returns-then-written-lt1 c =
    let a = c.args in
    untold 4 0 a.out.now a.written.now (print_4 a.number a.line (length a.out.now) (length a.written.now) c.if-number-gt255.false c.if-line-gt4294967295.false c.if-written-lt1.true)

pub tell-requires : goal.tell-requires
tell-requires c =
    let a = c.args in
    (print_at_0 a.number a.line (length a.out.now) c.write_refusal.ensures.answered, c.if-written-lt1.false)

pub returns : goal.returns
returns c =
    let a = c.args in
    let d = print_refusal a.number a.line (length a.out.now) in
    rw (counted_is d (length a.written.now) c.if-written-lt1.false) (tells d c.write_refusal.ensures c.tell.ensures.0 c.tell.ensures.1)
