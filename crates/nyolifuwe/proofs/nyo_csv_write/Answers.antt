-- `nyolifuwe::nyo_csv_write` meets its contract: each answer is what is decided by the tests that led to it. Assumes
-- nothing.
use lib.ListN.{length}
use Rattle.sheet.specs.Writing.{writing}
use Rattle.nyolifuwe.proofs.Decided.{untold, tells}
use Rattle.nyolifuwe.proofs.Sheets.{csv_1, csv_4, csv_is, csv_at_0}
use Rattle.nyolifuwe.proofs.nyo_csv_write.Goals as goal

pub returns-then-count-gt255 : goal.returns-then-count-gt255
returns-then-count-gt255 c =
    let a = c.args in
    untold 1 0 a.out.now a.written.now (csv_1 a.rows.now a.count (length a.out.now) (length a.written.now) c.if-count-gt255.true)

pub returns-then-written-lt1 : goal.returns-then-written-lt1
returns-then-written-lt1 c =
    let a = c.args in
    untold 4 0 a.out.now a.written.now (csv_4 a.rows.now a.count (length a.out.now) (length a.written.now) c.if-count-gt255.false c.if-written-lt1.true)

pub tell-requires : goal.tell-requires
tell-requires c =
    let a = c.args in
    (csv_at_0 a.rows.now a.count (length a.out.now) c.write_sheet.ensures.answered, c.if-written-lt1.false)

pub returns : goal.returns
returns c =
    let a = c.args in
    let d = writing a.rows.now a.count (length a.out.now) in
    rw (csv_is a.rows.now a.count (length a.out.now) (length a.written.now) c.if-written-lt1.false) (tells d c.write_sheet.ensures c.tell.ensures.0 c.tell.ensures.1)
