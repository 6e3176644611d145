-- `nyolifuwe::nyo_report` meets its contract: each answer is what is decided by the tests that led to it. Assumes
-- nothing.
use lib.ListN.{length}
use Rattle.report.specs.Report.{report}
use Rattle.nyolifuwe.proofs.Decided.{untold, counted_is, tells, report_1, report_4, report_at_0}
use Rattle.nyolifuwe.proofs.nyo_report.Goals as goal

pub returns-then-count-gt255 : goal.returns-then-count-gt255
returns-then-count-gt255 c =
    let a = c.args in
    untold 1 0 a.out.now a.written.now (report_1 a.rows.now a.count _ _ (length a.out.now) (length a.written.now) c.if-count-gt255.true)

pub returns-then-written-lt1 : goal.returns-then-written-lt1
returns-then-written-lt1 c =
    let a = c.args in
    untold 4 0 a.out.now a.written.now (report_4 a.rows.now a.count _ _ (length a.out.now) (length a.written.now) c.if-count-gt255.false c.if-written-lt1.true)

pub tell-requires : goal.tell-requires
tell-requires c =
    let a = c.args in
    (report_at_0 a.rows.now a.count _ _ (length a.out.now) c.write_report.ensures.answered, c.if-written-lt1.false)

pub returns : goal.returns
returns c =
    let a = c.args in
    let d = report a.rows.now a.count (length a.out.now) in
    rw (counted_is d (length a.written.now) c.if-written-lt1.false) (tells d c.write_report.ensures c.tell.ensures.0 c.tell.ensures.1)
