-- `nyolifuwe::nyo_csv_read` meets its contract: without room for the count, and with it. Assumes nothing.
use lib.ListN.{length}
use Rattle.nyolifuwe.proofs.Sheets.{csv_untaken, csv_taken, csv_record}
use Rattle.nyolifuwe.proofs.nyo_csv_read.Goals as goal

pub returns-then-count-lt1 : goal.returns-then-count-lt1
returns-then-count-lt1 c =
    let a = c.args in
    csv_untaken a.text.now a.rows.now a.count.now c.if-count-lt1.true

pub tell-requires : goal.tell-requires
tell-requires c =
    let a = c.args in
    (csv_record a.text.now (length a.rows.now) c.read_sheet.ensures.answered, c.if-count-lt1.false)

pub returns : goal.returns
returns c =
    let a = c.args in
    let told = c.tell.ensures in
    csv_taken a.text.now a.rows.now _ a.count.now _ c.if-count-lt1.false
    c.read_sheet.ensures
    told.0
    told.1
