-- `report::write_full_report` meets its contract. Assumes nothing.
use mathlib.Core.Path.{sym}
use lib.ListN.{length}
use Rattle.report.proofs.Choice.{decided_full}
use Rattle.report.proofs.write_full_report.Goals as goal

pub returns : goal.returns
returns c =
    let a = c.args in
    rw (sym (decided_full a.rows.now a.count (length a.out.now))) c.write.ensures
