-- `program::print_report` meets its contract: the writer decides to write. Assumes nothing.
use mathlib.Core.Path.{◌≡◌}
use Prim.Native.Nat.{◌+◌, ◌*◌}
use lib.ListN.{length}
use Rattle.std.proofs.Common.{rules}
use Rattle.report.specs.Room.{write}
use Rattle.report.specs.Rows.{width}
use Rattle.report.specs.Report.{full_text, full_report}
use Rattle.report.proofs.Decisions.{report-text}
use Rattle.program.proofs.Printing.{puts, puts-ok}
use Rattle.program.proofs.print_report.Goals as goal

pub unwrap-requires : goal.unwrap-requires
unwrap-requires c =
    let a = c.args in
    puts-ok (report-text a.rows.now a.count (width * (a.count + 1)) (full_text a.rows.now a.count) _ (search rules) (search rules) (search rules)) c.write_full_report.ensures

pub returns : goal.returns
returns c =
    let a = c.args in
    puts (report-text a.rows.now a.count (width * (a.count + 1)) (full_text a.rows.now a.count) _ (search rules) (search rules) (search rules)) c.write_full_report.ensures c.unwrap.ensures
