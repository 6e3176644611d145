-- `report::row_size` meets its contract. Assumes nothing.
use native.Mathlib.Omega.{arith}
use Rattle.report.proofs.Choice.{line-counted}
use Rattle.report.proofs.row_size.Goals as goal

pub returns-then-is_printed : goal.returns-then-is_printed
returns-then-is_printed c = let a = c.args in (line-counted a.idle a.rows.now a.row c.requires c.if-is_printed.ensures, omega arith)
