-- `sheetout::put_records` meets its contract. The invariant: the first records are laid. Assumes nothing.
use mathlib.Core.List.{flat_map}
use mathlib.Core.Path.{◌≡◌}
use lib.ListN.{length}
use Rattle.report.specs.Report.{first}
use Rattle.report.specs.Room.{Lays}
use Rattle.sheetout.specs.Pieces.{row_text}
use Rattle.sheetout.proofs.put_records.Given as goal

abbrev pub invariant-loop-row : goal.invariant-loop-row
invariant-loop-row l = (length l.out ≡ length l.initial.out) × Lays l.at (flat_map (row_text l.rows) (first l.row)) l.initial.out l.end l.out
