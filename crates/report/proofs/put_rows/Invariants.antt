-- `report::put_rows` meets its contract. The invariant: the pieces of the first rows are laid. Assumes nothing.
use mathlib.Core.Path.{◌≡◌}
use lib.ListN.{length}
use Rattle.report.specs.Room.{Lays}
use Rattle.report.specs.Pieces.{pieces}
use Rattle.report.proofs.put_rows.Given as goal

abbrev pub invariant-loop-row : goal.invariant-loop-row
invariant-loop-row l = (length l.out ≡ length l.initial.out) × Lays 0 (pieces l.idle l.rows l.row) l.initial.out l.end l.out
