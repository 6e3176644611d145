-- `report::rows_size` meets its contract. The invariant: the first rows are counted. Assumes nothing.
use Prim.Native.Nat.{◌*◌, ◌≤◌}
use mathlib.Core.Path.{◌≡◌}
use lib.ListN.{length}
use Rattle.report.specs.Rows.{width}
use Rattle.report.specs.Pieces.{pieces}
use Rattle.report.proofs.rows_size.Given as goal

abbrev pub invariant-loop-row : goal.invariant-loop-row
invariant-loop-row l = (l.size ≡ length (pieces l.idle l.rows l.row)) × (l.size ≤ width * l.row)
