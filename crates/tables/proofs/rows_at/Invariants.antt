-- `tables::rows_at` meets its contract. The invariant: the first `k` rows are read.
use mathlib.Core.Path.{◌≡◌}
use lib.ListN.{length}
use Rattle.tables.specs.Walks.{RowsAt}
use Rattle.tables.proofs.rows_at.Given as goal

abbrev pub invariant-loop-k : goal.invariant-loop-k
invariant-loop-k g l = (length l.rows ≡ g.row.N) × RowsAt l.t l.i l.k l.rows
