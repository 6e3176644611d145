-- `tables::sums` meets its contract. The invariant: the first `k` rows are added.
use mathlib.Core.Path.{◌≡◌}
use lib.ListN.{length}
use Rattle.tables.specs.Walks.{RowSums}
use Rattle.tables.proofs.sums.Given as goal

abbrev pub invariant-loop-k : goal.invariant-loop-k
invariant-loop-k g l = (length l.rows ≡ g.row.N) × RowSums l.k l.x l.y l.rows
