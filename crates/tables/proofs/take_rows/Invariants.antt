-- `tables::take_rows` meets its contract. The invariant: the numbers up to `i`, which is even, are taken. The measure is what
-- is left.
use mathlib.Core.Path.{◌≡◌}
use Prim.Native.Nat.{◌-◌, ◌%◌}
use Rattle.tables.specs.Walks.{Taken}
use Rattle.tables.proofs.take_rows.Given as goal

abbrev pub invariant-loop-i : goal.invariant-loop-i
invariant-loop-i l = (l.i % 2 ≡ 0) × Taken l.b l.e l.g l.stop l.from l.i l.initial.t l.t

abbrev pub decreases-loop-i : goal.decreases-loop-i
decreases-loop-i l = l.stop - l.i
