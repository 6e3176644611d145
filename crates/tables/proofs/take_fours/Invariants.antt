-- `tables::take_fours` meets its contract. The invariant: the numbers up to four `c` are taken, and `left` is the word from
-- there on. The measure is `left`.
use mathlib.Core.Path.{◌≡◌}
use Prim.Native.Nat.{◌*◌, ◌/◌, ◌^◌}
use lib.ListN.{length}
use Rattle.tables.specs.Walks.{Taken}
use Rattle.tables.proofs.take_fours.Given as goal

abbrev pub invariant-loop-left : goal.invariant-loop-left
invariant-loop-left l = (l.left ≡ l.word / 2 ^ l.c) × (length l.t ≡ length l.initial.t) × Taken l.b l.e l.g l.w 0 (8 * l.c) l.initial.t l.t

abbrev pub decreases-loop-left : goal.decreases-loop-left
decreases-loop-left l = l.left
