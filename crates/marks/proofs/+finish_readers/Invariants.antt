-- The four readers of the finish family meet their contracts: what each step asks for and leaves is that of the item
-- that is read.
use Prim.Native.Nat.{◌+◌, ◌*◌, ◌-◌}
use mathlib.Core.List.{[]}
use Rattle.walk.specs.Weight.{by_asking}
use Rattle.marks.proofs.Finish.{ReachLoop}
use Rattle.marks.proofs.+finish_readers.Given as goal

-- the depth left falls from an item to a body and from a call to its items; a body is above its items, they above each
-- of them, and an item above a call
abbrev pub decreases-finish_body : goal.decreases-finish_body
decreases-finish_body l = 4 * l.deep + 3

abbrev pub decreases-finish_items : goal.decreases-finish_items
decreases-finish_items l = 4 * l.deep + 2

abbrev pub decreases-finish_item : goal.decreases-finish_item
decreases-finish_item l = 4 * l.deep + 1

abbrev pub decreases-finish_call : goal.decreases-finish_call
decreases-finish_call l = 4 * l.deep

abbrev pub invariant-finish_items-loop-kind : goal.invariant-finish_items-loop-kind
invariant-finish_items-loop-kind l = ReachLoop (by_asking []) l.trace l.deep l.initial.a l.initial.t l.initial.marks l.initial.rows l.t l.marks l.rows l.a l.kind

abbrev pub decreases-finish_items-loop-kind : goal.decreases-finish_items-loop-kind
decreases-finish_items-loop-kind l = 65536 - l.a.zones.own.at
