-- The readers of the finish family meet their contracts: what each step asks for and leaves is that of the item that is
-- read.
use Prim.Native.Nat.{◌+◌, ◌*◌, ◌-◌}
use mathlib.Core.List.{[]}
use Rattle.line.specs.Family.{Finishes}
use Rattle.weigh.specs.Weighed.{Weigh}
use Rattle.walk.specs.Weight.{by_asking}
use Rattle.tables.proofs.Bodies.{Loop}
use Rattle.tables.proofs.Finish.{reach_of}
use Rattle.tables.proofs.+finish_readers.Given as goal

-- each cost weighs as it stands
abbrev pub how : Weigh
how = by_asking []

-- the depth left falls from what opens to its items; a body is above its items, they above each of them, and it above
-- what opens
abbrev pub decreases-finish_async : goal.decreases-finish_async
decreases-finish_async l = 4 * l.deep

abbrev pub decreases-finish_body : goal.decreases-finish_body
decreases-finish_body l = 4 * l.deep + 3

abbrev pub decreases-finish_call : goal.decreases-finish_call
decreases-finish_call l = 4 * l.deep

abbrev pub decreases-finish_finish : goal.decreases-finish_finish
decreases-finish_finish l = 4 * l.deep

abbrev pub decreases-finish_item : goal.decreases-finish_item
decreases-finish_item l = 4 * l.deep + 1

abbrev pub decreases-finish_items : goal.decreases-finish_items
decreases-finish_items l = 4 * l.deep + 2

abbrev pub invariant-finish_items-loop-next : goal.invariant-finish_items-loop-next
invariant-finish_items-loop-next l = Loop Finishes how l.trace l.row l.deep l.initial.g.around l.initial.t l.initial.rows l.t l.rows (l.w + 1) l.w l.g.around l.next (reach_of l.initial.g) (reach_of l.g)

abbrev pub decreases-finish_items-loop-next : goal.decreases-finish_items-loop-next
decreases-finish_items-loop-next l = 65536 - l.g.around.at
