-- The three readers meet their contracts: what each step asks for and leaves is that of the item that is read.
use Prim.Native.Nat.{◌+◌, ◌*◌, ◌-◌}
use Rattle.line.specs.Family.{Base}
use Rattle.walk.specs.Weight.{by_asking}
use Rattle.marks.proofs.Bodies.{Loop}
use Rattle.marks.proofs.+readers.Given as goal

-- the depth left falls from item to body, a body is above its items, and they above each of them
abbrev pub decreases-body : goal.decreases-body
decreases-body l = 3 * l.deep + 2

abbrev pub decreases-read_items : goal.decreases-read_items
decreases-read_items l = 3 * l.deep + 1

abbrev pub decreases-item : goal.decreases-item
decreases-item l = 3 * l.deep

abbrev pub invariant-read_items-loop-kind : goal.invariant-read_items-loop-kind
invariant-read_items-loop-kind l = Loop Base (by_asking l.asking) l.trace l.deep l.initial.a l.initial.t l.initial.marks l.initial.rows l.t l.marks l.rows l.a l.kind

abbrev pub decreases-read_items-loop-kind : goal.decreases-read_items-loop-kind
decreases-read_items-loop-kind l = 65536 - l.a.own.at
