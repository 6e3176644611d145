-- `sheetin::check::names_end` meets its contract. The invariant: the names so far are there. The measure is what is
-- left of the table. Assumes nothing.
use Rattle.std.proofs.Common.{length}
use Rattle.sheetin.proofs.Head.{Heading}
use Rattle.sheetin.proofs.check.names_end.Given as goal

abbrev pub invariant-loop-left : goal.invariant-loop-left
invariant-loop-left l = Heading l.s l.rest l.left

abbrev pub decreases-loop-left : goal.decreases-loop-left
decreases-loop-left l = length l.left
