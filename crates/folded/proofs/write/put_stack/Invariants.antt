-- `folded::write::put_stack` meets its contract. The invariant: the names of the first `k` rows are laid. Assumes nothing.
use Rattle.std.proofs.Common.{◌≡◌, length, take}
use Rattle.report.specs.Room.{Lays}
use Rattle.folded.specs.Text.{joined}
use Rattle.folded.specs.Write.{StackAsks}
use Rattle.folded.proofs.write.put_stack.Given as goal

abbrev pub invariant-loop-k : goal.invariant-loop-k
invariant-loop-k l = (length l.out ≡ length l.fn.out)
    × ((q : StackAsks l.names l.t l.depth l.fn.out l.at l.fn.last) → Lays l.at (joined q.name (take l.k l.t)) l.fn.out l.end l.out)
