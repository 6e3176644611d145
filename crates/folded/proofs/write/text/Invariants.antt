-- `folded::write::text` meets its contract. The invariant is that of the writing. Assumes nothing.
use Rattle.std.proofs.Common.{◌≡◌, length}
use Rattle.folded.specs.Write.{Asks}
use Rattle.folded.proofs.Writing.{Writing}
use Rattle.folded.proofs.write.text.Given as goal

abbrev pub invariant-loop-n : goal.invariant-loop-n
invariant-loop-n l = (length l.t ≡ length l.fn.t)
    × (length l.out ≡ length l.fn.out)
    × ((q : Asks l.trace l.lines l.names l.fn.t l.fn.out) → Writing q l.n l.a l.t l.out)
