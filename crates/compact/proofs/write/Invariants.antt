-- `compact::write` meets its contract. The invariant is that of writing. Assumes nothing.
use Rattle.std.proofs.Common.{◌≡◌, length}
use Rattle.compact.specs.Pass.{Fits}
use Rattle.compact.proofs.Passes.{Writing}
use Rattle.compact.proofs.write.Given as goal

abbrev pub invariant-loop-n : goal.invariant-loop-n
invariant-loop-n l = (length l.out ≡ length l.fn.out) × ((q : Fits l.trace l.lines (length l.fn.out)) → Writing q.trace l.fn.out l.s l.out l.at l.n)
