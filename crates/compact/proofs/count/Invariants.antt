-- `compact::count` meets its contract. The invariant is that of counting. Assumes nothing.
use Rattle.compact.specs.Pass.{Lines}
use Rattle.compact.proofs.Passes.{Counting}
use Rattle.compact.proofs.count.Given as goal

abbrev pub invariant-loop-n : goal.invariant-loop-n
invariant-loop-n l = (q : Lines l.trace l.lines) → Counting q l.s l.total l.n
