-- `folded::measure::fits` meets its contract. The invariant is that of the measuring. Assumes nothing.
use Rattle.std.proofs.Common.{◌≡◌, length}
use Rattle.folded.specs.Measure.{Asks}
use Rattle.folded.proofs.Measuring.{Measuring}
use Rattle.folded.proofs.measure.fits.Given as goal

abbrev pub invariant-loop-n : goal.invariant-loop-n
invariant-loop-n l = (length l.t ≡ 64) × ((q : Asks l.trace l.lines l.names) → Measuring q l.whole l.n l.a l.t)
