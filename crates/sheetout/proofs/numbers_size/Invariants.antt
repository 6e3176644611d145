-- `sheetout::numbers_size` meets its contract. The invariant: the size is that of the first numbers. Assumes nothing.
use mathlib.Core.Path.{◌≡◌}
use lib.ListN.{length}
use Rattle.trace.specs.Rows.{columns}
use Rattle.sheetout.proofs.Counting.{Sized}
use Rattle.sheetout.proofs.numbers_size.Given as goal

abbrev pub invariant-loop-x : goal.invariant-loop-x
invariant-loop-x l = (length l.numbers ≡ columns) × Sized l.numbers l.size l.x-index
