-- `sheetout::records_size` meets its contract. The invariant: the size is that of the first records. Assumes nothing.
use Rattle.sheetout.proofs.Counting.{Counted}
use Rattle.sheetout.proofs.records_size.Given as goal

abbrev pub invariant-loop-row : goal.invariant-loop-row
invariant-loop-row l = Counted l.rows l.size l.row
