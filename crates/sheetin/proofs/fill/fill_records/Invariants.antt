-- `sheetin::fill::fill_records` meets its contract. The invariant: the first rows are stored, and the others still
-- stand in the text. Assumes nothing.
use Rattle.sheetin.proofs.Stores.{Storing}
use Rattle.sheetin.proofs.fill.fill_records.Given as goal

abbrev pub invariant-loop-row : goal.invariant-loop-row
invariant-loop-row l = Storing l.s l.rest l.initial.room l.room l.row
