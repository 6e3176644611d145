-- `sheetin::fill::fill_numerals` meets its contract. The invariant: the first numbers are stored, and the others still
-- stand in the text. Assumes nothing.
use Rattle.sheetin.proofs.Stores.{Filling}
use Rattle.sheetin.proofs.fill.fill_numerals.Given as goal

abbrev pub invariant-loop-x : goal.invariant-loop-x
invariant-loop-x l = Filling l.s l.rest l.initial.part l.part l.x-index
