-- `digits::decimal::value` meets its contract. The invariant: what is read so far and what is left come to the whole
-- (`Reads`). Assumes nothing.
use Rattle.digits.proofs.FiguresRead.{Reads}
use Rattle.digits.proofs.decimal.value.Given as goal

abbrev pub invariant-loop-c : goal.invariant-loop-c
invariant-loop-c l = Reads l.s l.value l.c-index
