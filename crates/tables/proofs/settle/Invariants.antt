-- `tables::settle` meets its contract. The invariant: the first `i` rows are moved out.
use Rattle.tables.specs.Root.{Moved}
use Rattle.tables.proofs.settle.Given as goal

abbrev pub invariant-loop-i : goal.invariant-loop-i
invariant-loop-i l = Moved l.i l.t l.initial.rows l.rows
