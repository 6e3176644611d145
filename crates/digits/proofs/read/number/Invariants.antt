-- `digits::read::number` meets its contract. The invariant: what is read so far and what is left come to the whole
-- (`Reads`). Assumes nothing.
use Rattle.std.proofs.Common.{◌≤◌, length}
use Rattle.digits.proofs.Reading.{Reads}
use Rattle.digits.proofs.read.number.Given as goal

abbrev pub invariant-loop-c : goal.invariant-loop-c
invariant-loop-c l = (length l.s ≤ 8) × Reads l.s l.good l.value l.c-index
