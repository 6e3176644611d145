-- `report::copy` meets its contract. The invariant: the first `i` are copied. Assumes nothing.
use Rattle.std.proofs.Common.{◌≡◌, take}
use Rattle.report.proofs.copy.Given as goal

abbrev pub invariant-loop-i : goal.invariant-loop-i
invariant-loop-i l = take l.i l.to ≡ take l.i l.from
