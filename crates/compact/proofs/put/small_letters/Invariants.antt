-- `compact::put::small_letters` meets its contract. The invariant: the first `i` are there. Assumes nothing.
use Rattle.std.proofs.Common.{◌≡◌, take}
use Rattle.digits.specs.Digits.{small_form}
use Rattle.compact.proofs.put.small_letters.Given as goal

abbrev pub invariant-loop-i : goal.invariant-loop-i
invariant-loop-i l = take l.i l.to ≡ small_form (take l.i l.from)
