-- `digits::write::put_digits` meets its contract. The invariant: the digits still to be written of `rest`, before
-- what is written from `i` on, are the digits of `x`. Assumes nothing.
use Rattle.std.proofs.Common.{◌≡◌, ◌++◌, length, drop}
use Rattle.digits.specs.Digits.{digits}
use Rattle.digits.proofs.write.put_digits.Given as goal

abbrev pub invariant-loop-i : goal.invariant-loop-i
invariant-loop-i l = (length l.part ≡ length l.initial.part) × (digits l.i l.rest ++ drop l.i l.part ≡ digits (length l.initial.part) l.x)
