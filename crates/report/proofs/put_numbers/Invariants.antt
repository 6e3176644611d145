-- `report::put_numbers` meets its contract. The invariant: the digits of the first `k` numbers stand before the rest
-- of the part as it was. Assumes nothing.
use Prim.Native.Nat.{◌*◌}
use mathlib.Core.List.{◌++◌, flat_map}
use mathlib.Core.Path.{◌≡◌}
use lib.ListN.{length, take, drop}
use Rattle.digits.specs.Digits.{digits}
use Rattle.report.proofs.put_numbers.Given as goal

abbrev pub invariant-loop-k : goal.invariant-loop-k
invariant-loop-k l = (length l.part ≡ 16 * length l.numbers) × (l.part ≡ flat_map (digits 16) (take l.k l.numbers) ++ drop (16 * l.k) l.initial.part)
