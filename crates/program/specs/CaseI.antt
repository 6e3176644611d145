-- Case I whole, input then output; 02, request l: "Rows gain two numbers at the end", which are zero without 07 lines. A
-- line is written as the numeral of its digits.
use Rattle.std.specs.Prelude.{ℕ, List, [], ◌∷◌, ◌++◌, ◌≡◌}
use Rattle.digits.specs.Digits.{digits}
use Rattle.program.specs.Print.{ruling, Prints}

-- so many digits and a line feed for each numeral
abbrev pub lines : ℕ → List ℕ → List ℕ
lines width [] = []
lines width (x ∷ l) = digits width x ++ 10 ∷ lines width l

abbrev pub input : List ℕ
input =
    lines 22 (
    0x0100010000000a00010005
    ∷ 0x0100020000001400010009
    ∷ 0x0200010000000000000000
    ∷ 0x0300020000000000000000
    ∷ 0x0600000000000700000000
    ∷ 0x0500000000000000000000
    ∷ 0x0600000000000100000000
    ∷ 0x0500000000000000000000
    ∷ 0x0600000000000200000000
    ∷ 0x0500000000000000000000
    ∷ []
    )

abbrev pub output : List ℕ
output =
    lines 116 (
    0x00000000000000000001000000000000000a00000000000000090000000000000002000000000000000200000000000000000000000000000000
    ∷ 0x00010000000000000001000000000000000800000000000000070000000000000001000000000000000000000000000000000000000000000000
    ∷ 0x00020000000000000001000000000000000700000000000000070000000000000007000000000000000700000000000000000000000000000000
    ∷ []
    )

-- the output is printed for the input, and nothing else is
abbrev pub Claim : Type 0
Claim = Prints (ruling input) output × ((out : List ℕ) → Prints (ruling input) out → out ≡ output)
