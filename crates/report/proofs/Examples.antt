-- A line's length, case I's report without and with instructions, case B's without its idle rows, and two printed
-- refusals, by computing. Assumes nothing.
use Prim.Native.Nat.{ℕ}
use Prim.Native.Char.{code}
use Prim.Native.String.{String}
use Prim.Native.String as string
use mathlib.Core.List.{List, [], ◌∷◌, ◌++◌, flat_map}
use mathlib.Core.Path.{◌≡◌, refl}
use Rattle.report.specs.Rows.{line_of, width}
use Rattle.report.specs.Report.{full_text, text}
use Rattle.report.specs.Refusal.{refusal_text}

-- the characters of a text
abbrev codes : String → List ℕ
codes string.[] = []
codes (string.◌∷◌ c s) = code c ∷ codes s

-- "A report line, and the room for one, is 117 characters in both reports"
line-room : width ≡ 117
line-room = refl

-- case I's rows: calls, work, span, local, on span, and no instructions local and on span
abbrev rows : List ℕ
rows =
    1 ∷ 10 ∷ 9 ∷ 2 ∷ 2 ∷ 0 ∷ 0
    ∷ 1 ∷ 8 ∷ 7 ∷ 1 ∷ 0 ∷ 0 ∷ 0
    ∷ 1 ∷ 7 ∷ 7 ∷ 7 ∷ 7 ∷ 0 ∷ 0
    ∷ []

case_I : full_text rows 2 ≡
    codes "00000000000000000001000000000000000a00000000000000090000000000000002000000000000000200000000000000000000000000000000\n"
    ++ codes "00010000000000000001000000000000000800000000000000070000000000000001000000000000000000000000000000000000000000000000\n"
    ++ codes "00020000000000000001000000000000000700000000000000070000000000000007000000000000000700000000000000000000000000000000\n"
unfolding flat_map line_of
case_I = refl

-- case I with 254 instructions behind the root's cost, 17 behind site 1's and 33 behind site 2's, which is on the
-- chain where site 1's is not
abbrev carried_rows : List ℕ
carried_rows =
    1 ∷ 10 ∷ 9 ∷ 2 ∷ 2 ∷ 254 ∷ 254
    ∷ 1 ∷ 8 ∷ 7 ∷ 1 ∷ 0 ∷ 17 ∷ 0
    ∷ 1 ∷ 7 ∷ 7 ∷ 7 ∷ 7 ∷ 33 ∷ 33
    ∷ []

case_I_carried : text carried_rows 2 ≡
    codes "00000000000000000001000000000000000a00000000000000090000000000000002000000000000000200000000000000fe00000000000000fe\n"
    ++ codes "00010000000000000001000000000000000800000000000000070000000000000001000000000000000000000000000000110000000000000000\n"
    ++ codes "00020000000000000001000000000000000700000000000000070000000000000007000000000000000700000000000000210000000000000021\n"
unfolding flat_map line_of
case_I_carried = refl

-- case B's rows, where neither site was called: the report leaves both off
abbrev idle_rows : List ℕ
idle_rows =
    1 ∷ 8 ∷ 8 ∷ 8 ∷ 8 ∷ 0 ∷ 0
    ∷ 0 ∷ 0 ∷ 0 ∷ 0 ∷ 0 ∷ 0 ∷ 0
    ∷ 0 ∷ 0 ∷ 0 ∷ 0 ∷ 0 ∷ 0 ∷ 0
    ∷ []

case-B : text idle_rows 2 ≡ codes "00000000000000000001000000000000000800000000000000080000000000000008000000000000000800000000000000000000000000000000\n"
unfolding flat_map line_of
case-B = refl

-- "14 is `0e`"
unended : refusal_text 14 10 ≡ codes "ff0e0000000a\n"
unended = refl

-- the program's answer to too many bytes
too_many_lem : refusal_text 3 0 ≡ codes "ff0300000000\n"
too_many_lem = refl
