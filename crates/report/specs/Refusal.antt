-- A refusal as it is printed, and what its writer gives.
use Rattle.std.specs.Prelude.{ℕ, cond, ◌||◌, List, [], ◌∷◌, ◌++◌, ltb}
use Rattle.digits.specs.Digits.{digits}
use Rattle.report.specs.Room.{Decision, write, refuse}

-- "A refusal is printed as `ff`, number (2 digits), line (8 digits), line feed, also in hexadecimal: 14 is `0e`."
abbrev pub refusal_text : ℕ → ℕ → List ℕ
refusal_text number line = 102 ∷ 102 ∷ digits 2 number ++ (digits 8 line ++ 10 ∷ [])

-- refusal 1 where the number or the line has no room in its digits, then 4 where the output is shorter than the 13
-- characters, both with line 0
abbrev pub print_refusal : ℕ → ℕ → ℕ → Decision
print_refusal number line room =
    cond (ltb 255 number || ltb 4294967295 line) (refuse 1 0)
    (cond (ltb room 13) (refuse 4 0)
    (write (refusal_text number line)))
