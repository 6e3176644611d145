-- What a cost line weighs, where each row may have a factor or one line may weigh more, and its instructions.
use Rattle.std.specs.Prelude.{ℕ, ◌+◌, ◌^◌, ◌≤◌, ◌≡◌, cond, List, eqb, ltb, length, get_or}
use Rattle.line.specs.At.{kind_at, value_at}
use Rattle.weigh.specs.Weighed.{Weigh}
use Rattle.forecast.specs.Rewritten.{divided}

-- by the factors of the rows, number s being row s's: "divided by its factor and rounded up"; as it stands behind the last
abbrev pub by_factors : List ℕ → Weigh
by_factors fs n s v = divided v (get_or fs s 1)

-- what a line that is asked heavier weighs more: no total work comes to it
abbrev pub more : ℕ
more = 2 ^ 54

-- line q weighs so much more
abbrev pub by_line : ℕ → Weigh
by_line q n s v = cond (eqb n q) (v + more) v

-- how many numbers ask for a heavier line: a row's each, which are not looked at, and the number of the line
abbrev pub asked_line : ℕ
asked_line = 257

-- What is asked, by its length: one number more than there are rows asks for the line that is the last of them to weigh
-- more; else number s is the factor of row s. No number asks for nothing.
abbrev pub asked : List ℕ → Weigh
asked asking n s v = cond (eqb (length asking) asked_line) (by_line (get_or asking 256 0) n s v) (by_factors asking n s v)

-- a row behind the last number weighs as it stands
abbrev pub by_asking : List ℕ → Weigh
by_asking asking n s v = cond (ltb s (length asking)) (asked asking n s v) v

-- no line is asked heavier, and each number is a factor that a forecast may ask for, or 1
pub record Factors (asking : List ℕ) : Type 0 where
  pub no_line : length asking ≡ asked_line → ⊥
  pub range : (s : ℕ) → (1 ≤ get_or asking s 1) × (get_or asking s 1 ≤ 1000)

-- line n of s, a cost directly in an invocation of a row
abbrev pub weight_at : List ℕ → List ℕ → ℕ → ℕ → ℕ
weight_at asking s n row = by_asking asking n row (value_at s n)

-- The instructions of line n of s, a cost: "A kind 07 line directly after a cost line carries its instructions in the value
-- ...; without one they are zero." No factor changes them.
abbrev pub instructions_at : List ℕ → ℕ → ℕ
instructions_at s n = cond (eqb (kind_at s (n + 1)) 7) (value_at s (n + 1)) 0
