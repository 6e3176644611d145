-- Request f: what a forecast can gain, over the lines of the chosen chain.
use Rattle.std.specs.Prelude.{ℕ, ◌-◌, ◌≡◌, Bool, false, cond, ◌||◌, List, [], ◌∷◌}
use Rattle.line.specs.declared.Frame.{Frame}
use Rattle.chain.specs.Over as Over
use Rattle.trace.specs.Shape.{open_at, has}
use Rattle.trace.specs.Series.{value_at}
use Rattle.trace.specs.Rows.{of_row, on_span}
use Rattle.forecast.specs.declared.Entry.{Entry}
use Rattle.forecast.specs.Rewritten.{divided, factor_at}

-- invocation F is of a row that an entry names
abbrev pub named : List Entry → List Frame → ℕ → Bool
named [] t F = false
named (e ∷ es) t F = has F (of_row t e.row) || named es t F

-- so is the invocation which a line is directly in; o: those open at it, innermost first
abbrev pub named_at : List Entry → List Frame → List ℕ → Bool
named_at es t [] = false
named_at es t (F ∷ o) = named es t F

-- what a line of a named row loses
abbrev pub loses : List Entry → List Frame → ℕ → ℕ
loses es t k = cond (named_at es t (open_at t k)) (value_at t k - divided (value_at t k) (factor_at es t (open_at t k))) 0

-- what the lines of a chain lose together
abbrev pub lost : List Entry → List Frame → List ℕ → ℕ
lost es t c = Over.weight (loses es t) c

-- every row that is named has 0 in the on-span column; c is the chosen chain
abbrev pub OffSpan : List Frame → List ℕ → List Entry → Type 0
OffSpan t c [] = Unit {0}
OffSpan t c (e ∷ es) = (on_span t c e.row ≡ 0) × OffSpan t c es
