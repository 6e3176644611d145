-- Request f: the trace rewritten by forecast entries, over its lines.
use Rattle.std.specs.Prelude.{ℕ, suc, ◌+◌, ◌-◌, ◌/◌, cond, List, [], ◌∷◌}
use Rattle.line.specs.declared.Frame.{Frame}
use Rattle.trace.specs.Shape.{root, step, has}
use Rattle.trace.specs.Rows.{of_row}
use Rattle.weigh.specs.Cost.{costing}
use Rattle.forecast.specs.declared.Entry.{Entry}

-- "divided by its factor and rounded up"
abbrev pub divided : ℕ → ℕ → ℕ
divided v factor = (v + (factor - 1)) / factor

-- the factor of the entry that names the row of invocation F; 1 where none does
abbrev pub factor_of : List Entry → List Frame → ℕ → ℕ
factor_of [] t F = 1
factor_of (e ∷ es) t F = cond (has F (of_row t e.row)) e.factor (factor_of es t F)

-- that of the invocation which a line is directly in; o: those open at it, innermost first
abbrev pub factor_at : List Entry → List Frame → List ℕ → ℕ
factor_at es t [] = 1
factor_at es t (F ∷ o) = factor_of es t F

-- the lines u of the trace t, the first of which is line n, where o are open
abbrev pub rewritten_from : List Entry → List Frame → ℕ → List ℕ → List Frame → List Frame
rewritten_from es t n o [] = []
rewritten_from es t n o (e ∷ u) = costing (λ v. divided v (factor_at es t o)) e ∷ rewritten_from es t (suc n) (step n e o) u

-- "Each cost directly in an invocation of a named row is divided by its factor and rounded up."
abbrev pub rewritten : List Entry → List Frame → List Frame
rewritten es t = rewritten_from es t 0 (root ∷ []) t
