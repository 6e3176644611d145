-- The folded text of a trace, over line numbers. name: the name shown for a row.
use Rattle.std.specs.Prelude.{ℕ, zero, suc, List, [], ◌∷◌, ◌++◌, map}
use Rattle.digits.specs.Decimal.{decimal}
use Rattle.line.specs.declared.Frame.{Frame}
use Rattle.trace.specs.Shape.{if_makes, if_cost, open_at}

-- the site of the call or spawn at line k
abbrev pub site_on : List Frame → ℕ → ℕ
site_on [] k = 0
site_on (f ∷ t) zero = if_makes (λ s. s) 0 f
site_on (f ∷ t) (suc k) = site_on t k

-- "Row 0 is the root, row s is site s": the row of an invocation, which is 0 for the root and g + 1 for the one that
-- line g opens
abbrev pub row_of : List Frame → ℕ → ℕ
row_of t zero = 0
row_of t (suc g) = site_on t g

-- the rows of the invocations that are open at line j, innermost first
abbrev pub rows_at : List Frame → ℕ → List ℕ
rows_at t j = map (row_of t) (open_at t j)

-- "from root to innermost": a list from its last element to its first
abbrev pub root_first : List ℕ → List ℕ
root_first [] = []
root_first (x ∷ o) = root_first o ++ x ∷ []

-- the names of rows with a semicolon before each
abbrev pub further : (ℕ → List ℕ) → List ℕ → List ℕ
further name [] = []
further name (r ∷ rs) = 59 ∷ (name r ++ further name rs)

-- "the names ... joined by `;`"
abbrev pub joined : (ℕ → List ℕ) → List ℕ → List ℕ
joined name [] = []
joined name (r ∷ rs) = name r ++ further name rs

-- "a space, the cost in decimal, a line feed"
abbrev pub cost_text : ℕ → List ℕ
cost_text v = 32 ∷ (decimal v ++ 10 ∷ [])

-- what line j of the trace t prints: "for each cost line the names from root to innermost invocation joined by `;`, a
-- space, the cost in decimal, a line feed"
abbrev pub line_text : (ℕ → List ℕ) → List Frame → ℕ → Frame → List ℕ
line_text name t j f = if_cost (λ v. joined name (root_first (rows_at t j)) ++ cost_text v) [] f

-- what the lines u of the trace t print, the first of which is line j
abbrev pub text_from : (ℕ → List ℕ) → List Frame → ℕ → List Frame → List ℕ
text_from name t j [] = []
text_from name t j (f ∷ u) = line_text name t j f ++ text_from name t (suc j) u

-- the folded text of a trace: "Equal stacks are not merged"
abbrev pub folded : (ℕ → List ℕ) → List Frame → List ℕ
folded name t = text_from name t 0 t
