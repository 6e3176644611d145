-- What the marks show of an accepted trace.
use Rattle.std.specs.Prelude.{ℕ, zero, suc, ◌+◌, ◌≤◌, ◌≡◌, ◌⊎◌, Bool, false, cond, List, [], ◌∷◌, eqb, get_or}
use Rattle.line.specs.Family.{Family, Base}
use Rattle.line.specs.declared.Frame.{Frame}
use Rattle.chain.specs.Over.{Before}
use Rattle.trace.specs.Answer.{Answer}
use Rattle.trace.specs.Shape.{root, open_at, has, sites}
use Rattle.trace.specs.Async.{finish}
use Rattle.trace.specs.Series.{ChainOf, weight}
use Rattle.trace.specs.Rows.{of_row, Measure, cycles, instructions, total, itotal, sum}
use Rattle.trace.specs.Column.{Column, slot}
use Rattle.trace.specs.Promise.{acceptance}

-- of count lines from line k on those that p picks, ascending
abbrev pub lines_where : (ℕ → Bool) → ℕ → ℕ → List ℕ
lines_where p k zero = []
lines_where p k (suc count) = cond (p k) (k ∷ lines_where p (suc k) count) (lines_where p (suc k) count)

-- of n lines those whose mark is 1, ascending
abbrev pub marked : List ℕ → ℕ → List ℕ
marked marks n = lines_where (λ k. eqb (get_or marks k 0) 1) 0 n

-- the innermost of the open things o that is no finish is one of l
abbrev pub owner_in : List Frame → List ℕ → List ℕ → Bool
owner_in t l [] = false
owner_in t l (F ∷ o) = cond (finish t F) (owner_in t l o) (has F l)

-- line k stands directly in one of the invocations of row s; 02, request n: "Costs directly in a finish belong to the
-- row around it"
abbrev pub in_row : List Frame → ℕ → ℕ → Bool
in_row t s k = owner_in t (of_row t s) (open_at t k)

-- what line k comes to in a measure
abbrev pub at_line : Measure → List Frame → ℕ → ℕ
at_line m [] k = 0
at_line m (e ∷ t) zero = m e t
at_line m (e ∷ t) (suc k) = at_line m t k

-- what those of the lines c that stand directly in the invocations of row s come to in a measure
abbrev pub costs_in_row : Measure → List Frame → ℕ → List ℕ → ℕ
costs_in_row m t s c = sum (λ k. cond (in_row t s k) (at_line m t k) 0) c

-- one column of the rows 0 to s together
abbrev pub column_to : List ℕ → Column → ℕ → ℕ
column_to rows k zero = get_or rows (slot 0 k) 0
column_to rows k (suc s) = get_or rows (slot (suc s) k) 0 + column_to rows k s

-- the columns of all rows of the trace t, of which the lines c are marked
pub record AddUp (t : List Frame) (rows c : List ℕ) : Type 0 where
  -- 01: "Column 4 adds up to the total work"
  pub local : column_to rows Column.local (sites t) ≡ total t
  -- "and column 5 to the total span", which is what the marked lines weigh
  pub on_span_sum : column_to rows Column.on_span (sites t) ≡ weight t c
  -- 02, request l: column 6 to all instructions
  pub ilocal : column_to rows Column.ilocal (sites t) ≡ itotal t
  -- and column 7 to those of the marked lines
  pub ion_span_sum : column_to rows Column.ion_span (sites t) ≡ sum (at_line instructions t) c

-- the marked lines c of the trace t of family g, beside the answer r and the rows
pub record ShownOf (g : Family) (t : List Frame) (r : Answer) (rows c : List ℕ) : Type 0 where
  -- "The marks show one chain"
  pub chain : ChainOf g t root c
  -- "whose costs add up, row by row, to the on-span column"
  pub row_by_row : (s : ℕ) → s ≤ sites t → costs_in_row cycles t s c ≡ get_or rows (slot s Column.on_span) 0
  -- 02, request l: "Demand 3's sums hold for instructions by row"
  pub instructions_by_row : (s : ℕ) → s ≤ sites t → costs_in_row instructions t s c ≡ get_or rows (slot s Column.ion_span) 0
  -- "and in total to the span"
  pub in_total : r ≡ acceptance t (weight t c)
  -- "no chain is heavier"
  pub heaviest : (d : List ℕ) → ChainOf g t root d → weight t d ≤ weight t c
  -- "and among equals it is the first by line number"
  pub first : (d : List ℕ) → ChainOf g t root d → weight t d ≡ weight t c → (d ≡ c) ⊎ Before c d
  -- and the columns add up
  pub columns : AddUp t rows c

-- that of document 01's traces
abbrev pub Shown : List Frame → Answer → List ℕ → List ℕ → Type 0
Shown t r rows c = ShownOf Base t r rows c
