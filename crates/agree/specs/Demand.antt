-- Demand 3, phrase by phrase, for both families; 02, request n: "Rows, both engines and demands 2 and 3 hold for this
-- family". Each engine is taken with what it was lent, its answer and what it left.
use Rattle.std.specs.Prelude.{ℕ, ◌+◌, ◌*◌, ◌≤◌, ◌<◌, ◌≡◌, true, List, length, get_or, Err}
use Rattle.line.specs.Family.{Family, Base}
use Rattle.line.specs.declared.Frame.{Frame}
use Rattle.line.specs.declared.Frame.TheVariants.{Instructions}
use Rattle.line.specs.Refusal.{refusal}
use Rattle.trace.specs.Answer.{Answer, profiled}
use Rattle.trace.specs.Shape.{Is}
use Rattle.trace.specs.Rows.{columns}
use Rattle.trace.specs.Refusals.{accepted, verdict_of}
use Rattle.trace.specs.Promise.{Engine, tables, marks, Lent, enough, PromiseOf}
use Rattle.agree.specs.Shown.{marked, ShownOf}

-- a run of an engine
pub record Run : Type 0 where
  pub lent : Lent
  pub answer : Answer
  pub left : Lent

-- the engine e has run so on the text s of family g with limits D and M: what its contract says
abbrev pub RanOf : Family → Engine → List ℕ → ℕ → ℕ → Run → Type 0
RanOf g e s D M x = PromiseOf g e s D M x.lent x.answer x.left

-- no slice lent to it was shorter than stated
abbrev pub HasRoom : Engine → List ℕ → ℕ → ℕ → Run → Type 0
HasRoom e s D M x = enough e s D M x.lent ≡ true

-- "The two engines agree on the answer and on the rows written; numbers that neither writes are each caller's own."
pub record Agree (x y : Run) : Type 0 where
  -- "equal answers"
  pub answers : x.answer ≡ y.answer
  -- "Row numbers 0 to 5·(sites+1)-1", with seven for five, "hold the rows": "and rows"
  pub rows : (work span sites lines : ℕ) → x.answer ≡ profiled work span sites lines → (i : ℕ) → i < columns * (sites + 1) → get_or x.left.rows i 0 ≡ get_or y.left.rows i 0
  -- the others are as each was lent them
  pub own : (work span sites lines : ℕ) → x.answer ≡ profiled work span sites lines → (i : ℕ) → columns * (sites + 1) ≤ i
      → (get_or x.left.rows i 0 ≡ get_or x.lent.rows i 0) × (get_or y.left.rows i 0 ≡ get_or y.lent.rows i 0)
  -- and so are all slices where they refuse
  pub unchanged : (number line : ℕ) → x.answer ≡ Err (refusal number line) → (x.left ≡ x.lent) × (y.left ≡ y.lent)

-- The table engine ran as x and the marks engine as y, on the text s of family g with limits D and M. What the marks
-- show is said where the trace t is accepted.
pub record DemandThreeOf (g : Family) (s : List ℕ) (D M : ℕ) (x y : Run) : Type 0 where
  -- "Two engines ... give equal answers and rows wherever neither lacks room."
  pub agree : HasRoom tables s D M x → HasRoom marks s D M y → Agree x y
  -- each line is marked or not
  pub zero_or_one : (t : List Frame) → HasRoom marks s D M y → verdict_of g s D M true ≡ accepted t → (k : ℕ) → k < length t → get_or y.left.marks k 0 ≤ 1
  -- 02, request l: "A 07 line's mark is 0."
  pub unmarked : (t : List Frame) → HasRoom marks s D M y → verdict_of g s D M true ≡ accepted t → (k v : ℕ) → Is t k (Instructions v) → get_or y.left.marks k 0 ≡ 0
  -- "The marks show one chain ...": beside the answer and rows of the marks engine itself
  pub shown : (t : List Frame) → HasRoom marks s D M y → verdict_of g s D M true ≡ accepted t → ShownOf g t y.answer y.left.rows (marked y.left.marks (length t))
  -- and beside those of the table engine
  pub shown_by_tables : (t : List Frame) → HasRoom tables s D M x → HasRoom marks s D M y → verdict_of g s D M true ≡ accepted t → ShownOf g t x.answer x.left.rows (marked y.left.marks (length t))

-- those of document 01's traces
abbrev pub Ran : Engine → List ℕ → ℕ → ℕ → Run → Type 0
Ran e s D M x = RanOf Base e s D M x

abbrev pub DemandThree : List ℕ → ℕ → ℕ → Run → Run → Type 0
DemandThree s D M x y = DemandThreeOf Base s D M x y
