-- For proofs, not for the reader of the request: the rows of the open invocations as a stack, and the text by it.
use Rattle.std.specs.Prelude.{ℕ, ◌≤◌, ◌≡◌, List, [], ◌∷◌, ◌++◌, map, length}
use Rattle.line.specs.Family.{Base}
use Rattle.line.specs.declared.Frame.{Frame}
use Rattle.trace.specs.Shape.{if_cost}
use Rattle.weigh.specs.Weighed.{row_step}
use Rattle.walk.specs.Stands.{Stands}
use Rattle.folded.specs.Text.{root_first, joined, cost_text}
use Rattle.folded.specs.Reading.{Stack}

-- the names of open rows, joined
abbrev pub stack : (ℕ → List ℕ) → List ℕ → List ℕ
stack name o = joined name (root_first o)

-- what a line prints, where these rows are open
abbrev pub prints_of : (ℕ → List ℕ) → List ℕ → Frame → List ℕ
prints_of name o f = if_cost (λ v. stack name o ++ cost_text v) [] f

-- what lines print, where these rows are open at the first
abbrev pub prints : (ℕ → List ℕ) → List ℕ → List Frame → List ℕ
prints name o [] = []
prints name o (f ∷ u) = prints_of name o f ++ prints name (row_step f o) u

-- what they say, one by one
abbrev pub says_of : (ℕ → List ℕ) → List ℕ → Frame → List Stack → List Stack
says_of name o f l = if_cost (λ v. record { names = map name (root_first o); cost = v } ∷ l) l f

abbrev pub says : (ℕ → List ℕ) → List ℕ → List Frame → List Stack
says name o [] = []
says name o (f ∷ u) = says_of name o f (says name (row_step f o) u)

abbrev pub AtMost : ℕ → List ℕ → Type 0
AtMost m [] = Unit {0}
AtMost m (x ∷ o) = (x ≤ m) × AtMost m o

-- open rows are at most m, and there are not more than D
pub record Few (m D : ℕ) (o : List ℕ) : Type 0 where
  pub rows : AtMost m o
  pub deep : length o ≤ D

-- so it is at each line, where one is open at least, and behind the last none is
abbrev pub Flows : ℕ → ℕ → List ℕ → List Frame → Type 0
Flows m D o [] = o ≡ []
Flows m D o (f ∷ u) = (1 ≤ length o) × Few m D o × Flows m D (row_step f o) u

-- a trace of the text s: its lines are these frames, and its sites are m
pub record Lines (s : List ℕ) (lines m D : ℕ) : Type 0 where
  pub frames : List Frame
  pub stands : Stands Base s 0 frames
  pub long : length frames ≡ lines
  pub flows : Flows m D (0 ∷ []) frames
  pub some : 1 ≤ D
