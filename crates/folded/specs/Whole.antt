-- For proofs, not for the reader of the request: what an accepted trace gives the writer, and what it then leaves.
use Rattle.std.specs.Prelude.{ℕ, ◌≡◌, List, leb, length}
use Rattle.line.specs.declared.Frame.{Frame}
use Rattle.trace.specs.Shape.{sites}
use Rattle.trace.specs.Refusals.{accepted, verdict}
use Rattle.report.specs.Room.{fitting, Wrote}
use Rattle.names.specs.Names.{shown}
use Rattle.folded.specs.Text.{folded}
use Rattle.folded.specs.Folding.{decide, Folds}

-- an accepted trace of count sites and lines lines, with so many scratch numbers lent
pub record Admitted (s : List ℕ) (count lines scratch : ℕ) : Type 0 where
  pub frames : List Frame
  pub D : ℕ
  pub M : ℕ
  pub is : verdict s D M (leb D scratch) ≡ accepted frames
  pub count_is : sites frames ≡ count
  pub lines_are : length frames ≡ lines

-- whatever trace that is
abbrev pub Decided : List ℕ → ℕ → ℕ → List ℕ → List ℕ → Wrote → List ℕ → List ℕ → List ℕ → List ℕ → Type 0
Decided s count lines project stock r out out' scratch scratch' =
    (q : Admitted s count lines (length scratch))
    → Folds (decide project stock (length out) (accepted q.frames)) r out out' scratch scratch'

-- where the names are good
abbrev pub Fitted : List ℕ → ℕ → ℕ → List ℕ → List ℕ → Wrote → List ℕ → List ℕ → List ℕ → List ℕ → Type 0
Fitted s count lines project stock r out out' scratch scratch' =
    (q : Admitted s count lines (length scratch))
    → Folds (fitting 18 (folded (shown project stock) q.frames) (length out)) r out out' scratch scratch'
