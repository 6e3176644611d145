-- What the marks engine is lent, as its promise says it; and for proofs, not for the reader of document 01, what it
-- learns from acceptance.
use Rattle.std.specs.Prelude.{ℕ, ◌≡◌, List, length}
use Rattle.line.specs.Family.{Family}
use Rattle.line.specs.declared.Frame.{Frame}
use Rattle.trace.specs.Shape.{sites}
use Rattle.trace.specs.Refusals.{verdict_of, accepted}
use Rattle.trace.specs.Promise.{marks, Lent, enough}

-- what the marks engine is lent
abbrev pub lent : List ℕ → List ℕ → List ℕ → Lent
lent t m rows = record { scratch = t; rows = rows; marks = m }

-- the trace is accepted, with count sites and lines lines
pub record Admitted (y : Family) (s : List ℕ) (D M : ℕ) (x : Lent) (count lines : ℕ) : Type 0 where
  pub frames : List Frame
  pub is : verdict_of y s D M (enough marks s D M x) ≡ accepted frames
  pub count_is : sites frames ≡ count
  pub lines_is : length frames ≡ lines
