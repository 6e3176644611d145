-- For proofs and code, not for the reader of document 02: what both passes over a trace ask, and what they leave.
use Rattle.std.specs.Prelude.{ℕ, ◌*◌, ◌≤◌, ◌≡◌, cond, List, eqb, length}
use Rattle.line.specs.Family.{Base}
use Rattle.line.specs.declared.Frame.{Frame}
use Rattle.trace.specs.Refusals.{line_count}
use Rattle.trace.specs.Written.{text_of}
use Rattle.report.specs.Room.{fitting, Writes, Lays, Wrote}
use Rattle.line.specs.At.{kind_at, value_at}
use Rattle.walk.specs.Stands.{Stands}
use Rattle.walk.specs.Measure.{cycles, instructions}
use Rattle.walk.specs.Weight.{instructions_at}
use Rattle.compact.specs.Machine.{start, step, outs, Room}
use Rattle.compact.specs.declared.step.State.{State}
use Rattle.compact.specs.declared.step.Given.{Given}
use Rattle.compact.specs.declared.step.Item.{Item}

-- the instructions of line n of the text s, where it is of kind 06
abbrev pub carried_at : List ℕ → ℕ → ℕ → ℕ
carried_at s n kind = cond (eqb kind 6) (instructions_at s n) 0

-- what line n of the text s tells the step
abbrev pub item_at : List ℕ → ℕ → Item
item_at s n = record { kind = kind_at s n; cycles = cycles (value_at s n); instructions = instructions (carried_at s n (kind_at s n)) }

-- what goes out at line n of the text s, and what is held back then
abbrev pub stepped_at : List ℕ → ℕ → State → Given
stepped_at s n a = step (kind_at s n) (cycles (value_at s n)) (instructions (carried_at s n (kind_at s n))) a

-- the lines of the text s are these frames and no more, their bits fit, and no more go out
pub record Lines (s : List ℕ) (lines : ℕ) : Type 0 where
  pub frames : List Frame
  pub stands : Stands Base s 0 frames
  pub long : length frames ≡ lines
  pub all : line_count s ≡ lines
  pub room : Room start frames
  pub few : length (outs start frames) ≤ 65536
  pub size : length (text_of (outs start frames)) ≡ 23 * length (outs start frames)
  pub no_longer : length (text_of (outs start frames)) ≤ length s

-- and what goes out fits
pub record Fits (s : List ℕ) (lines room : ℕ) : Type 0 where
  pub trace : Lines s lines
  pub fits : length (text_of (outs start trace.frames)) ≤ room

-- what is laid, whatever trace that is
abbrev pub Leaves : List ℕ → ℕ → List ℕ → ℕ → List ℕ → Type 0
Leaves s lines before r after = (q : Fits s lines (length before)) → Lays 0 (text_of (outs start q.trace.frames)) before r after

-- what is answered and left, whatever trace that is
abbrev pub Ends : List ℕ → ℕ → Wrote → List ℕ → List ℕ → Type 0
Ends s lines r before after = (q : Lines s lines) → Writes (fitting 21 (text_of (outs start q.frames)) (length before)) r before after
