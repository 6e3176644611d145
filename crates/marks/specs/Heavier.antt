-- What the marks reader asks for and leaves where one line is asked heavier: the first of two passes of 02, request m.
use Rattle.std.specs.Prelude.{ℕ, ◌≤◌, ◌≡◌, true, List, length}
use Rattle.line.specs.declared.Frame.{Frame}
use Rattle.trace.specs.Shape.{root}
use Rattle.trace.specs.Series.{Span, Chosen}
use Rattle.trace.specs.Refusals.{verdict, accepted}
use Rattle.trace.specs.Promise.{marks, scratch_room, marks_room, Marks}
use Rattle.weigh.specs.Raised.{raised}
use Rattle.walk.specs.Weight.{more}

-- the text is an accepted trace for some site limit, and scratch and marks are as long as the marks engine needs them
pub record HeavierAsks (s : List ℕ) (D : ℕ) (t m : List ℕ) : Type 0 where
  pub M : ℕ
  pub frames : List Frame
  pub is : verdict s D M true ≡ accepted frames
  pub scratch_room_fits : scratch_room marks D M ≤ length t
  pub marks_room_fits : marks_room marks s ≤ length m

-- of the trace whose cost line q weighs more: its span, and its chosen chain in the marks
pub record HeavierDone (t : List Frame) (q : ℕ) (m : List ℕ) (span : ℕ) (m' : List ℕ) : Type 0 where
  pub chain : List ℕ
  pub chosen : Chosen (raised t q more) chain
  pub is_span : Span (raised t q more) root span
  pub marked : Marks (length t) chain m m'

-- whatever trace the text is
abbrev pub HeavierLeaves : (s : List ℕ) (D q : ℕ) (m : List ℕ) (span : ℕ) (m' : List ℕ) → Type 0
HeavierLeaves s D q m span m' = (M : ℕ) (t : List Frame) → verdict s D M true ≡ accepted t → HeavierDone t q m span m'
