-- What asking why promises: the answer, and what the scratch and the marks hold afterwards.
use Rattle.std.specs.Prelude.{ℕ, ◌*◌, ◌/◌, ◌<◌, ◌≡◌, Bool, true, cond, ◌&&◌, List, ltb, leb, length, replicate, Result, Ok, Err}
use Rattle.line.specs.declared.Frame.{Frame}
use Rattle.line.specs.declared.Refusal.{Refusal}
use Rattle.line.specs.Refusal.{refusal}
use Rattle.line.specs.Read.{width}
use Rattle.line.specs.At.{kind_at}
use Rattle.trace.specs.Refusals.{line_count, Verdict, accepted, refused, verdict}
use Rattle.trace.specs.Promise.{Marks}
use Rattle.marks.specs.Heavier.{HeavierAsks}
use Rattle.why.specs.declared.Why.{Why}
use Rattle.why.specs.Why.{True, Shown}

-- "The room is the marks engine's, without rows": "8·D" scratch numbers "and one byte of marks a line", for a text of so many
-- characters, by the lengths of the two
abbrev pub roomy : ℕ → ℕ → ℕ → ℕ → Bool
roomy bytes D scratch marks = leb (8 * D) scratch && leb (bytes / width) marks

-- "Refusals: those of 01, then 23 a line number at or past the end, with that number": the verdict on a text, asked at line q
abbrev pub asking : ℕ → Verdict → Verdict
asking q (accepted t) = cond (ltb q (length t)) (accepted t) (refused 23 q)
asking q (refused number line) = refused number line

-- the answer is the true one, and the marks are those of the lines that are to be shown
pub record Told (t : List Frame) (q : ℕ) (marks : List ℕ) (answer : Why) (marks' : List ℕ) : Type 0 where
  pub is_true : True t q answer
  pub lines : List ℕ
  pub are_shown : Shown t q answer lines
  pub marked : Marks (length t) lines marks marks'

-- what comes back of line q of an accepted trace
pub record Answers (t : List Frame) (q : ℕ) (scratch marks : List ℕ) (r : Result Why Refusal) (scratch' marks' : List ℕ) : Type 0 where
  pub answer : Why
  pub given : r ≡ Ok answer
  pub told : Told t q marks answer marks'
  -- "The whole scratch is zero."
  pub zero : scratch' ≡ replicate (length scratch) 0

-- what keeps to a verdict: "Every lent slice, scratch included, is unchanged" where it refuses
pub record Keeps (q : ℕ) (v : Verdict) (scratch marks : List ℕ) (r : Result Why Refusal) (scratch' marks' : List ℕ) : Type 0 where
  pub when_accepted : (t : List Frame) → v ≡ accepted t → Answers t q scratch marks r scratch' marks'
  pub when_refused : (number line : ℕ) → v ≡ refused number line → (r ≡ Err (refusal number line)) × (scratch' ≡ scratch) × (marks' ≡ marks)

-- the text s with limits D and M, asked at line q
abbrev pub Asked : (s : List ℕ) (D M q : ℕ) (scratch marks : List ℕ) (r : Result Why Refusal) (scratch' marks' : List ℕ) → Type 0
Asked s D M q scratch marks r scratch' marks' = Keeps q (asking q (verdict s D M (roomy (length s) D (length scratch) (length marks)))) scratch marks r scratch' marks'

-- ── for proofs and engines, not for the reader of document 02 ──

-- the trace is accepted, and line q, which it has, is of this kind
pub record LineAsks (s : List ℕ) (D q : ℕ) (scratch marks : List ℕ) : Type 0 where
  pub admitted : HeavierAsks s D scratch marks
  pub there : q < line_count s
  pub cost : kind_at s q ≡ 6

-- whatever trace the text is
abbrev pub LineLeaves : (s : List ℕ) (D q : ℕ) (marks : List ℕ) (a : Why) (marks' : List ℕ) → Type 0
LineLeaves s D q marks a marks' = (M : ℕ) (t : List Frame) → verdict s D M true ≡ accepted t → Told t q marks a marks'

-- the trace is accepted, and has so many lines
pub record Admitted (s : List ℕ) (D : ℕ) (scratch marks : List ℕ) (lines : ℕ) : Type 0 where
  pub admitted : HeavierAsks s D scratch marks
  pub lines_are : lines ≡ line_count s

abbrev pub Ends : (s : List ℕ) (D q : ℕ) (scratch marks : List ℕ) (r : Result Why Refusal) (scratch' marks' : List ℕ) → Type 0
Ends s D q scratch marks r scratch' marks' = (M : ℕ) (t : List Frame) → verdict s D M true ≡ accepted t → Keeps q (asking q (accepted t)) scratch marks r scratch' marks'
