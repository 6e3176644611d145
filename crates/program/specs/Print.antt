-- What the report program prints for any input.
use Rattle.std.specs.Prelude.{ℕ, ◌+◌, ◌*◌, ◌≤◌, ◌≡◌, true, cond, List, ◌++◌, ltb, length, drop}
use Rattle.line.specs.declared.Frame.{Frame}
use Rattle.trace.specs.Shape.{sites}
use Rattle.trace.specs.Series.{Chosen}
use Rattle.trace.specs.Rows.{columns}
use Rattle.trace.specs.Refusals.{Verdict, accepted, refused, verdict}
use Rattle.trace.specs.Promise.{Row}
use Rattle.report.specs.Report.{full_text}
use Rattle.report.specs.Refusal.{refusal_text}

-- "The report program reads standard input, with D = 32, M = 31 and the table engine. Above 65,527 bytes it prints
-- `ff0300000000`, before any other check." Its own room is never too short.
abbrev pub ruling : List ℕ → Verdict
ruling s = cond (ltb 65527 (length s)) (refused 3 0) (verdict s 32 31 true)

-- the full report of a trace. 02, request k: the report program, which counts on every row, asks for it by that name
pub record Reported (t : List Frame) (out : List ℕ) : Type 0 where
  pub chain : List ℕ
  pub chosen : Chosen t chain
  pub rows : List ℕ
  pub enough : columns * (sites t + 1) ≤ length rows
  pub rows_are : (s : ℕ) → s ≤ sites t → Row t chain rows s
  pub is : out ≡ full_text rows (sites t)

-- what is printed on a verdict: the report, or the refusal
abbrev pub Prints : Verdict → List ℕ → Type 0
Prints (accepted t) out = Reported t out
Prints (refused number line) out = out ≡ refusal_text number line

-- "The writer answers how many characters it wrote, and output beyond them is unchanged"
pub record Put (s : List ℕ) (given : ℕ) (before after : List ℕ) : Type 0 where
  pub answered : given ≡ length s
  pub left : after ≡ s ++ drop (length s) before

-- for the input s this number is answered, and this is made of what the output held before
pub record Printed (s : List ℕ) (given : ℕ) (before after : List ℕ) : Type 0 where
  pub out : List ℕ
  pub prints : Prints (ruling s) out
  pub put : Put out given before after
