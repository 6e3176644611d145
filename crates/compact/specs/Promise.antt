-- What the compactor answers and leaves: the compacted trace's lines, or a refusal.
use Rattle.std.specs.Prelude.{ℕ, ◌≡◌, true, List, length}
use Rattle.line.specs.declared.Frame.{Frame}
use Rattle.trace.specs.Refusals.{accepted, refused, verdict}
use Rattle.trace.specs.Written.{text_of}
use Rattle.report.specs.Room.{Decision, refuse, fitting, Writes, Wrote}
use Rattle.compact.specs.Compact.{Compacted}

-- "Its lines are as the line writer gives them"; "21 output shorter than the result, line 0, nothing written"
abbrev pub shelved : List Frame → ℕ → Decision
shelved u room = fitting 21 (text_of u) room

-- what becomes of an accepted trace
pub record Shelved (t : List Frame) (r : Wrote) (before after : List ℕ) : Type 0 where
  pub result : List Frame
  pub compacted : Compacted t result
  pub writes : Writes (shelved result (length before)) r before after

-- The compactor, "lent only the output beside the trace" s, with limits D and M, answers r and makes this output of what
-- the output held before. "Refusals: those of 01, then 21"; no room is asked but the output, and 4 is never given.
pub record Compacts (s : List ℕ) (D M : ℕ) (r : Wrote) (before after : List ℕ) : Type 0 where
  pub when_accepted : (t : List Frame) → verdict s D M true ≡ accepted t → Shelved t r before after
  pub when_refused : (number line : ℕ) → verdict s D M true ≡ refused number line → Writes (refuse number line) r before after
