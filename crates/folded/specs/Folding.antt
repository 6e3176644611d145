-- What the writer of folded stacks decides, answers and leaves.
use Rattle.std.specs.Prelude.{ℕ, ◌+◌, ◌≡◌, cond, List, ltb, leb, length, replicate}
use Rattle.trace.specs.Shape.{sites}
use Rattle.trace.specs.Refusals.{Verdict, accepted, refused, verdict}
use Rattle.report.specs.Room.{Decision, write, refuse, fitting, Writes, Wrote}
use Rattle.names.specs.Names.{shown, first_bad}
use Rattle.folded.specs.Text.{folded}

-- "those of 01, then 17 with the first row, among root and declared sites, whose shown name is bad or missing from
-- both lists, then 18 output shorter than the text, line 0"
abbrev pub decide : List ℕ → List ℕ → ℕ → Verdict → Decision
decide project stock room (refused number line) = refuse number line
decide project stock room (accepted t) =
    cond (ltb (first_bad project stock (sites t + 1)) (sites t + 1)) (refuse 17 (first_bad project stock (sites t + 1)))
    (fitting 18 (folded (shown project stock) t) room)

-- "D scratch numbers are lent": 4 where there are fewer
abbrev pub folding : List ℕ → ℕ → ℕ → List ℕ → List ℕ → ℕ → ℕ → Decision
folding s D M project stock scratch room = decide project stock room (verdict s D M (leb D scratch))

-- "zero afterwards", all that was lent, as 01 has it of the engines' scratch; unchanged where it refuses
abbrev pub cleared : Decision → List ℕ → List ℕ
cleared (write s) scratch = replicate (length scratch) 0
cleared (refuse number line) scratch = scratch

-- a writer that decided so gave this answer, and made this output and this scratch of what they held before
pub record Folds (d : Decision) (given : Wrote) (out out' scratch scratch' : List ℕ) : Type 0 where
  pub writes : Writes d given out out'
  pub scratch_is : scratch' ≡ cleared d scratch
