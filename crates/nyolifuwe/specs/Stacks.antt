-- What the exported writer of folded stacks decides, gives and leaves. It writes three lent slices: the text, how
-- many characters it has, and the scratch.
use Rattle.std.specs.Prelude.{ℕ, ◌&&◌, List, ◌≡◌, leb}
use Rattle.trace.specs.Refusals.{verdict}
use Rattle.report.specs.Room.{Decision}
use Rattle.folded.specs.Folding.{decide, cleared}
use Rattle.nyolifuwe.specs.Texts.{Tells}

-- "those of 01", with 4 for fewer than D scratch numbers or no room for the number of characters, "then 17 ... then
-- 18"
abbrev pub folded_stacks : List ℕ → ℕ → ℕ → List ℕ → List ℕ → ℕ → ℕ → ℕ → Decision
folded_stacks s D M project stock scratch room written =
    decide project stock room (verdict s D M (leb D scratch && leb 1 written))

-- a writer that decided so gave this code, and made these three rooms of what they held before
pub record Folded (d : Decision) (given : ℕ) (text text' written written' scratch scratch' : List ℕ) : Type 0 where
  pub tells : Tells d given text text' written written'
  pub scratch_left : scratch' ≡ cleared d scratch
