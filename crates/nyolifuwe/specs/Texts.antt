-- What the exported writers give and leave. They write two lent slices: the text, and how many characters it has.
use Rattle.std.specs.Prelude.{ℕ, cond, List, [], ◌∷◌, ◌≡◌, ltb, length}
use Rattle.report.specs.Room.{Decision, write, refuse, leave}
use Rattle.nyolifuwe.specs.Code.{code}

-- 4 too where there is no room for the number of characters, behind a report's or a refusal's own refusals, 1 and 4
abbrev pub counted : Decision → ℕ → Decision
counted (write s) room = cond (ltb room 1) (refuse 4 0) (write s)
counted (refuse number line) room = refuse number line

-- "The writer answers how many characters it wrote"
abbrev pub count : Decision → Decision
count (write s) = write (length s ∷ [])
count (refuse number line) = refuse number line

-- a writer that decided so gave this code, and made these two rooms of what the text's and the count's room held before
pub record Tells (d : Decision) (given : ℕ) (text text' written written' : List ℕ) : Type 0 where
  pub answered : given ≡ code d
  pub text_left : text' ≡ leave d text
  pub count_left : written' ≡ leave (count d) written
