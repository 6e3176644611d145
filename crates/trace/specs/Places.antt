-- "Places decide refusals 6 and 10 and nothing else": when two texts differ only in places; an answer's refusal by
-- number.
use Rattle.std.specs.Prelude.{ℕ, ◌<◌, ◌≡◌, ◌⊎◌, List, length, Err}
use Rattle.line.specs.Family.{Family}
use Rattle.line.specs.declared.Place.{Place}
use Rattle.line.specs.declared.Frame.TheVariants.{Site}
use Rattle.line.specs.Read.{read_at_of, says}
use Rattle.line.specs.Refusal.{refusal}
use Rattle.trace.specs.Answer.{Answer}
use Rattle.trace.specs.Refusals.{line_count}

-- "A site line carries its place": line n of both texts reads as a site line of one number, each with its place
pub record SameSite (g : Family) (s z : List ℕ) (n : ℕ) : Type 0 where
  pub number : ℕ
  pub place : Place
  pub other : Place
  pub reads_one : read_at_of g s n ≡ says n (Site number place)
  pub reads_other : read_at_of g z n ≡ says n (Site number other)

-- line n of both texts has the same reading, frame or refusal, or is a site line of the same number
abbrev pub Alike : Family → List ℕ → List ℕ → ℕ → Type 0
Alike g s z n = (read_at_of g s n ≡ read_at_of g z n) ⊎ SameSite g s z n

-- "two traces that differ only in places": texts of the same length, whole lines or not, alike line by line
pub record OnlyPlaces (g : Family) (s z : List ℕ) : Type 0 where
  pub same_length : length s ≡ length z
  pub lines : (n : ℕ) → n < line_count s → Alike g s z n

-- "Refused: a number and a line": the answer is the refusal of this number, with some line
abbrev pub RefusedWith : ℕ → Answer → Type 0
RefusedWith number r = (line : ℕ) × (r ≡ Err (refusal number line))
