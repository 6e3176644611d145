-- What every writer of text into lent room answers and leaves there, once it is decided what it writes; and a piece
-- of text that is laid into room at a place.
use Rattle.std.specs.Prelude.{ℕ, ◌+◌, cond, List, ◌++◌, ◌≡◌, ltb, length, take, drop, Ok, Err, Result}
use Rattle.line.specs.declared.Refusal.{Refusal}
use Rattle.line.specs.Refusal.{refusal}

-- "The writer answers how many characters it wrote"; "Refused: a number and a line."
abbrev pub Wrote : Type 0
Wrote = Result ℕ Refusal

-- a text to write, or a refusal: a number and a line
pub data Decision : Type 0 where
  write : List ℕ → Decision
  refuse : ℕ → ℕ → Decision

-- a text as it is, and the refusal with the number that a writer has for it, line 0, where the room is shorter
abbrev pub fitting : ℕ → List ℕ → ℕ → Decision
fitting number s room = cond (ltb room (length s)) (refuse number 0) (write s)

-- what each is answered with
abbrev pub answer : Decision → Wrote
answer (write s) = Ok (length s)
answer (refuse number line) = Err (refusal number line)

-- "output beyond them is unchanged"; refused, "nothing changes"
abbrev pub leave : Decision → List ℕ → List ℕ
leave (write s) room = s ++ drop (length s) room
leave (refuse number line) room = room

-- a writer that decided so gave this answer, and made this room of what the room held before
pub record Writes (d : Decision) (given : Wrote) (before after : List ℕ) : Type 0 where
  pub answered : given ≡ answer d
  pub left : after ≡ leave d before

-- the room with a piece of text in it from place `at` on, and unchanged before and behind it
unfoldable pub laid : ℕ → List ℕ → List ℕ → List ℕ
laid at piece room = take at room ++ (piece ++ drop (at + length piece) room)

-- a leaf that laid a piece there answers the place behind it
pub record Lays (at : ℕ) (piece before : List ℕ) (end : ℕ) (after : List ℕ) : Type 0 where
  pub ends : end ≡ at + length piece
  pub left : after ≡ laid at piece before
