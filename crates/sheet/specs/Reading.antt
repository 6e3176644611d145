-- What the reader answers and leaves in the room for rows.
use Rattle.std.specs.Prelude.{ℕ, ◌-◌, ◌*◌, cond, List, ◌++◌, ◌≡◌, Result, Ok, Err, ltb, length, drop}
use Rattle.trace.specs.Rows.{columns}
use Rattle.line.specs.declared.Refusal.{Refusal}
use Rattle.line.specs.Refusal.{refusal}
use Rattle.sheet.specs.Grammar.{Sheet, sheet, bad, sheet_of}

-- a site count and rows to fill in, or a refusal: a number and a record or line
pub data Taken : Type 0 where
  fill : ℕ → List ℕ → Taken
  refuse : ℕ → ℕ → Taken

-- "15 with the number of the first record (the header is 0) that isn't good or is missing, then 16 room below five
-- numbers a row, line 0"; 02, request l: "every row room with five reads seven"
abbrev pub taken : Sheet → ℕ → Taken
taken (sheet n numbers) room = cond (ltb room (columns * n)) (refuse 16 0) (fill (n - 1) numbers)
taken (bad k) room = refuse 15 k

unfoldable pub reading : List ℕ → ℕ → Taken
reading s room = taken (sheet_of s) room

-- "Reading answers the site count"
abbrev pub answer : Taken → Result ℕ Refusal
answer (fill count numbers) = Ok count
answer (refuse number line) = Err (refusal number line)

-- "and leaves the room past the rows unchanged"; refused, "nothing is written"
abbrev pub leave : Taken → List ℕ → List ℕ
leave (fill count numbers) room = numbers ++ drop (length numbers) room
leave (refuse number line) room = room

-- a reader that decided so gave this answer, and made this room of what the room held before
pub record Reads (t : Taken) (given : Result ℕ Refusal) (before after : List ℕ) : Type 0 where
  pub answered : given ≡ answer t
  pub left : after ≡ leave t before
