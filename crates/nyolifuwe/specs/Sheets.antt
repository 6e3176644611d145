-- What the exported writer and reader of comma-separated text decide. Each writes two lent slices: the text and how
-- many characters it has, or the rows and how many sites they are.
use Rattle.std.specs.Prelude.{ℕ, ◌+◌, ◌*◌, cond, ◌||◌, List, [], ◌∷◌, ◌≡◌, ltb, length}
use Rattle.trace.specs.Rows.{columns}
use Rattle.report.specs.Room.{Decision, write, refuse, fitting, leave}
use Rattle.sheet.specs.Text.{sheet_text}
use Rattle.sheet.specs.Reading.{Taken, fill, reading}
use Rattle.sheet.specs.Reading.{refuse as turn, leave as leave_rows}
use Rattle.nyolifuwe.specs.Code.{coded}

-- "writing, the report writer's 1 and 4 for its input", and 4 where there is no room for the number of characters,
-- "then 16 output shorter than the text, line 0"
abbrev pub csv_write : List ℕ → ℕ → ℕ → ℕ → Decision
csv_write rows count room written =
    cond (ltb 255 count) (refuse 1 0)
    (cond (ltb (length rows) (columns * (count + 1)) || ltb written 1) (refuse 4 0)
    (fitting 16 (sheet_text rows count) room))

-- 4 where there is no room for the site count, then what the reader decides: 15, 16, or the rows
abbrev pub csv_read : List ℕ → ℕ → ℕ → Taken
csv_read s room count = cond (ltb count 1) (turn 4 0) (reading s room)

-- 0 where the rows are filled in
abbrev pub code_of : Taken → ℕ
code_of (fill count numbers) = 0
code_of (turn number line) = coded number line

-- "Reading answers the site count"
abbrev pub sites : Taken → Decision
sites (fill count numbers) = write (count ∷ [])
sites (turn number line) = refuse number line

-- a reader that decided so gave this code, and made these two rooms of what the rows' and the count's room held before
pub record Takes (t : Taken) (given : ℕ) (rows rows' count count' : List ℕ) : Type 0 where
  pub answered : given ≡ code_of t
  pub rows_left : rows' ≡ leave_rows t rows
  pub count_left : count' ≡ leave (sites t) count
