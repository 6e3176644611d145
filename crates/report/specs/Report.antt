-- What the report writers give: a line for each row that is printed, or refusal 1 or 4.
use Rattle.std.specs.Prelude.{ℕ, zero, suc, ◌+◌, ◌*◌, Bool, cond, ◌||◌, eqb, ltb, length, get_or}
use mathlib.Core.List.{List, [], ◌∷◌, ◌++◌, flat_map}
use Rattle.report.specs.Room.{Decision, write, refuse}
use Rattle.trace.specs.Rows.{columns}
use Rattle.trace.specs.Column.{Column, slot}
use Rattle.report.specs.Rows.{row_line, width}

-- 0, 1, 2 and on: the first n row numbers
abbrev pub first : ℕ → List ℕ
first zero = []
first (suc n) = first n ++ n ∷ []

-- "each row, 0 first, becomes a line": the lines of some rows
abbrev pub lines_of : List ℕ → List ℕ → List ℕ
lines_of rows which = flat_map (row_line rows) which

-- "refusal 1 for a count above 255, then 4 where rows are shorter than 5·(count+1) or output shorter than" the
-- characters that are asked for; 02, request l: "every row room with five reads seven". "Both come with line 0".
-- Otherwise the text s is written.
abbrev pub reporting : List ℕ → ℕ → ℕ → List ℕ → ℕ → Decision
reporting rows count asked s room =
    cond (ltb 255 count) (refuse 1 0)
    (cond (ltb (length rows) (columns * (count + 1)) || ltb room asked) (refuse 4 0)
    (write s))

-- the full report: "each row, 0 first"
abbrev pub full_text : List ℕ → ℕ → List ℕ
full_text rows count = lines_of rows (first (count + 1))

-- "output shorter than 85·(count+1)"; 02, request l: "A report line, and the room for one, is 117 characters in
-- both reports"
abbrev pub full_report : List ℕ → ℕ → ℕ → Decision
full_report rows count room = reporting rows count (width * (count + 1)) (full_text rows count) room

-- 02, request k: "The report writer's default becomes: row 0 and the rows with calls above zero."
abbrev pub is_printed : List ℕ → ℕ → Bool
is_printed rows r = eqb r 0 || ltb 0 (get_or rows (slot r Column.calls) 0)

-- those of some rows that p picks, in their order
abbrev pub picked : (ℕ → Bool) → List ℕ → List ℕ
picked p [] = []
picked p (r ∷ l) = cond (p r) (r ∷ picked p l) (picked p l)

-- the rows that are printed by default
abbrev pub printed : List ℕ → ℕ → List ℕ
printed rows count = picked (is_printed rows) (first (count + 1))

-- the report's text
abbrev pub text : List ℕ → ℕ → List ℕ
text rows count = lines_of rows (printed rows count)

-- "The room asked for is 85 characters for each row printed." "4 reads with that length." Request l: "117
-- characters in both reports".
abbrev pub report : List ℕ → ℕ → ℕ → Decision
report rows count room = reporting rows count (width * length (printed rows count)) (text rows count) room
