-- What the exported line readers and line writers decide. A frame passes as five numbers: kind, site, value, file, column.
use Rattle.std.specs.Prelude.{ℕ, cond, ◌&&◌, ◌||◌, List, [], ◌∷◌, eqb, ltb, length, get_or, Ok, Err}
use Rattle.line.specs.declared.Fields.{Fields}
use Rattle.line.specs.Family.{Family, Base}
use Rattle.line.specs.Table.{table_of, fields_of}
use Rattle.line.specs.Read.{width, read_line_of, Read}
use Rattle.line.specs.Write.{chars, narrow, is_frame}
use Rattle.report.specs.Room.{Decision, write, refuse}

-- five fields as numbers, and the fields that five numbers are
abbrev pub numbers : Fields → List ℕ
numbers x = x.kind ∷ x.site ∷ x.value ∷ x.file ∷ x.column ∷ []

abbrev pub fields_in : List ℕ → Fields
fields_in n = record { kind = get_or n 0 0; site = get_or n 1 0; value = get_or n 2 0; file = get_or n 3 0; column = get_or n 4 0 }

-- a line that is read: the numbers of its frame, or its refusal
abbrev pub framed : Read → Decision
framed (Ok x) = write (numbers (fields_of x.frame))
framed (Err r) = refuse r.number r.line

-- "refusal 2 unless it is lent exactly 23 characters", 4 where the frame has no room for five numbers, "then 5, then
-- 6, each with line 0; otherwise the frame"
abbrev pub read_frame_of : Family → List ℕ → ℕ → Decision
read_frame_of g s room = cond (eqb (length s) width) (cond (ltb room 5) (refuse 4 0) (framed (read_line_of g s 0))) (refuse 2 0)

-- 4 where fewer than five numbers, less room than 23 characters or no room for their count are lent, then
-- "23 characters, or refusal 6 with line 0 where a field breaks the table"
abbrev pub write_frame_of : Family → List ℕ → ℕ → ℕ → Decision
write_frame_of g n room written =
    cond (ltb (length n) 5 || ltb room width || ltb written 1) (refuse 4 0)
    (cond (narrow (fields_in n) && is_frame (table_of g (fields_in n))) (write (chars (fields_in n)))
    (refuse 6 0))

-- those of document 01's traces
abbrev pub read_frame : List ℕ → ℕ → Decision
read_frame s room = read_frame_of Base s room

abbrev pub write_frame : List ℕ → ℕ → ℕ → Decision
write_frame n room written = write_frame_of Base n room written
