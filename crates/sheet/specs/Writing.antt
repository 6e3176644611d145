-- What the writer gives: the sheet's text, or refusal 1, 4 or 16.
use Rattle.std.specs.Prelude.{ℕ, ◌+◌, ◌*◌, cond, List, ltb, length}
use Rattle.trace.specs.Rows.{columns}
use Rattle.report.specs.Room.{Decision, refuse, fitting}
use Rattle.sheet.specs.Text.{sheet_text}

-- "writing, the report writer's 1 and 4 for its input, then 16 output shorter than the text, line 0"
abbrev pub writing : List ℕ → ℕ → ℕ → Decision
writing rows count room =
    cond (ltb 255 count) (refuse 1 0)
    (cond (ltb (length rows) (columns * (count + 1))) (refuse 4 0)
    (fitting 16 (sheet_text rows count) room))
