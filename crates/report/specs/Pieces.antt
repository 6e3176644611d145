-- For proofs, not for the reader of documents 01 and 02: both reports piece by piece, a piece a row.
use Rattle.std.specs.Prelude.{ℕ, ◌+◌, Bool, cond, ◌||◌, length}
use mathlib.Core.List.{List, [], flat_map}
use Rattle.report.specs.Room.{Decision}
use Rattle.report.specs.Rows.{row_line}
use Rattle.report.specs.Report.{first, is_printed, reporting}

-- whether row r is printed; idle: whether rows without calls are printed too
abbrev pub asked : Bool → List ℕ → ℕ → Bool
asked idle rows r = idle || is_printed rows r

-- its line, or nothing
abbrev pub piece : Bool → List ℕ → ℕ → List ℕ
piece idle rows r = cond (asked idle rows r) (row_line rows r) []

-- the pieces of the first n rows
abbrev pub pieces : Bool → List ℕ → ℕ → List ℕ
pieces idle rows n = flat_map (piece idle rows) (first n)

-- what is decided about them
abbrev pub decided : Bool → List ℕ → ℕ → ℕ → Decision
decided idle rows count room = reporting rows count (length (pieces idle rows (count + 1))) (pieces idle rows (count + 1)) room
