-- Rows of numbers, and a row's line in the report.
use Rattle.std.specs.Prelude.{ℕ, ◌+◌, ◌*◌, take, drop}
use mathlib.Core.List.{List, [], ◌∷◌, ◌++◌, flat_map}
use Rattle.digits.specs.Digits.{digits}
use Rattle.trace.specs.Rows.{columns}

-- "Row 0 is the root, row s is site s.": the numbers of row r
abbrev pub numbers_of : List ℕ → ℕ → List ℕ
numbers_of rows r = take columns (drop (columns * r) rows)

-- "row (4 digits), the five numbers (16 digits each), a line feed, all in hexadecimal with small letters"; 02, request l:
-- "rows are seven long"
unfoldable pub line_of : ℕ → List ℕ → List ℕ
line_of r numbers = digits 4 r ++ (flat_map (digits 16) numbers ++ 10 ∷ [])

-- the line of row r
abbrev pub row_line : List ℕ → ℕ → List ℕ
row_line rows r = line_of r (numbers_of rows r)

-- the line's length: "A report line, and the room for one, is 117 characters in both reports"
abbrev pub width : ℕ
width = 4 + 16 * columns + 1
