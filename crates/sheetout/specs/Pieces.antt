-- For proofs, not for the reader: a sheet's text in the pieces in which the writer lays it.
use Rattle.std.specs.Prelude.{ℕ}
use mathlib.Core.List.{List, ◌++◌, flat_map}
use Rattle.digits.specs.Decimal.{decimal}
use Rattle.report.specs.Rows.{numbers_of}
use Rattle.sheet.specs.Text.{row_name, column_names, follows, line_ends}

-- the header: its names with commas between them, and the line end
unfoldable pub header_text : List ℕ
header_text = (row_name ++ flat_map follows column_names) ++ line_ends

-- a comma and a number
abbrev pub number_text : ℕ → List ℕ
number_text x = follows (decimal x)

-- a row's record, of its numbers and of all rows
unfoldable pub record_text : ℕ → List ℕ → List ℕ
record_text r numbers = decimal r ++ (flat_map number_text numbers ++ line_ends)

abbrev pub row_text : List ℕ → ℕ → List ℕ
row_text rows r = record_text r (numbers_of rows r)
