-- The writer's text: a header record and a record for each row, as fields, and as characters.
use Rattle.std.specs.Prelude.{ℕ, ◌+◌}
use Prim.Native.Char.{code}
use Prim.Native.String.{String}
use Prim.Native.String as string
use mathlib.Core.List.{List, [], ◌∷◌, ◌++◌, map, flat_map}
use Rattle.digits.specs.Decimal.{decimal}
use Rattle.report.specs.Rows.{numbers_of}
use Rattle.report.specs.Report.{first}

abbrev pub comma : ℕ
comma = 44

abbrev pub quote : ℕ
quote = 34

abbrev pub cr : ℕ
cr = 13

abbrev pub lf : ℕ
lf = 10

-- the characters of a text
abbrev pub codes : String → List ℕ
codes string.[] = []
codes (string.◌∷◌ c s) = code c ∷ codes s

-- "a header record `row,calls,work,span,local,onspan`"; 02, request l: "Spreadsheets gain `ilocal,ionspan`": the name of
-- the first field, and a name for each number of a row
abbrev pub row_name : List ℕ
row_name = codes "row"

abbrev pub column_names : List (List ℕ)
column_names = codes "calls" ∷ codes "work" ∷ codes "span" ∷ codes "local" ∷ codes "onspan" ∷ codes "ilocal" ∷ codes "ionspan" ∷ []

-- the header's fields
abbrev pub names : List (List ℕ)
names = row_name ∷ column_names

-- the fields of a row's record: its number and the numbers of the row, "decimal numbers"
abbrev pub row_fields : List ℕ → ℕ → List (List ℕ)
row_fields rows r = decimal r ∷ map decimal (numbers_of rows r)

-- the records of n rows, and of the whole sheet
abbrev pub row_records : List ℕ → List ℕ → List (List (List ℕ))
row_records rows which = map (row_fields rows) which

abbrev pub sheet_records : List ℕ → ℕ → List (List (List ℕ))
sheet_records rows count = names ∷ row_records rows (first (count + 1))

-- a comma and a field without quotes; what ends a record
abbrev pub follows : List ℕ → List ℕ
follows t = comma ∷ t

abbrev pub line_ends : List ℕ
line_ends = cr ∷ lf ∷ []

-- "no quotes, each record ended by CR LF"
unfoldable pub record_text : List (List ℕ) → List ℕ
record_text [] = line_ends
record_text (t ∷ ts) = t ++ (flat_map follows ts ++ line_ends)

-- the sheet of the root's row and of each site's
unfoldable pub sheet_text : List ℕ → ℕ → List ℕ
sheet_text rows count = flat_map record_text (sheet_records rows count)
