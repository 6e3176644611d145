-- Good text, in RFC 4180's words as request a narrows them: fields, line ends, the header, the records of rows.
use Prim.{Unit, tt}
use Rattle.std.specs.Prelude.{ℕ, zero, suc, Bool, true, false, cond, ◌&&◌, ◌||◌, List, [], ◌∷◌, ◌++◌, eqb, take, drop}
use Rattle.trace.specs.Rows.{columns}
use Rattle.digits.specs.Decimal.{is_number, number}
use Rattle.sheet.specs.Text.{comma, quote, cr, lf, row_name, column_names}
use Rattle.sheet.specs.Found.{Found, none, found, then}

-- how many characters stand before the first that a test picks; all where it picks none
abbrev pub before : (ℕ → Bool) → List ℕ → ℕ
before p [] = 0
before p (c ∷ s) = cond (p c) 0 (suc (before p s))

-- a bare field ends before a comma or a CR, a field in quotes before a quote
abbrev pub ends_bare : ℕ → Bool
ends_bare c = eqb c comma || eqb c cr

abbrev pub ends_quoted : ℕ → Bool
ends_quoted c = eqb c quote

-- a field's content: "any field, the header's too, may be in double quotes". Behind the opening quote it is all up to
-- the next quote, which must be there. (Under RFC 4180 two quotes in a row stand for one; no name and no number has
-- one, so here they end a field that no comma and no line end follows.)
abbrev pub closing : List ℕ → List ℕ → Found (List ℕ)
closing t [] = none
closing t (q ∷ s) = found t s

abbrev pub quoted : List ℕ → Found (List ℕ)
quoted s = closing (take (before ends_quoted s) s) (drop (before ends_quoted s) s)

abbrev pub bare : List ℕ → Found (List ℕ)
bare s = found (take (before ends_bare s) s) (drop (before ends_bare s) s)

unfoldable pub field : List ℕ → Found (List ℕ)
field [] = found [] []
field (c ∷ s) = cond (eqb c quote) (quoted s) (bare (c ∷ s))

-- "Within the header and each record, there may be one or more fields, separated by commas."
unfoldable pub separator : List ℕ → Found Unit
separator [] = none
separator (c ∷ s) = cond (eqb c comma) (found tt s) none

-- "each record ended by CR LF"; "the last record may lack its line end"
unfoldable pub line_end : List ℕ → Found Unit
line_end [] = found tt []
line_end (c ∷ []) = none
line_end (c ∷ d ∷ s) = cond (eqb c cr && eqb d lf) (found tt s) none

-- two texts have the same characters
abbrev pub same : List ℕ → List ℕ → Bool
same [] [] = true
same [] (d ∷ t) = false
same (c ∷ s) [] = false
same (c ∷ s) (d ∷ t) = eqb c d && same s t

-- a field whose content is this name; a field whose content is a decimal number, and which
abbrev pub name : List ℕ → List ℕ → Found Unit
name n s = then (field s) (λ t u. cond (same t n) (found tt u) none)

abbrev pub numeral : List ℕ → Found ℕ
numeral s = then (field s) (λ t u. cond (is_number t) (found (number t) u) none)

-- a comma, and such a field
abbrev pub next_name : List ℕ → List ℕ → Found Unit
next_name n s = then (separator s) (λ _ u. name n u)

abbrev pub next_numeral : List ℕ → Found ℕ
next_numeral s = then (separator s) (λ _ u. numeral u)

-- the names that follow, and the line end
abbrev pub next_names : List (List ℕ) → List ℕ → Found Unit
next_names [] s = line_end s
next_names (n ∷ ns) s = then (next_name n s) (λ _ u. next_names ns u)

-- "Good text is the header ..."
unfoldable pub header : List ℕ → Found Unit
header s = then (name row_name s) (λ _ u. next_names column_names u)

-- the n numbers that follow, and the line end
abbrev pub also : ℕ → Found (List ℕ) → Found (List ℕ)
also v none = none
also v (found vs s) = found (v ∷ vs) s

abbrev pub no_more : Found Unit → Found (List ℕ)
no_more none = none
no_more (found _ s) = found [] s

abbrev pub next_numerals : ℕ → List ℕ → Found (List ℕ)
next_numerals zero s = no_more (line_end s)
next_numerals (suc n) s = then (next_numeral s) (λ v u. also v (next_numerals n u))

-- "records of six decimal fields, rows 0, 1, 2 and on", eight with request l: "Spreadsheets gain `ilocal,ionspan`". The
-- record of row r, and the numbers that it holds
unfoldable pub record_of : ℕ → List ℕ → Found (List ℕ)
record_of r s = then (numeral s) (λ v u. cond (eqb v r) (next_numerals columns u) none)

-- a whole sheet: how many rows and their numbers; or which record, the header being 0, is the first that isn't good
-- or is missing
pub data Sheet : Type 0 where
  sheet : ℕ → List ℕ → Sheet
  bad : ℕ → Sheet

abbrev pub with : List ℕ → Sheet → Sheet
with vs (sheet n ws) = sheet n (vs ++ ws)
with vs (bad k) = bad k

-- where the text is at its end, and where more follows
abbrev pub ended : List ℕ → Sheet → Sheet → Sheet
ended [] a b = a
ended (c ∷ s) a b = b

-- a record and those behind it, or what is said where it is not good
abbrev pub follow : Found (List ℕ) → Sheet → (List ℕ → Sheet) → Sheet
follow none b f = b
follow (found vs s) b f = with vs (f s)

-- the records from row r on, of which `left` more may come
unfoldable pub records : ℕ → ℕ → List ℕ → Sheet
records zero r s = ended s (sheet r []) (bad (suc r))
records (suc left) r s = ended s (sheet r []) (follow (record_of r s) (bad (suc r)) (λ u. records left (suc r) u))

-- "... then 1 to 256 records"
abbrev pub after_header : Found Unit → Sheet
after_header none = bad 0
after_header (found _ s) = ended s (bad 1) (records 256 0 s)

unfoldable pub sheet_of : List ℕ → Sheet
sheet_of s = after_header (header s)
