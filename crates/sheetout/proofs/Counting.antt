-- Laws of a sheet's text in pieces: how long it is as they are counted, how it is laid piece behind piece, and that
-- these are all of it. Assumes nothing.
use Prim.Native.Nat.{ℕ, zero, suc, ◌+◌, ◌*◌, ◌^◌, ◌≤◌, ◌<◌}
use mathlib.Core.List.{List, [], ◌∷◌, ◌++◌, append_assoc, map, flat_map}
use mathlib.Core.Path.{◌≡◌, refl, ap, ◌∙◌, sym}
use native.Mathlib.Numerals.{add-one}
use native.Mathlib.Omega.{arith}
use lib.ListN.{length, take, drop, get_or, length-append}
use lib.Seq.{take-suc}
use Rattle.trace.specs.Rows.{columns}
use Rattle.report.specs.Report.{first}
use Rattle.report.specs.Room.{Lays}
use Rattle.report.specs.Rows.{numbers_of}
use Rattle.report.proofs.Laying.{lays_next, lays_as, laid-front}
use Rattle.report.proofs.Pieces.{flat_map_last}
use Rattle.digits.specs.Decimal.{size_of, decimal}
use Rattle.digits.proofs.Figures.{decimal-length, decimal-few}
use Rattle.sheetout.specs.Pieces.{header_text, number_text, record_text, row_text}
use Rattle.sheet.specs.Text.{row_name, column_names, names, row_fields, row_records, follows, line_ends, sheet_text}
use Rattle.sheet.specs.Text.{record_text as fields_text}
use Rattle.sheet.proofs.Names.{table, names-joined}
use Rattle.sheet.proofs.Spelled.{Small, row_small, Given}
use Rattle.report.proofs.Lines.{row-length, flat_map_none, next_row}

module _ (f : ℕ → List ℕ) where
  -- one more of a list
  pub next_of : (xs : List ℕ) (k : ℕ) → k < length xs → flat_map f (take (k + 1) xs) ≡ flat_map f (take k xs) ++ f (get_or xs k 0)
  next_of xs k h =
      ap (flat_map f) (ap (λ (n : ℕ). take n xs) (add-one k) ∙ take-suc xs k 0 h) ∙ flat_map_last f (take k xs) (get_or xs k 0)

  -- a piece more is not too much before the end
  pub fits-of : (xs : List ℕ) (k : ℕ) → k < length xs
      → length (flat_map f (take k xs)) + length (f (get_or xs k 0)) ≤ length (flat_map f xs)
  unfolding flat_map
  fits-of [] k h = absurd (omega arith)
  fits-of (x ∷ xs) zero h = omega (arith, length-append (f x) (flat_map f xs))
  fits-of (x ∷ xs) (suc k) h =
      omega (arith, fits-of xs k (omega arith), length-append (f x) (flat_map f xs), length-append (f x) (flat_map f (take k xs)))

-- the characters of numbers as they are counted
pub record Sized (numbers : List ℕ) (size k : ℕ) : Type 0 where
  pub within : k ≤ length numbers
  pub same : size ≡ length (flat_map number_text (take k numbers))
  pub small : size ≤ 21 * k

pub sized_none : (numbers : List ℕ) → Sized numbers 0 0
sized_none numbers = record { within = omega arith; same = sym (ap length (flat_map_none number_text)); small = omega arith }

pub number_size : (x : ℕ) → length (number_text x) ≡ 1 + size_of x
number_size x = ap suc (decimal-length x) ∙ one (size_of x)
  where
    one : (n : ℕ) → suc n ≡ 1 + n
    one n = omega arith

pub sized_more : {numbers : List ℕ} {size k : ℕ} (n : ℕ) → Sized numbers size k → k < length numbers
    → get_or numbers k 0 < 2 ^ 64 → n ≡ size_of (get_or numbers k 0) → Sized numbers (size + (1 + n)) (k + 1)
sized_more {numbers} {size} {k} n r h b e =
    let x = get_or numbers k 0 in
    record {
      within = omega arith;
      same =
          sym
          (ap length (next_of number_text numbers k h) ∙ length-append (flat_map number_text (take k numbers)) (number_text x) ∙ omega (arith, r.same, number_size x, e));
      small = omega (arith, r.small, decimal-few x b, decimal-length x, e);
    }

pub record_size_is : (row : ℕ) (numbers : List ℕ) → length (record_text row numbers) ≡ size_of row + length (flat_map number_text numbers) + 2
unfolding record_text
record_size_is row numbers =
    length-append (decimal row) (flat_map number_text numbers ++ line_ends)
    ∙ omega (arith, decimal-length row, length-append (flat_map number_text numbers) line_ends)

-- the characters of records as they are counted
pub record Counted (rows : List ℕ) (size row : ℕ) : Type 0 where
  pub same : size ≡ length (flat_map (row_text rows) (first row))
  pub small : size ≤ (22 + 21 * columns) * row

pub counted_none : (rows : List ℕ) → Counted rows 0 0
counted_none rows = record { same = sym (ap length (flat_map_none (row_text rows))); small = omega arith }

pub counted-more : (rows : List ℕ) {size row : ℕ} (n : ℕ) → Counted rows size row → n ≡ length (row_text rows row)
    → n ≤ 22 + 21 * columns → Counted rows (size + n) (row + 1)
counted-more rows {size} {row} n r e b =
    record {
      same =
          sym
          (ap length (next_row (row_text rows) row) ∙ length-append (flat_map (row_text rows) (first row)) (row_text rows row) ∙ omega (arith, r.same, e));
      small = omega (arith, r.small);
    }

-- a record is its three pieces
pub lays_record : (at row : ℕ) (numbers before : List ℕ) {e f g : ℕ} {one two three : List ℕ}
    → at + length (record_text row numbers) ≤ length before
    → Lays at (decimal row) before e one → length one ≡ length before → Lays e (flat_map number_text numbers) one f two → Lays f line_ends two g three → Lays at (record_text row numbers) before g three
unfolding record_text
lays_record at row numbers before {one = one} h a l b c =
    lays_next at (decimal row) (flat_map number_text numbers ++ line_ends) before
    (omega (arith, length-append (decimal row) (flat_map number_text numbers ++ line_ends)))
    a
    (lays_next _ (flat_map number_text numbers) line_ends one
    (omega (arith, a.ends, length-append (decimal row) (flat_map number_text numbers ++ line_ends), length-append (flat_map number_text numbers) line_ends))
    b
    c)

-- the header is its names and the line end
abbrev pub header_size : ℕ
header_size = length table + length line_ends

pub header-length : length header_text ≡ header_size
unfolding header_text flat_map
header-length = refl

pub lays_header : (at : ℕ) (before : List ℕ) {e f : ℕ} {one two : List ℕ} → at + length header_text ≤ length before
    → Lays at table before e one → Lays e line_ends one f two → Lays at header_text before f two
unfolding header_text
lays_header at before h a b =
    lays_next at (row_name ++ flat_map follows column_names) line_ends before
    (omega (arith, ap length names-joined, length-append (row_name ++ flat_map follows column_names) line_ends))
    (lays_as at names-joined a) b

-- the writer's text is the header and the records of the rows
fields_are : (xs : List ℕ) → flat_map follows (map decimal xs) ≡ flat_map number_text xs
unfolding flat_map
fields_are [] = refl
fields_are (x ∷ xs) = ap (λ (l : List ℕ). number_text x ++ l) (fields_are xs)

row_is : (rows : List ℕ) (r : ℕ) → fields_text (row_fields rows r) ≡ row_text rows r
unfolding record_text fields_text
row_is rows r = ap (λ (l : List ℕ). decimal r ++ (l ++ line_ends)) (fields_are (numbers_of rows r))

rows_are : (rows which : List ℕ) → flat_map fields_text (row_records rows which) ≡ flat_map (row_text rows) which
unfolding flat_map
rows_are rows [] = refl
rows_are rows (r ∷ which) =
    ap (λ (l : List ℕ). l ++ flat_map fields_text (row_records rows which)) (row_is rows r)
    ∙ ap (λ (l : List ℕ). row_text rows r ++ l) (rows_are rows which)

header_is : fields_text names ≡ header_text
unfolding fields_text header_text
header_is = sym (append_assoc row_name (flat_map follows column_names) line_ends)

text-is : (rows : List ℕ) (count : ℕ) → sheet_text rows count ≡ header_text ++ flat_map (row_text rows) (first (count + 1))
unfolding sheet_text flat_map
text-is rows count =
    ap (λ (l : List ℕ). l ++ flat_map fields_text (row_records rows (first (count + 1)))) header_is
    ∙ ap (λ (l : List ℕ). header_text ++ l) (rows_are rows (first (count + 1)))

pub text-length : (rows : List ℕ) (count : ℕ)
    → length (sheet_text rows count) ≡ length header_text + length (flat_map (row_text rows) (first (count + 1)))
text-length rows count =
    ap length (text-is rows count) ∙ length-append header_text (flat_map (row_text rows) (first (count + 1)))

-- header and records laid from the front on are the text
pub text-laid : (rows : List ℕ) (count : ℕ) (before : List ℕ) {e f : ℕ} {one two : List ℕ}
    → length (sheet_text rows count) ≤ length before
    → Lays 0 header_text before e one → Lays e (flat_map (row_text rows) (first (count + 1))) one f two → two ≡ sheet_text rows count ++ drop (length (sheet_text rows count)) before
text-laid rows count before h a b =
    (lays_as 0 (sym (text-is rows count)) (lays_next 0 header_text (flat_map (row_text rows) (first (count + 1))) before (omega (arith, text-length rows count)) a b)).left
    ∙ laid-front (sheet_text rows count) before

-- room for the header and 22 + 21 · columns characters a row is always enough: fields of at most 20 figures, each
-- with the comma or CR that ends it, and a LF
numbers-few : (xs : List ℕ) → Small xs → length (flat_map number_text xs) ≤ 21 * length xs
unfolding flat_map
numbers-few [] h = omega arith
numbers-few (x ∷ xs) h =
    omega
    (arith, length-append (number_text x) (flat_map number_text xs), number_size x, decimal-length x, decimal-few x (h 0), numbers-few xs (λ i. h (suc i)))

records-few : (rows : List ℕ) (n : ℕ) → Small rows → n ≤ 256 → columns * n ≤ length rows → length (flat_map (row_text rows) (first n)) ≤ (22 + 21 * columns) * n
records-few rows zero h b e = omega (arith, ap length (flat_map_none (row_text rows)))
records-few rows (suc n) h b e =
    let numbers = numbers_of rows n in
    let last = numbers-few numbers (row_small rows h n) in
    omega
    (arith, ap length (flat_map_last (row_text rows) (first n) n), length-append (flat_map (row_text rows) (first n)) (row_text rows n), record_size_is n numbers, decimal-length n, decimal-few n (omega arith), last, row-length rows n (omega arith), records-few rows n h (omega arith) (omega arith))

pub text-few : (rows : List ℕ) (count : ℕ) → Given rows count → length (sheet_text rows count) ≤ length header_text + (22 + 21 * columns) * (count + 1)
text-few rows count g =
    omega (arith, text-length rows count, records-few rows (count + 1) g.small (omega (arith, g.few)) g.enough)
