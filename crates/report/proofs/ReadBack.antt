-- What a reader may rely on. Of a report: how long it is, which line is which row's, which digits are which number's,
-- and that reports with the same text have the same rows. Of a refusal: its number and its line. Assumes nothing.
use Prim.Native.Nat.{ℕ, ◌+◌, ◌*◌, ◌^◌, ◌≤◌, ◌<◌}
use mathlib.Core.List.{List, [], ◌∷◌, ◌++◌, append-nil, flat_map}
use mathlib.Core.Path.{◌≡◌, ap, ◌∙◌, sym}
use native.Mathlib.Omega.{arith}
use lib.ListN.{length, take, drop, get_or}
use lib.Seq.{take_at, drop_at, drop-drop, get_or-take, ext_get_or, length-take-le}
use Rattle.digits.specs.Digits.{digits, number}
use Rattle.digits.proofs.Laws.{digits_number}
use Rattle.digits.proofs.Writing.{digits-length}
use Rattle.trace.specs.Rows.{columns}
use Rattle.trace.specs.Column.{Column, nth, slot}
use Rattle.trace.proofs.Slots.{nth_in, by_slots}
use Rattle.report.specs.Rows.{numbers_of, line_of, row_line, width}
use Rattle.report.specs.Report.{full_text}
use Rattle.report.specs.Refusal.{refusal_text}
use Rattle.report.proofs.Lines.{number_at, row-length, column-at, line-length, lines-length, line-at}

-- line r of a text; and what stands in a line, its row and its number k
abbrev pub line_at : List ℕ → ℕ → List ℕ
line_at s r = take width (drop (width * r) s)

abbrev pub row_in : List ℕ → ℕ
row_in line = number (take 4 line)

abbrev pub number_in : List ℕ → ℕ → ℕ
number_in line k = number (take 16 (drop (4 + 16 * k) line))

-- a row's line says its number, and each of its numbers
pub row_in_lem : (r : ℕ) (numbers : List ℕ) → r < 65536 → row_in (line_of r numbers) ≡ r
unfolding line_of
row_in_lem r numbers h = ap number (take_at (digits 4 r) (flat_map (digits 16) numbers ++ 10 ∷ []) 4 (digits-length 4 r)) ∙ digits_number 4 r h

pub number_in_lem : (r : ℕ) (numbers : List ℕ) (k : ℕ) → k < length numbers → get_or numbers k 0 < 2 ^ 64 → number_in (line_of r numbers) k ≡ get_or numbers k 0
unfolding line_of
number_in_lem r numbers k h b =
    let rest = flat_map (digits 16) numbers ++ 10 ∷ [] in
    ap (λ (l : List ℕ). number (take 16 l)) (sym (drop-drop (16 * k) 4 (digits 4 r ++ rest)))
    ∙ ap (λ (l : List ℕ). number (take 16 (drop (16 * k) l))) (drop_at (digits 4 r) rest 4 (digits-length 4 r))
    ∙ ap number (number_at numbers (10 ∷ []) k h)
    ∙ digits_number 16 (get_or numbers k 0) b

-- rows enough for the root and each site, of numbers of 64 bits
pub record Rows (rows : List ℕ) (count : ℕ) : Type 0 where
  pub enough : columns * (count + 1) ≤ length rows
  pub small : (i : ℕ) → get_or rows i 0 < 2 ^ 64

module _ (rows : List ℕ) (count : ℕ) (given : Rows rows count) where
  -- a line's characters a row
  pub text-length : length (full_text rows count) ≡ width * (count + 1)
  text-length = lines-length rows (count + 1) given.enough

  -- line r is the line of row r
  pub line_is : (r : ℕ) → r ≤ count → line_at (full_text rows count) r ≡ row_line rows r
  line_is r h = ap (λ (s : List ℕ). line_at s r) (sym (append-nil (full_text rows count))) ∙ line-at rows [] (count + 1) r given.enough (omega arith)

  -- each as long as a line
  pub line-long : (r : ℕ) → r ≤ count → length (row_line rows r) ≡ width
  line-long r h = line-length r (numbers_of rows r) (row-length rows r (omega (arith, given.enough)))

  -- column k of line r is column k of row r
  pub read_back : (r : ℕ) (k : Column) → r ≤ count → number_in (line_at (full_text rows count) r) (nth k) ≡ get_or rows (slot r k) 0
  read_back r k h =
      let l : length (numbers_of rows r) ≡ columns = row-length rows r (omega (arith, given.enough)) in
      ap (λ (s : List ℕ). number_in s (nth k)) (line_is r h)
      ∙ number_in_lem r (numbers_of rows r) (nth k) (rw l (nth_in k)) (rw (column-at rows r k) (given.small (slot r k)))
      ∙ column-at rows r k

module _ (rows others : List ℕ) (count sites : ℕ) (a : Rows rows count) (b : Rows others sites) (e : full_text rows count ≡ full_text others sites) where
  -- reports with the same text have as many sites
  pub same_count : count ≡ sites
  same_count = omega (arith, text-length rows count a, text-length others sites b, ap length e)

  same_number : (i : ℕ) → i < columns * (count + 1) → get_or rows i 0 ≡ get_or others i 0
  same_number =
      by_slots count (λ i. get_or rows i 0 ≡ get_or others i 0)
      (λ r k h. sym (read_back rows count a r k h) ∙ ap (λ (t : List ℕ). number_in (line_at t r) (nth k)) e ∙ read_back others sites b r k (omega (arith, same_count)))

  -- and the same rows
  pub same_rows : take (columns * (count + 1)) rows ≡ take (columns * (sites + 1)) others
  same_rows =
      let n = columns * (count + 1) in
      let m = columns * (sites + 1) in
      let ln : length (take n rows) ≡ n = length-take-le n rows a.enough in
      let lm : length (take m others) ≡ m = length-take-le m others b.enough in
      ext_get_or 0 (take n rows) (take m others) (omega (arith, same_count))
      (λ i h. let l : i < n = rw ln at h in get_or-take n rows i 0 l ∙ same_number i l ∙ sym (get_or-take m others i 0 (omega (arith, same_count))))

-- a printed refusal says its number and its line
pub refusal-number : (n line : ℕ) → n ≤ 255 → number (take 2 (drop 2 (refusal_text n line))) ≡ n
refusal-number n line h = digits_number 2 n (omega arith)

pub refusal-line : (n line : ℕ) → line ≤ 4294967295 → number (take 8 (drop 4 (refusal_text n line))) ≡ line
refusal-line n line h = digits_number 8 line (omega arith)

-- and is no report
pub no_report : (rows : List ℕ) (count n line : ℕ) → Rows rows count → full_text rows count ≡ refusal_text n line → ⊥
no_report rows count n line given e = omega (arith, text-length rows count given, ap length e)
