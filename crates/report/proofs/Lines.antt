-- Laws of report lines: how long they are, which stands where, and what comes next as they are written. Assumes nothing.
use Prim.Native.Nat.{ℕ, zero, suc, ◌+◌, ◌*◌, ◌-◌, ◌≤◌, ◌<◌}
use mathlib.Core.List.{List, [], ◌∷◌, ◌++◌, flat_map}
use mathlib.Core.Logic.{◌⊎◌, inl, inr}
use mathlib.Core.Path.{◌≡◌, refl, ap, ◌∙◌, sym}
use native.Mathlib.Nat.{add-sub_cancel_left, eq-or-lt_of_le, le_of_suc-le-suc}
use native.Mathlib.Numerals.{add-one}
use native.Mathlib.Omega.{arith}
use borrow.Rule.Slice.PartMut.{put_mid, mid_of, mid_len}
use lib.ListN.{length, take, drop, get_or, length-append, length-drop, get_or-append}
use lib.Seq.{length-take-le, take-suc, get_or_at, get_or-take, get_or-drop}
use Rattle.digits.specs.Digits.{digits}
use Rattle.digits.proofs.Writing.{digits-length}
use Rattle.trace.specs.Rows.{columns}
use Rattle.trace.specs.Column.{Column, nth, slot}
use Rattle.trace.proofs.Slots.{nth_in}
use Rattle.report.specs.Rows.{numbers_of, line_of, row_line, width}
use Rattle.report.specs.Report.{first, lines_of}
use Rattle.report.proofs.Pieces.{flat_map_last, Even, pieces-length, piece-at, next-piece}

-- sixteen digits for each number
numbers-even : (numbers : List ℕ) → Even (digits 16) 16 numbers
numbers-even numbers k h = digits-length 16 (get_or numbers k 0)

pub numbers-length : (numbers : List ℕ) → length (flat_map (digits 16) numbers) ≡ 16 * length numbers
numbers-length numbers = pieces-length (digits 16) 16 numbers (numbers-even numbers)

pub number_at : (numbers t : List ℕ) (k : ℕ) → k < length numbers → take 16 (drop (16 * k) (flat_map (digits 16) numbers ++ t)) ≡ digits 16 (get_or numbers k 0)
number_at numbers t k h = piece-at (digits 16) 16 numbers t k (numbers-even numbers) h

-- a row in reach has all its numbers
pub row-length : (rows : List ℕ) (r : ℕ) → columns * (r + 1) ≤ length rows → length (numbers_of rows r) ≡ columns
row-length rows r h = length-take-le columns (drop (columns * r) rows) (simp length-drop (omega arith))

-- and number k of it is column k of the row
pub column-at : (rows : List ℕ) (r : ℕ) (k : Column) → get_or (numbers_of rows r) (nth k) 0 ≡ get_or rows (slot r k) 0
column-at rows r k = get_or-take columns (drop (columns * r) rows) (nth k) 0 (nth_in k) ∙ get_or-drop (columns * r) rows (nth k) 0

-- "A report line ... is 117 characters"
pub line-length : (r : ℕ) (numbers : List ℕ) → length numbers ≡ columns → length (line_of r numbers) ≡ width
unfolding line_of
line-length r numbers l =
    length-append (digits 4 r) (flat_map (digits 16) numbers ++ 10 ∷ [])
    ∙ omega (arith, digits-length 4 r, length-append (flat_map (digits 16) numbers) (10 ∷ []), numbers-length numbers)

-- the first n row numbers: n of them, and number k is k
pub first-length : (n : ℕ) → length (first n) ≡ n
first-length zero = refl
first-length (suc n) = length-append (first n) (n ∷ []) ∙ ap (λ (k : ℕ). k + 1) (first-length n) ∙ add-one n

pub first-at : (n k : ℕ) → k < n → get_or (first n) k 0 ≡ k
first-at zero k h = absurd (omega arith)
first-at (suc n) k h = go (eq-or-lt_of_le (le_of_suc-le-suc h)) (first-at n k) where
  go : (k ≡ n) ⊎ (k < n) → (k < n → get_or (first n) k 0 ≡ k) → get_or (first (suc n)) k 0 ≡ k
  go (inl e) i = get_or_at (first n) n [] 0 k (first-length n ∙ sym e) ∙ sym e
  go (inr l) i = get_or-append (first n) (n ∷ []) 0 k (rw first-length l) ∙ i l

-- pieces of the first rows: none, one more, and that one more is not too much before the end
module _ (f : ℕ → List ℕ) where
  pub flat_map_none : flat_map f [] ≡ []
  unfolding flat_map
  flat_map_none = refl

  pub next_row : (n : ℕ) → flat_map f (first (n + 1)) ≡ flat_map f (first n) ++ f n
  next_row n = ap (λ (k : ℕ). flat_map f (first k)) (add-one n) ∙ flat_map_last f (first n) n

  pub fits-row : (r n : ℕ) → r < n → length (flat_map f (first r)) + length (f r) ≤ length (flat_map f (first n))
  fits-row r zero h = absurd (omega arith)
  fits-row r (suc n) h = go (eq-or-lt_of_le (le_of_suc-le-suc h)) (λ l. fits-row r n l)
    where
      all : length (flat_map f (first (suc n))) ≡ length (flat_map f (first n)) + length (f n)
      all = ap length (flat_map_last f (first n) n) ∙ length-append (flat_map f (first n)) (f n)

      go : (r ≡ n) ⊎ (r < n) → (r < n → length (flat_map f (first r)) + length (f r) ≤ length (flat_map f (first n)))
          → length (flat_map f (first r)) + length (f r) ≤ length (flat_map f (first (suc n)))
      go (inl e) g = omega (arith, all, ap (λ (k : ℕ). length (flat_map f (first k)) + length (f k)) e)
      go (inr l) g = omega (arith, all, g l)

-- a line's characters for each row
lines-even : (rows : List ℕ) (n : ℕ) → columns * n ≤ length rows → Even (row_line rows) width (first n)
lines-even rows n h k l =
    let below : k < n = rw first-length at l in
    ap (λ (r : ℕ). length (row_line rows r)) (first-at n k below) ∙ line-length k (numbers_of rows k) (row-length rows k (omega arith))

pub lines-length : (rows : List ℕ) (n : ℕ) → columns * n ≤ length rows → length (lines_of rows (first n)) ≡ width * n
lines-length rows n h = pieces-length (row_line rows) width (first n) (lines-even rows n h) ∙ ap (λ (k : ℕ). width * k) (first-length n)

pub line-at : (rows t : List ℕ) (n r : ℕ) → columns * n ≤ length rows → r < n → take width (drop (width * r) (lines_of rows (first n) ++ t)) ≡ row_line rows r
line-at rows t n r h l = piece-at (row_line rows) width (first n) t r (lines-even rows n h) (rw first-length l) ∙ ap (row_line rows) (first-at n r l)

-- rows with equal numbers have equal lines
pub lines_same : (rows others : List ℕ) (n : ℕ) → ((r : ℕ) → r < n → numbers_of rows r ≡ numbers_of others r) → lines_of rows (first n) ≡ lines_of others (first n)
unfolding flat_map
lines_same rows others zero h = refl
lines_same rows others (suc n) h =
    flat_map_last (row_line rows) (first n) n
    ∙ ap (λ (l : List ℕ). l ++ row_line rows n) (lines_same rows others n (λ r l. h r (omega arith)))
    ∙ ap (λ (l : List ℕ). lines_of others (first n) ++ line_of n l) (h n (omega arith))
    ∙ sym (flat_map_last (row_line others) (first n) n)

-- a part that begins with the digits of the first k numbers, and then with those of the next one
pub numbers_more : (numbers before part piece : List ℕ) (k : ℕ) → k < length numbers → length part ≡ 16 * length numbers
    → part ≡ flat_map (digits 16) (take k numbers) ++ drop (16 * k) before
    → piece ≡ digits (length (mid_of (16 * k) (16 * k + 16 - 16 * k) part)) (get_or numbers k 0)
    → put_mid (16 * k) (16 * k + 16 - 16 * k) part piece ≡ flat_map (digits 16) (take (k + 1) numbers) ++ drop (16 * (k + 1)) before
numbers_more numbers before part piece k h l e f =
    let x = get_or numbers k 0 in
    let size : length (mid_of (16 * k) (16 * k + 16 - 16 * k) part) ≡ 16 = mid_len (16 * k) (16 * k + 16) part (omega arith) ∙ add-sub_cancel_left (16 * k) 16 in
    let done : length (flat_map (digits 16) (take k numbers)) ≡ 16 * k = numbers-length (take k numbers) ∙ ap (λ (n : ℕ). 16 * n) (length-take-le k numbers (omega arith)) in
    let more : take k numbers ++ x ∷ [] ≡ take (k + 1) numbers = rw add-one (sym (take-suc numbers k 0 h)) in
    let place : 16 * k + 16 ≡ 16 * (k + 1) = omega arith in
    next-piece (digits 16) 16 (take k numbers) x (16 * k) part before piece done e (f ∙ ap (λ (n : ℕ). digits n x) size)
    ∙ ap (λ (xs : List ℕ). flat_map (digits 16) xs ++ drop (16 * k + 16) before) more
    ∙ ap (λ (n : ℕ). flat_map (digits 16) (take (k + 1) numbers) ++ drop n before) place
