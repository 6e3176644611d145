-- Laws of good records, taken apart: the numbers of one, a record and those behind it, and how many there are.
-- Assumes nothing.
use Prim.{Unit, tt}
use Prim.Native.Nat.{ℕ, zero, suc, ◌+◌, ◌*◌, ◌≤◌, ◌<◌}
use mathlib.Core.Bool.{Bool, true, false, cond}
use mathlib.Core.List.{List, [], ◌∷◌, ◌++◌}
use mathlib.Core.Path.{◌≡◌, refl, ap, ◌∙◌, sym}
use native.Mathlib.Omega.{arith}
use borrow.Author.Tests.{eqb-true}
use lib.Dec.{eqb}
use lib.ListN.{length, length-append}
use Rattle.trace.specs.Rows.{columns}
use Rattle.sheet.specs.Found.{Found, none, found, then}
use Rattle.sheet.specs.Grammar.{line_end, numeral, next_numeral, also, no_more, next_numerals, record_of, Sheet, sheet, bad, with, ended, follow, records, header, after_header, sheet_of}

-- where the text is at its end, and where it is not
pub ended_no : (s : List ℕ) (a b : Sheet) → 0 < length s → ended s a b ≡ b
ended_no [] a b h = absurd (omega arith)
ended_no (c ∷ s) a b h = refl

pub ended_yes : (s : List ℕ) (a b : Sheet) → length s ≡ 0 → ended s a b ≡ a
ended_yes [] a b h = refl
ended_yes (c ∷ s) a b h = absurd (omega arith)

pub full : (r : ℕ) (s : List ℕ) → 0 < length s → records zero r s ≡ bad (suc r)
unfolding records
full r s h = ended_no s (sheet r []) (bad (suc r)) h

pub at-end : (left r : ℕ) (s : List ℕ) → length s ≡ 0 → records left r s ≡ sheet r []
unfolding records
at-end zero r s h = ended_yes s (sheet r []) (bad (suc r)) h
at-end (suc left) r s h = ended_yes s (sheet r []) (follow (record_of r s) (bad (suc r)) (λ u. records left (suc r) u)) h

pub one_record : (left r : ℕ) (s : List ℕ) → 0 < length s
    → records (suc left) r s ≡ follow (record_of r s) (bad (suc r)) (λ u. records left (suc r) u)
unfolding records
one_record left r s h = ended_no s (sheet r []) (follow (record_of r s) (bad (suc r)) (λ u. records left (suc r) u)) h

-- numbers that are there, taken apart: the first, what stands behind it, the others
pub record First (m : ℕ) (w numbers u : List ℕ) : Type 0 where
  pub value : ℕ
  pub behind : List ℕ
  pub others : List ℕ
  pub here : next_numeral w ≡ found value behind
  pub there : next_numerals m behind ≡ found others u
  pub all : numbers ≡ value ∷ others

pub first_of : (m : ℕ) (w numbers u : List ℕ) → next_numerals (suc m) w ≡ found numbers u → First m w numbers u
first_of m w numbers u e = go (next_numeral w) refl e
  where
    last : (v : ℕ) (x : List ℕ) (y : Found (List ℕ)) → next_numeral w ≡ found v x → next_numerals m x ≡ y
        → also v y ≡ found numbers u → First m w numbers u
    last v x none h k j = absurd (let z : ◌≡◌ {A = ℕ} 0 1 = cc in omega arith)
    last v x (found vs l) h k j =
        record {
          value = v;
          behind = x;
          others = vs;
          here = h;
          there = k ∙ ap (found vs) (let i : l ≡ u = cc in i);
          all = let i : numbers ≡ v ∷ vs = cc in i;
        }

    go : (y : Found ℕ) → next_numeral w ≡ y → then y (λ v u. also v (next_numerals m u)) ≡ found numbers u → First m w numbers u
    go none h k = absurd (let z : ◌≡◌ {A = ℕ} 0 1 = cc in omega arith)
    go (found v x) h k = last v x (next_numerals m x) h refl k

-- no numbers more: the line end is there
pub none_of : (w numbers u : List ℕ) → next_numerals 0 w ≡ found numbers u → (numbers ≡ []) × (line_end w ≡ found tt u)
none_of w numbers u e = go (line_end w) refl e
  where
    go : (y : Found Unit) → line_end w ≡ y → no_more y ≡ found numbers u
        → (numbers ≡ []) × (◌≡◌ {A = Found Unit} (line_end w) (found tt u))
    go none h k = absurd (let z : ◌≡◌ {A = ℕ} 0 1 = cc in omega arith)
    go (found tt l) h k = (let i : numbers ≡ [] = cc in i, h ∙ ap (found tt) (let i : l ≡ u = cc in i))

pub numerals_length : (m : ℕ) (w numbers u : List ℕ) → next_numerals m w ≡ found numbers u → length numbers ≡ m
numerals_length zero w numbers u e = ap length (none_of w numbers u e).0
numerals_length (suc m) w numbers u e =
    let f = first_of m w numbers u e in
    ap length f.all ∙ ap suc (numerals_length m f.behind f.others u f.there)

-- a record that is there, taken apart
pub record_of_lem : (row : ℕ) (s numbers u : List ℕ) → record_of row s ≡ found numbers u → (x : List ℕ) × (numeral s ≡ found row x) × (next_numerals columns x ≡ found numbers u)
unfolding record_of
record_of_lem row s numbers u e = go (numeral s) refl e
  where
    last : (v : ℕ) (x : List ℕ) (b : Bool) → numeral s ≡ found v x → eqb v row ≡ b
        → cond b (next_numerals columns x) none ≡ found numbers u
        → (x : List ℕ) × (numeral s ≡ found row x) × (next_numerals columns x ≡ found numbers u)
    last v x true h k j = (x, h ∙ ap (λ (n : ℕ). found n x) (eqb-true v row k), j)
    last v x false h k j = absurd (let z : ◌≡◌ {A = ℕ} 0 1 = cc in omega arith)

    go : (y : Found ℕ) → numeral s ≡ y → then y (λ v u. cond (eqb v row) (next_numerals columns u) none) ≡ found numbers u
        → (x : List ℕ) × (numeral s ≡ found row x) × (next_numerals columns x ≡ found numbers u)
    go none h k = absurd (let z : ◌≡◌ {A = ℕ} 0 1 = cc in omega arith)
    go (found v x) h k = last v x (eqb v row) h refl k

pub record_length : (row : ℕ) (s numbers u : List ℕ) → record_of row s ≡ found numbers u → length numbers ≡ columns
record_length row s numbers u e = let f = record_of_lem row s numbers u e in numerals_length columns f.0 numbers u f.2

-- records that are good, taken apart: the numbers of the first, what stands behind it, the others
pub record Split (m row : ℕ) (w : List ℕ) (n : ℕ) (numbers : List ℕ) : Type 0 where
  pub these : List ℕ
  pub behind : List ℕ
  pub others : List ℕ
  pub here : record_of row w ≡ found these behind
  pub there : records m (suc row) behind ≡ sheet n others
  pub all : numbers ≡ these ++ others

split_of : (m row : ℕ) (w : List ℕ) (n : ℕ) (numbers : List ℕ)
    → follow (record_of row w) (bad (suc row)) (λ u. records m (suc row) u) ≡ sheet n numbers → Split m row w n numbers
split_of m row w n numbers e = go (record_of row w) refl e
  where
    last : (vs x : List ℕ) (y : Sheet) → record_of row w ≡ found vs x → records m (suc row) x ≡ y → with vs y ≡ sheet n numbers
        → Split m row w n numbers
    last vs x (bad k) h j i = absurd (let z : ◌≡◌ {A = ℕ} 0 1 = cc in omega arith)
    last vs x (sheet l ws) h j i =
        record {
          these = vs;
          behind = x;
          others = ws;
          here = h;
          there = j ∙ ap (λ (a : ℕ). sheet a ws) (let q : l ≡ n = cc in q);
          all = let q : numbers ≡ vs ++ ws = cc in q;
        }

    go : (y : Found (List ℕ)) → record_of row w ≡ y → follow y (bad (suc row)) (λ u. records m (suc row) u) ≡ sheet n numbers
        → Split m row w n numbers
    go none h k = absurd (let z : ◌≡◌ {A = ℕ} 0 1 = cc in omega arith)
    go (found vs x) h k = last vs x (records m (suc row) x) h refl k

-- at the end of the text, or one record more
pub data Records (left row : ℕ) (w : List ℕ) (n : ℕ) (numbers : List ℕ) : Type 0 where
  over_rows : w ≡ [] → n ≡ row → numbers ≡ [] → Records left row w n numbers
  more_rows : (m : ℕ) → left ≡ suc m → Split m row w n numbers → Records left row w n numbers

pub records-of : (left row : ℕ) (w : List ℕ) (n : ℕ) (numbers : List ℕ) → records left row w ≡ sheet n numbers → Records left row w n numbers
unfolding records
records-of zero row [] n numbers e = over_rows refl (let q : n ≡ row = cc in q) (let q : numbers ≡ [] = cc in q)
records-of zero row (c ∷ w) n numbers e = absurd (let z : ◌≡◌ {A = ℕ} 0 1 = cc in omega arith)
records-of (suc m) row [] n numbers e = over_rows refl (let q : n ≡ row = cc in q) (let q : numbers ≡ [] = cc in q)
records-of (suc m) row (c ∷ w) n numbers e = more_rows m refl (split_of m row (c ∷ w) n numbers e)

-- rows are counted upwards, and each has as many numbers as there are columns
pub record Count (row n : ℕ) (numbers : List ℕ) : Type 0 where
  pub least : row ≤ n
  pub long : length numbers + columns * row ≡ columns * n

count-here : (left row : ℕ) (w : List ℕ) (n : ℕ) (numbers : List ℕ) → Records left row w n numbers
    → ((m : ℕ) (x ws : List ℕ) → left ≡ suc m → records m (suc row) x ≡ sheet n ws → Count (suc row) n ws)
    → Count row n numbers
count-here left row w n numbers (over_rows d e f) k = record { least = omega arith; long = omega (arith, ap length f) }
count-here left row w n numbers (more_rows m h s) k =
    let c = k m s.behind s.others h s.there in
    record {
      least = omega (arith, c.least);
      long =
          omega
          (arith, c.long, ap length s.all, length-append s.these s.others, record_length row w s.these s.behind s.here);
    }

pub records-count : (left row : ℕ) (w : List ℕ) (n : ℕ) (numbers : List ℕ) → records left row w ≡ sheet n numbers → Count row n numbers
records-count zero row w n numbers e = count-here zero row w n numbers (records-of zero row w n numbers e) (λ m x ws z h. absurd (omega arith))
records-count (suc l) row w n numbers e =
    count-here (suc l) row w n numbers (records-of (suc l) row w n numbers e)
    (λ m x ws z h. records-count l (suc row) x n ws (ap (λ (k : ℕ). records k (suc row) x) (let q : l ≡ m = omega arith in q) ∙ h))

-- behind the last row nothing is left; before it, one record more
pub no_more_lem : (left n : ℕ) (w numbers : List ℕ) → records left n w ≡ sheet n numbers → numbers ≡ []
no_more_lem left n w numbers e = go (records-of left n w n numbers e)
  where
    go : Records left n w n numbers → numbers ≡ []
    go (over_rows d e f) = f
    go (more_rows m h s) = absurd (omega (arith, (records-count m (suc n) s.behind n s.others s.there).least))

pub one_more : (left row : ℕ) (w : List ℕ) (n : ℕ) (numbers : List ℕ) → row < n → records left row w ≡ sheet n numbers
    → (m : ℕ) × (left ≡ suc m) × Split m row w n numbers
one_more left row w n numbers l e = go (records-of left row w n numbers e)
  where
    go : Records left row w n numbers → (m : ℕ) × (left ≡ suc m) × Split m row w n numbers
    go (over_rows d e f) = absurd (omega arith)
    go (more_rows m h s) = (m, h, s)

-- where there is text, there is a row
pub records-some : (left row : ℕ) (w : List ℕ) (n : ℕ) (numbers : List ℕ) → 0 < length w → records left row w ≡ sheet n numbers → row < n
records-some zero row w n numbers h e = absurd (let f = sym (full row w h) ∙ e in let z : ◌≡◌ {A = ℕ} 0 1 = cc in omega arith)
records-some (suc m) row w n numbers h e =
    let s = split_of m row w n numbers (sym (one_record m row w h) ∙ e) in
    omega (arith, (records-count m (suc row) s.behind n s.others s.there).least)

-- the number of a record that is not good is at most 257
bad-with : (vs : List ℕ) (x : Sheet) (k : ℕ) → with vs x ≡ bad k → x ≡ bad k
bad-with vs (sheet n ws) k e = absurd (let z : ◌≡◌ {A = ℕ} 0 1 = cc in omega arith)
bad-with vs (bad j) k e = e

bad-records : (left r : ℕ) (s : List ℕ) (k : ℕ) → records left r s ≡ bad k → k ≤ suc (r + left)
unfolding records
bad-records zero r [] k e = absurd (let z : ◌≡◌ {A = ℕ} 0 1 = cc in omega arith)
bad-records zero r (c ∷ s) k e = let q : suc r ≡ k = cc in omega arith
bad-records (suc m) r [] k e = absurd (let z : ◌≡◌ {A = ℕ} 0 1 = cc in omega arith)
bad-records (suc m) r (c ∷ s) k e = go (record_of r (c ∷ s)) e (λ u. bad-records m (suc r) u k)
  where
    go : (y : Found (List ℕ)) → follow y (bad (suc r)) (λ u. records m (suc r) u) ≡ bad k
        → ((u : List ℕ) → records m (suc r) u ≡ bad k → k ≤ suc (suc r + m)) → k ≤ suc (r + suc m)
    go none f g = let q : suc r ≡ k = cc in omega arith
    go (found vs u) f g = omega (arith, g u (bad-with vs (records m (suc r) u) k f))

pub bad-few : (s : List ℕ) (k : ℕ) → sheet_of s ≡ bad k → k ≤ 257
unfolding sheet_of
bad-few s k e = go (header s) e
  where
    go : (y : Found Unit) → after_header y ≡ bad k → k ≤ 257
    go none f = let q : 0 ≡ k = cc in omega arith
    go (found tt []) f = let q : 1 ≡ k = cc in omega arith
    go (found tt (c ∷ u)) f = omega (arith, bad-records 256 0 (c ∷ u) k f)
