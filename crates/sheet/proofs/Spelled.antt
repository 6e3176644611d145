-- What is spelled is read: fields, bare or in quotes, the header and the records of rows, with and without the last
-- line end. Assumes nothing.
use Prim.{Unit, tt}
use Prim.Native.Nat.{ℕ, zero, suc, ◌+◌, ◌*◌, ◌^◌, ◌≤◌, ◌<◌}
use mathlib.Core.Bool.{Bool, true, cond}
use mathlib.Core.List.{List, [], ◌∷◌, ◌++◌, append_assoc, append-nil, map}
use mathlib.Core.Path.{◌≡◌, refl, ap, ◌∙◌, sym, subst}
use native.Mathlib.Nat.{add-zero, zero-add}
use native.Mathlib.Numerals.{add-one}
use native.Mathlib.Omega.{arith}
use native.Mathlib.Decide.{dec_lt}
use borrow.Author.Tests.{eq-eqb}
use lib.Dec.{eqb}
use lib.ListN.{length, take, drop, get_or, length-append, length-take, get_or-eq_default}
use lib.Seq.{take_at, drop_at, take-add, drop-drop, get_or-take, get_or-drop}
use Rattle.digits.specs.Decimal.{is_number, number, decimal}
use Rattle.digits.proofs.Figures.{proper-figures, decimal-proper, decimal-number, decimal-is-number, decimal-some}
use Rattle.trace.specs.Rows.{columns}
use Rattle.report.specs.Rows.{numbers_of}
use Rattle.report.specs.Report.{first}
use Rattle.report.proofs.Lines.{row-length}
use Rattle.sheet.specs.Text.{comma, quote, line_ends, row_name, column_names, names, row_fields, row_records, sheet_records}
use Rattle.sheet.specs.Found.{Found, none, found, then}
use Rattle.sheet.specs.Grammar.{closing, quoted, bare, field, separator, line_end, same, name, next_names, numeral, also, no_more, next_numerals, header, record_of, sheet, bad, with, follow, records, after_header, sheet_of}
use Rattle.sheet.specs.Spelling.{Field, as_is, in_quotes, Fields, nil, next, Record, begin, Spells, over, lacks, ends}
use Rattle.sheet.proofs.Clear.{Clear, Stop, end, at, before-stop, before-quote, figures-clear, AllClear, names-clear}
use Rattle.sheet.proofs.Apart.{one_record, at-end, ended_no}

bare-is : (t u : List ℕ) → Clear t → Stop u → bare (t ++ u) ≡ found t u
bare-is t u k s =
    ap (λ (n : ℕ). found (take n (t ++ u)) (drop n (t ++ u))) (before-stop t u k s)
    ∙ ap (λ (l : List ℕ). found l (drop (length t) (t ++ u))) (take_at t u (length t) refl)
    ∙ ap (found t) (drop_at t u (length t) refl)

bare-field : (t u : List ℕ) → Clear t → Stop u → field (t ++ u) ≡ found t u
unfolding field
bare-field [] [] k end = refl
bare-field [] (c ∷ u) k (at _ _ e q) = ap (λ (b : Bool). cond b (quoted u) (bare (c ∷ u))) q ∙ bare-is [] (c ∷ u) k (at c u e q)
bare-field (d ∷ t) u k s = ap (λ (b : Bool). cond b (quoted (t ++ u)) (bare (d ∷ t ++ u))) k.1 ∙ bare-is (d ∷ t) u k s

quoted-field : (t u : List ℕ) → Clear t → field (quote ∷ (t ++ quote ∷ u)) ≡ found t u
unfolding field
quoted-field t u k =
    ap (λ (n : ℕ). closing (take n (t ++ quote ∷ u)) (drop n (t ++ quote ∷ u))) (before-quote t u k)
    ∙ ap (λ (l : List ℕ). closing l (drop (length t) (t ++ quote ∷ u))) (take_at t (quote ∷ u) (length t) refl)
    ∙ ap (closing t) (drop_at t (quote ∷ u) (length t) refl)

field-spelled : {t f : List ℕ} (u : List ℕ) → Field t f → Clear t → Stop u → field (f ++ u) ≡ found t u
field-spelled {t} u as_is k s = bare-field t u k s
field-spelled {t} u in_quotes k s = ap (λ (l : List ℕ). field (quote ∷ l)) (append_assoc t (quote ∷ []) u) ∙ quoted-field t u k

-- a text is the same as itself
same_self : (s : List ℕ) → same s s ≡ true
same_self [] = refl
same_self (c ∷ s) = simp (eq-eqb c c refl, same_self s)

name-spelled : {t f : List ℕ} (u : List ℕ) → Field t f → Clear t → Stop u → name t (f ++ u) ≡ found tt u
name-spelled {t} u f k s =
    ap (λ (y : Found (List ℕ)). then y (λ x w. cond (same x t) (found tt w) none)) (field-spelled u f k s)
    ∙ ap (λ (b : Bool). cond b (found tt u) none) (same_self t)

numeral-spelled : {x : ℕ} {f : List ℕ} (u : List ℕ) → x < 2 ^ 64 → Field (decimal x) f → Stop u → numeral (f ++ u) ≡ found x u
numeral-spelled {x} u h f s =
    ap (λ (y : Found (List ℕ)). then y (λ t w. cond (is_number t) (found (number t) w) none)) (field-spelled u f (figures-clear (decimal x) (proper-figures (decimal x) (decimal-proper x h))) s)
    ∙ ap (λ (b : Bool). cond b (found (number (decimal x)) u) none) (decimal-is-number x h)
    ∙ ap (λ (n : ℕ). found n u) (decimal-number x h)

-- behind a field of a record stands a comma, or what stands behind the record
fields-stop : {ts : List (List ℕ)} {s : List ℕ} (u : List ℕ) → Fields ts s → Stop u → Stop (s ++ u)
fields-stop u nil k = k
fields-stop u (next {f = f} {s = s} g r) k = at comma ((f ++ s) ++ u) refl refl

-- all numbers are of 64 bits
abbrev pub Small : List ℕ → Type 0
Small xs = (i : ℕ) → get_or xs i 0 < 2 ^ 64

numerals_spelled : (xs : List ℕ) {s : List ℕ} (u w : List ℕ) → Small xs → Fields (map decimal xs) s → Stop u
    → line_end u ≡ found tt w → next_numerals (length xs) (s ++ u) ≡ found xs w
unfolding separator
numerals_spelled [] u w h nil k e = ap (λ (y : Found Unit). no_more y) e
numerals_spelled (x ∷ xs) u w h (next {f = f} {s = s} g r) k e =
    ap (λ (l : List ℕ). then (numeral l) (λ v y. also v (next_numerals (length xs) y))) (append_assoc f s u)
    ∙ ap (λ (y : Found ℕ). then y (λ v z. also v (next_numerals (length xs) z))) (numeral-spelled (s ++ u) (h 0) g (fields-stop u r k))
    ∙ ap (also x) (numerals_spelled xs u w (λ i. h (suc i)) r k e)

names-spelled : (ns : List (List ℕ)) {s : List ℕ} (u w : List ℕ) → AllClear ns → Fields ns s → Stop u → line_end u ≡ found tt w
    → next_names ns (s ++ u) ≡ found tt w
unfolding separator
names-spelled [] u w c nil k e = e
names-spelled (n ∷ ns) u w c (next {f = f} {s = s} g r) k e =
    ap (λ (l : List ℕ). then (name n l) (λ _ y. next_names ns y)) (append_assoc f s u)
    ∙ ap (λ (y : Found Unit). then y (λ _ z. next_names ns z)) (name-spelled (s ++ u) g c.0 (fields-stop u r k))
    ∙ names-spelled ns u w c.1 r k e

-- the first of some records, and the others: its line end may lack only where it is the last
record Cut (ts : List (List ℕ)) (rs : List (List (List ℕ))) (s : List ℕ) : Type 0 where
  front : List ℕ
  mark : List ℕ
  rest : List ℕ
  here : Record ts front
  is : s ≡ front ++ mark
  stops : Stop mark
  past : line_end mark ≡ found tt rest
  there : Spells rs rest

cut : (ts : List (List ℕ)) (rs : List (List (List ℕ))) {s : List ℕ} → Spells (ts ∷ rs) s → Cut ts rs s
unfolding line_end
cut ts rs (lacks {s = s} r) = record { front = s; mark = []; rest = []; here = r; is = sym (append-nil s); stops = end; past = refl; there = over }
cut ts rs (ends {s = s} {u = u} r q) = record { front = s; mark = line_ends ++ u; rest = u; here = r; is = refl; stops = at 13 (10 ∷ u) refl refl; past = refl; there = q }

-- the header, and the record of a row
header-spelled : {s : List ℕ} (u w : List ℕ) → Record names s → Stop u → line_end u ≡ found tt w → header (s ++ u) ≡ found tt w
unfolding header
header-spelled u w (begin {f = f} {s = s} g r) k e =
    let c = names-clear in
    ap (λ (l : List ℕ). then (name row_name l) (λ _ x. next_names column_names x)) (append_assoc f s u)
    ∙ ap (λ (y : Found Unit). then y (λ _ x. next_names column_names x)) (name-spelled (s ++ u) g c.0 (fields-stop u r k))
    ∙ names-spelled column_names u w c.1 r k e

record_spelled : (r : ℕ) (xs : List ℕ) {s : List ℕ} (u w : List ℕ) → r < 2 ^ 64 → Small xs → length xs ≡ columns → Record (decimal r ∷ map decimal xs) s → Stop u → line_end u ≡ found tt w → record_of r (s ++ u) ≡ found xs w
unfolding record_of
record_spelled r xs u w h b l (begin {f = f} {s = s} g q) k e =
    ap (λ (l : List ℕ). then (numeral l) (λ v x. cond (eqb v r) (next_numerals columns x) none)) (append_assoc f s u)
    ∙ ap (λ (y : Found ℕ). then y (λ v x. cond (eqb v r) (next_numerals columns x) none)) (numeral-spelled (s ++ u) h g (fields-stop u q k))
    ∙ ap (λ (b : Bool). cond b (next_numerals columns (s ++ u)) none) (eq-eqb r r refl)
    ∙ ap (λ (n : ℕ). next_numerals n (s ++ u)) (sym l)
    ∙ numerals_spelled xs u w b q k e

-- a row's record has characters
field-long : {t f : List ℕ} → Field t f → length t ≤ length f
field-long as_is = omega arith
field-long {t} in_quotes = omega (arith, length-append t (quote ∷ []))

record_long : {t : List ℕ} {ts : List (List ℕ)} {s : List ℕ} → Record (t ∷ ts) s → length t ≤ length s
record_long (begin {f = f} {s = s} g r) = omega (arith, field-long g, length-append f s)

row-long : (rows : List ℕ) (r : ℕ) {rs : List (List (List ℕ))} {s : List ℕ} → r < 2 ^ 64 → Cut (row_fields rows r) rs s → 0 < length s
row-long rows r h c = omega (arith, decimal-some r h, record_long c.here, ap length c.is, length-append c.front c.mark)

-- row numbers from r on, k of them
unfoldable pub up : ℕ → ℕ → List ℕ
up r zero = []
up r (suc k) = r ∷ up (suc r) k

up-last : (r k : ℕ) → up r (suc k) ≡ up r k ++ (r + k) ∷ []
unfolding up
up-last r zero = ap (λ (n : ℕ). n ∷ []) (sym (add-zero r))
up-last r (suc k) = ap (λ (l : List ℕ). r ∷ l) (up-last (suc r) k ∙ ap (λ (n : ℕ). up (suc r) k ++ n ∷ []) (move r k))
  where
    move : (r k : ℕ) → suc r + k ≡ r + suc k
    move r k = omega arith

pub first-up : (n : ℕ) → first n ≡ up 0 n
unfolding up
first-up zero = refl
first-up (suc n) =
    ap (λ (l : List ℕ). l ++ n ∷ []) (first-up n) ∙ ap (λ (k : ℕ). up 0 n ++ k ∷ []) (sym (zero-add n)) ∙ sym (up-last 0 n)

module _ (rows : List ℕ) (small : Small rows) where
  pub row_small : (r : ℕ) → Small (numbers_of rows r)
  row_small r i = go (dec_lt i columns)
    where
      go : Dec (i < columns) → get_or (numbers_of rows r) i 0 < 2 ^ 64
      go (yes h) =
          omega
          (arith, get_or-take columns (drop (columns * r) rows) i 0 h, get_or-drop (columns * r) rows i 0, small (columns * r + i))
      go (no h) = omega (arith, get_or-eq_default (numbers_of rows r) 0 {n = i} (simp length-take (omega arith)))

  -- the numbers of a row and of those behind it
  row_and : (k r : ℕ)
      → numbers_of rows r ++ take (columns * k) (drop (columns * suc r) rows) ≡ take (columns * suc k) (drop (columns * r) rows)
  row_and k r =
      ap (λ (n : ℕ). numbers_of rows r ++ take (columns * k) (drop n rows)) (more r)
      ∙ ap (λ (l : List ℕ). numbers_of rows r ++ take (columns * k) l) (sym (drop-drop columns (columns * r) rows))
      ∙ sym (take-add columns (columns * k) (drop (columns * r) rows))
      ∙ ap (λ (n : ℕ). take n (drop (columns * r) rows)) (plus k)
    where
      more : (r : ℕ) → columns * suc r ≡ columns * r + columns
      more r = omega arith

      plus : (k : ℕ) → columns + columns * k ≡ columns * suc k
      plus k = omega arith

  rows-spelled : (k r left : ℕ) {s : List ℕ} → k ≤ left → r + k < 2 ^ 64 → columns * (r + k) ≤ length rows
      → Spells (row_records rows (up r k)) s
      → records left r s ≡ sheet (r + k) (take (columns * k) (drop (columns * r) rows))
  unfolding up
  rows-spelled zero r left l b e over = at-end left r [] refl ∙ ap (λ (n : ℕ). sheet n []) (sym (add-zero r))
  rows-spelled (suc k) r zero l b e q = absurd (omega arith)
  rows-spelled (suc k) r (suc left) {s} l b e q =
      let c = cut (row_fields rows r) (row_records rows (up (suc r) k)) q in
      one_record left r s (row-long rows r (omega arith) c)
      ∙ ap (λ (y : List ℕ). follow (record_of r y) (bad (suc r)) (λ u. records left (suc r) u)) c.is
      ∙ ap (λ (y : Found (List ℕ)). follow y (bad (suc r)) (λ u. records left (suc r) u)) (record_spelled r (numbers_of rows r) c.mark c.rest (omega arith) (row_small r) (row-length rows r (omega arith)) c.here c.stops c.past)
      ∙ ap (with (numbers_of rows r)) (rows-spelled k (suc r) left (omega arith) (omega arith) (omega arith) c.there)
      ∙ ap (λ (n : ℕ). sheet n (numbers_of rows r ++ take (columns * k) (drop (columns * suc r) rows))) (move r k)
      ∙ ap (sheet (r + suc k)) (row_and k r)
    where
      move : (r k : ℕ) → suc r + k ≡ r + suc k
      move r k = omega arith

-- rows enough for the root and each site, of numbers of 64 bits
pub record Given (rows : List ℕ) (count : ℕ) : Type 0 where
  pub few : count ≤ 255
  pub enough : columns * (count + 1) ≤ length rows
  pub small : Small rows

-- every text that spells a sheet's records is good, and holds the rows
pub spelled_is_good : (rows : List ℕ) (count : ℕ) {s : List ℕ} → Given rows count → Spells (sheet_records rows count) s
    → sheet_of s ≡ sheet (count + 1) (take (columns * (count + 1)) rows)
unfolding sheet_of up
spelled_is_good rows count {s} g q =
    let n = count + 1 in
    let c = cut names (row_records rows (first n)) q in
    ap (λ (y : List ℕ). after_header (header y)) c.is
    ∙ ap after_header (header-spelled c.mark c.rest c.here c.stops c.past)
    ∙ ended_no c.rest (bad 1) (records 256 0 c.rest) (some c.rest (up_is c.there))
    ∙ rows-spelled rows g.small n 0 256 (omega (arith, g.few)) (omega (arith, g.few)) (omega (arith, g.enough)) (up_is c.there)
    ∙ ap (λ (m : ℕ). sheet m (take (columns * n) rows)) (zero-add n)
  where
    up_is : {x : List ℕ} → Spells (row_records rows (first (count + 1))) x → Spells (row_records rows (up 0 (count + 1))) x
    up_is {x} k = subst (λ (l : List ℕ). Spells (row_records rows l) x) (first-up (count + 1)) k

    some : (x : List ℕ) → Spells (row_records rows (up 0 (count + 1))) x → 0 < length x
    some x k =
        row-long rows 0 (omega arith)
        (cut (row_fields rows 0) (row_records rows (up 1 count))
        (subst (λ (n : ℕ). Spells (row_records rows (up 0 n)) x) (add-one count) k))
