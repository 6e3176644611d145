-- Every good text spells the records of the rows that it reads as: its fields are those of the writer's text, each
-- bare or in quotes, and only the last line end may lack. Assumes nothing.
use Prim.{Unit, tt}
use Prim.Native.Nat.{ℕ, zero, suc, ◌+◌, ◌*◌, ◌-◌}
use mathlib.Core.Bool.{Bool, true, false, cond, ◌&&◌}
use mathlib.Core.List.{List, [], ◌∷◌, ◌++◌, append_assoc, append-nil, map}
use mathlib.Core.Logic.{◌⊎◌, inl, inr}
use mathlib.Core.Path.{◌≡◌, refl, ap, ◌∙◌, sym, subst}
use native.Mathlib.Nat.{zero-add}
use native.Mathlib.Omega.{arith}
use borrow.Author.Tests.{eqb-true}
use lib.Dec.{eqb}
use lib.ListN.{length, take, drop, take-append-drop}
use lib.Seq.{drop-drop, take_at, drop_at}
use Rattle.digits.specs.Decimal.{is_number, number, decimal}
use Rattle.digits.proofs.Laws.{and_left, and_right}
use Rattle.digits.proofs.Figures.{number-decimal}
use Rattle.trace.specs.Rows.{columns}
use Rattle.report.specs.Rows.{numbers_of}
use Rattle.report.specs.Report.{first}
use Rattle.sheet.specs.Text.{comma, quote, cr, lf, line_ends, row_name, column_names, names, row_records, sheet_records}
use Rattle.sheet.specs.Found.{Found, none, found, then}
use Rattle.sheet.specs.Grammar.{before, ends_bare, ends_quoted, closing, quoted, bare, field, separator, line_end, same, name, next_names, numeral, next_numerals, header, sheet, bad, ended, records, after_header, sheet_of}
use Rattle.sheet.specs.Spelling.{Field, as_is, in_quotes, Fields, nil, next, begin, Spells, over, lacks, ends}
use Rattle.sheet.proofs.Apart.{first_of, none_of, record_of_lem, record_length, Records, over_rows, more_rows, records-of, records-count, records-some, at-end}
use Rattle.sheet.proofs.Spelled.{up, first-up}

-- a field at the front of a text, as it is written there
record Front (t s u : List ℕ) : Type 0 where
  text : List ℕ
  spelled : Field t text
  is : s ≡ text ++ u

-- behind an opening quote: what stands where the first quote is looked for is one
closing-is : (t w c u : List ℕ) → closing t w ≡ found c u → (t ≡ c) × (q : ℕ) × (w ≡ q ∷ u)
closing-is t [] c u e = absurd (let z : ◌≡◌ {A = ℕ} 0 1 = cc in omega arith)
closing-is t (q ∷ w) c u e = (let i : t ≡ c = cc in i, q, ap (λ (l : List ℕ). q ∷ l) (let i : w ≡ u = cc in i))

first-quote : (s : List ℕ) (q : ℕ) (u : List ℕ) → drop (before ends_quoted s) s ≡ q ∷ u → q ≡ quote
first-quote [] q u e = absurd (let z : ◌≡◌ {A = ℕ} 0 1 = cc in omega arith)
first-quote (c ∷ s) q u e = go (eqb c quote) refl (λ h. first-quote s q u h) e
  where
    go : (b : Bool) → eqb c quote ≡ b → (drop (before ends_quoted s) s ≡ q ∷ u → q ≡ quote)
        → drop (cond b 0 (suc (before ends_quoted s))) (c ∷ s) ≡ q ∷ u → q ≡ quote
    go true h k j = (let i : q ≡ c = cc in i) ∙ eqb-true c quote h
    go false h k j = k j

quoted-front : (s c u : List ℕ) → quoted s ≡ found c u → Front c (quote ∷ s) u
quoted-front s c u e =
    let k = closing-is (take (before ends_quoted s) s) (drop (before ends_quoted s) s) c u e in
    let q = first-quote s k.1 u k.2 in
    record {
      text = quote ∷ (c ++ quote ∷ []);
      spelled = in_quotes;
      is =
          ap (λ (l : List ℕ). quote ∷ l)
          (sym (take-append-drop (before ends_quoted s) s)
          ∙ ap (λ (l : List ℕ). l ++ drop (before ends_quoted s) s) k.0
          ∙ ap (λ (l : List ℕ). c ++ l) (k.2 ∙ ap (λ (n : ℕ). n ∷ u) q)
          ∙ sym (append_assoc c (quote ∷ []) u));
    }

bare-front : (s c u : List ℕ) → bare s ≡ found c u → Front c s u
bare-front s c u e =
    let a : take (before ends_bare s) s ≡ c = cc in
    let b : drop (before ends_bare s) s ≡ u = cc in
    record {
      text = c;
      spelled = as_is;
      is =
          sym (take-append-drop (before ends_bare s) s)
          ∙ ap (λ (l : List ℕ). l ++ drop (before ends_bare s) s) a
          ∙ ap (λ (l : List ℕ). c ++ l) b;
    }

field-front : (s c u : List ℕ) → field s ≡ found c u → Front c s u
unfolding field
field-front [] c u e =
    let a : [] ≡ c = cc in
    let b : [] ≡ u = cc in
    record { text = c; spelled = as_is; is = ap (λ (l : List ℕ). l ++ []) a ∙ ap (λ (l : List ℕ). c ++ l) b }
field-front (d ∷ s) c u e = go (eqb d quote) refl e
  where
    go : (b : Bool) → eqb d quote ≡ b → cond b (quoted s) (bare (d ∷ s)) ≡ found c u → Front c (d ∷ s) u
    go true h k = subst (λ (n : ℕ). Front c (n ∷ s) u) (sym (eqb-true d quote h)) (quoted-front s c u k)
    go false h k = bare-front (d ∷ s) c u k

-- two texts are the same where the test says so
same-is : (s t : List ℕ) → same s t ≡ true → s ≡ t
same-is [] [] e = refl
same-is [] (d ∷ t) e = absurd (let z : ◌≡◌ {A = ℕ} 0 1 = cc in omega arith)
same-is (c ∷ s) [] e = absurd (let z : ◌≡◌ {A = ℕ} 0 1 = cc in omega arith)
same-is (c ∷ s) (d ∷ t) e =
    let f : c ≡ d = eqb-true c d (and_left (eqb c d) (same s t) e) in
    let g : s ≡ t = same-is s t (and_right (eqb c d) (same s t) e) in
    cc

-- a number's field, and a name's
numeral-front : (s : List ℕ) (x : ℕ) (u : List ℕ) → numeral s ≡ found x u → Front (decimal x) s u
numeral-front s x u e = go (field s) refl e
  where
    last : (c w : List ℕ) (b : Bool) → field s ≡ found c w → is_number c ≡ b → cond b (found (number c) w) none ≡ found x u
        → Front (decimal x) s u
    last c w true h k j =
        let a : number c ≡ x = cc in
        let b : w ≡ u = cc in
        subst (λ (t : List ℕ). Front t s u) (sym (number-decimal c k) ∙ ap decimal a) (subst (λ (y : List ℕ). Front c s y) b (field-front s c w h))
    last c w false h k j = absurd (let z : ◌≡◌ {A = ℕ} 0 1 = cc in omega arith)

    go : (y : Found (List ℕ)) → field s ≡ y → then y (λ t u. cond (is_number t) (found (number t) u) none) ≡ found x u
        → Front (decimal x) s u
    go none h k = absurd (let z : ◌≡◌ {A = ℕ} 0 1 = cc in omega arith)
    go (found c w) h k = last c w (is_number c) h refl k

name-front : (n s u : List ℕ) → name n s ≡ found tt u → Front n s u
name-front n s u e = go (field s) refl e
  where
    last : (c w : List ℕ) (b : Bool) → field s ≡ found c w → same c n ≡ b
        → ◌≡◌ {A = Found Unit} (cond b (found tt w) none) (found tt u) → Front n s u
    last c w true h k j =
        let b : w ≡ u = cc in
        subst (λ (t : List ℕ). Front t s u) (same-is c n k) (subst (λ (y : List ℕ). Front c s y) b (field-front s c w h))
    last c w false h k j = absurd (let z : ◌≡◌ {A = ℕ} 0 1 = cc in omega arith)

    go : (y : Found (List ℕ)) → field s ≡ y
        → ◌≡◌ {A = Found Unit} (then y (λ t u. cond (same t n) (found tt u) none)) (found tt u) → Front n s u
    go none h k = absurd (let z : ◌≡◌ {A = ℕ} 0 1 = cc in omega arith)
    go (found c w) h k = last c w (same c n) h refl k

-- a comma is a comma
comma-is : (s u : List ℕ) → separator s ≡ found tt u → s ≡ comma ∷ u
unfolding separator
comma-is [] u e = absurd (let z : ◌≡◌ {A = ℕ} 0 1 = cc in omega arith)
comma-is (c ∷ s) u e = go (eqb c comma) refl e
  where
    go : (b : Bool) → eqb c comma ≡ b → ◌≡◌ {A = Found Unit} (cond b (found tt s) none) (found tt u) → c ∷ s ≡ comma ∷ u
    go true h k = ap (λ (n : ℕ). n ∷ s) (eqb-true c comma h) ∙ ap (λ (l : List ℕ). comma ∷ l) (let i : s ≡ u = cc in i)
    go false h k = absurd (let z : ◌≡◌ {A = ℕ} 0 1 = cc in omega arith)

-- what stands behind a comma
behind-comma : {A : Type 0} (f : List ℕ → Found A) (s : List ℕ) (a : A) (u : List ℕ)
    → then (separator s) (λ _ w. f w) ≡ found a u → (w : List ℕ) × (s ≡ comma ∷ w) × (f w ≡ found a u)
behind-comma f s a u e = go (separator s) refl e
  where
    go : (y : Found Unit) → separator s ≡ y → then y (λ _ w. f w) ≡ found a u → (w : List ℕ) × (s ≡ comma ∷ w) × (f w ≡ found a u)
    go none h k = absurd (let z : ◌≡◌ {A = ℕ} 0 1 = cc in omega arith)
    go (found tt w) h k = (w, comma-is s w h, k)

-- a line end is CR LF, or lacks at the end of the text
end_is : (s u : List ℕ) → line_end s ≡ found tt u → (s ≡ line_ends ++ u) ⊎ ((s ≡ []) × (u ≡ []))
unfolding line_end
end_is [] u e = inr (refl, let a : u ≡ [] = cc in a)
end_is (c ∷ []) u e = absurd (let z : ◌≡◌ {A = ℕ} 0 1 = cc in omega arith)
end_is (c ∷ d ∷ s) u e = go (eqb c cr) (eqb d lf) refl refl e
  where
    go : (a b : Bool) → eqb c cr ≡ a → eqb d lf ≡ b → ◌≡◌ {A = Found Unit} (cond (a && b) (found tt s) none) (found tt u)
        → (c ∷ d ∷ s ≡ line_ends ++ u) ⊎ ((c ∷ d ∷ s ≡ []) × (u ≡ []))
    go true true h k j =
        let i : s ≡ u = cc in
        inl (ap (λ (n : ℕ). n ∷ d ∷ s) (eqb-true c cr h) ∙ ap (λ (n : ℕ). cr ∷ n ∷ s) (eqb-true d lf k) ∙ ap (λ (l : List ℕ). line_ends ++ l) i)
    go true false h k j = absurd (let z : ◌≡◌ {A = ℕ} 0 1 = cc in omega arith)
    go false b h k j = absurd (let z : ◌≡◌ {A = ℕ} 0 1 = cc in omega arith)

-- fields behind commas, then a line end
record Line (ts : List (List ℕ)) (s u : List ℕ) : Type 0 where
  text : List ℕ
  mark : List ℕ
  spelled : Fields ts text
  past : line_end mark ≡ found tt u
  is : s ≡ text ++ mark

-- one more in front
line-more : {t : List ℕ} {ts : List (List ℕ)} {s w x u : List ℕ} → s ≡ comma ∷ w → Front t w x → Line ts x u → Line (t ∷ ts) s u
line-more {s = s} e f l =
    record {
      text = comma ∷ (f.text ++ l.text);
      mark = l.mark;
      spelled = next f.spelled l.spelled;
      past = l.past;
      is =
          e
          ∙ ap (λ (y : List ℕ). comma ∷ y)
          (f.is ∙ ap (λ (y : List ℕ). f.text ++ y) l.is ∙ sym (append_assoc f.text l.text l.mark));
    }

numerals_line : (m : ℕ) (s numbers u : List ℕ) → next_numerals m s ≡ found numbers u → Line (map decimal numbers) s u
numerals_line zero s numbers u e =
    let a = none_of s numbers u e in
    subst (λ (l : List ℕ). Line (map decimal l) s u) (sym a.0) (record { text = []; mark = s; spelled = nil; past = a.1; is = refl })
numerals_line (suc m) s numbers u e =
    let a = first_of m s numbers u e in
    let (w, c, f) = behind-comma numeral s a.value a.behind a.here in
    subst (λ (l : List ℕ). Line (map decimal l) s u) (sym a.all) (line-more c (numeral-front w a.value a.behind f) (numerals_line m a.behind a.others u a.there))

names-line : (ns : List (List ℕ)) (s u : List ℕ) → next_names ns s ≡ found tt u → Line ns s u
names-line [] s u e = record { text = []; mark = s; spelled = nil; past = e; is = refl }
names-line (n ∷ ns) s u e = go (separator s) refl e (λ x h. names-line ns x u h)
  where
    second : (w : List ℕ) (y : Found Unit) → s ≡ comma ∷ w → name n w ≡ y
        → ◌≡◌ {A = Found Unit} (then y (λ _ x. next_names ns x)) (found tt u)
        → ((x : List ℕ) → next_names ns x ≡ found tt u → Line ns x u) → Line (n ∷ ns) s u
    second w none h k j g = absurd (let z : ◌≡◌ {A = ℕ} 0 1 = cc in omega arith)
    second w (found tt x) h k j g = line-more h (name-front n w x k) (g x j)

    go : (y : Found Unit) → separator s ≡ y
        → ◌≡◌ {A = Found Unit} (then (then y (λ _ w. name n w)) (λ _ x. next_names ns x)) (found tt u)
        → ((x : List ℕ) → next_names ns x ≡ found tt u → Line ns x u) → Line (n ∷ ns) s u
    go none h k g = absurd (let z : ◌≡◌ {A = ℕ} 0 1 = cc in omega arith)
    go (found tt w) h k g = second w (name n w) (comma-is s w h) refl k g

-- a record and its line end, and what is spelled behind it
spells_more : {t : List ℕ} {ts : List (List ℕ)} {rs : List (List (List ℕ))} {s x u : List ℕ} → Front t s x → Line ts x u
    → Spells rs u → (u ≡ [] → rs ≡ []) → Spells ((t ∷ ts) ∷ rs) s
spells_more {t} {ts} {rs} {s} {x} {u} f l q z = go (end_is l.mark u l.past)
  where
    all : s ≡ (f.text ++ l.text) ++ l.mark
    all = f.is ∙ ap (λ (y : List ℕ). f.text ++ y) l.is ∙ sym (append_assoc f.text l.text l.mark)

    go : (l.mark ≡ line_ends ++ u) ⊎ ((l.mark ≡ []) × (u ≡ [])) → Spells ((t ∷ ts) ∷ rs) s
    go (inl e) =
        subst (λ (y : List ℕ). Spells ((t ∷ ts) ∷ rs) y) (sym (all ∙ ap (λ (y : List ℕ). (f.text ++ l.text) ++ y) e)) (ends (begin f.spelled l.spelled) q)
    go (inr (e, n)) =
        subst (λ (y : List ℕ). Spells ((t ∷ ts) ∷ rs) y) (sym (all ∙ ap (λ (y : List ℕ). (f.text ++ l.text) ++ y) e ∙ append-nil (f.text ++ l.text)))
        (subst (λ (k : List (List (List ℕ))). Spells ((t ∷ ts) ∷ k) (f.text ++ l.text)) (sym (z n)) (lacks (begin f.spelled l.spelled)))

-- the records of rows
module _ (all : List ℕ) where
  none_left : (m r k : ℕ) (x ws : List ℕ) → x ≡ [] → records m r x ≡ sheet (r + k) ws → row_records all (up r k) ≡ []
  unfolding up
  none_left m r zero x ws z e = refl
  none_left m r (suc k) x ws z e =
      absurd
      (let f : sheet r [] ≡ sheet (r + suc k) ws = sym (at-end m r x (ap length z)) ∙ e in
      let n : r ≡ r + suc k = cc in
      omega arith)

  rows-here : (left r k : ℕ) (w others : List ℕ) → Records left r w (r + k) others → drop (columns * r) all ≡ others
      → ((m j : ℕ) (x ws : List ℕ) → left ≡ suc m → records m (suc r) x ≡ sheet (suc r + j) ws → drop (columns * suc r) all ≡ ws → Spells (row_records all (up (suc r) j)) x)
      → Spells (row_records all (up r k)) w
  unfolding up
  rows-here left r zero w others (over_rows d e f) g v = subst (λ (x : List ℕ). Spells [] x) (sym d) over
  rows-here left r (suc k) w others (over_rows d e f) g v = absurd (omega arith)
  rows-here left r zero w others (more_rows m h s) g v =
      absurd (omega (arith, (records-count m (suc r) s.behind (r + 0) s.others s.there).least))
  rows-here left r (suc k) w others (more_rows m h s) g v =
      let l = record_length r w s.these s.behind s.here in
      let e : records m (suc r) s.behind ≡ sheet (suc r + k) s.others = s.there ∙ ap (λ (n : ℕ). sheet n s.others) (move r k) in
      let i : drop (columns * suc r) all ≡ s.others =
      ap (λ (n : ℕ). drop n all) (more r)
      ∙ sym (drop-drop columns (columns * r) all)
      ∙ ap (drop columns) (g ∙ s.all)
      ∙ drop_at s.these s.others columns l
      in
      let j : s.these ≡ numbers_of all r = sym (ap (take columns) (g ∙ s.all) ∙ take_at s.these s.others columns l) in
      let (x, a, b) = record_of_lem r w s.these s.behind s.here in
      subst (λ (y : List ℕ). Spells ((decimal r ∷ map decimal y) ∷ row_records all (up (suc r) k)) w) j
      (spells_more (numeral-front w r x a) (numerals_line columns x s.these s.behind b) (v m k s.behind s.others h e i) (λ z. none_left m (suc r) k s.behind s.others z e))
    where
      move : (r k : ℕ) → r + suc k ≡ suc r + k
      move r k = omega arith

      more : (r : ℕ) → columns * suc r ≡ columns * r + columns
      more r = omega arith

  rows_spell : (left r k : ℕ) (w others : List ℕ) → records left r w ≡ sheet (r + k) others → drop (columns * r) all ≡ others
      → Spells (row_records all (up r k)) w
  rows_spell zero r k w others e g =
      rows-here zero r k w others (records-of zero r w (r + k) others e) g (λ m j x ws z h i. absurd (omega arith))
  rows_spell (suc l) r k w others e g =
      rows-here (suc l) r k w others (records-of (suc l) r w (r + k) others e) g
      (λ m j x ws z h i. rows_spell l (suc r) j x ws (ap (λ (n : ℕ). records n (suc r) x) (let q : l ≡ m = omega arith in q) ∙ h) i)

-- a good text spells the records of what it reads as
pub good_is_spelled : (s : List ℕ) (n : ℕ) (numbers : List ℕ) → sheet_of s ≡ sheet n numbers → Spells (sheet_records numbers (n - 1)) s
unfolding sheet_of header
good_is_spelled s n numbers e = go (header s) refl e
  where
    most : (u : List ℕ) (k : ℕ) → header s ≡ found tt u → (u ≡ [] → ⊥) → n ≡ suc k → records 256 0 u ≡ sheet n numbers
        → Spells (names ∷ row_records numbers (first (n - 1 + 1))) s
    most u k h z a j =
        subst (λ (l : List ℕ). Spells (names ∷ row_records numbers l) s) (sym (first-up n) ∙ ap first (one a))
        (top (name row_name s) refl h)
      where
        one : n ≡ suc k → n ≡ n - 1 + 1
        one a = omega arith

        rows : Spells (row_records numbers (up 0 n)) u
        rows = rows_spell numbers 256 0 n u numbers (j ∙ ap (λ (i : ℕ). sheet i numbers) (sym (zero-add n))) refl

        top : (y : Found Unit) → name row_name s ≡ y
            → ◌≡◌ {A = Found Unit} (then y (λ _ x. next_names column_names x)) (found tt u)
            → Spells (names ∷ row_records numbers (up 0 n)) s
        top none b c = absurd (let z : ◌≡◌ {A = ℕ} 0 1 = cc in omega arith)
        top (found tt w) b c = spells_more (name-front row_name s w b) (names-line column_names w u c) rows (λ d. absurd (z d))

    cases : (u : List ℕ) (k : ℕ) → header s ≡ found tt u → n ≡ k → ended u (bad 1) (records 256 0 u) ≡ sheet n numbers
        → Spells (names ∷ row_records numbers (first (n - 1 + 1))) s
    cases [] k h a j = absurd (let z : ◌≡◌ {A = ℕ} 0 1 = cc in omega arith)
    cases (c ∷ u) zero h a j = absurd (omega (arith, records-some 256 0 (c ∷ u) n numbers (omega arith) j))
    cases (c ∷ u) (suc k) h a j = most (c ∷ u) k h (λ b. let z : ◌≡◌ {A = ℕ} 0 1 = cc in omega arith) a j

    go : (y : Found Unit) → header s ≡ y → after_header y ≡ sheet n numbers → Spells (names ∷ row_records numbers (first (n - 1 + 1))) s
    go none h k = absurd (let z : ◌≡◌ {A = ℕ} 0 1 = cc in omega arith)
    go (found tt u) h k = cases u n h refl k
