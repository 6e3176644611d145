-- What a reader of the report may rely on: its lines are those of the full report whose rows are printed; row numbers
-- ascend; each line says its row's numbers; and a row that is left out has no calls. Assumes nothing.
use Prim.Native.Nat.{ℕ, zero, suc, ◌+◌, ◌≤◌, ◌<◌}
use mathlib.Core.Bool.{Bool, true, false, cond}
use mathlib.Core.List.{List, [], ◌∷◌, ◌++◌, append-nil}
use mathlib.Core.Logic.{◌⊎◌, inl, inr}
use mathlib.Core.Path.{◌≡◌, refl, ap, ◌∙◌, sym, subst}
use native.Mathlib.Nat.{eq-or-lt_of_le, le_of_suc-le-suc}
use native.Mathlib.Omega.{arith}
use borrow.Author.Tests.{ltb-false, lt-ltb}
use lib.ListN.{length, get_or, length-append, get_or-append}
use lib.Seq.{get_or_at}
use Rattle.trace.specs.Rows.{columns}
use Rattle.trace.specs.Column.{Column, nth, slot}
use Rattle.trace.proofs.Basics.{no_way}
use Rattle.trace.proofs.Slots.{nth_in}
use Rattle.report.specs.Rows.{numbers_of, row_line, width}
use Rattle.report.specs.Report.{first, lines_of, full_text, is_printed, picked, printed, text}
use Rattle.report.proofs.Pieces.{Even, piece-at}
use Rattle.report.proofs.Lines.{row-length, column-at, line-length}
use Rattle.report.proofs.Choice.{picked_last, calls-asked}
use Rattle.report.proofs.ReadBack.{line_at, row_in, number_in, row_in_lem, number_in_lem, Rows, line_is}

-- l is the numbers below n that p picks: each is one, they ascend, and none is missing
pub record Picks (p : ℕ → Bool) (n : ℕ) (l : List ℕ) : Type 0 where
  pub below : (k : ℕ) → k < length l → get_or l k 0 < n
  pub fit : (k : ℕ) → k < length l → p (get_or l k 0) ≡ true
  pub ascend : (k : ℕ) → k + 1 < length l → get_or l k 0 < get_or l (k + 1) 0
  pub whole : (r : ℕ) → r < n → p r ≡ true → (k : ℕ) × (k < length l) × (get_or l k 0 ≡ r)

picks_skip : (p : ℕ → Bool) (n : ℕ) (l : List ℕ) → p n ≡ false → Picks p n l → Picks p (suc n) l
picks_skip p n l e h =
    record {
      below = λ k b. let z = h.below k b in omega arith;
      fit = h.fit;
      ascend = h.ascend;
      whole = λ r b q. go r q (eq-or-lt_of_le (le_of_suc-le-suc b));
    }
  where
    go : (r : ℕ) → p r ≡ true → (r ≡ n) ⊎ (r < n) → (k : ℕ) × (k < length l) × (get_or l k 0 ≡ r)
    go r q (inl f) = no_way (sym e ∙ ap p (sym f) ∙ q)
    go r q (inr f) = h.whole r f q

picks_take : (p : ℕ → Bool) (n : ℕ) (l : List ℕ) → p n ≡ true → Picks p n l → Picks p (suc n) (l ++ n ∷ [])
picks_take p n l e h =
    record {
      below = λ k b. by k b (λ m. m < suc n) (λ f. let z = h.below k f in omega arith) (omega arith);
      fit = λ k b. by k b (λ m. p m ≡ true) (h.fit k) e;
      ascend = λ k b. next k b (eq-or-lt_of_le (le_of_suc-le-suc (above k b)));
      whole = λ r b q. at r q (eq-or-lt_of_le (le_of_suc-le-suc b));
    }
  where
    long : length (l ++ n ∷ []) ≡ length l + 1
    long = length-append l (n ∷ [])

    old : (k : ℕ) → k < length l → get_or (l ++ n ∷ []) k 0 ≡ get_or l k 0
    old k f = get_or-append l (n ∷ []) 0 k f

    last : (k : ℕ) → k ≡ length l → get_or (l ++ n ∷ []) k 0 ≡ n
    last k f = get_or_at l n [] 0 k (sym f)

    above : (k : ℕ) → k + 1 < length (l ++ n ∷ []) → k + 1 < suc (length l)
    above k b = omega (arith, long)

    case : (k : ℕ) → (k ≡ length l) ⊎ (k < length l) → (P : ℕ → Type 0) → (k < length l → P (get_or l k 0)) → P n → P (get_or (l ++ n ∷ []) k 0)
    case k (inl f) P x y = subst P (sym (last k f)) y
    case k (inr f) P x y = subst P (sym (old k f)) (x f)

    by : (k : ℕ) → k < length (l ++ n ∷ []) → (P : ℕ → Type 0) → (k < length l → P (get_or l k 0)) → P n → P (get_or (l ++ n ∷ []) k 0)
    by k b = case k (eq-or-lt_of_le (le_of_suc-le-suc (let z : k < suc (length l) = omega (arith, long) in z)))

    next : (k : ℕ) → k + 1 < length (l ++ n ∷ []) → (k + 1 ≡ length l) ⊎ (k + 1 < length l) → get_or (l ++ n ∷ []) k 0 < get_or (l ++ n ∷ []) (k + 1) 0
    next k b (inl f) = let z = h.below k (omega arith) in omega (arith, old k (omega arith), last (k + 1) f, z)
    next k b (inr f) = omega (arith, old k (omega arith), old (k + 1) f, h.ascend k f)

    at : (r : ℕ) → p r ≡ true → (r ≡ n) ⊎ (r < n) → (k : ℕ) × (k < length (l ++ n ∷ [])) × (get_or (l ++ n ∷ []) k 0 ≡ r)
    at r q (inl f) = (length l, omega (arith, long), last (length l) refl ∙ sym f)
    at r q (inr f) = let (k, b, g) = h.whole r f q in (k, omega (arith, long), old k b ∙ g)

pub picks : (p : ℕ → Bool) (n : ℕ) → Picks p n (picked p (first n))
picks p zero = record { below = λ k b. absurd (omega arith); fit = λ k b. absurd (omega arith); ascend = λ k b. absurd (omega arith); whole = λ r b q. absurd (omega arith) }
picks p (suc n) = subst (Picks p (suc n)) (sym (picked_last p (first n) n)) (go (p n) refl (picks p n))
  where
    go : (b : Bool) → p n ≡ b → Picks p n (picked p (first n)) → Picks p (suc n) (picked p (first n) ++ cond b (n ∷ []) [])
    go true e h = picks_take p n (picked p (first n)) e h
    go false e h = subst (Picks p (suc n)) (sym (append-nil (picked p (first n)))) (picks_skip p n (picked p (first n)) e h)

module _ (rows : List ℕ) (count : ℕ) (given : Rows rows count) where
  those : Picks (is_printed rows) (count + 1) (printed rows count)
  those = picks (is_printed rows) (count + 1)

  -- a line's characters for each row printed
  pub printed-even : Even (row_line rows) width (printed rows count)
  printed-even k h = line-length (get_or (printed rows count) k 0) _ (row-length rows (get_or (printed rows count) k 0) (omega (arith, those.below k h, given.enough)))

  -- line k is that of the row that is printed as number k
  pub printed-line : (k : ℕ) → k < length (printed rows count) → line_at (text rows count) k ≡ row_line rows (get_or (printed rows count) k 0)
  printed-line k h = ap (λ (s : List ℕ). line_at s k) (sym (append-nil (text rows count))) ∙ piece-at (row_line rows) width (printed rows count) [] k printed-even h

  -- each line of the report is a line of the full report: "each line as before"
  pub line_of_full : (k : ℕ) → k < length (printed rows count) → line_at (text rows count) k ≡ line_at (full_text rows count) (get_or (printed rows count) k 0)
  line_of_full k h = printed-line k h ∙ sym (line_is rows count given (get_or (printed rows count) k 0) (omega (arith, those.below k h)))

  module _ (few : count ≤ 255) where
    -- a line says its row, and row numbers ascend
    pub row_said : (k : ℕ) → k < length (printed rows count) → row_in (line_at (text rows count) k) ≡ get_or (printed rows count) k 0
    row_said k h = ap row_in (printed-line k h) ∙ row_in_lem (get_or (printed rows count) k 0) _ (omega (arith, those.below k h))

    pub rows-ascend : (k : ℕ) → k + 1 < length (printed rows count) → row_in (line_at (text rows count) k) < row_in (line_at (text rows count) (k + 1))
    rows-ascend k h = omega (arith, row_said k (omega arith), row_said (k + 1) h, those.ascend k h)

    -- and each number of that row
    pub numbers_said : (k : ℕ) (c : Column) → k < length (printed rows count) → number_in (line_at (text rows count) k) (nth c) ≡ get_or rows (slot (row_in (line_at (text rows count) k)) c) 0
    numbers_said k c h =
        let r = get_or (printed rows count) k 0 in
        let l : length (numbers_of rows r) ≡ columns = row-length rows r (omega (arith, those.below k h, given.enough)) in
        ap (λ (s : List ℕ). number_in s (nth c)) (printed-line k h)
        ∙ number_in_lem r (numbers_of rows r) (nth c) (rw l (nth_in c)) (rw (column-at rows r c) (given.small (slot r c)))
        ∙ column-at rows r c
        ∙ ap (λ (i : ℕ). get_or rows (slot i c) 0) (sym (row_said k h))

    -- a row that no line says is not the root's and has no calls
    pub left_out : (r : ℕ) → r ≤ count → ((k : ℕ) → k < length (printed rows count) → row_in (line_at (text rows count) k) ≡ r → ⊥) → (0 < r) × (get_or rows (slot r Column.calls) 0 ≡ 0)
    left_out r b none = go (is_printed rows r) refl
      where
        idle : (r : ℕ) → is_printed rows r ≡ false → (0 < r) × (get_or rows (slot r Column.calls) 0 ≡ 0)
        idle zero e = no_way (sym e)
        idle (suc r) e = (omega arith, let z = ltb-false 0 (get_or rows (slot (suc r) Column.calls) 0) (calls-asked false rows (suc r) refl (λ z. absurd (omega arith)) ∙ e) in omega arith)

        go : (t : Bool) → is_printed rows r ≡ t → (0 < r) × (get_or rows (slot r Column.calls) 0 ≡ 0)
        go true e = let (k, h, f) = those.whole r (omega arith) e in absurd (none k h (row_said k h ∙ f))
        go false e = idle r e

-- where every site was called the two reports are equal
pub all-called : (rows : List ℕ) (count : ℕ) → ((r : ℕ) → 0 < r → r ≤ count → 0 < get_or rows (slot r Column.calls) 0) → text rows count ≡ full_text rows count
all-called rows count h = ap (lines_of rows) (all (count + 1) (λ r b. is r (omega arith)))
  where
    is : (r : ℕ) → r ≤ count → is_printed rows r ≡ true
    is zero b = refl
    is (suc r) b = sym (calls-asked false rows (suc r) refl (λ z. absurd (omega arith))) ∙ lt-ltb 0 (get_or rows (slot (suc r) Column.calls) 0) (h (suc r) (omega arith) b)

    all : (n : ℕ) → ((r : ℕ) → r < n → is_printed rows r ≡ true) → picked (is_printed rows) (first n) ≡ first n
    all zero f = refl
    all (suc n) f = picked_last (is_printed rows) (first n) n ∙ ap (λ (b : Bool). picked (is_printed rows) (first n) ++ cond b (n ∷ []) []) (f n (omega arith)) ∙ ap (λ (l : List ℕ). l ++ n ∷ []) (all n (λ r b. f r (omega arith)))
