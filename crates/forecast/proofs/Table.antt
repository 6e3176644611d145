-- The factor of every row: a table of 256 numbers, an entry at a time; and what stands in it.
use mathlib.Core.Path.{◌≡◌, refl, sym, ◌∙◌, ap}
use mathlib.Core.Bool.{Bool, cond}
use mathlib.Core.List.{List, [], ◌∷◌}
use Prim.Native.Nat.{ℕ, zero, suc, ◌+◌, ◌<◌, ◌≤◌}
use native.Mathlib.Omega.{arith}
use lib.ListN.{length, get_or, set, replicate, drop, drop_of_length-le}
use lib.Seq.{drop-cons}
use borrow.Author.Tests.{eq-eqb, ne_eqb}
use Rattle.forecast.specs.declared.Entry.{Entry}
use Rattle.forecast.specs.ByRow.{row_factor}
use Rattle.forecast.specs.Factors.{numbers, factor_table}

numbers-same : (f g : ℕ → ℕ) (n r : ℕ) → ((k : ℕ) → r ≤ k → k < r + n → f k ≡ g k) → numbers f r n ≡ numbers g r n
numbers-same f g zero r same = refl
numbers-same f g (suc n) r same =
    ap (λ (k : ℕ). k ∷ numbers f (suc r) n) (same r (omega arith) (omega arith))
    ∙ ap (λ (l : List ℕ). g r ∷ l) (numbers-same f g n (suc r) (λ k l m. same k (omega arith) (omega arith)))

-- a number set in a table of numbers
pub numbers-set : (f g : ℕ → ℕ) (n r j : ℕ) → j < n → ((k : ℕ) → (k ≡ r + j → ⊥) → g k ≡ f k) → set (numbers f r n) j (g (r + j)) ≡ numbers g r n
numbers-set f g zero r j h same = absurd (omega arith)
numbers-set f g (suc n) r zero h same =
    let e : r + 0 ≡ r = omega arith in
    ap (λ (k : ℕ). g k ∷ numbers f (suc r) n) e ∙ ap (λ (l : List ℕ). g r ∷ l) (numbers-same f g n (suc r) (λ k l m. sym (same k (λ q. omega arith))))
numbers-set f g (suc n) r (suc j) h same =
    let e : r + suc j ≡ suc r + j = omega arith in
    ap (λ (k : ℕ). f r ∷ set (numbers f (suc r) n) j (g k)) e
    ∙ ap (λ (k : ℕ). k ∷ set (numbers f (suc r) n) j (g (suc r + j))) (sym (same r (λ q. omega arith)))
    ∙ ap (λ (l : List ℕ). g r ∷ l) (numbers-set f g n (suc r) j (omega arith) (λ k q. same k (λ z. q (omega arith))))

-- what the first entries say of every row, with one entry more in front
pub table_in : (e : Entry) (es : List Entry) → e.row < 256 → set (factor_table es) e.row e.factor ≡ factor_table (e ∷ es)
unfolding factor_table
table_in e es h =
    let here : row_factor (e ∷ es) (0 + e.row) ≡ e.factor = ap (λ (b : Bool). cond b e.factor (row_factor es (0 + e.row))) (eq-eqb (0 + e.row) e.row (omega arith)) in
    ap (λ (v : ℕ). set (factor_table es) e.row v) (sym here)
    ∙ numbers-set (row_factor es) (row_factor (e ∷ es)) 256 0 e.row h (λ k q. ap (λ (b : Bool). cond b e.factor (row_factor es k)) (ne_eqb k e.row (λ z. q (omega arith))))

pub table-out : (e : Entry) (es : List Entry) → 256 ≤ e.row → factor_table es ≡ factor_table (e ∷ es)
unfolding factor_table
table-out e es h = numbers-same (row_factor es) (row_factor (e ∷ es)) 256 0 (λ k l m. sym (ap (λ (b : Bool). cond b e.factor (row_factor es k)) (ne_eqb k e.row (λ z. omega arith))))

pub table_none : replicate 256 1 ≡ factor_table []
unfolding factor_table
table_none = refl

-- Entry by entry, from the last one on: none so far, and with one more in front.

pub table-start : (es : List Entry) → replicate 256 1 ≡ factor_table (drop (length es) es)
table-start es = table_none ∙ ap factor_table (sym (drop_of_length-le es (omega arith)))

module _ (es : List Entry) (i n : ℕ) (x : Entry) (t : List ℕ) (next : suc i ≡ n) (inside : i < length es) (is : x ≡ get_or es i x) (so : t ≡ factor_table (drop n es)) where
  front : drop i es ≡ x ∷ drop n es
  front = drop-cons es i x inside ∙ ap (λ (y : Entry). y ∷ drop (suc i) es) (sym is) ∙ ap (λ (k : ℕ). x ∷ drop k es) next

  pub table_back : x.row < 256 → set t x.row x.factor ≡ factor_table (drop i es)
  table_back h = ap (λ (u : List ℕ). set u x.row x.factor) so ∙ table_in x (drop n es) h ∙ ap factor_table (sym front)

  pub table-passed : 256 ≤ x.row → t ≡ factor_table (drop i es)
  table-passed h = so ∙ table-out x (drop n es) h ∙ ap factor_table (sym front)

-- ── what stands in it ──

numbers-at : (f : ℕ → ℕ) (n r j d : ℕ) → j < n → get_or (numbers f r n) j d ≡ f (r + j)
numbers-at f zero r j d h = absurd (omega arith)
numbers-at f (suc n) r zero d h = let e : r ≡ r + 0 = omega arith in ap f e
numbers-at f (suc n) r (suc j) d h = let e : suc r + j ≡ r + suc j = omega arith in numbers-at f n (suc r) j d (omega arith) ∙ ap f e

numbers-length : (f : ℕ → ℕ) (n r : ℕ) → length (numbers f r n) ≡ n
numbers-length f zero r = refl
numbers-length f (suc n) r = ap suc (numbers-length f n (suc r))

-- LAW: number r of the table is the factor of row r
pub table_at : (es : List Entry) (r d : ℕ) → r < 256 → get_or (factor_table es) r d ≡ row_factor es r
unfolding factor_table
table_at es r d h = let e : 0 + r ≡ r = omega arith in numbers-at (row_factor es) 256 0 r d h ∙ ap (row_factor es) e

pub table-length : (es : List Entry) → length (factor_table es) ≡ 256
unfolding factor_table
table-length es = numbers-length (row_factor es) 256 0
