-- Rows that stand side by side, read and stored at once, and rows that are taken so.
use mathlib.Core.Path.{◌≡◌, refl, ap, ◌∙◌, sym}
use mathlib.Core.List.{List}
use Prim.Native.Nat.{ℕ, zero, suc, ◌+◌, ◌*◌, ◌/◌, ◌%◌, ◌-◌, ◌≤◌, ◌<◌}
use native.Mathlib.Omega.{arith}
use native.Mathlib.Decide.{dec_lt}
use lib.ListN.{length, get_or, set, replicate, length-set}
use Rattle.std.proofs.lemmas.List.{get_or-replicate}
use lib.Seq.{get_or-set_same, get_or-set_other}
use Rattle.tables.specs.declared.Pair.{Pair}
use Rattle.tables.specs.Walks.{Out, Apart, Taken, no_pair, pair_at, pair_sum, paired, of_pair, numbers, Laid, RowsAt, RowSums}

-- what holds at both places of a row
pub by_two : (P : ℕ → Type 0) → P 0 → P 1 → (k : ℕ) → k < 2 → P k
by_two P a b zero h = a
by_two P a b (suc zero) h = b
by_two P a b (suc (suc k)) h = absurd (omega arith)

-- some numbers and then more behind them
laid-two : {m p i : ℕ} {x y : ℕ → ℕ} {t t₁ t₂ : List ℕ} (z : ℕ → ℕ) → ((k : ℕ) → k < m → z k ≡ x k) → ((k : ℕ) → k < p → z (m + k) ≡ y k) → Laid m i x t t₁ → Laid p (i + m) y t₁ t₂ → Laid (m + p) i z t t₂
laid-two {m} {p} {i} {x} {y} {t} {t₁} {t₂} z first second a b =
    record {
      here = λ k l. go k l (dec_lt k m);
      off = λ j o. b.off j (λ u v. o (omega arith) (omega arith)) ∙ a.off j (λ u v. o (omega arith) (omega arith));
    }
  where
    go : (k : ℕ) → k < m + p → Dec (k < m) → get_or t₂ (i + k) 0 ≡ z k
    go k l (yes d) = b.off (i + k) (λ u v. omega arith) ∙ a.here k d ∙ sym (first k d)
    go k l (no d) =
        let e : i + k ≡ i + m + (k - m) = omega arith in
        let f : m + (k - m) ≡ k = omega arith in
        ap (λ (j : ℕ). get_or t₂ j 0) e ∙ b.here (k - m) (omega arith) ∙ sym (second (k - m) (omega arith)) ∙ ap z f

pub pair_laid : (t : List ℕ) (i : ℕ) (x : Pair) → i + 2 ≤ length t → Laid 2 i (of_pair x) t (paired t i x)
pair_laid t i x room =
    record {
      here = by_two (λ k. get_or (paired t i x) (i + k) 0 ≡ of_pair x k) first (get_or-set_same (set t i x.cycles.0) (i + 1) x.instructions.0 0 (simp length-set (omega arith)));
      off = λ j o. get_or-set_other (set t i x.cycles.0) (i + 1) j x.instructions.0 0 (λ q. o (omega arith) (omega arith)) ∙ get_or-set_other t i j x.cycles.0 0 (λ q. o (omega arith) (omega arith));
    }
  where
    first : get_or (paired t i x) (i + 0) 0 ≡ x.cycles.0
    first =
        let e : i + 0 ≡ i = omega arith in
        ap (λ (j : ℕ). get_or (paired t i x) j 0) e
        ∙ get_or-set_other (set t i x.cycles.0) (i + 1) i x.instructions.0 0 (λ q. omega arith)
        ∙ get_or-set_same t i x.cycles.0 0 (omega arith)

pair_is : (t : List ℕ) (i k : ℕ) → k < 2 → of_pair (pair_at t i) k ≡ get_or t (i + k) 0
pair_is t i = by_two (λ k. of_pair (pair_at t i) k ≡ get_or t (i + k) 0) (let e : i ≡ i + 0 = omega arith in ap (λ (j : ℕ). get_or t j 0) e) refl

-- the rows read from number i on are the numbers there
numbers_are : (t : List ℕ) (i n : ℕ) (x : List Pair) → RowsAt t i n x → (k : ℕ) → k < 2 * n → numbers x k ≡ get_or t (i + k) 0
numbers_are t i n x r k h =
    let e : i + 2 * (k / 2) + k % 2 ≡ i + k = omega arith in
    ap (λ (p : Pair). of_pair p (k % 2)) (r (k / 2) (omega arith)) ∙ pair_is t (i + 2 * (k / 2)) (k % 2) (omega arith) ∙ ap (λ (j : ℕ). get_or t j 0) e

-- those of rows that were added are sums
sums_are : (n : ℕ) (x y z : List Pair) → RowSums n x y z → (k : ℕ) → k < 2 * n → numbers z k ≡ numbers x k + numbers y k
sums_are n x y z r k h =
    ap (λ (p : Pair). of_pair p (k % 2)) (r (k / 2) (omega arith))
    ∙ by_two (λ j. of_pair (pair_sum (get_or x (k / 2) no_pair) (get_or y (k / 2) no_pair)) j ≡ of_pair (get_or x (k / 2) no_pair) j + of_pair (get_or y (k / 2) no_pair) j) refl refl (k % 2) (omega arith)

-- rows of no chain are zeros
nones_stored : (n : ℕ) {i : ℕ} (z : Pair) {t t' : List ℕ} → z ≡ no_pair → Laid (2 * n) i (numbers (replicate n z)) t t' → Laid (2 * n) i (λ k. 0) t t'
nones_stored n z e l = record { here = λ k h. l.here k h ∙ zeros k h; off = l.off }
  where
    zeros : (k : ℕ) → k < 2 * n → numbers (replicate n z) k ≡ 0
    zeros k h = rw (get_or-replicate n (k / 2) z no_pair (omega arith), e) (by_two (λ j. of_pair no_pair j ≡ 0) refl refl (k % 2) (omega arith))

-- m numbers from number from on of four blocks
module _ (m b e g from : ℕ) (t : List ℕ) (a : Apart (from + m) b e g t) where
  -- a number of a block, by its place among them
  at : (t : List ℕ) (c i : ℕ) → from ≤ i → get_or t (c + i) 0 ≡ get_or t (c + from + (i - from)) 0
  at t c i f = let z : c + i ≡ c + from + (i - from) = omega arith in ap (λ (j : ℕ). get_or t j 0) z

  own : (t : List ℕ) (i : ℕ) → from ≤ i → get_or t i 0 ≡ get_or t (from + (i - from)) 0
  own t i f = let z : i ≡ from + (i - from) = omega arith in ap (λ (j : ℕ). get_or t j 0) z

  -- the numbers of b and those of e
  b-off : (i : ℕ) → i < from + m → Out (e + from) m (b + i)
  b-off i h p q = a.b_e i (b + i - e) h (omega arith) (omega arith)

  -- the sums s are stored in the prefix's block, and y, what was in the block at g, in the block at e
  rows_taken : {u₁ u₂ u₃ u₄ : List ℕ} (s y : ℕ → ℕ) → ((k : ℕ) → k < m → s k ≡ get_or t (from + k) 0 + get_or t (b + from + k) 0) → ((k : ℕ) → k < m → y k ≡ get_or t (g + from + k) 0)
      → Laid m from s t u₁ → Laid m (b + from) (λ k. 0) u₁ u₂ → Laid m (e + from) y u₂ u₃ → Laid m (g + from) (λ k. 0) u₃ u₄ → Taken b e g (from + m) from (from + m) t u₄
  rows_taken {u₁} {u₂} {u₃} {u₄} s y sums moves l₁ l₂ l₃ l₄ =
      record {
        sums = λ i f h w.
            l₄.off i (λ p q. omega (arith, a.at_b, a.b_g))
            ∙ l₃.off i (λ p q. omega (arith, a.at_e))
            ∙ l₂.off i (λ p q. omega (arith, a.at_b))
            ∙ own u₁ i f
            ∙ l₁.here (i - from) (omega arith)
            ∙ omega (arith, sums (i - from) (omega arith), own t i f, at t b i f);
        gone = λ i f h w.
            l₄.off (b + i) (λ p q. omega (arith, a.b_g))
            ∙ l₃.off (b + i) (b-off i w)
            ∙ at u₂ b i f
            ∙ l₂.here (i - from) (omega arith);
        comes = λ i f h w.
            l₄.off (e + i) (λ p q. omega (arith, a.e_g))
            ∙ at u₃ e i f
            ∙ l₃.here (i - from) (omega arith)
            ∙ moves (i - from) (omega arith)
            ∙ sym (at t g i f);
        free = λ i f h w. at u₄ g i f ∙ l₄.here (i - from) (omega arith);
        rest = λ j o.
            l₄.off j (λ p q. (o (j - g) (omega arith) (omega arith) (omega arith)).not_g (omega arith))
            ∙ l₃.off j (λ p q. (o (j - e) (omega arith) (omega arith) (omega arith)).not_e (omega arith))
            ∙ l₂.off j (λ p q. (o (j - b) (omega arith) (omega arith) (omega arith)).not_b (omega arith))
            ∙ l₁.off j (λ p q. (o j p q q).not_p refl);
      }

-- n rows are read and stored so
pub took : (n b e g from : ℕ) (t : List ℕ) → Apart (from + 2 * n) b e g t → (p x y s : List Pair) (z : Pair) → RowsAt t from n p → RowsAt t (b + from) n x → RowsAt t (g + from) n y → RowSums n p x s → z ≡ no_pair
    → {u₁ u₂ u₃ u₄ : List ℕ} → Laid (2 * n) from (numbers s) t u₁ → Laid (2 * n) (b + from) (numbers (replicate n z)) u₁ u₂ → Laid (2 * n) (e + from) (numbers y) u₂ u₃ → Laid (2 * n) (g + from) (numbers (replicate n z)) u₃ u₄
    → Taken b e g (from + 2 * n) from (from + 2 * n) t u₄
took n b e g from t a p x y s z rp rx ry rs none l₁ l₂ l₃ l₄ =
    rows_taken (2 * n) b e g from t a (numbers s) (numbers y)
    (λ k h. omega (arith, sums_are n p x s rs k h, numbers_are t from n p rp k h, numbers_are t (b + from) n x rx k h))
    (numbers_are t (g + from) n y ry)
    l₁ (nones_stored n z none l₂) l₃ (nones_stored n z none l₄)
