-- Sums over the invocations of a row, which it has each once, and over the rows.
use mathlib.Core.Path.{◌≡◌, refl, sym, ◌∙◌, ap}
use mathlib.Core.Logic.{◌⊎◌, inl, inr}
use mathlib.Core.Bool.{Bool, true, false, cond, ◌&&◌, ◌||◌}
use mathlib.Core.List.{List, [], ◌∷◌}
use Prim.Native.Nat.{ℕ, zero, suc, ◌+◌, ◌≤◌, ◌<◌}
use native.Mathlib.Omega.{arith}
use lib.Dec.{eqb}
use borrow.Author.Tests.{eqb-true, eqb-false, eq-eqb, ne_eqb}
use Rattle.line.specs.declared.Frame.{Frame}
use Rattle.trace.specs.Shape.{has}
use Rattle.trace.specs.Rows.{makes, made, sum}
use Rattle.trace.proofs.Basics.{clash}

pub same_or_not : (a b : ℕ) → (a ≡ b) ⊎ (a ≡ b → ⊥)
same_or_not a b = go (eqb a b) refl
  where
    go : (x : Bool) → eqb a b ≡ x → (a ≡ b) ⊎ (a ≡ b → ⊥)
    go true e = inl (eqb-true a b e)
    go false e = inr (eqb-false a b e)

-- a row's invocations are made behind line n
skip_one : (b : Bool) (c m : ℕ) (l : List ℕ) → (c ≡ m → ⊥) → has c (cond b (m ∷ l) l) ≡ has c l
skip_one true c m l h = ap (λ (x : Bool). x || has c l) (ne_eqb c m h)
skip_one false c m l h = refl

pub not_made : (n : ℕ) (u : List Frame) (s c : ℕ) → c ≤ n → has c (made n u s) ≡ false
not_made n [] s c l = refl
not_made n (e ∷ u) s c l = skip_one (makes s e) c (suc n) (made (suc n) u s) (λ q. omega arith) ∙ not_made (suc n) u s c (omega arith)

-- line k of the lines opens an invocation of site s
abbrev pub makes_at : List Frame → ℕ → ℕ → Bool
makes_at [] k s = false
makes_at (e ∷ u) zero s = makes s e
makes_at (e ∷ u) (suc k) s = makes_at u k s

here_or_not : (b : Bool) (c : ℕ) (l : List ℕ) → has c l ≡ false → has c (cond b (c ∷ l) l) ≡ b
here_or_not true c l h = ap (λ (x : Bool). x || has c l) (eq-eqb c c refl)
here_or_not false c l h = h

pub has-made : (n : ℕ) (u : List Frame) (k s : ℕ) → has (suc (n + k)) (made n u s) ≡ makes_at u k s
has-made n [] k s = refl
has-made n (e ∷ u) zero s =
    let q : suc (n + 0) ≡ suc n = omega arith in
    ap (λ (c : ℕ). has c (cond (makes s e) (suc n ∷ made (suc n) u s) (made (suc n) u s))) q
    ∙ here_or_not (makes s e) (suc n) (made (suc n) u s) (not_made (suc n) u s (suc n) (omega arith))
has-made n (e ∷ u) (suc k) s =
    let q : suc (n + suc k) ≡ suc (suc n + k) = omega arith in
    skip_one (makes s e) (suc (n + suc k)) (suc n) (made (suc n) u s) (λ r. omega arith)
    ∙ ap (λ (c : ℕ). has c (made (suc n) u s)) q
    ∙ has-made (suc n) u k s

-- a number for the one that is c, and none for the others
pub sum-none : (c v : ℕ) (b : Bool) (l : List ℕ) → has c l ≡ false → sum (λ F. cond (eqb F c && b) v 0) l ≡ 0
sum-none c v b [] h = refl
sum-none c v b (x ∷ l) h = go (λ k. sum-none c v b l k) (eqb c x) refl h
  where
    head : (eqb c x ≡ false) → cond (eqb x c && b) v 0 ≡ 0
    head e = ap (λ (y : Bool). cond (y && b) v 0) (ne_eqb x c (λ q. eqb-false c x e (sym q)))

    go : (has c l ≡ false → sum (λ F. cond (eqb F c && b) v 0) l ≡ 0) → (y : Bool) → eqb c x ≡ y → (y || has c l) ≡ false → cond (eqb x c && b) v 0 + sum (λ F. cond (eqb F c && b) v 0) l ≡ 0
    go rec true e k = clash (cc)
    go rec false e k = omega (arith, head e, rec k)

pub sum-made : (n : ℕ) (u : List Frame) (s c v : ℕ) (b : Bool) → sum (λ F. cond (eqb F c && b) v 0) (made n u s) ≡ cond (has c (made n u s) && b) v 0
sum-made n [] s c v b = refl
sum-made n (e ∷ u) s c v b = go (makes s e) (sum-made (suc n) u s c v b)
  where
    go : (m : Bool) → sum (λ F. cond (eqb F c && b) v 0) (made (suc n) u s) ≡ cond (has c (made (suc n) u s) && b) v 0
        → sum (λ F. cond (eqb F c && b) v 0) (cond m (suc n ∷ made (suc n) u s) (made (suc n) u s)) ≡ cond (has c (cond m (suc n ∷ made (suc n) u s) (made (suc n) u s)) && b) v 0
    go false h = h
    go true h = elim (same_or_not c (suc n)) [
      | inl q ↦ (
          let z : sum (λ F. cond (eqb F c && b) v 0) (made (suc n) u s) ≡ 0 = sum-none c v b (made (suc n) u s) (not_made (suc n) u s c (omega arith)) in
          let x : cond (eqb (suc n) c && b) v 0 ≡ cond b v 0 = ap (λ (y : Bool). cond (y && b) v 0) (eq-eqb (suc n) c (sym q)) in
          let w : cond ((eqb c (suc n) || has c (made (suc n) u s)) && b) v 0 ≡ cond b v 0 = ap (λ (y : Bool). cond ((y || has c (made (suc n) u s)) && b) v 0) (eq-eqb c (suc n) q) in
          omega arith)
      | inr q ↦ (
          let x : cond (eqb (suc n) c && b) v 0 ≡ 0 = ap (λ (y : Bool). cond (y && b) v 0) (ne_eqb (suc n) c (λ r. q (sym r))) in
          let w : cond ((eqb c (suc n) || has c (made (suc n) u s)) && b) v 0 ≡ cond (has c (made (suc n) u s) && b) v 0 = ap (λ (y : Bool). cond ((y || has c (made (suc n) u s)) && b) v 0) (ne_eqb c (suc n) q) in
          omega arith)
    ]

-- ── sums of sums ──

pub sum-zero : (l : List ℕ) → sum (λ F. 0) l ≡ 0
sum-zero [] = refl
sum-zero (x ∷ l) = omega (arith, sum-zero l)

pub sum-add : (f g : ℕ → ℕ) (l : List ℕ) → sum (λ F. f F + g F) l ≡ sum f l + sum g l
sum-add f g [] = refl
sum-add f g (x ∷ l) = omega (arith, sum-add f g l)

pub sum_same : (f g : ℕ → ℕ) → ((x : ℕ) → f x ≡ g x) → (l : List ℕ) → sum f l ≡ sum g l
sum_same f g h [] = refl
sum_same f g h (x ∷ l) = omega (arith, h x, sum_same f g h l)

pub sum_le : (f g : ℕ → ℕ) → ((x : ℕ) → f x ≤ g x) → (l : List ℕ) → sum f l ≤ sum g l
sum_le f g h [] = omega arith
sum_le f g h (x ∷ l) = omega (arith, h x, sum_le f g h l)

-- the rows from 0 to s together
abbrev pub up_to : (ℕ → ℕ) → ℕ → ℕ
up_to f zero = f 0
up_to f (suc s) = f (suc s) + up_to f s

pub up-add : (f g : ℕ → ℕ) (s : ℕ) → up_to (λ i. f i + g i) s ≡ up_to f s + up_to g s
up-add f g zero = refl
up-add f g (suc s) = omega (arith, up-add f g s)

pub up_same : (f g : ℕ → ℕ) (s : ℕ) → ((i : ℕ) → i ≤ s → f i ≡ g i) → up_to f s ≡ up_to g s
up_same f g zero h = h 0 (omega arith)
up_same f g (suc s) h = omega (arith, h (suc s) (omega arith), up_same f g s (λ i l. h i (omega arith)))

up_none : (r v s : ℕ) (b : Bool) → s < r → up_to (λ i. cond (eqb r i && b) v 0) s ≡ 0
up_none r v zero b l = ap (λ (x : Bool). cond (x && b) v 0) (ne_eqb r 0 (λ q. omega arith))
up_none r v (suc s) b l =
    let h : cond (eqb r (suc s) && b) v 0 ≡ 0 = ap (λ (x : Bool). cond (x && b) v 0) (ne_eqb r (suc s) (λ q. omega arith)) in
    omega (arith, up_none r v s b (omega arith))

pub up_one : (r v s : ℕ) (b : Bool) → r ≤ s → up_to (λ i. cond (eqb r i && b) v 0) s ≡ cond b v 0
up_one r v zero b l = ap (λ (x : Bool). cond (x && b) v 0) (eq-eqb r 0 (omega arith))
up_one r v (suc s) b l =
    elim (same_or_not r (suc s)) [
      | inl q ↦ (
          let h : cond (eqb r (suc s) && b) v 0 ≡ cond b v 0 = ap (λ (x : Bool). cond (x && b) v 0) (eq-eqb r (suc s) q) in
          omega (arith, up_none r v s b (omega arith)))
      | inr q ↦ (
          let h : cond (eqb r (suc s) && b) v 0 ≡ 0 = ap (λ (x : Bool). cond (x && b) v 0) (ne_eqb r (suc s) q) in
          let k : r ≤ s = less r s l q in
          omega (arith, up_one r v s b k))
    ]
  where
    less : (r s : ℕ) → r ≤ suc s → (r ≡ suc s → ⊥) → r ≤ s
    less r s l q = elim (same_or_not r (suc s)) [ inl e ↦ absurd (q e) | inr e ↦ omega arith ]
