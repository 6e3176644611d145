-- The lines that a test picks: of ascending lines, the test of being one of them picks these.
use mathlib.Core.Path.{◌≡◌, refl, sym, ◌∙◌, ap}
use mathlib.Core.Logic.{◌⊎◌, inl, inr}
use mathlib.Core.Bool.{Bool, true, false, cond, ◌||◌}
use mathlib.Core.List.{List, [], ◌∷◌}
use Prim.Native.Nat.{ℕ, zero, suc, ◌+◌, ◌≤◌, ◌<◌}
use native.Mathlib.Omega.{arith}
use borrow.Author.Tests.{eq-eqb, ne_eqb}
use Rattle.chain.specs.Over.{Each, EachTwo}
use Rattle.trace.specs.Shape.{has}
use Rattle.trace.proofs.Basics.{below}
use Rattle.agree.specs.Shown.{lines_where}

-- x is one of count lines from line k on
abbrev pub Among : ℕ → ℕ → ℕ → Type 0
Among k count x = (k ≤ x) × (x < k + count)

pub each_map : (p q : ℕ → Type 0) → ((x : ℕ) → p x → q x) → (l : List ℕ) → Each p l → Each q l
each_map p q f [] h = tt
each_map p q f (x ∷ l) h = (f x h.0, each_map p q f l h.1)

each_both : (p q : ℕ → Type 0) (l : List ℕ) → Each p l → Each q l → Each (λ x. p x × q x) l
each_both p q [] h k = tt
each_both p q (x ∷ l) h k = ((h.0, k.0), each_both p q l h.1 k.1)

-- two tests that agree pick the same
pub where_same : (p q : ℕ → Bool) (k count : ℕ) → ((x : ℕ) → Among k count x → p x ≡ q x) → lines_where p k count ≡ lines_where q k count
where_same p q k zero h = refl
where_same p q k (suc count) h =
    ap (λ (b : Bool). cond b (k ∷ lines_where p (suc k) count) (lines_where p (suc k) count)) (h k (omega arith, omega arith))
    ∙ ap (λ (l : List ℕ). cond (q k) (k ∷ l) l) (where_same p q (suc k) count (λ x m. h x (omega (arith, m.0), omega (arith, m.1))))

-- a number below all of them is none of them
not_in : (k : ℕ) (c : List ℕ) → Each (λ x. k < x) c → has k c ≡ false
not_in k [] h = refl
not_in k (x ∷ c) h = ap (λ (b : Bool). b || has k c) (ne_eqb k x (λ q. omega (arith, h.0))) ∙ not_in k c h.1

-- the later of ascending numbers are among the later lines
later_among : (k count x : ℕ) (c : List ℕ) → k ≤ x → Each (λ z. x < z) c → Each (Among k (suc count)) c → Each (Among (suc k) count) c
later_among k count x c l up h = each_map (λ z. (x < z) × Among k (suc count) z) (Among (suc k) count) (λ z m. (omega (arith, m.0), omega (arith, m.1.1))) c (each_both (λ z. x < z) (Among k (suc count)) c up h)

-- LAW: the lines that are among ascending ones are these
pub where_has : (k count : ℕ) (c : List ℕ) → EachTwo (λ i j. i < j) c → Each (Among k count) c → lines_where (λ x. has x c) k count ≡ c
where_has k zero [] up h = refl
where_has k zero (x ∷ c) up h = absurd (omega (arith, h.0.0, h.0.1))
where_has k (suc count) [] up h = where_has (suc k) count [] tt tt
where_has k (suc count) (x ∷ c) up h = go (below x k) (where_has (suc k) count c up.1) (where_has (suc k) count (x ∷ c) up)
  where
    -- those behind k that are among d
    later : List ℕ → List ℕ
    later d = lines_where (λ z. has z d) (suc k) count

    go : (k < x) ⊎ ((j : ℕ) × (k ≡ x + j)) → (Each (Among (suc k) count) c → later c ≡ c) → (Each (Among (suc k) count) (x ∷ c) → later (x ∷ c) ≡ x ∷ c) → lines_where (λ z. has z (x ∷ c)) k (suc count) ≡ x ∷ c
    go (inl l) without with-x =
        ap (λ (b : Bool). cond b (k ∷ later (x ∷ c)) (later (x ∷ c))) (not_in k (x ∷ c) (l, each_map (λ z. x < z) (λ z. k < z) (λ z m. omega arith) c up.0))
        ∙ with-x ((omega arith, omega (arith, h.0.1)), later_among k count x c h.0.0 up.0 h.1)
    go (inr w) without with-x =
        let e : k ≡ x = omega (arith, h.0.0, w.1) in
        let n : later (x ∷ c) ≡ later c = where_same (λ z. has z (x ∷ c)) (λ z. has z c) (suc k) count (λ z m. ap (λ (b : Bool). b || has z c) (ne_eqb z x (λ q. omega (arith, m.0)))) in
        ap (λ (b : Bool). cond (b || has k c) (k ∷ later (x ∷ c)) (later (x ∷ c))) (eq-eqb k x e)
        ∙ ap (λ (l : List ℕ). k ∷ l) (n ∙ without (later_among k count x c h.0.0 up.0 h.1))
        ∙ ap (λ (z : ℕ). z ∷ c) e

-- lines from k on are behind those before k
where_behind : (p : ℕ → Bool) (x k count : ℕ) → x < k → Each (λ z. x < z) (lines_where p k count)
where_behind p x k zero l = tt
where_behind p x k (suc count) l = go (p k) (where_behind p x (suc k) count (omega arith))
  where
    go : (b : Bool) → Each (λ z. x < z) (lines_where p (suc k) count) → Each (λ z. x < z) (cond b (k ∷ lines_where p (suc k) count) (lines_where p (suc k) count))
    go true h = (l, h)
    go false h = h

-- LAW: a line is among those picked where it is picked
pub has_where : (p : ℕ → Bool) (k count x : ℕ) → Among k count x → has x (lines_where p k count) ≡ p x
has_where p k zero x m = absurd (omega (arith, m.0, m.1))
has_where p k (suc count) x m = go (below x k) (p k) refl (has_where p (suc k) count x)
  where
    go : (k < x) ⊎ ((j : ℕ) × (k ≡ x + j)) → (b : Bool) → p k ≡ b → (Among (suc k) count x → has x (lines_where p (suc k) count) ≡ p x)
        → has x (cond b (k ∷ lines_where p (suc k) count) (lines_where p (suc k) count)) ≡ p x
    go (inl l) true e rec = ap (λ (b : Bool). b || has x (lines_where p (suc k) count)) (ne_eqb x k (λ q. omega arith)) ∙ rec (omega arith, omega (arith, m.1))
    go (inl l) false e rec = rec (omega arith, omega (arith, m.1))
    go (inr w) true e rec =
        let q : k ≡ x = omega (arith, m.0, w.1) in
        ap (λ (b : Bool). b || has x (lines_where p (suc k) count)) (eq-eqb x k (sym q)) ∙ sym e ∙ ap p q
    go (inr w) false e rec =
        let q : k ≡ x = omega (arith, m.0, w.1) in
        not_in x (lines_where p (suc k) count) (where_behind p x (suc k) count (omega arith)) ∙ sym e ∙ ap p q
