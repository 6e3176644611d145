-- A span is at most the work beside it, and what of a row stands on a chain at most what stands in the row, whatever the lines.
use mathlib.Core.Path.{◌≡◌, refl, sym, ◌∙◌, ap, subst}
use mathlib.Core.Logic.{inl, inr}
use mathlib.Core.Bool.{Bool, true, false, cond, ◌&&◌, ◌||◌}
use mathlib.Core.List.{List, [], ◌∷◌}
use Prim.Native.Nat.{ℕ, suc, ◌+◌, ◌≤◌, ◌<◌}
use native.Mathlib.Omega.{arith}
use native.Mathlib.Nat.{le_dest}
use lib.Dec.{T}
use borrow.Author.Tests.{eq-eqb, ne_eqb}
use Rattle.line.specs.Family.{Family, Base}
use Rattle.line.specs.declared.Frame.{Frame}
use Rattle.chain.specs.Over.{Each, EachTwo}
use Rattle.trace.specs.Shape.{step, walk, open_at, has}
use Rattle.trace.specs.Async.{owner_is}
use Rattle.trace.specs.Series.{SeriesOf, value, value_at, CostIn, ChainOf, Chain, weight, SpanOf}
use Rattle.trace.specs.Rows.{of_row, counted, Measure, cycles, instructions, sum_of, costs_where, inside, direct, direct_on, sum, Sum, work, SpansOf, local, on_span, ilocal, ion_span}
use Rattle.trace.proofs.Open.{has-cases}
use Rattle.trace.proofs.Sums.{same_or_not, sum_le}

-- ── the costs on a chain are its weight ──

-- ascending, from n on
abbrev Asc : ℕ → List ℕ → Type 0
Asc n [] = Unit {0}
Asc n (k ∷ c) = (n ≤ k) × Asc (suc k) c

asc_lower : (n m : ℕ) (c : List ℕ) → n ≤ m → Asc m c → Asc n c
asc_lower n m [] l h = tt
asc_lower n m (k ∷ c) l h = (omega (arith, h.0), h.1)

asc_not : (n m : ℕ) (c : List ℕ) → n < m → Asc m c → has n c ≡ false
asc_not n m [] l h = refl
asc_not n m (k ∷ c) l h = ap (λ (x : Bool). x || has n c) (ne_eqb n k (λ q. omega (arith, h.0))) ∙ asc_not n (suc k) c (omega (arith, h.0)) h.1

same_sum : (p q : ℕ → List ℕ → Bool) (n : ℕ) (o : List ℕ) (u : List Frame) → ((k : ℕ) (o : List ℕ) → n ≤ k → p k o ≡ q k o) → sum_of cycles p n o u ≡ sum_of cycles q n o u
same_sum p q n o [] h = refl
same_sum p q n o (e ∷ u) h =
    let a : cond (p n o) (value e) 0 ≡ cond (q n o) (value e) 0 = ap (λ (x : Bool). cond x (value e) 0) (h n o (omega arith)) in
    let b = same_sum p q (suc n) (step n e o) u (λ k o l. h k o (omega arith)) in
    omega arith

weightless : (t : List Frame) (n : ℕ) (c : List ℕ) → Asc n c → ((k : ℕ) → n ≤ k → value_at t k ≡ 0) → weight t c ≡ 0
weightless t n [] h z = refl
weightless t n (k ∷ c) h z = omega (arith, z k h.0, weightless t (suc k) c h.1 (λ j l. z j (omega (arith, h.0))))

chain-sum : (t : List Frame) (n : ℕ) (o : List ℕ) (u : List Frame) (c : List ℕ) → Asc n c → ((j : ℕ) → value_at t (n + j) ≡ value_at u j) → sum_of cycles (λ k o. has k c) n o u ≡ weight t c
chain-sum t n o [] c h v = sym (weightless t n c h (λ k l. zero-at k (le_dest l)))
  where
    zero-at : (k : ℕ) → (j : ℕ) × (n + j ≡ k) → value_at t k ≡ 0
    zero-at k w = subst (λ (m : ℕ). value_at t m ≡ 0) w.1 (v w.0)
chain-sum t n o (e ∷ u) c h v = go c h (λ d g. chain-sum t (suc n) (step n e o) u d g (λ j. (let q : suc n + j ≡ n + suc j = omega arith in ap (value_at t) q ∙ v (suc j))))
  where
    head : value_at t n ≡ value e
    head = let q : n ≡ n + 0 = omega arith in ap (value_at t) q ∙ v 0

    go : (c : List ℕ) → Asc n c → ((d : List ℕ) → Asc (suc n) d → sum_of cycles (λ k o. has k d) (suc n) (step n e o) u ≡ weight t d) → cond (has n c) (value e) 0 + sum_of cycles (λ k o. has k c) (suc n) (step n e o) u ≡ weight t c
    go [] h rec = omega (arith, rec [] tt)
    go (k ∷ c) h rec = elim (same_or_not n k) [
      | inl q ↦ (
          let a : cond (has n (k ∷ c)) (value e) 0 ≡ value e = ap (λ (x : Bool). cond (x || has n c) (value e) 0) (eq-eqb n k q) in
          let b : sum_of cycles (λ j o. has j (k ∷ c)) (suc n) (step n e o) u ≡ sum_of cycles (λ j o. has j c) (suc n) (step n e o) u =
          same_sum (λ j o. has j (k ∷ c)) (λ j o. has j c) (suc n) (step n e o) u (λ j o l. ap (λ (x : Bool). x || has j c) (ne_eqb j k (λ r. omega arith))) in
          let d : value_at t k ≡ value e = ap (value_at t) (sym q) ∙ head in
          omega (arith, rec c (asc_lower (suc n) (suc k) c (omega arith) h.1)))
      | inr q ↦ (
          let l : suc n ≤ k = less n k h.0 q in
          let a : cond (has n (k ∷ c)) (value e) 0 ≡ 0 = ap (λ (x : Bool). cond x (value e) 0) (asc_not n (suc n) (k ∷ c) (omega arith) (l, h.1)) in
          omega (arith, rec (k ∷ c) (l, h.1)))
    ]
      where
        less : (n k : ℕ) → n ≤ k → (n ≡ k → ⊥) → suc n ≤ k
        less n k l q = omega (arith, q)

-- a chain is ascending
ascending : (f : Family) (t : List Frame) (n : ℕ) (c : List ℕ) → Each (λ k. n ≤ k) c → EachTwo (SeriesOf f t) c → Asc n c
ascending f t n [] h s = tt
ascending f t n (k ∷ c) h s = (h.0, ascending f t (suc k) c (later k c s.0) s.1)
  where
    later : (k : ℕ) (c : List ℕ) → Each (SeriesOf f t k) c → Each (λ j. suc k ≤ j) c
    later k [] s = tt
    later k (j ∷ c) s = (s.0.0, later k c s.1)

-- LAW: the costs at the lines of a chain add up to its weight
pub on-chain-of : (f : Family) (t : List Frame) (F : ℕ) (c : List ℕ) → ChainOf f t F c → costs_where cycles t (λ k o. has k c) ≡ weight t c
on-chain-of f t F c h = chain-sum t 0 (0 ∷ []) t c (ascending f t 0 c (any c) h.series) (λ j. (let q : 0 + j ≡ j = omega arith in ap (value_at t) q))
  where
    any : (c : List ℕ) → Each (λ k. 0 ≤ k) c
    any [] = tt
    any (k ∷ c) = (omega arith, any c)

-- the same of document 01's traces
pub on_chain : (t : List Frame) (F : ℕ) (c : List ℕ) → Chain t F c → costs_where cycles t (λ k o. has k c) ≡ weight t c
on_chain = on-chain-of Base

-- lines that p picks, q picks too
more : (m : Measure) (p q : ℕ → List ℕ → Bool) (n : ℕ) (o : List ℕ) (u : List Frame) → ((j : ℕ) → T (p (n + j) (walk n o u j)) → T (q (n + j) (walk n o u j))) → sum_of m p n o u ≤ sum_of m q n o u
more m p q n o [] h = omega arith
more m p q n o (e ∷ u) h =
    omega (
      arith,
      here (p n o) (q n o) (first (h 0)),
      more m p q (suc n) (step n e o) u (λ j k. (let l : n + suc j ≡ suc n + j = omega arith in
          subst (λ (i : ℕ). T (q i (walk (suc n) (step n e o) u j))) l (h (suc j) (subst (λ (i : ℕ). T (p i (walk (suc n) (step n e o) u j))) (sym l) k)))),
    )
  where
    here : (a b : Bool) → (T a → T b) → cond a (m e u) 0 ≤ cond b (m e u) 0
    here true true f = omega arith
    here true false f = absurd (f tt)
    here false true f = omega arith
    here false false f = omega arith

    first : (T (p (n + 0) o) → T (q (n + 0) o)) → T (p n o) → T (q n o)
    first f k = let l : n + 0 ≡ n = omega arith in subst (λ (i : ℕ). T (q i o)) l (f (subst (λ (i : ℕ). T (p i o)) (sym l) k))

each-has : (p : ℕ → Type 0) (c : List ℕ) (k : ℕ) → Each p c → T (has k c) → p k
each-has p [] k h m = absurd m
each-has p (x ∷ c) k h m = elim (has-cases k x c m) [ inl e ↦ subst p (sym e) h.0 | inr r ↦ each-has p c k h.1 r ]

-- an invocation's span is at most the costs inside it
pub span_le : (f : Family) (t : List Frame) (F n : ℕ) → SpanOf f t F n → n ≤ inside t F
span_le f t F n s =
    omega (arith, s.weighs, on-chain-of f t F s.chain s.is_chain, more cycles (λ k o. has k s.chain) (λ k o. has F o) 0 (0 ∷ []) t (λ j m. go j m))
  where
    go : (j : ℕ) → T (has (0 + j) s.chain) → T (has F (open_at t j))
    go j m = let e : 0 + j ≡ j = omega arith in (each-has (CostIn t F) s.chain j s.is_chain.costs (subst (λ (i : ℕ). T (has i s.chain)) e m)).inside

sums_le : (f : Family) (t : List Frame) (l : List ℕ) (n : ℕ) → Sum (SpanOf f t) l n → n ≤ sum (inside t) l
sums_le f t [] n h = omega arith
sums_le f t (F ∷ l) n h = omega (arith, h.4, span_le f t F h.0 h.2, sums_le f t l h.1 h.3)

pub spans_le : (f : Family) (t : List Frame) (s n : ℕ) → SpansOf f t s n → n ≤ work t s
spans_le f t s n h = sums_le f t (counted t s) n h

-- in any measure
on_le : (m : Measure) (t : List Frame) (c : List ℕ) (s : ℕ) → sum (direct_on m t c) (of_row t s) ≤ sum (direct m t) (of_row t s)
on_le m t c s = sum_le (direct_on m t c) (direct m t) (λ F. more m (λ k o. owner_is t F o && has k c) (λ k o. owner_is t F o) 0 (0 ∷ []) t (λ j h. left (owner_is t F (open_at t j)) (has (0 + j) c) h)) (of_row t s)
  where
    left : (a b : Bool) → T (a && b) → T a
    left true b h = tt
    left false b h = h

pub on_span_le : (t : List Frame) (c : List ℕ) (s : ℕ) → on_span t c s ≤ local t s
on_span_le = on_le cycles

pub ion_span_le : (t : List Frame) (c : List ℕ) (s : ℕ) → ion_span t c s ≤ ilocal t s
ion_span_le = on_le instructions
