-- On the tree: compacting keeps the limits, the costs and the sums over a row's invocations, and is never longer. Assumes
-- nothing.
use mathlib.Core.Path.{◌≡◌, refl, sym, ◌∙◌, ap, ap₂, subst}
use mathlib.Core.Logic.{◌⊎◌, inl, inr}
use mathlib.Core.Bool.{Bool, true, false, not, cond, ◌||◌, ◌&&◌}
use Prim.Native.Nat.{ℕ, zero, suc, ◌+◌, ◌≤◌}
use native.Mathlib.Omega.{arith}
use lib.Dec.{eqb}
use Rattle.line.specs.Family.{Base}
use Rattle.trace.specs.Tree.{invokes, site, carry, spend, sync, note, Body, done, leaf, child, Of, ahead, size, Within, work_of, direct_of, local_of, ilocal_of, made_sum, outer_sum}
use Rattle.trace.specs.Fold.{cost_at}
use Rattle.trace.proofs.Recurrence.{Paid}
use Rattle.trace.proofs.Measures.{Measured, by_cycles, by_instructions}
use Rattle.trace.proofs.Owned.{OwnedBody}
use Rattle.compact.specs.Compact.{most_value, both_fit}
use Rattle.compact.specs.Tree.{ends, later, summed_b, packed, compact_b}
use Rattle.compact.proofs.Pairs.{Fit, Over, fit_either, Paired, Adds, cycles-add, instructions-add}

-- ── the two ways of a cost, and of a sync ──

-- both sums fit, or one does not
pub cost_either : (P : Body → Type 0) (x : Bool) (h j v : ℕ) (r : Body)
    → (Fit (h + v) (j + ahead r) → P (packed x (h + v) (j + ahead r) r)) → (Over (h + v) (j + ahead r) → P (summed_b h j (packed x v (ahead r) r))) → P (packed x h j (leaf (spend v) r))
cost_either P x h j v r a b = go (fit_either (h + v) (j + ahead r))
  where
    either : Bool → Body
    either e = cond e (packed x (h + v) (j + ahead r) r) (summed_b h j (packed x v (ahead r) r))

    go : (Fit (h + v) (j + ahead r) × (both_fit (h + v) (j + ahead r) ≡ true)) ⊎ (Over (h + v) (j + ahead r) × (both_fit (h + v) (j + ahead r) ≡ false)) → P (either (both_fit (h + v) (j + ahead r)))
    go (inl q) = subst (λ (e : Bool). P (either e)) (sym q.1) (a q.0)
    go (inr q) = subst (λ (e : Bool). P (either e)) (sym q.1) (b q.0)

-- the sync is dropped, or it stays
pub sync_either : (P : Body → Type 0) (x : Bool) (h j : ℕ) (r : Body) → P (packed false h j r) → P (summed_b h j (leaf sync (packed false 0 0 r))) → P (packed x h j (leaf sync r))
sync_either P x h j r a b = go (not x || ends r)
  where
    go : (e : Bool) → P (cond e (packed false h j r) (summed_b h j (leaf sync (packed false 0 0 r))))
    go true = a
    go false = b

-- ── the limits ──

module _ (m D : ℕ) where
  summed-within : (d h j : ℕ) (b : Body) → Fit h j → Within m D d b → Within m D d (summed_b h j b)
  summed-within d zero j b l w = w
  summed-within d (suc h) zero b l w = ((omega arith, l.0), w)
  summed-within d (suc h) (suc j) b l w = ((omega arith, l.0), ((omega arith, l.1), w))

  ahead_within : (d : ℕ) (b : Body) → Within m D d b → ahead b ≤ most_value
  ahead_within d done w = omega arith
  ahead_within d (leaf (spend v) r) w = omega arith
  ahead_within d (leaf sync r) w = omega arith
  ahead_within d (leaf (note (site s p)) r) w = omega arith
  ahead_within d (leaf (note (carry v)) r) w = w.0.1
  ahead_within d (child y s g r) w = omega arith

  none : Fit 0 0
  none = (omega arith, omega arith)

  packed-within : (d : ℕ) (b : Body) (x : Bool) (h j : ℕ) → Fit h j → Within m D d b → Within m D d (packed x h j b)
  packed-within d done x h j l w = summed-within d h j done l tt
  packed-within d (leaf (spend v) r) x h j l w =
      cost_either (Within m D d) x h j v r (λ q. packed-within d r x (h + v) (j + ahead r) q w.1)
      (λ q. summed-within d h j (packed x v (ahead r) r) l (packed-within d r x v (ahead r) (w.0.1, ahead_within d r w.1) w.1))
  packed-within d (leaf sync r) x h j l w =
      sync_either (Within m D d) x h j r (packed-within d r false h j l w.1)
      (summed-within d h j (leaf sync (packed false 0 0 r)) l (tt, packed-within d r false 0 0 none w.1))
  packed-within d (leaf (note (site s p)) r) x h j l w =
      summed-within d h j (leaf (note (site s p)) (packed x 0 0 r)) l (tt, packed-within d r x 0 0 none w.1)
  packed-within d (leaf (note (carry v)) r) x h j l w = packed-within d r x h j l w.1
  packed-within d (child y s g r) x h j l w =
      summed-within d h j (child y s (compact_b g) (packed (later y x) 0 0 r)) l
      (w.0, w.1, w.2, packed-within (suc d) g false 0 0 none w.3, packed-within d r (later y x) 0 0 none w.4)

  -- LAW: a compacted body is within the limits
  pub compact-within : (d : ℕ) (b : Body) → Within m D d b → Within m D d (compact_b b)
  compact-within d b w = packed-within d b false 0 0 none w

summed-of : (k h j : ℕ) (b : Body) → Of Base k b → Of Base k (summed_b h j b)
summed-of k zero j b o = o
summed-of k (suc h) zero b o = (tt, o)
summed-of k (suc h) (suc j) b o = (tt, (tt, o))

packed-of : (k : ℕ) (b : Body) (x : Bool) (h j : ℕ) → Of Base k b → Of Base k (packed x h j b)
packed-of k done x h j o = summed-of k h j done tt
packed-of k (leaf (spend v) r) x h j o =
    cost_either (Of Base k) x h j v r (λ q. packed-of k r x (h + v) (j + ahead r) o.1) (λ q. summed-of k h j (packed x v (ahead r) r) (packed-of k r x v (ahead r) o.1))
packed-of k (leaf sync r) x h j o =
    sync_either (Of Base k) x h j r (packed-of k r false h j o.1) (summed-of k h j (leaf sync (packed false 0 0 r)) (tt, packed-of k r false 0 0 o.1))
packed-of k (leaf (note (site s p)) r) x h j o = summed-of k h j (leaf (note (site s p)) (packed x 0 0 r)) (tt, packed-of k r x 0 0 o.1)
packed-of k (leaf (note (carry v)) r) x h j o = packed-of k r x h j o.1
packed-of k (child y s g r) x h j o =
    summed-of k h j (child y s (compact_b g) (packed (later y x) 0 0 r)) (o.0, packed-of s g false 0 0 o.1, packed-of k r (later y x) 0 0 o.2)

-- LAW: a compacted body is one of document 01
pub compact-of : (k : ℕ) (b : Body) → Of Base k b → Of Base k (compact_b b)
compact-of k b o = packed-of k b false 0 0 o

summed-paid : (h j : ℕ) (b : Body) → Paid b → Paid (summed_b h j b)
summed-paid zero j b w = w
summed-paid (suc h) zero b w = (omega arith, w)
summed-paid (suc h) (suc j) b w = (omega arith, (tt, w))

pub packed-paid : (b : Body) (x : Bool) (h j : ℕ) → Paid b → Paid (packed x h j b)
packed-paid done x h j w = summed-paid h j done tt
packed-paid (leaf (spend v) r) x h j w =
    cost_either Paid x h j v r (λ q. packed-paid r x (h + v) (j + ahead r) w.1) (λ q. summed-paid h j (packed x v (ahead r) r) (packed-paid r x v (ahead r) w.1))
packed-paid (leaf sync r) x h j w =
    sync_either Paid x h j r (packed-paid r false h j w.1) (summed-paid h j (leaf sync (packed false 0 0 r)) (tt, packed-paid r false 0 0 w.1))
packed-paid (leaf (note (site s p)) r) x h j w = summed-paid h j (leaf (note (site s p)) (packed x 0 0 r)) (tt, packed-paid r x 0 0 w.1)
packed-paid (leaf (note (carry v)) r) x h j w = packed-paid r x h j w.1
packed-paid (child y s g r) x h j w =
    summed-paid h j (child y s (compact_b g) (packed (later y x) 0 0 r)) (packed-paid g false 0 0 w.0, packed-paid r (later y x) 0 0 w.1)

-- ── its 07 lines ──

summed-ahead : (h j : ℕ) (b : Body) → ahead b ≡ 0 → ahead (summed_b h j b) ≡ 0
summed-ahead zero j b e = e
summed-ahead (suc h) j b e = refl

-- it begins with none
pub packed-ahead : (b : Body) (x : Bool) (h j : ℕ) → ahead (packed x h j b) ≡ 0
packed-ahead done x h j = summed-ahead h j done refl
packed-ahead (leaf (spend v) r) x h j =
    cost_either (λ b. ahead b ≡ 0) x h j v r (λ q. packed-ahead r x (h + v) (j + ahead r)) (λ q. summed-ahead h j (packed x v (ahead r) r) (packed-ahead r x v (ahead r)))
packed-ahead (leaf sync r) x h j =
    sync_either (λ b. ahead b ≡ 0) x h j r (packed-ahead r false h j) (summed-ahead h j (leaf sync (packed false 0 0 r)) refl)
packed-ahead (leaf (note (site s p)) r) x h j = summed-ahead h j (leaf (note (site s p)) (packed x 0 0 r)) refl
packed-ahead (leaf (note (carry v)) r) x h j = packed-ahead r x h j
packed-ahead (child y s g r) x h j = summed-ahead h j (child y s (compact_b g) (packed (later y x) 0 0 r)) refl

summed-owned : (h j : ℕ) (b : Body) → ((c : Bool) → OwnedBody c b) → (c : Bool) → OwnedBody c (summed_b h j b)
summed-owned zero j b k c = k c
summed-owned (suc h) zero b k c = (refl, k true)
summed-owned (suc h) (suc j) b k c = (refl, (refl, k false))

packed-owned : (b : Body) (x : Bool) (h j : ℕ) (c : Bool) → OwnedBody c (packed x h j b)
packed-owned done x h j c = summed-owned h j done (λ d. tt) c
packed-owned (leaf (spend v) r) x h j c =
    cost_either (OwnedBody c) x h j v r (λ q. packed-owned r x (h + v) (j + ahead r) c) (λ q. summed-owned h j (packed x v (ahead r) r) (packed-owned r x v (ahead r)) c)
packed-owned (leaf sync r) x h j c =
    let p = packed-owned r false 0 0 false in
    sync_either (OwnedBody c) x h j r (packed-owned r false h j c) (summed-owned h j (leaf sync (packed false 0 0 r)) (λ d. (refl, p)) c)
packed-owned (leaf (note (site s p)) r) x h j c =
    let k = packed-owned r x 0 0 false in
    summed-owned h j (leaf (note (site s p)) (packed x 0 0 r)) (λ d. (refl, k)) c
packed-owned (leaf (note (carry v)) r) x h j c = packed-owned r x h j c
packed-owned (child y s g r) x h j c =
    let p = packed-owned g false 0 0 false in
    let q = packed-owned r (later y x) 0 0 false in
    summed-owned h j (child y s (compact_b g) (packed (later y x) 0 0 r)) (λ d. (p, q)) c

-- LAW: each 07 line of a compacted body stands directly after a cost line
pub compact-owned : (b : Body) → OwnedBody false (compact_b b)
compact-owned b = packed-owned b false 0 0 false

-- ── never longer ──

-- a line, unless the number is 0
abbrev one : ℕ → ℕ
one zero = 0
one (suc n) = 1

one-most : (n : ℕ) → one n ≤ 1
one-most zero = omega arith
one-most (suc n) = omega arith

one-sum : (n k : ℕ) → one (n + k) ≤ one n + one k
one-sum zero k = let z : 0 + k ≡ k = omega arith in omega (arith, ap one z)
one-sum (suc n) k = omega (arith, one-most (suc n + k))

summed-size : (h j : ℕ) (b : Body) → size (summed_b h j b) ≤ one h + one j + size b
summed-size zero j b = omega arith
summed-size (suc h) zero b = omega arith
summed-size (suc h) (suc j) b = omega arith

-- a 07 line that the body begins with went with the cost before it
packed-size : (b : Body) (x : Bool) (h j : ℕ) → size (packed x h j b) + one (ahead b) ≤ one h + one j + size b
packed-size done x h j = omega (arith, summed-size h j done)
packed-size (leaf (spend v) r) x h j =
    cost_either (λ b. size b + 0 ≤ one h + one j + suc (size r)) x h j v r
    (λ q. omega (arith, packed-size r x (h + v) (j + ahead r), one-most (h + v), one-sum j (ahead r)))
    (λ q. omega (arith, summed-size h j (packed x v (ahead r) r), packed-size r x v (ahead r), one-most v))
packed-size (leaf sync r) x h j =
    sync_either (λ b. size b + 0 ≤ one h + one j + suc (size r)) x h j r
    (omega (arith, packed-size r false h j))
    (omega (arith, summed-size h j (leaf sync (packed false 0 0 r)), packed-size r false 0 0))
packed-size (leaf (note (site s p)) r) x h j = omega (arith, summed-size h j (leaf (note (site s p)) (packed x 0 0 r)), packed-size r x 0 0)
packed-size (leaf (note (carry v)) r) x h j = omega (arith, packed-size r x h j, one-most v)
packed-size (child y s g r) x h j =
    omega (arith, summed-size h j (child y s (compact_b g) (packed (later y x) 0 0 r)), packed-size g false 0 0, packed-size r (later y x) 0 0)

-- LAW: a compacted body is never longer
pub compact-size : (b : Body) → size (compact_b b) ≤ size b
compact-size b = omega (arith, packed-size b false 0 0)

-- ── all costs ──

summed-work : (h j : ℕ) (b : Body) → work_of (summed_b h j b) ≡ h + work_of b
summed-work zero j b = omega arith
summed-work (suc h) zero b = refl
summed-work (suc h) (suc j) b = omega arith

packed-work : (b : Body) (x : Bool) (h j : ℕ) → work_of (packed x h j b) ≡ h + work_of b
packed-work done x h j = summed-work h j done
packed-work (leaf (spend v) r) x h j =
    cost_either (λ b. work_of b ≡ h + (v + work_of r)) x h j v r (λ q. omega (arith, packed-work r x (h + v) (j + ahead r)))
    (λ q. omega (arith, summed-work h j (packed x v (ahead r) r), packed-work r x v (ahead r)))
packed-work (leaf sync r) x h j =
    sync_either (λ b. work_of b ≡ h + (0 + work_of r)) x h j r (omega (arith, packed-work r false h j)) (omega (arith, summed-work h j (leaf sync (packed false 0 0 r)), packed-work r false 0 0))
packed-work (leaf (note (site s p)) r) x h j = omega (arith, summed-work h j (leaf (note (site s p)) (packed x 0 0 r)), packed-work r x 0 0)
packed-work (leaf (note (carry v)) r) x h j = omega (arith, packed-work r x h j)
packed-work (child y s g r) x h j = omega (arith, summed-work h j (child y s (compact_b g) (packed (later y x) 0 0 r)), packed-work g false 0 0, packed-work r (later y x) 0 0)

-- LAW
pub compact-work : (b : Body) → work_of (compact_b b) ≡ work_of b
compact-work b = omega (arith, packed-work b false 0 0)

-- ── what stands directly in it, in a measure ──

module _ (m : Measured) (a : Adds m.of_cost) where
  -- a cost of h with the instructions j
  abbrev amount : ℕ → ℕ → ℕ
  amount h j = m.of_cost (cost_at 0 0 h j)

  abbrev directly : Body → ℕ
  directly b = direct_of m.of_leaf b

  summed-direct : (h j : ℕ) (b : Body) → Paired h j → ahead b ≡ 0 → directly (summed_b h j b) ≡ amount h j + directly b
  summed-direct zero j b k e = omega (arith, ap (amount 0) (k refl), a.none 0 0)
  summed-direct (suc h) zero b k e = omega (arith, m.spend_cost 0 0 (suc h) b, ap (amount (suc h)) e)
  summed-direct (suc h) (suc j) b k e = omega (arith, m.spend_cost 0 0 (suc h) (leaf (note (carry (suc j))) b), m.note_none (carry (suc j)) b)

  packed-direct : (b : Body) (x : Bool) (h j : ℕ) → Paid b → Paired h j → directly (packed x h j b) ≡ amount h j + directly b
  packed-direct done x h j w k = summed-direct h j done k refl
  packed-direct (leaf (spend v) r) x h j w k =
      cost_either (λ b. directly b ≡ amount h j + directly (leaf (spend v) r)) x h j v r
      (λ q. omega (arith, packed-direct r x (h + v) (j + ahead r) w.1 (λ z. absurd (omega (arith, w.0))), a.sum 0 0 h j v (ahead r), m.spend_cost 0 0 v r))
      (λ q. omega (
        arith,
        summed-direct h j (packed x v (ahead r) r) k (packed-ahead r x v (ahead r)),
        packed-direct r x v (ahead r) w.1 (λ z. absurd (omega (arith, w.0))),
        m.spend_cost 0 0 v r,
      ))
  packed-direct (leaf sync r) x h j w k =
      sync_either (λ b. directly b ≡ amount h j + directly (leaf sync r)) x h j r (omega (arith, packed-direct r false h j w.1 k, m.sync_none r))
      (omega (
        arith,
        summed-direct h j (leaf sync (packed false 0 0 r)) k refl,
        packed-direct r false 0 0 w.1 (λ z. refl),
        a.none 0 0,
        m.sync_none r,
        m.sync_none (packed false 0 0 r),
      ))
  packed-direct (leaf (note (site s p)) r) x h j w k =
      omega (
        arith,
        summed-direct h j (leaf (note (site s p)) (packed x 0 0 r)) k refl,
        packed-direct r x 0 0 w.1 (λ z. refl),
        a.none 0 0,
        m.note_none (site s p) r,
        m.note_none (site s p) (packed x 0 0 r),
      )
  packed-direct (leaf (note (carry v)) r) x h j w k = omega (arith, packed-direct r x h j w.1 k, m.note_none (carry v) r)
  packed-direct (child y s g r) x h j w k =
      let c = packed (later y x) 0 0 r in
      let p : directly (compact_b g) ≡ directly g = omega (arith, packed-direct g false 0 0 w.0 (λ z. refl), a.none 0 0) in
      let q : directly c ≡ directly r = omega (arith, packed-direct r (later y x) 0 0 w.1 (λ z. refl), a.none 0 0) in
      summed-direct h j (child y s (compact_b g) c) k refl ∙ ap₂ (λ (m n : ℕ). amount h j + cond (invokes y) n (m + n)) p q

  compact-direct : (b : Body) → Paid b → directly (compact_b b) ≡ directly b
  compact-direct b w = omega (arith, packed-direct b false 0 0 w (λ z. refl), a.none 0 0)

-- LAW
pub compact-local : (b : Body) → Paid b → local_of (compact_b b) ≡ local_of b
compact-local = compact-direct by_cycles cycles-add

-- LAW
pub compact-ilocal : (b : Body) → Paid b → ilocal_of (compact_b b) ≡ ilocal_of b
compact-ilocal = compact-direct by_instructions instructions-add

-- ── sums over invocations ──

-- what is said of a body and of the compacted body alike
module _ (f : Body → ℕ) (same : (g : Body) → Paid g → f (compact_b g) ≡ f g) (s : ℕ) where
  summed-made : (h j : ℕ) (b : Body) → made_sum f s (summed_b h j b) ≡ made_sum f s b
  summed-made zero j b = refl
  summed-made (suc h) zero b = refl
  summed-made (suc h) (suc j) b = refl

  pub packed-made : (b : Body) (x : Bool) (h j : ℕ) → Paid b → made_sum f s (packed x h j b) ≡ made_sum f s b
  packed-made done x h j w = summed-made h j done
  packed-made (leaf (spend v) r) x h j w =
      cost_either (λ b. made_sum f s b ≡ made_sum f s r) x h j v r (λ q. packed-made r x (h + v) (j + ahead r) w.1)
      (λ q. summed-made h j (packed x v (ahead r) r) ∙ packed-made r x v (ahead r) w.1)
  packed-made (leaf sync r) x h j w =
      sync_either (λ b. made_sum f s b ≡ made_sum f s r) x h j r (packed-made r false h j w.1) (summed-made h j (leaf sync (packed false 0 0 r)) ∙ packed-made r false 0 0 w.1)
  packed-made (leaf (note (site i p)) r) x h j w = summed-made h j (leaf (note (site i p)) (packed x 0 0 r)) ∙ packed-made r x 0 0 w.1
  packed-made (leaf (note (carry v)) r) x h j w = packed-made r x h j w.1
  packed-made (child y i g r) x h j w =
      omega (
        arith,
        summed-made h j (child y i (compact_b g) (packed (later y x) 0 0 r)),
        ap (λ (n : ℕ). cond (invokes y && eqb i s) n 0) (same g w.0),
        packed-made g false 0 0 w.0,
        packed-made r (later y x) 0 0 w.1,
      )

-- what is said of a body of document 01 and of the compacted body alike
module _ (f : Body → ℕ) (same : (k : ℕ) (g : Body) → Of Base k g → Paid g → f (compact_b g) ≡ f g) (s : ℕ) where
  summed_outer : (h j : ℕ) (b : Body) → outer_sum f s (summed_b h j b) ≡ outer_sum f s b
  summed_outer zero j b = refl
  summed_outer (suc h) zero b = refl
  summed_outer (suc h) (suc j) b = refl

  pub packed_outer : (k : ℕ) (b : Body) (x : Bool) (h j : ℕ) → Of Base k b → Paid b → outer_sum f s (packed x h j b) ≡ outer_sum f s b
  packed_outer k done x h j o w = summed_outer h j done
  packed_outer k (leaf (spend v) r) x h j o w =
      cost_either (λ b. outer_sum f s b ≡ outer_sum f s r) x h j v r (λ q. packed_outer k r x (h + v) (j + ahead r) o.1 w.1)
      (λ q. summed_outer h j (packed x v (ahead r) r) ∙ packed_outer k r x v (ahead r) o.1 w.1)
  packed_outer k (leaf sync r) x h j o w =
      sync_either (λ b. outer_sum f s b ≡ outer_sum f s r) x h j r (packed_outer k r false h j o.1 w.1)
      (summed_outer h j (leaf sync (packed false 0 0 r)) ∙ packed_outer k r false 0 0 o.1 w.1)
  packed_outer k (leaf (note (site i p)) r) x h j o w = summed_outer h j (leaf (note (site i p)) (packed x 0 0 r)) ∙ packed_outer k r x 0 0 o.1 w.1
  packed_outer k (leaf (note (carry v)) r) x h j o w = packed_outer k r x h j o.1 w.1
  packed_outer k (child y i g r) x h j o w =
      let t = invokes y && eqb i s in
      summed_outer h j (child y i (compact_b g) (packed (later y x) 0 0 r))
      ∙ ap (λ (n : ℕ). cond t n (outer_sum f s (compact_b g)) + outer_sum f s (packed (later y x) 0 0 r)) (same i g o.1 w.0)
      ∙ ap (λ (n : ℕ). cond t (f g) n + outer_sum f s (packed (later y x) 0 0 r)) (packed_outer i g false 0 0 o.1 w.0)
      ∙ ap (λ (n : ℕ). cond t (f g) (outer_sum f s g) + n) (packed_outer k r (later y x) 0 0 o.2 w.1)
