-- On the tree: compacting twice is compacting once. Assumes nothing.
use mathlib.Core.Path.{◌≡◌, refl, ◌∙◌, ap, sym, subst}
use mathlib.Core.Logic.{◌⊎◌, inl, inr}
use mathlib.Core.Bool.{Bool, true, false, not, cond, ◌||◌}
use Prim.Native.Nat.{ℕ, zero, suc, ◌+◌, ◌≤◌}
use native.Mathlib.Omega.{arith}
use Rattle.trace.specs.Tree.{site, carry, spend, sync, note, Body, done, leaf, child, ahead}
use Rattle.trace.proofs.Basics.{clash}
use Rattle.trace.proofs.Recurrence.{Paid}
use Rattle.trace.proofs.Owned.{OwnedBody}
use Rattle.compact.specs.Tree.{ends, later, summed_b, packed, compact_b}
use Rattle.compact.proofs.Pairs.{Over, over-fit, Paired}
use Rattle.compact.proofs.Sums.{cost_either, sync_either, packed-ahead}

-- a cost of v with the instructions i is no part of the sums h and j before it: there are none, or the two do not fit
abbrev Apart : ℕ → ℕ → ℕ → ℕ → Type 0
Apart h j v i = (h ≡ 0) ⊎ Over (h + v) (j + i)

-- nothing is left to do: each cost with its instructions is apart from the one directly before it, h and j, each sync has
-- a spawn since, which x says at first, and something else than syncs behind it, and each 07 line stands directly after a
-- cost line, which c says of the first
abbrev Firm : Bool → Bool → ℕ → ℕ → Body → Type 0
Firm c x h j done = Unit {0}
Firm c x h j (leaf (spend v) r) = (1 ≤ v) × Apart h j v (ahead r) × Firm true x v (ahead r) r
Firm c x h j (leaf sync r) = (x ≡ true) × (ends r ≡ false) × Firm false false 0 0 r
Firm c x h j (leaf (note (site s p)) r) = Firm false x 0 0 r
Firm c x h j (leaf (note (carry v)) r) = (c ≡ true) × (1 ≤ v) × Firm false x h j r
Firm c x h j (child w s g r) = Firm false false 0 0 g × Firm false (later w x) 0 0 r

-- ── what is firm stays ──

-- without the 07 line that it begins with
abbrev bare : Body → Body
bare done = done
bare (leaf (spend v) r) = leaf (spend v) r
bare (leaf sync r) = leaf sync r
bare (leaf (note (site s p)) r) = leaf (note (site s p)) r
bare (leaf (note (carry v)) r) = r
bare (child w s g r) = child w s g r

-- where none stands directly after a cost line
firm_bare : (b : Body) (x : Bool) (h j : ℕ) → Firm false x h j b → bare b ≡ b
firm_bare done x h j k = refl
firm_bare (leaf (spend v) r) x h j k = refl
firm_bare (leaf sync r) x h j k = refl
firm_bare (leaf (note (site s p)) r) x h j k = refl
firm_bare (leaf (note (carry v)) r) x h j k = clash (let z = k.0 in cc)
firm_bare (child w s g r) x h j k = refl

-- where it is that of the cost before it
firm_cost : (v : ℕ) (b : Body) (x : Bool) → 1 ≤ v → Firm true x v (ahead b) b → summed_b v (ahead b) (bare b) ≡ leaf (spend v) b
firm_cost zero b x l k = absurd (omega arith)
firm_cost (suc v) done x l k = refl
firm_cost (suc v) (leaf (spend w) r) x l k = refl
firm_cost (suc v) (leaf sync r) x l k = refl
firm_cost (suc v) (leaf (note (site s p)) r) x l k = refl
firm_cost (suc v) (leaf (note (carry zero)) r) x l k = absurd (omega (arith, k.1))
firm_cost (suc v) (leaf (note (carry (suc i))) r) x l k = refl
firm_cost (suc v) (child w s g r) x l k = refl

apart_stays : (x : Bool) (h j v : ℕ) (r : Body) → Paired h j → Apart h j v (ahead r) → packed x h j (leaf (spend v) r) ≡ summed_b h j (packed x v (ahead r) r)
apart_stays x zero j v r p a =
    let z : 0 + v ≡ v = omega arith in
    let y : j + ahead r ≡ ahead r = let e = p refl in omega arith in
    cost_either (λ b. b ≡ packed x v (ahead r) r) x 0 j v r (λ q. ap (λ (k : ℕ). packed x k (j + ahead r) r) z ∙ ap (λ (k : ℕ). packed x v k r) y) (λ q. refl)
apart_stays x (suc h) j v r p (inl e) = absurd (omega arith)
apart_stays x (suc h) j v r p (inr l) =
    ap (λ (e : Bool). cond e (packed x (suc h + v) (j + ahead r) r) (summed_b (suc h) j (packed x v (ahead r) r))) (over-fit (suc h + v) (j + ahead r) l)

firm_stays : (b : Body) (c x : Bool) (h j : ℕ) → Paired h j → Firm c x h j b → packed x h j b ≡ summed_b h j (bare b)
firm_stays done c x h j p k = refl
firm_stays (leaf (spend v) r) c x h j p k =
    apart_stays x h j v r p k.1
    ∙ ap (summed_b h j) (firm_stays r true x v (ahead r) (λ e. absurd (omega (arith, k.0))) k.2 ∙ firm_cost v r x k.0 k.2)
firm_stays (leaf sync r) c x h j p k =
    ap (λ (y : Bool). cond (not y || ends r) (packed false h j r) (summed_b h j (leaf sync (packed false 0 0 r)))) k.0
    ∙ ap (λ (e : Bool). cond e (packed false h j r) (summed_b h j (leaf sync (packed false 0 0 r)))) k.1
    ∙ ap (λ (b : Body). summed_b h j (leaf sync b)) (firm_stays r false false 0 0 (λ e. refl) k.2 ∙ firm_bare r false 0 0 k.2)
firm_stays (leaf (note (site s q)) r) c x h j p k =
    ap (λ (b : Body). summed_b h j (leaf (note (site s q)) b)) (firm_stays r false x 0 0 (λ e. refl) k ∙ firm_bare r x 0 0 k)
firm_stays (leaf (note (carry v)) r) c x h j p k = firm_stays r false x h j p k.2 ∙ ap (summed_b h j) (firm_bare r x h j k.2)
firm_stays (child y s g r) c x h j p k =
    ap (λ (b : Body). summed_b h j (child y s b (packed (later y x) 0 0 r))) (firm_stays g false false 0 0 (λ e. refl) k.0 ∙ firm_bare g false 0 0 k.0)
    ∙ ap (λ (b : Body). summed_b h j (child y s g b)) (firm_stays r false (later y x) 0 0 (λ e. refl) k.1 ∙ firm_bare r (later y x) 0 0 k.1)

-- ── what is compacted is firm ──

summed-ends : (h j : ℕ) (b : Body) → 1 ≤ h → ends (summed_b h j b) ≡ false
summed-ends zero j b l = absurd (omega arith)
summed-ends (suc h) j b l = refl

-- a cost before it is no end
cost-ends : (b : Body) (x : Bool) (h j : ℕ) → 1 ≤ h → ends (packed x h j b) ≡ false
cost-ends done x h j l = summed-ends h j done l
cost-ends (leaf (spend v) r) x h j l =
    cost_either (λ b. ends b ≡ false) x h j v r (λ q. cost-ends r x (h + v) (j + ahead r) (omega arith)) (λ q. summed-ends h j (packed x v (ahead r) r) l)
cost-ends (leaf sync r) x h j l = sync_either (λ b. ends b ≡ false) x h j r (cost-ends r false h j l) (summed-ends h j (leaf sync (packed false 0 0 r)) l)
cost-ends (leaf (note (site s p)) r) x h j l = summed-ends h j (leaf (note (site s p)) (packed x 0 0 r)) l
cost-ends (leaf (note (carry v)) r) x h j l = cost-ends r x h j l
cost-ends (child y s g r) x h j l = summed-ends h j (child y s (compact_b g) (packed (later y x) 0 0 r)) l

ends-packed : (b : Body) → Paid b → OwnedBody false b → ends b ≡ false → ends (compact_b b) ≡ false
ends-packed done w o e = e
ends-packed (leaf (spend v) r) w o e =
    cost_either (λ b. ends b ≡ false) false 0 0 v r (λ q. cost-ends r false (0 + v) (0 + ahead r) (omega (arith, w.0))) (λ q. cost-ends r false v (ahead r) w.0)
ends-packed (leaf sync r) w o e = ends-packed r w.1 o.1 e
ends-packed (leaf (note (site s p)) r) w o e = refl
ends-packed (leaf (note (carry v)) r) w o e = clash (let z = o.0 in cc)
ends-packed (child y s g r) w o e = refl

-- where only syncs are left nothing is
pub ends-done : (b : Body) (h j : ℕ) → ends b ≡ true → packed false h j b ≡ summed_b h j done
ends-done done h j e = refl
ends-done (leaf (spend v) r) h j e = clash (cc)
ends-done (leaf sync r) h j e = ends-done r h j e
ends-done (leaf (note n) r) h j e = clash (cc)
ends-done (child y s g r) h j e = clash (cc)

-- a sum before what is firm behind it
firm_behind : (x : Bool) (k l h j : ℕ) (b : Body) → ahead b ≡ 0 → Apart k l (suc h) j → ((d : Bool) → Firm d x (suc h) j b) → (d : Bool) → Firm d x k l (summed_b (suc h) j b)
firm_behind x k l h zero b e a f d =
    (omega arith, subst (Apart k l (suc h)) (sym e) a, subst (λ (i : ℕ). Firm true x (suc h) i b) (sym e) (f true))
firm_behind x k l h (suc j) b e a f d = (omega arith, a, (refl, omega arith, f false))

-- a sum before what is firm whatever stands before it
firm_summed : (x : Bool) (k l h j : ℕ) (b : Body) → ahead b ≡ 0 → Apart k l h j → ((d : Bool) (m n : ℕ) → Firm d x m n b) → (d : Bool) → Firm d x k l (summed_b h j b)
firm_summed x k l zero j b e a f d = f d k l
firm_summed x k l (suc h) j b e a f d = firm_behind x k l h j b e a (λ c. f c (suc h) j) d

-- more is apart too
apart_more : (k l h j v i : ℕ) → Apart k l h j → h ≤ v → j ≤ i → Apart k l v i
apart_more k l h j v i (inl e) p q = inl e
apart_more k l h j v i (inr (inl o)) p q = inr (inl (omega arith))
apart_more k l h j v i (inr (inr o)) p q = inr (inr (omega arith))

packed_firm : (b : Body) (c x : Bool) (k l h j : ℕ) → Paid b → OwnedBody c b → Paired h j → Apart k l h j → (d : Bool) → Firm d x k l (packed x h j b)
packed_firm done c x k l h j w o p a d = firm_summed x k l h j done refl a (λ e m n. tt) d
packed_firm (leaf (spend v) r) c x k l h j w o p a d =
    cost_either (Firm d x k l) x h j v r
    (λ q. packed_firm r true x k l (h + v) (j + ahead r) w.1 o.1 (λ e. absurd (omega (arith, w.0))) (apart_more k l h j (h + v) (j + ahead r) a (omega arith) (omega arith)) d)
    (λ q. over h p q a (λ m n. packed_firm r true x m n v (ahead r) w.1 o.1 (λ e. absurd (omega (arith, w.0)))))
  where
    over : (h : ℕ) → Paired h j → Over (h + v) (j + ahead r) → Apart k l h j → ((m n : ℕ) → Apart m n v (ahead r) → (d : Bool) → Firm d x m n (packed x v (ahead r) r))
        → Firm d x k l (summed_b h j (packed x v (ahead r) r))
    over zero p q a f = let e = p refl in f k l (apart_more k l 0 j v (ahead r) a (omega arith) (omega arith)) d
    over (suc h) p q a f = firm_behind x k l h j (packed x v (ahead r) r) (packed-ahead r x v (ahead r)) a (f (suc h) j (inr q)) d
packed_firm (leaf sync r) c false k l h j w o p a d = packed_firm r false false k l h j w.1 o.1 p a d
packed_firm (leaf sync r) c true k l h j w o p a d = go (ends r) refl (packed_firm r false false 0 0 0 0 w.1 o.1 (λ e. refl) (inl refl) false)
  where
    go : (e : Bool) → ends r ≡ e → Firm false false 0 0 (compact_b r) → Firm d true k l (cond e (packed false h j r) (summed_b h j (leaf sync (compact_b r))))
    go true q f = subst (Firm d true k l) (sym (ends-done r h j q)) (firm_summed true k l h j done refl a (λ e m n. tt) d)
    go false q f = firm_summed true k l h j (leaf sync (compact_b r)) refl a (λ e m n. (refl, ends-packed r w.1 o.1 q, f)) d
packed_firm (leaf (note (site s q)) r) c x k l h j w o p a d =
    let f = packed_firm r false x 0 0 0 0 w.1 o.1 (λ e. refl) (inl refl) false in
    firm_summed x k l h j (leaf (note (site s q)) (packed x 0 0 r)) refl a (λ e m n. f) d
packed_firm (leaf (note (carry v)) r) c x k l h j w o p a d = packed_firm r false x k l h j w.1 o.1 p a d
packed_firm (child y s g r) c x k l h j w o p a d =
    let f = packed_firm g false false 0 0 0 0 w.0 o.0 (λ e. refl) (inl refl) false in
    let q = packed_firm r false (later y x) 0 0 0 0 w.1 o.1 (λ e. refl) (inl refl) false in
    firm_summed x k l h j (child y s (compact_b g) (packed (later y x) 0 0 r)) refl a (λ e m n. (f, q)) d

-- LAW: compacting twice is compacting once
pub compact_once : (b : Body) → Paid b → OwnedBody false b → compact_b (compact_b b) ≡ compact_b b
compact_once b w o =
    let f = packed_firm b false false 0 0 0 0 w o (λ e. refl) (inl refl) false in
    firm_stays (compact_b b) false false 0 0 (λ e. refl) f ∙ firm_bare (compact_b b) false 0 0 f
