-- The plan of a body, for every way: its costs are those of its parts in their order, their lines are the body's, and
-- they ascend.
use mathlib.Core.Path.{◌≡◌, refl, sym, ◌∙◌, ap, subst}
use mathlib.Core.Logic.{◌⊎◌, inl, inr, ⊎_map}
use mathlib.Core.List.Memᴰ
use mathlib.Core.List.{List, ◌∷◌, ◌++◌, append_assoc, Memᴰ}
use Prim.Native.Nat.{ℕ, suc, ◌+◌, ◌≤◌, ◌<◌}
use native.Mathlib.Omega.{arith}
use Rattle.chain.specs.Plan.{CostLine, costs, All, Pairs, Less, Ordered, Worth, Positive, On, Apart}
use Rattle.chain.proofs.Lists.{all_map, all-at, all_append, pairs_append}
use Rattle.trace.specs.Tree.{Way, call, spawn, async, pass, finish, Leaf, spend, sync, note, LeafWithin, Body, done, leaf, child, ahead, size, Within}
use Rattle.trace.specs.Fold.{cost_at, Rest, nil, all, together, plan_to, plan}

abbrev costs_in : Rest → List CostLine
costs_in k = costs (all k)

-- the costs of a child and of what follows it, however it is made
costs-together : (w : Way) (f : Rest → Rest) (k : Rest) → ((k : Rest) → costs_in (f k) ≡ costs_in (f nil) ++ costs_in k) → costs_in (together w f k) ≡ costs_in (f nil) ++ costs_in k
costs-together call f k e = append_assoc (costs_in (f nil)) (costs k.now) (costs k.later)
costs-together spawn f k e = append_assoc (costs_in (f nil)) (costs k.now) (costs k.later)
costs-together async f k e = append_assoc (costs_in (f nil)) (costs k.now) (costs k.later)
costs-together pass f k e = e k
costs-together finish f k e = append_assoc (costs_in (f nil)) (costs k.now) (costs k.later)

-- LAW: the costs of a body come before those of what follows it
pub costs-to : (b : Body) (n s : ℕ) (k : Rest) → costs (all (plan_to n s b k)) ≡ costs (plan n s b) ++ costs (all k)
costs-to done n s k = refl
costs-to (leaf (spend v) r) n s k = ap (λ (l : List CostLine). cost_at n s v (ahead r) ∷ l) (costs-to r (suc n) s k)
costs-to (leaf sync r) n s k = costs-to r (suc n) s k
costs-to (leaf (note x) r) n s k = costs-to r (suc n) s k
costs-to (child w i g r) n s k =
    let f = plan_to (suc n) i g in
    let e = costs-to g (suc n) i in
    let m = suc n + size g in
    costs-together w f (plan_to m s r k) e
    ∙ ap (λ (l : List CostLine). costs_in (f nil) ++ l) (costs-to r m s k)
    ∙ sym (append_assoc (costs_in (f nil)) (costs (plan m s r)) (costs_in k))
    ∙ ap (λ (l : List CostLine). l ++ costs_in k) (sym (costs-together w f (plan_to m s r nil) e))

-- LAW: a child's costs, and the rest's
pub costs-two : (w : Way) (n s v : ℕ) (g r : Body) → costs (plan n s (child w v g r)) ≡ costs (plan (suc n) v g) ++ costs (plan (suc n + size g) s r)
costs-two w n s v g r = costs-together w (plan_to (suc n) v g) (plan_to (suc n + size g) s r nil) (costs-to g (suc n) v)

pub on-two : (w : Way) (n s v : ℕ) (g r : Body) (z : CostLine) → On (plan n s (child w v g r)) z → On (plan (suc n) v g) z ⊎ On (plan (suc n + size g) s r) z
on-two w n s v g r z m = Memᴰ.append_cases (costs (plan (suc n) v g)) (subst (λ (l : List CostLine). Memᴰ z l) (costs-two w n s v g r) m)

pub two-on : (w : Way) (n s v : ℕ) (g r : Body) (z : CostLine) → On (plan (suc n) v g) z ⊎ On (plan (suc n + size g) s r) z → On (plan n s (child w v g r)) z
two-on w n s v g r z (inl m) = subst (λ (l : List CostLine). Memᴰ z l) (sym (costs-two w n s v g r)) (Memᴰ.append_left (costs (plan (suc n + size g) s r)) m)
two-on w n s v g r z (inr m) = subst (λ (l : List CostLine). Memᴰ z l) (sym (costs-two w n s v g r)) (Memᴰ.append_right (costs (plan (suc n) v g)) m)

pub all_two : (p : CostLine → Type 0) (w : Way) (n s v : ℕ) (g r : Body) → All p (costs (plan (suc n) v g)) → All p (costs (plan (suc n + size g) s r)) → All p (costs (plan n s (child w v g r)))
all_two p w n s v g r h k = subst (All p) (sym (costs-two w n s v g r)) (all_append p (costs (plan (suc n) v g)) (costs (plan (suc n + size g) s r)) h k)

-- a leaf line, and the rest: a cost is this line's or the rest's, and two are apart exactly in the rest
pub on-leaf : (l : Leaf) (n s : ℕ) (r : Body) (x : CostLine) → On (plan n s (leaf l r)) x → (x.line ≡ n) ⊎ On (plan (suc n) s r) x
on-leaf (spend v) n s r x m = ⊎_map (λ e. ap (λ (y : CostLine). y.line) e) (λ o. o) (Memᴰ.cases_cons m)
on-leaf sync n s r x m = inr m
on-leaf (note k) n s r x m = inr m

pub leaf-on : (l : Leaf) (n s : ℕ) (r : Body) (x : CostLine) → On (plan (suc n) s r) x → On (plan n s (leaf l r)) x
leaf-on (spend v) n s r x m = Memᴰ.tail m
leaf-on sync n s r x m = m
leaf-on (note k) n s r x m = m

pub rest-of-leaf : (l : Leaf) (n s : ℕ) (r : Body) (k : Rest) (x y : CostLine) → Apart (all (plan_to n s (leaf l r) k)) x y → Apart (all (plan_to (suc n) s r k)) x y
rest-of-leaf (spend v) n s r k x y (inl (inl a)) = absurd a
rest-of-leaf (spend v) n s r k x y (inl (inr a)) = inl a
rest-of-leaf (spend v) n s r k x y (inr a) = inr a
rest-of-leaf sync n s r k x y (inl a) = absurd a
rest-of-leaf sync n s r k x y (inr a) = a
rest-of-leaf (note z) n s r k x y a = a

pub leaf-of-rest : (l : Leaf) (n s : ℕ) (r : Body) (k : Rest) (x y : CostLine) → Apart (all (plan_to (suc n) s r k)) x y → Apart (all (plan_to n s (leaf l r) k)) x y
leaf-of-rest (spend v) n s r k x y (inl a) = inl (inr a)
leaf-of-rest (spend v) n s r k x y (inr a) = inr a
leaf-of-rest sync n s r k x y a = inr a
leaf-of-rest (note z) n s r k x y a = a

-- ── the lines ──

-- the line is from m on and before k
abbrev pub Between : ℕ → ℕ → CostLine → Type 0
Between m k x = (m ≤ x.line) × (x.line < k)

range : (b : Body) (n s : ℕ) → All (Between n (n + size b)) (costs (plan n s b))
range done n s = tt
range (leaf (spend v) r) n s = (omega arith, all_map (λ y w. omega arith) (costs (plan (suc n) s r)) (range r (suc n) s))
range (leaf sync r) n s = all_map (λ y w. omega arith) (costs (plan (suc n) s r)) (range r (suc n) s)
range (leaf (note x) r) n s = all_map (λ y w. omega arith) (costs (plan (suc n) s r)) (range r (suc n) s)
range (child w v g r) n s =
    all_two (Between n (n + size (child w v g r))) w n s v g r (all_map (λ y w. omega arith) (costs (plan (suc n) v g)) (range g (suc n) v))
    (all_map (λ y w. omega arith) (costs (plan (suc n + size g) s r)) (range r (suc n + size g) s))

-- LAW: a cost of the plan stands among the body's lines
pub on-range : (b : Body) (n s : ℕ) (x : CostLine) → On (plan n s b) x → Between n (n + size b) x
on-range b n s x m = all-at (Between n (n + size b)) (costs (plan n s b)) (range b n s) m

-- LAW: the lines ascend
pub plan_ordered : (b : Body) (n s : ℕ) → Ordered (plan n s b)
plan_ordered done n s = tt
plan_ordered (leaf (spend v) r) n s = (all_map (λ y w. omega arith) (costs (plan (suc n) s r)) (range r (suc n) s), plan_ordered r (suc n) s)
plan_ordered (leaf sync r) n s = plan_ordered r (suc n) s
plan_ordered (leaf (note x) r) n s = plan_ordered r (suc n) s
plan_ordered (child w v g r) n s =
    let a = costs (plan (suc n) v g) in
    let b = costs (plan (suc n + size g) s r) in
    subst (Pairs Less) (sym (costs-two w n s v g r))
    (pairs_append Less a b (plan_ordered g (suc n) v) (plan_ordered r (suc n + size g) s)
    (all_map (λ x h. all_map (λ y k. omega arith) b (range r (suc n + size g) s)) a (range g (suc n) v)))

-- ── what they weigh ──

-- each cost is at least 1
abbrev LeafPaid : Leaf → Type 0
LeafPaid (spend v) = 1 ≤ v
LeafPaid sync = Unit {0}
LeafPaid (note x) = Unit {0}

abbrev pub Paid : Body → Type 0
Paid done = Unit {0}
Paid (leaf l r) = LeafPaid l × Paid r
Paid (child w i g r) = Paid g × Paid r

leaf-paid : (l : Leaf) → LeafWithin l → LeafPaid l
leaf-paid (spend v) h = h.0
leaf-paid sync h = tt
leaf-paid (note x) h = tt

pub paid : (m D d : ℕ) (b : Body) → Within m D d b → Paid b
paid m D d done h = tt
paid m D d (leaf l r) h = (leaf-paid l h.0, paid m D d r h.1)
paid m D d (child w i g r) h = (paid m D (suc d) g h.3, paid m D d r h.4)

-- LAW
pub plan_positive : (b : Body) (n s : ℕ) → Paid b → Positive (plan n s b)
plan_positive done n s h = tt
plan_positive (leaf (spend v) r) n s h = (h.0, plan_positive r (suc n) s h.1)
plan_positive (leaf sync r) n s h = plan_positive r (suc n) s h.1
plan_positive (leaf (note x) r) n s h = plan_positive r (suc n) s h.1
plan_positive (child w i g r) n s h = all_two Worth w n s i g r (plan_positive g (suc n) i h.0) (plan_positive r (suc n + size g) s h.1)
