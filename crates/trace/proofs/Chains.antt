-- The chains, the span and the chosen chain of an invocation are those of its body's plan, which the recurrence gives.
use mathlib.Core.Path.{◌≡◌, refl, sym, ap, subst, subst₂}
use mathlib.Core.Logic.{inl, inr}
use mathlib.Core.List.Memᴰ
use mathlib.Core.List.{List, [], ◌∷◌, ◌++◌}
use Prim.Native.Nat.{ℕ, zero, suc, ◌+◌, ◌<◌}
use native.Mathlib.Omega.{arith}
use native.Mathlib.Nat.{le_dest}
use lib.ListN.{length, length-append}
use lib.Dec.{T}
use Rattle.line.specs.Family.{Family, Base}
use Rattle.line.specs.declared.Frame.{Frame}
use Rattle.line.specs.declared.Frame.TheVariants.{Sync, Cost}
use Rattle.chain.specs.Plan.{CostLine, costs, On, Apart}
use Rattle.chain.specs.Plan as P
use Rattle.chain.specs.Over as Over
use Rattle.chain.proofs.Over.{Found, Fits, chosen_by, span-by}
use Rattle.chain.specs.Over.{lines_in}
use Rattle.trace.specs.Shape.{Is, root, walk, open_at, has, Parallel}
use Rattle.trace.specs.Series.{value, value_at, CostIn, ParallelOf, rule_of, SpanOf, ChosenOf}
use Rattle.trace.specs.Tree.{Way, opening, line_of, spend, sync, note, Body, done, leaf, child, Of, lines_of, ahead, size}
use Rattle.trace.specs.Fold.{cost_at, plan, chain_of}
use Rattle.trace.proofs.Basics.{below, clash}
use Rattle.trace.proofs.Tree.{size_is, leaf_not_opening, spend_not_note}
use Rattle.trace.proofs.Levels.{in_of, in_lt}
use Rattle.trace.proofs.Plans.{costs-two, on-two, Paid}
use Rattle.trace.proofs.Apart.{apart_beside, beside_apart}
use Rattle.trace.proofs.Recurrence.{chain-chosen}
use Rattle.trace.proofs.Open.{in_to, in_from}
use Rattle.trace.proofs.Context.{Ctx, is-append, has_le, at_open, at_is, local-to, local-from}

-- ── lines by their numbers ──

pub is-length : (u : List Frame) (i : ℕ) (f : Frame) → Is u i f → i < length u
is-length [] i f h = absurd h
is-length (e ∷ u) zero f h = omega arith
is-length (e ∷ u) (suc i) f h = omega (arith, is-length u i f h)

pub is-left : (u v : List Frame) (i : ℕ) (f : Frame) → i < length u → Is (u ++ v) i f → Is u i f
is-left [] v i f l h = absurd (omega arith)
is-left (e ∷ u) v zero f l h = h
is-left (e ∷ u) v (suc i) f l h = is-left u v i f (omega arith) h

pub is_right : (u v : List Frame) (i : ℕ) (f : Frame) → Is u i f → Is (u ++ v) i f
is_right [] v i f h = absurd h
is_right (e ∷ u) v zero f h = h
is_right (e ∷ u) v (suc i) f h = is_right u v i f h

pub value_is : (t : List Frame) (k w : ℕ) → Is t k (Cost w) → value_at t k ≡ w
value_is [] k w h = absurd h
value_is (e ∷ t) zero w h = ap value h
value_is (e ∷ t) (suc k) w h = value_is t k w h

-- ── the costs of a plan are the cost lines of its body ──

abbrev pub Where : ℕ → List Frame → CostLine → Type 0
Where n u x = (i : ℕ) × (x.line ≡ n + i) × Is u i (Cost x.value)

one_on : (n : ℕ) (e : Frame) (u : List Frame) (x : CostLine) → Where (suc n) u x → Where n (e ∷ u) x
one_on n e u x w = (suc w.0, omega (arith, w.1), w.2)

left-on : (n : ℕ) (u v : List Frame) (x : CostLine) → Where n u x → Where n (u ++ v) x
left-on n u v x w = (w.0, w.1, is_right u v w.0 (Cost x.value) w.2)

right_on : (n m : ℕ) (u v : List Frame) (x : CostLine) → length u ≡ m → Where (n + m) v x → Where n (u ++ v) x
right_on n m u v x l w = (length u + w.0, omega (arith, w.1), subst (λ (A : Type 0). A) (sym (is-append u v w.0 (Cost x.value))) w.2)

pub on_where : (b : Body) (n s : ℕ) (x : CostLine) → On (plan n s b) x → Where n (lines_of b) x
on_where done n s x m = absurd (Memᴰ.not-nil m)
on_where (leaf (spend v) r) n s x m =
    elim (Memᴰ.cases_cons m) [
      | inl e ↦ (zero, (let l : x.line ≡ n = ap (λ (y : CostLine). y.line) e in omega arith), ap (λ (y : CostLine). Cost y.value) (sym e))
      | inr k ↦ one_on n (Cost v) (lines_of r) x (on_where r (suc n) s x k)
    ]
on_where (leaf sync r) n s x m = one_on n Sync (lines_of r) x (on_where r (suc n) s x m)
on_where (leaf (note k) r) n s x m = one_on n (line_of (note k)) (lines_of r) x (on_where r (suc n) s x m)
on_where (child w v g r) n s x m =
    one_on n (opening w v) (lines_of g ++ lines_of r) x (elim (on-two w n s v g r x m) [
      | inl o ↦ left-on (suc n) (lines_of g) (lines_of r) x (on_where g (suc n) v x o)
      | inr o ↦ right_on (suc n) (size g) (lines_of g) (lines_of r) x (size_is g) (on_where r (suc n + size g) s x o)
    ])

found-line : (l : List CostLine) (k j v : ℕ) → k ≡ j → Found l k v → Found l j v
found-line l k j v e f = subst (λ (i : ℕ). Found l i v) e f

found_left : (l m : List CostLine) (k v : ℕ) → Found l k v → Found (l ++ m) k v
found_left l m k v h = record { cost = h.cost; on = Memᴰ.append_left m h.on; line_is = h.line_is; value_is = h.value_is }

found_right : (l m : List CostLine) (k v : ℕ) → Found m k v → Found (l ++ m) k v
found_right l m k v h = record { cost = h.cost; on = Memᴰ.append_right l h.on; line_is = h.line_is; value_is = h.value_is }

abbrev Finds : Body → Type 0
Finds b = (n s i w : ℕ) → Is (lines_of b) i (Cost w) → Found (costs (plan n s b)) (n + i) w

find_two : (m : Way) (n s v : ℕ) (g r : Body) → Finds g → Finds r → (i w : ℕ) → Is (lines_of g ++ lines_of r) i (Cost w) → Found (costs (plan n s (child m v g r))) (n + suc i) w
find_two m n s v g r f f' i w h =
    found-line (costs (plan n s (child m v g r))) (suc n + i) (n + suc i) w (omega arith)
    (subst (λ (l : List CostLine). Found l (suc n + i) w) (sym (costs-two m n s v g r))
    (elim (below (size g) i) [
      | inl l ↦ found_left (costs (plan (suc n) v g)) (costs (plan (suc n + size g) s r)) (suc n + i) w (f (suc n) v i w (is-left (lines_of g) (lines_of r) i (Cost w) (omega (arith, size_is g)) h))
      | inr k ↦ found_right (costs (plan (suc n) v g)) (costs (plan (suc n + size g) s r)) (suc n + i) w (behind k)
    ]))
  where
    behind : (k : ℕ) × (i ≡ size g + k) → Found (costs (plan (suc n + size g) s r)) (suc n + i) w
    behind k =
        let e : suc n + size g + k.0 ≡ suc n + i = omega (arith, k.1) in
        let a : i ≡ length (lines_of g) + k.0 = omega (arith, k.1, size_is g) in
        found-line (costs (plan (suc n + size g) s r)) (suc n + size g + k.0) (suc n + i) w e
        (f' (suc n + size g) s k.0 w (subst (λ (A : Type 0). A) (is-append (lines_of g) (lines_of r) k.0 (Cost w)) (subst (λ (j : ℕ). Is (lines_of g ++ lines_of r) j (Cost w)) a h)))

pub where_on : (b : Body) → Finds b
where_on done n s zero w h = clash (cc)
where_on done n s (suc i) w h = absurd h
where_on (leaf (spend v) r) n s zero w h = record { cost = cost_at n s v (ahead r); on = Memᴰ.head refl; line_is = omega arith; value_is = ap value h }
where_on (leaf (spend v) r) n s (suc i) w h =
    let f = where_on r (suc n) s i w h in
    record { cost = f.cost; on = Memᴰ.tail f.on; line_is = omega (arith, f.line_is); value_is = f.value_is }
where_on (leaf sync r) n s zero w h = clash (cc)
where_on (leaf sync r) n s (suc i) w h = found-line (costs (plan n s (leaf sync r))) (suc n + i) (n + suc i) w (omega arith) (where_on r (suc n) s i w h)
where_on (leaf (note k) r) n s zero w h = spend_not_note w k (sym h)
where_on (leaf (note k) r) n s (suc i) w h = found-line (costs (plan n s (leaf (note k) r))) (suc n + i) (n + suc i) w (omega arith) (where_on r (suc n) s i w h)
where_on (child m v g r) n s zero w h = leaf_not_opening (spend w) m v (sym h)
where_on (child m v g r) n s (suc i) w h = find_two m n s v g r (where_on g) (where_on r) i w h

-- ── one invocation ──

-- The invocation F, in row s, has the body g, whose first line is line F.
module _ (t : List Frame) (s F : ℕ) (o : List ℕ) (g : Body) (post : List Frame) (x : Ctx t F (F ∷ o) (lines_of g ++ post)) where
  pub inside : (i : ℕ) → i < size g → T (has F (walk F (F ∷ o) (lines_of g ++ post) i))
  inside i l = in_to F zero F (F ∷ o) (lines_of g ++ post) i x.low.0 (refl, x.low.1) (in_of g post i l)

  pub within : (i : ℕ) → i < length (lines_of g ++ post) → T (has F (walk F (F ∷ o) (lines_of g ++ post) i)) → i < size g
  within i l h = in_lt g post i (in_from F zero F (F ∷ o) (lines_of g ++ post) i x.low.0 (refl, x.low.1) l h)

  -- a cost line inside is a cost of the plan
  pub cost-on : (k : ℕ) → CostIn t F k → Found (costs (plan F s g)) k (value_at t k)
  cost-on k c = go (le_dest (has_le t k F c.inside))
    where
      go : (i : ℕ) × (F + i ≡ k) → Found (costs (plan F s g)) k (value_at t k)
      go w =
          let i = w.0 in
          let h : Is (lines_of g ++ post) i (Cost (value_at t k)) =
          subst (λ (A : Type 0). A) (at_is t F (F ∷ o) (lines_of g ++ post) x i (Cost (value_at t k))) (subst (λ (z : ℕ). Is t z (Cost (value_at t k))) (sym w.1) c.is) in
          let q : T (has F (walk F (F ∷ o) (lines_of g ++ post) i)) =
          subst (λ (l : List ℕ). T (has F l)) (at_open t F (F ∷ o) (lines_of g ++ post) x i) (subst (λ (z : ℕ). T (has F (open_at t z))) (sym w.1) c.inside) in
          let l = within i (is-length (lines_of g ++ post) i (Cost (value_at t k)) h) q in
          found-line (costs (plan F s g)) (F + i) k (value_at t k) w.1 (where_on g F s i (value_at t k) (is-left (lines_of g) post i (Cost (value_at t k)) (omega (arith, size_is g)) h))

  -- and back
  pub on-cost : (y : CostLine) → On (plan F s g) y → CostIn t F y.line × (value_at t y.line ≡ y.value)
  on-cost y m = go (on_where g F s y m)
    where
      go : Where F (lines_of g) y → CostIn t F y.line × (value_at t y.line ≡ y.value)
      go w =
          let i = w.0 in
          let h : Is t y.line (Cost y.value) =
          subst (λ (z : ℕ). Is t z (Cost y.value)) (sym w.1)
          (subst (λ (A : Type 0). A) (sym (at_is t F (F ∷ o) (lines_of g ++ post) x i (Cost y.value))) (is_right (lines_of g) post i (Cost y.value) w.2)) in
          let e = value_is t y.line y.value h in
          let q : T (has F (open_at t y.line)) =
          subst (λ (z : ℕ). T (has F (open_at t z))) (sym w.1)
          (subst (λ (l : List ℕ). T (has F l)) (sym (at_open t F (F ∷ o) (lines_of g ++ post) x i)) (inside i (omega (arith, size_is g, is-length (lines_of g) i (Cost y.value) w.2)))) in
          (record { is = subst (λ (v : ℕ). Is t y.line (Cost v)) (sym e) h; inside = q }, e)

  -- LAW: the body's plan fits the rule of the invocation's cost lines, where two of its costs are apart exactly where
  -- their lines are parallel in the family
  pub fits : (f : Family)
      → ((y z : CostLine) → On (plan F s g) y → On (plan F s g) z → y.line < z.line → Apart (plan F s g) y z → ParallelOf f t y.line z.line)
      → ((y z : CostLine) → On (plan F s g) y → On (plan F s g) z → y.line < z.line → ParallelOf f t y.line z.line → Apart (plan F s g) y z)
      → Fits (rule_of f t F) (plan F s g)
  fits f to from = record { found = cost-on; on = on-cost; apart = to; parallel = from }

  -- in document 01's family
  module _ (h : Of Base s g) (y z : CostLine) (my : On (plan F s g) y) (mz : On (plan F s g) z) (lt : y.line < z.line) where
    -- LAW: parallel by the definition exactly where apart in the plan
    pub apart-is-parallel : Apart (plan F s g) y z → Parallel t y.line z.line
    apart-is-parallel a = go (on_where g F s y my) (on_where g F s z mz)
      where
        go : Where F (lines_of g) y → Where F (lines_of g) z → Parallel t y.line z.line
        go u w =
            let li = is-length (lines_of g) u.0 (Cost y.value) u.2 in
            let lj = is-length (lines_of g) w.0 (Cost z.value) w.2 in
            subst₂ (λ (i j : ℕ). Parallel t i j) (sym u.1) (sym w.1)
            (local-from t F F o (lines_of g ++ post) x u.0 w.0 (inside u.0 (omega (arith, size_is g))) (inside w.0 (omega (arith, size_is g)))
            (omega (arith, u.1, w.1)) (omega (arith, length-append (lines_of g) post))
            (apart_beside g F s h post y z u.0 w.0 u.1 w.1 a))

    pub parallel-is-apart : Parallel t y.line z.line → Apart (plan F s g) y z
    parallel-is-apart p = go (on_where g F s y my) (on_where g F s z mz)
      where
        go : Where F (lines_of g) y → Where F (lines_of g) z → Apart (plan F s g) y z
        go u w =
            let li = is-length (lines_of g) u.0 (Cost y.value) u.2 in
            let lj = is-length (lines_of g) w.0 (Cost z.value) w.2 in
            beside_apart g F s h post y z u.0 w.0 u.1 w.1 my mz lt
            (local-to t F F o (lines_of g ++ post) x u.0 w.0 (inside u.0 (omega (arith, size_is g))) (inside w.0 (omega (arith, size_is g)))
            (omega (arith, u.1, w.1)) (omega (arith, length-append (lines_of g) post))
            (subst₂ (λ (i j : ℕ). Parallel t i j) u.1 w.1 p))

-- the same invocation, whose plan fits the family's rule
module _ (f : Family) (t : List Frame) (s F : ℕ) (g : Body) (k : Fits (rule_of f t F) (plan F s g)) where
  -- LAW: the span is the weight of the recurrence's chain
  pub span-of : Paid g → SpanOf f t F (P.weight (chain_of F s g))
  span-of h = span-by (rule_of f t F) (plan F s g) k (chain_of F s g) (chain-chosen g F s h)

  -- LAW: the chosen chain of the root is the recurrence's chain
  pub chosen_of : Paid g → F ≡ root → ChosenOf f t (lines_in (chain_of F s g))
  chosen_of h r = subst (λ (G : ℕ). Over.Chosen (rule_of f t G) (lines_in (chain_of F s g))) r (chosen_by (rule_of f t F) (plan F s g) k (chain_of F s g) (chain-chosen g F s h))
