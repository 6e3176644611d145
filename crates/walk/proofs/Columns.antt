-- What a body adds to each row number is columns 1 to 4 and 6 of the tree.
use mathlib.Core.Path.{◌≡◌, refl, ap, ◌∙◌}
use mathlib.Core.Bool.{Bool, true, false, cond, ◌&&◌}
use Prim.Native.Nat.{ℕ, zero, suc, ◌+◌, ◌*◌, ◌≤◌}
use native.Mathlib.Omega.{arith}
use lib.Dec.{eqb}
use borrow.Author.Tests.{eqb-true, eqb-false, eq-eqb, ne_eqb}
use Rattle.line.specs.Family.{Family}
use Rattle.trace.specs.Rows.{columns}
use Rattle.trace.specs.Column.{Column, nth, slot}
use Rattle.trace.specs.ByTree.{cell}
use Rattle.trace.specs.Tree.{Way, Leaf, leaf_work, leaf_cycles, leaf_instructions, Body, done, leaf, child, invokes, Of, Within, direct_of, work_of, local_of, ilocal_of, span_of, made_sum, outer_sum}
use Rattle.trace.proofs.Basics.{cond_same, cond_add}
use Rattle.trace.proofs.Slots.{slot_apart, slot_in}
use Rattle.trace.proofs.Columns.{none-from-root, held}
use Rattle.walk.specs.Gain.{one, one_call, returned, cost_gain, gain, made}
use Rattle.walk.proofs.Rows.{one-other}

-- column k of row j is column l of row s where both are the same
same-slot : (j s : ℕ) (k l : Column) → eqb (slot j k) (slot s l) ≡ (eqb j s && eqb (nth k) (nth l))
same-slot j s k l = go (eqb j s) refl (eqb (nth k) (nth l)) refl
  where
    go : (a : Bool) → eqb j s ≡ a → (b : Bool) → eqb (nth k) (nth l) ≡ b → eqb (slot j k) (slot s l) ≡ (a && b)
    go true p true q = eq-eqb (slot j k) (slot s l) (omega (arith, eqb-true j s p, eqb-true (nth k) (nth l) q))
    go true p false q = ne_eqb (slot j k) (slot s l) (λ z. eqb-false (nth k) (nth l) q (ap nth (slot_apart j s k l z).1))
    go false p b q = ne_eqb (slot j k) (slot s l) (λ z. eqb-false j s p (slot_apart j s k l z).0)

pub one_at : (j s v : ℕ) (k l : Column) → one (slot j k) v (slot s l) ≡ cond (eqb j s) (one (nth k) v (nth l)) 0
one_at j s v k l = ap (λ (b : Bool). cond b v 0) (same-slot j s k l) ∙ go (eqb j s)
  where
    go : (a : Bool) → cond (a && eqb (nth k) (nth l)) v 0 ≡ cond a (one (nth k) v (nth l)) 0
    go true = refl
    go false = refl

-- what x, in column k of its own row, comes to where an invocation with this work and this span returns
abbrev own : Column → ℕ → ℕ → ℕ → ℕ
own Column.calls work span x = x + 1
own Column.work work span x = work
own Column.span work span x = span
own Column.local work span x = x
own Column.on_span work span x = x
own Column.ilocal work span x = x
own Column.ion_span work span x = x

returned-at : (k : Column) (j s work span x : ℕ) → returned j work span x (slot s k) ≡ cond (eqb j s) (own k work span x) x
returned-at k j s work span x =
    ap (λ (b : Bool). cond b span (cond (eqb (slot j Column.work) (slot s k)) work (x + one_call j (slot s k)))) (same-slot j s Column.span k)
    ∙ ap (λ (b : Bool). cond (eqb j s && eqb 2 (nth k)) span (cond b work (x + one_call j (slot s k)))) (same-slot j s Column.work k)
    ∙ ap (λ (b : Bool). cond (eqb j s && eqb 2 (nth k)) span (cond (eqb j s && eqb 1 (nth k)) work (x + cond b 1 0))) (same-slot j s Column.calls k)
    ∙ go (eqb j s) k
  where
    go : (b : Bool) (k : Column) → cond (b && eqb 2 (nth k)) span (cond (b && eqb 1 (nth k)) work (x + cond (b && eqb 0 (nth k)) 1 0)) ≡ cond b (own k work span x) x
    go true Column.calls = refl
    go true Column.work = refl
    go true Column.span = refl
    go true Column.local = omega arith
    go true Column.on_span = omega arith
    go true Column.ilocal = omega arith
    go true Column.ion_span = omega arith
    go false k = omega arith

-- a finish returns and nothing is counted
child-at : (k : Column) (w : Way) (j s work span x : ℕ) → cond (invokes w) (returned j work span x (slot s k)) x ≡ cond (invokes w && eqb j s) (own k work span x) x
child-at k w j s work span x = go (invokes w)
  where
    go : (b : Bool) → cond b (returned j work span x (slot s k)) x ≡ cond (b && eqb j s) (own k work span x) x
    go true = returned-at k j s work span x
    go false = refl

-- a cost is in no column but the fourth and the sixth
no_one : (c k : Column) → ((v : ℕ) → one (nth c) v (nth k) ≡ 0) → (row s v : ℕ) → one (slot row c) v (slot s k) ≡ 0
no_one c k h row s v = one_at row s v c k ∙ ap (λ (x : ℕ). cond (eqb row s) x 0) (h v) ∙ cond_same (eqb row s)

-- column k takes neither
abbrev Neither : Column → Type 0
Neither k = ((v : ℕ) → one (nth Column.local) v (nth k) ≡ 0) × ((v : ℕ) → one (nth Column.ilocal) v (nth k) ≡ 0)

no_cost : (k : Column) → Neither k → (row s v j : ℕ) → cost_gain row v j (slot s k) ≡ 0
no_cost k h row s v j = omega (arith, no_one Column.local k h.0 row s v, no_one Column.ilocal k h.1 row s j)

call_more : (b : Bool) (x : ℕ) → cond b (x + 1) x ≡ cond b 1 0 + x
call_more true x = omega arith
call_more false x = omega arith

-- column 1: every invocation
gain-calls : (row s : ℕ) (b : Body) → gain row b (slot s Column.calls) ≡ made_sum (λ g. 1) s b
gain-calls row s done = refl
gain-calls row s (leaf l r) = omega (arith, no_cost Column.calls ((λ v. refl), (λ v. refl)) row s (leaf_work l) (leaf_instructions l r), gain-calls row s r)
gain-calls row s (child w j g r) =
    let x = gain j g (slot s Column.calls) in
    omega (arith, child-at Column.calls w j s (work_of g) (span_of g) x, call_more (invokes w && eqb j s) x, gain-calls j s g, gain-calls row s r)

-- columns 2 and 3: the outermost, for a return writes over what is inside
module _ (k : Column) (h : Body → ℕ) (written : (g : Body) (x : ℕ) → own k (work_of g) (span_of g) x ≡ h g) (no_local : Neither k) where
  gain_outer : (row s : ℕ) (b : Body) → gain row b (slot s k) ≡ outer_sum h s b
  gain_outer row s done = refl
  gain_outer row s (leaf l r) = omega (arith, no_cost k no_local row s (leaf_work l) (leaf_instructions l r), gain_outer row s r)
  gain_outer row s (child w j g r) =
      let x = gain j g (slot s k) in
      omega (
        arith,
        child-at k w j s (work_of g) (span_of g) x,
        ap (λ (z : ℕ). cond (invokes w && eqb j s) z x) (written g x),
        ap (cond (invokes w && eqb j s) (h g)) (gain_outer j s g),
        gain_outer row s r,
      )

same_either : (b : Bool) (x : ℕ) → cond b x x ≡ x
same_either true x = refl
same_either false x = refl

-- a column that a return leaves alone
module _ (k : Column) (kept : (work span x : ℕ) → own k work span x ≡ x) where
  child-kept : (w : Way) (j s work span x : ℕ) → cond (invokes w) (returned j work span x (slot s k)) x ≡ x
  child-kept w j s work span x =
      child-at k w j s work span x ∙ ap (λ (z : ℕ). cond (invokes w && eqb j s) z x) (kept work span x) ∙ same_either (invokes w && eqb j s) x

-- columns 4 and 6: what stands directly in the body, or in a finish directly in it, belongs to its own row
module _ (k : Column) (m : Leaf → Body → ℕ) (kept : (work span x : ℕ) → own k work span x ≡ x)
    (here : (row s : ℕ) (l : Leaf) (r : Body) → cost_gain row (leaf_work l) (leaf_instructions l r) (slot s k) ≡ cond (eqb row s) (m l r) 0) where
  gain-direct : (y : Family) (row s : ℕ) (b : Body) → Of y row b → gain row b (slot s k) ≡ cond (eqb row s) (direct_of m b) 0 + made_sum (direct_of m) s b
  gain-direct y row s done o = omega (arith, cond_same (eqb row s))
  gain-direct y row s (leaf l r) o = omega (arith, here row s l r, cond_add (eqb row s) (m l r) (direct_of m r), gain-direct y row s r o.1)
  gain-direct y row s (child w j g r) o =
      omega (
        arith,
        child-kept k kept w j s (work_of g) (span_of g) (gain j g (slot s k)),
        gain-direct y j s g o.1,
        gain-direct y row s r o.2,
        held y w j row o.0 s (direct_of m g) (direct_of m r),
      )

cost-local : (row s v j : ℕ) → cost_gain row v j (slot s Column.local) ≡ cond (eqb row s) v 0
cost-local row s v j = omega (arith, one_at row s v Column.local Column.local, no_one Column.ilocal Column.local (λ i. refl) row s j)

cost-ilocal : (row s v j : ℕ) → cost_gain row v j (slot s Column.ilocal) ≡ cond (eqb row s) j 0
cost-ilocal row s v j = omega (arith, one_at row s j Column.ilocal Column.ilocal, no_one Column.local Column.ilocal (λ i. refl) row s v)

gain-local : (y : Family) (row s : ℕ) (b : Body) → Of y row b → gain row b (slot s Column.local) ≡ cond (eqb row s) (local_of b) 0 + made_sum local_of s b
gain-local = gain-direct Column.local leaf_cycles (λ work span x. refl) (λ row s l r. cost-local row s (leaf_work l) (leaf_instructions l r))

gain-ilocal : (y : Family) (row s : ℕ) (b : Body) → Of y row b → gain row b (slot s Column.ilocal) ≡ cond (eqb row s) (ilocal_of b) 0 + made_sum ilocal_of s b
gain-ilocal = gain-direct Column.ilocal leaf_instructions (λ work span x. refl) (λ row s l r. cost-ilocal row s (leaf_work l) (leaf_instructions l r))

-- columns 5 and 7 are left alone
module _ (k : Column) (kept : (work span x : ℕ) → own k work span x ≡ x) (no_local : Neither k) where
  gain-on : (row s : ℕ) (b : Body) → gain row b (slot s k) ≡ 0
  gain-on row s done = refl
  gain-on row s (leaf l r) = omega (arith, no_cost k no_local row s (leaf_work l) (leaf_instructions l r), gain-on row s r)
  gain-on row s (child w j g r) = omega (arith, child-kept k kept w j s (work_of g) (span_of g) (gain j g (slot s k)), gain-on j s g, gain-on row s r)

-- the numbers behind the rows are left alone
module _ (m i : ℕ) (l : columns * (m + 1) ≤ i) where
  apart : (s : ℕ) (k : Column) → s ≤ m → slot s k ≡ i → ⊥
  apart s k h z = omega (arith, slot_in m s k h)

  pub one_out : (s v : ℕ) (k : Column) → s ≤ m → one (slot s k) v i ≡ 0
  one_out s v k h = one-other (slot s k) v i (apart s k h)

  returned-out : (s work span x : ℕ) → s ≤ m → returned s work span x i ≡ x
  returned-out s work span x h =
      ap (λ (b : Bool). cond b span (cond (eqb (slot s Column.work) i) work (x + one_call s i))) (ne_eqb (slot s Column.span) i (apart s Column.span h))
      ∙ ap (λ (b : Bool). cond b work (x + one_call s i)) (ne_eqb (slot s Column.work) i (apart s Column.work h))
      ∙ omega (arith, one_out s 1 Column.calls h)

  gain-out : (D d row : ℕ) (b : Body) → Within m D d b → row ≤ m → gain row b i ≡ 0
  gain-out D d row done h w = refl
  gain-out D d row (leaf k r) h w = omega (arith, one_out row (leaf_work k) Column.local w, one_out row (leaf_instructions k r) Column.ilocal w, gain-out D d row r h.1 w)
  gain-out D d row (child k j g r) h w =
      let x = gain j g i in
      omega (
        arith,
        ap (λ (z : ℕ). cond (invokes k) z x) (returned-out j (work_of g) (span_of g) x h.1),
        same_either (invokes k) x,
        gain-out D (suc d) j g h.3 h.1,
        gain-out D d row r h.4 w,
      )

-- the root is of no site's row
not_its_own : (s x : ℕ) → cond (eqb 0 (suc s)) x 0 ≡ 0
not_its_own s x = ap (λ (t : Bool). cond t x 0) (ne_eqb 0 (suc s) (λ z. omega arith))

-- what the root comes to by its body b
module _ (m D d : ℕ) (b : Body) (w : Within m D d b) where
  root-own : (k : Column) → made 0 b (slot 0 k) ≡ own k (work_of b) (span_of b) (gain 0 b (slot 0 k))
  root-own k = returned-at k 0 0 (work_of b) (span_of b) (gain 0 b (slot 0 k))

  root-site : (s : ℕ) (k : Column) → made 0 b (slot (suc s) k) ≡ gain 0 b (slot (suc s) k)
  root-site s k =
      let x = gain 0 b (slot (suc s) k) in
      returned-at k 0 (suc s) (work_of b) (span_of b) x
      ∙ ap (λ (t : Bool). cond t (own k (work_of b) (span_of b) x) x) (ne_eqb 0 (suc s) (λ z. omega arith))

  module _ (k : Column) (kept : (work span x : ℕ) → own k work span x ≡ x) (no_local : Neither k) where
    left_alone : (s : ℕ) → made 0 b (slot s k) ≡ 0
    left_alone zero = root-own k ∙ kept (work_of b) (span_of b) (gain 0 b (slot 0 k)) ∙ gain-on k kept no_local 0 0 b
    left_alone (suc s) = root-site s k ∙ gain-on k kept no_local 0 (suc s) b

  pub root-on : (s : ℕ) → made 0 b (slot s Column.on_span) ≡ 0
  root-on s = left_alone Column.on_span (λ work span x. refl) ((λ v. refl), (λ v. refl)) s

  pub root_ion : (s : ℕ) → made 0 b (slot s Column.ion_span) ≡ 0
  root_ion s = left_alone Column.ion_span (λ work span x. refl) ((λ v. refl), (λ v. refl)) s

  pub root-out : (i : ℕ) → columns * (m + 1) ≤ i → made 0 b i ≡ 0
  root-out i h = returned-out m i h 0 (work_of b) (span_of b) (gain 0 b i) (omega arith) ∙ gain-out m i h D d 0 b w (omega arith)

  -- columns 1 to 4 and 6 by the tree
  pub root-cell : (y : Family) → Of y 0 b → (s : ℕ) (k : Column) → (k ≡ Column.on_span → ⊥) → (k ≡ Column.ion_span → ⊥) → made 0 b (slot s k) ≡ cell b s k
  root-cell y o zero Column.calls h i = omega (arith, root-own Column.calls, gain-calls 0 0 b, none-from-root (λ g. 1) m D d b w)
  root-cell y o zero Column.work h i = root-own Column.work
  root-cell y o zero Column.span h i = root-own Column.span
  root-cell y o zero Column.local h i = omega (arith, root-own Column.local, gain-local y 0 0 b o, none-from-root local_of m D d b w)
  root-cell y o zero Column.ilocal h i = omega (arith, root-own Column.ilocal, gain-ilocal y 0 0 b o, none-from-root ilocal_of m D d b w)
  root-cell y o (suc s) Column.calls h i = root-site s Column.calls ∙ gain-calls 0 (suc s) b
  root-cell y o (suc s) Column.work h i = root-site s Column.work ∙ gain_outer Column.work work_of (λ g x. refl) ((λ v. refl), (λ v. refl)) 0 (suc s) b
  root-cell y o (suc s) Column.span h i = root-site s Column.span ∙ gain_outer Column.span span_of (λ g x. refl) ((λ v. refl), (λ v. refl)) 0 (suc s) b
  root-cell y o (suc s) Column.local h i = omega (arith, root-site s Column.local, gain-local y 0 (suc s) b o, not_its_own s (local_of b))
  root-cell y o (suc s) Column.ilocal h i = omega (arith, root-site s Column.ilocal, gain-ilocal y 0 (suc s) b o, not_its_own s (ilocal_of b))
  root-cell y o s Column.on_span h i = absurd (h refl)
  root-cell y o s Column.ion_span h i = absurd (i refl)
