-- The recurrence on what is seen of the chains gives what is seen of the chain that the recurrence on chains gives.
use mathlib.Core.Path.{◌≡◌, refl, sym, ◌∙◌, ap, subst}
use mathlib.Core.Logic.{◌⊎◌, inl, inr}
use mathlib.Core.Bool.{Bool, true, false, cond}
use mathlib.Core.List.{List, [], ◌∷◌, ◌++◌}
use Prim.Native.Nat.{ℕ, suc, ◌+◌, ◌-◌, ◌≤◌, ◌<◌}
use native.Mathlib.Omega.{arith}
use lib.Dec.{T, ltb}
use Rattle.chain.specs.Plan.{CostLine, weight, choose}
use Rattle.chain.specs.Over.{Each, lines_in}
use Rattle.chain.proofs.Lists.{weight-append}
use Rattle.chain.proofs.Choose.{test, choose-cases}
use Rattle.trace.specs.Refusals.{most_lines}
use Rattle.trace.specs.Tree.{Way, call, spawn, async, pass, finish, Leaf, spend, sync, note, Body, done, leaf, child, ahead, size}
use Rattle.trace.specs.Fold.{cost_at, Chains, nothing, joined, called, spawned, leaf_chains, ended, child_chains, run, chain_of}
use Rattle.trace.proofs.Open.{has-cases, has_here, has-later}
use Rattle.moves.specs.Moves.{On}
use Rattle.why.specs.declared.Seen.{Seen}
use Rattle.why.specs.declared.Sought.{Sought}
use Rattle.why.specs.Seek.{smaller, if_unmarked, unmarked, seen, unseen, in_series, heavier_of, start, joined_seen, called_seen, spawned_seen, leaf_seen, ended_seen, child_seen, seek, sought}

smaller-one : (a b : ℕ) → ((smaller a b ≡ a) × (a ≤ b)) ⊎ ((smaller a b ≡ b) × (b ≤ a))
smaller-one a b = go (test b a)
  where
    go : ((b < a) × (ltb b a ≡ true)) ⊎ ((a ≤ b) × (ltb b a ≡ false)) → ((smaller a b ≡ a) × (a ≤ b)) ⊎ ((smaller a b ≡ b) × (b ≤ a))
    go (inl h) = inr (ap (λ (t : Bool). cond t b a) h.1, omega (arith, h.0))
    go (inr h) = inl (ap (λ (t : Bool). cond t b a) h.1, h.0)

-- so that arithmetic reads it
smaller-is : (a b : ℕ) → smaller a b ≡ a - (a - b)
smaller-is a b = elim (smaller-one a b) [ inl h ↦ omega (arith, h.0, h.1) | inr h ↦ omega (arith, h.0, h.1) ]

smaller_assoc : (a b c : ℕ) → smaller a (smaller b c) ≡ smaller (smaller a b) c
smaller_assoc a b c = elim (smaller-one a b) [
  | inl h ↦ omega (arith, h.1, smaller-is b c, smaller-is a (smaller b c), smaller-is a c) ∙ ap (λ (x : ℕ). smaller x c) (sym h.0)
  | inr h ↦ omega (arith, h.1, smaller-is b c, smaller-is a (smaller b c)) ∙ ap (λ (x : ℕ). smaller x c) (sym h.0)
]

module _ (marked : ℕ → Bool) where
  -- ── the smallest line that is not marked ──

  unmarked_most : (c : List ℕ) → unmarked marked c ≤ most_lines
  unmarked_most [] = omega arith
  unmarked_most (x ∷ c) = omega (arith, smaller-is (if_unmarked marked x) (unmarked marked c), unmarked_most c)

  if_unmarked_lem : (x : ℕ) → ¬ T (marked x) → if_unmarked marked x ≡ x
  if_unmarked_lem x h = go (marked x) h
    where
      go : (b : Bool) → ¬ T b → cond b most_lines x ≡ x
      go true h = absurd (h tt)
      go false h = refl

  -- LAW: it is at most any that is not marked
  pub unmarked_le : (c : List ℕ) (j : ℕ) → On j c → ¬ T (marked j) → unmarked marked c ≤ j
  unmarked_le [] j m h = absurd m
  unmarked_le (x ∷ c) j m h = elim (has-cases j x c m) [
    | inl e ↦ omega (arith, smaller-is (if_unmarked marked x) (unmarked marked c), ap (if_unmarked marked) e, if_unmarked_lem j h)
    | inr r ↦ omega (arith, smaller-is (if_unmarked marked x) (unmarked marked c), unmarked_le c j r h)
  ]

  -- LAW: and it is one, unless all are marked
  pub unmarked-on : (c : List ℕ) (k : ℕ) → unmarked marked c ≡ k → k < most_lines → On k c × (¬ T (marked k))
  unmarked-on [] k e l = absurd (omega arith)
  unmarked-on (x ∷ c) k e l = go (smaller-one (if_unmarked marked x) (unmarked marked c)) (λ z. unmarked-on c k z l)
    where
      first : (b : Bool) → marked x ≡ b → cond b most_lines x ≡ k → On k (x ∷ c) × (¬ T (marked k))
      first true h z = absurd (omega arith)
      first false h z = (has_here k x c (sym z), λ y. subst T (ap marked (sym z) ∙ h) y)

      go : ((smaller (if_unmarked marked x) (unmarked marked c) ≡ if_unmarked marked x) × (if_unmarked marked x ≤ unmarked marked c))
          ⊎ ((smaller (if_unmarked marked x) (unmarked marked c) ≡ unmarked marked c) × (unmarked marked c ≤ if_unmarked marked x))
          → (unmarked marked c ≡ k → On k c × (¬ T (marked k))) → On k (x ∷ c) × (¬ T (marked k))
      go (inl z) rec = first (marked x) refl (sym z.0 ∙ e)
      go (inr z) rec = let w = rec (sym z.0 ∙ e) in (has-later k x c w.0, w.1)

  unmarked-append : (a b : List CostLine) → unmarked marked (lines_in (a ++ b)) ≡ smaller (unmarked marked (lines_in a)) (unmarked marked (lines_in b))
  unmarked-append [] b = omega (arith, smaller-is most_lines (unmarked marked (lines_in b)), unmarked_most (lines_in b))
  unmarked-append (x ∷ a) b =
      ap (smaller (if_unmarked marked x.line)) (unmarked-append a b)
      ∙ smaller_assoc (if_unmarked marked x.line) (unmarked marked (lines_in a)) (unmarked marked (lines_in b))

  -- ── what is seen of chains ──

  abbrev pub of : List CostLine → Seen
  of c = seen (weight c) (unmarked marked (lines_in c))

  abbrev pub all_of : Chains → Sought
  all_of k = record { p = of k.p; l = of k.l; c = of k.c }

  of-append : (a b : List CostLine) → of (a ++ b) ≡ in_series (of a) (of b)
  of-append a b = ap (λ (w : ℕ). seen w (unmarked marked (lines_in (a ++ b)))) (weight-append a b) ∙ ap (seen (weight a + weight b)) (unmarked-append a b)

  of-choose : (a b : List CostLine) → of (choose a b) ≡ heavier_of (of a) (of b)
  of-choose a b = go (choose-cases a b) (test (weight a) (weight b))
    where
      go : ((weight a < weight b) × (choose a b ≡ b)) ⊎ ((weight b ≤ weight a) × (choose a b ≡ a))
          → ((weight a < weight b) × (ltb (weight a) (weight b) ≡ true)) ⊎ ((weight b ≤ weight a) × (ltb (weight a) (weight b) ≡ false)) → of (choose a b) ≡ heavier_of (of a) (of b)
      go (inl k) (inl t) = ap of k.1 ∙ sym (ap (λ (z : Bool). cond z (of b) (of a)) t.1)
      go (inl k) (inr t) = absurd (omega (arith, k.0, t.0))
      go (inr k) (inl t) = absurd (omega (arith, k.0, t.0))
      go (inr k) (inr t) = ap of k.1 ∙ sym (ap (λ (z : Bool). cond z (of b) (of a)) t.1)

  -- a cost line behind a chain
  of-spent : (c : List CostLine) (n s v i : ℕ) → of (c ++ cost_at n s v i ∷ []) ≡ in_series (of c) (seen v (if_unmarked marked n))
  of-spent c n s v i =
      let f = if_unmarked marked n in
      let m = unmarked marked (lines_in c) in
      let w : weight c + (v + 0) ≡ weight c + v = omega arith in
      let e : smaller m (smaller f most_lines) ≡ smaller m f = omega (arith, smaller-is m (smaller f most_lines), smaller-is f most_lines, smaller-is m f, unmarked_most (lines_in c)) in
      of-append c (cost_at n s v i ∷ []) ∙ ap (λ (x : ℕ). seen x (smaller m (smaller f most_lines))) w ∙ ap (seen (weight c + v)) e

  of-joined : (k : Chains) → all_of (joined k) ≡ joined_seen (all_of k)
  of-joined k =
      ap (λ (p : Seen). record { p = p; l = unseen; c = unseen }) (of-append k.p (choose k.l k.c) ∙ ap (in_series (of k.p)) (of-choose k.l k.c))

  of-called : (g : List CostLine) (k : Chains) → all_of (called g k) ≡ called_seen (of g) (all_of k)
  of-called g k = ap (λ (c : Seen). record { p = of k.p; l = of k.l; c = c }) (of-append k.c g)

  of-spawned : (g : List CostLine) (k : Chains) → all_of (spawned g k) ≡ spawned_seen (of g) (all_of k)
  of-spawned g k = go (ltb (weight k.l) (weight k.c + weight g))
    where
      go : (b : Bool) → all_of (cond b (record { p = k.p ++ k.c; l = g; c = [] }) k) ≡ cond b (record { p = in_series (of k.p) (of k.c); l = of g; c = unseen }) (all_of k)
      go true = ap (λ (p : Seen). record { p = p; l = of g; c = unseen }) (of-append k.p k.c)
      go false = refl

  of_leaf : (n s : ℕ) (l : Leaf) (i : ℕ) (k : Chains) → all_of (leaf_chains n s l i k) ≡ leaf_seen marked n l (all_of k)
  of_leaf n s (spend v) i k = ap (λ (c : Seen). record { p = of k.p; l = of k.l; c = c }) (of-spent k.c n s v i)
  of_leaf n s sync i k = of-joined k
  of_leaf n s (note x) i k = refl

  -- an invocation and its join
  of-ended : (f : Chains → Chains) (e : Sought → Sought) → all_of (f nothing) ≡ e start → of (ended f) ≡ ended_seen e
  of-ended f e h = ap (λ (x : Sought). x.p) (of-joined (f nothing)) ∙ ap (λ (x : Sought). (joined_seen x).p) h

  -- a child whose items make this of whatever chains they begin with
  module _ (f : Chains → Chains) (e : Sought → Sought) (h : (k : Chains) → all_of (f k) ≡ e (all_of k)) where
    of_call : (k : Chains) → all_of (called (ended f) k) ≡ called_seen (ended_seen e) (all_of k)
    of_call k = of-called (ended f) k ∙ ap (λ (g : Seen). called_seen g (all_of k)) (of-ended f e (h nothing))

    of_spawn : (k : Chains) → all_of (spawned (ended f) k) ≡ spawned_seen (ended_seen e) (all_of k)
    of_spawn k = of-spawned (ended f) k ∙ ap (λ (g : Seen). spawned_seen g (all_of k)) (of-ended f e (h nothing))

    of-child : (w : Way) (k : Chains) → all_of (child_chains w f k) ≡ child_seen w e (all_of k)
    of-child call k = of_call k
    of-child spawn k = of_spawn k
    of-child async k = of_spawn k
    of-child pass k = h k
    of-child finish k = of_call k

  -- LAW: what is seen of the chains that the items of a body come to
  pub seek-run : (b : Body) (n s : ℕ) (k : Chains) → seek marked n b (all_of k) ≡ all_of (run n s b k)
  seek-run done n s k = refl
  seek-run (leaf l r) n s k = ap (seek marked (suc n) r) (sym (of_leaf n s l (ahead r) k)) ∙ seek-run r (suc n) s (leaf_chains n s l (ahead r) k)
  seek-run (child w i g r) n s k =
      ap (seek marked (suc n + size g) r) (sym (of-child (run (suc n) i g) (seek marked (suc n) g) (λ z. sym (seek-run g (suc n) i z)) w k))
      ∙ seek-run r (suc n + size g) s (child_chains w (run (suc n) i g) k)

  -- LAW: and of the chain of the whole invocation
  pub seek_is : (b : Body) (n s : ℕ) → sought marked n b ≡ of (chain_of n s b)
  seek_is b n s = sym (of-ended (run n s b) (seek marked n b) (sym (seek-run b n s nothing)))

-- LAW: it hangs on the marks of the chain's own lines alone
pub unmarked-same : (m n : ℕ → Bool) (c : List ℕ) → Each (λ x. m x ≡ n x) c → unmarked m c ≡ unmarked n c
unmarked-same m n [] h = refl
unmarked-same m n (x ∷ c) h = ap (λ (b : Bool). smaller (cond b most_lines x) (unmarked m c)) h.0 ∙ ap (smaller (if_unmarked n x)) (unmarked-same m n c h.1)
