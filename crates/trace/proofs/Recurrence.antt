-- Cilkprof's recurrence with the join at a return: with chains for numbers it gives the pick of the body's plan, and
-- on numbers its weight.
use mathlib.Core.Path.{◌≡◌, refl, sym, ◌∙◌, ap}
use mathlib.Core.Logic.{◌⊎◌, inl, inr}
use mathlib.Core.Bool.{Bool, true, false, cond}
use mathlib.Core.List.{List, [], ◌∷◌, ◌++◌, append-nil, append_assoc}
use Prim.Native.Nat.{ℕ, suc, ◌+◌, ◌≤◌, ◌<◌}
use native.Mathlib.Omega.{arith}
use lib.Dec.{ltb}
use borrow.Author.Tests.{lt-ltb, le-ltb}
use Rattle.chain.specs.Plan.{CostLine, costs, All, Worth, Positive, weight, choose, pick, Chosen}
use Rattle.chain.proofs.Lists.{all_append, all_left, weight-append}
use Rattle.chain.proofs.Choose.{test, choose-cases, choose-left, choose_right, choose-empty}
use Rattle.chain.proofs.Laws.{pick-worth, pick_chosen, chosen_unique}
use Rattle.trace.specs.Tree.{Way, call, spawn, async, pass, finish, Leaf, spend, sync, note, Body, done, leaf, child, ahead, size, work_of, larger, ending, span_to, span_from, span_of}
use Rattle.trace.specs.Fold.{cost_at, Rest, nil, all, together, plan_to, plan, Chains, nothing, joined, called, spawned, leaf_chains, ended, child_chains, run, chain_of}
use Rattle.trace.proofs.Plans.{costs-to, plan_ordered}
pub use Rattle.trace.proofs.Plans.{Paid, paid, plan_positive}

-- what choose-cases gives
abbrev Cases : List CostLine → List CostLine → Type 0
Cases a b = ((weight a < weight b) × (choose a b ≡ b)) ⊎ ((weight b ≤ weight a) × (choose a b ≡ a))

-- the two facts of choose on which the spawn step rests
taken : (l c g b : List CostLine) → weight l < weight c + weight g → choose l (c ++ choose g b) ≡ c ++ choose g b
taken l c g b h = go (choose-cases g b)
  where
    go : Cases g b → choose l (c ++ choose g b) ≡ c ++ choose g b
    go (inl k) = choose_right l (c ++ choose g b) (omega (arith, weight-append c (choose g b), ap weight k.1))
    go (inr k) = choose_right l (c ++ choose g b) (omega (arith, weight-append c (choose g b), ap weight k.1))

passed : (l c g b : List CostLine) → weight c + weight g ≤ weight l → choose l (c ++ choose g b) ≡ choose l (c ++ b)
passed l c g b h = go (choose-cases g b)
  where
    go : Cases g b → choose l (c ++ choose g b) ≡ choose l (c ++ b)
    go (inl k) = ap (λ (d : List CostLine). choose l (c ++ d)) k.1
    go (inr k) =
        choose-left l (c ++ choose g b) (omega (arith, weight-append c (choose g b), ap weight k.1))
        ∙ sym (choose-left l (c ++ b) (omega (arith, weight-append c b)))

-- a spawn, decided
spawn_taken : (g : List CostLine) (k : Chains) → ltb (weight k.l) (weight k.c + weight g) ≡ true → spawned g k ≡ record { p = k.p ++ k.c; l = g; c = [] }
spawn_taken g k e = rw e

spawn_passed : (g : List CostLine) (k : Chains) → ltb (weight k.l) (weight k.c + weight g) ≡ false → spawned g k ≡ k
spawn_passed g k e = rw e

-- what the tests that test gives say of a spawned child whose chain is g
abbrev Tests : Chains → List CostLine → Type 0
Tests k g = ((weight k.l < weight k.c + weight g) × (ltb (weight k.l) (weight k.c + weight g) ≡ true)) ⊎ ((weight k.c + weight g ≤ weight k.l) × (ltb (weight k.l) (weight k.c + weight g) ≡ false))

-- what the chains of an open invocation come to, once a is picked in the rest of its block, and b behind it
abbrev Ends : Chains → List CostLine → List CostLine → List CostLine
Ends k a b = k.p ++ choose k.l (k.c ++ a) ++ b

-- the steps: a chain in series, a chain beside, a join
called_is : (g a b : List CostLine) (k : Chains) → Ends k (g ++ a) b ≡ Ends (called g k) a b
called_is g a b k = ap (λ (c : List CostLine). k.p ++ choose k.l c ++ b) (sym (append_assoc k.c g a))

spawned-is : (g a b : List CostLine) (k : Chains) → Ends k (choose g a) b ≡ Ends (spawned g k) a b
spawned-is g a b k = go (test (weight k.l) (weight k.c + weight g))
  where
    go : Tests k g → Ends k (choose g a) b ≡ Ends (spawned g k) a b
    go (inl t) =
        ap (λ (z : List CostLine). k.p ++ z ++ b) (taken k.l k.c g a t.0)
        ∙ ap (λ (z : List CostLine). z ++ b) (sym (append_assoc k.p k.c (choose g a)))
        ∙ sym (ap (λ (x : Chains). Ends x a b) (spawn_taken g k t.1))
    go (inr t) = ap (λ (z : List CostLine). k.p ++ z ++ b) (passed k.l k.c g a t.0) ∙ sym (ap (λ (x : Chains). Ends x a b) (spawn_passed g k t.1))

joined_is : (a b : List CostLine) (k : Chains) → All Worth a → Ends k [] (a ++ b) ≡ Ends (joined k) a b
joined_is a b k h =
    ap (λ (c : List CostLine). k.p ++ choose k.l c ++ (a ++ b)) (append-nil k.c)
    ∙ sym (append_assoc (joined k).p a b)
    ∙ ap (λ (c : List CostLine). (joined k).p ++ c ++ b) (sym (choose-empty a h))

ends-joined : (k : Chains) → Ends k [] [] ≡ (joined k).p
ends-joined k = append-nil (k.p ++ choose k.l (k.c ++ [])) ∙ ap (λ (c : List CostLine). k.p ++ choose k.l c) (append-nil k.c)

-- and once q is what is left
abbrev EndsTo : Chains → Rest → List CostLine
EndsTo k q = Ends k (pick q.now) (pick q.later)

now-worth : (q : Rest) → Positive (all q) → All Worth (pick q.now)
now-worth q h = pick-worth q.now (all_left Worth (costs q.now) (costs q.later) h)

-- what is left with a body in front of it
positive_to : (b : Body) (n s : ℕ) (q : Rest) → Paid b → Positive (all q) → Positive (all (plan_to n s b q))
positive_to b n s q h g = rw (costs-to b n s q) (all_append Worth (costs (plan n s b)) (costs (all q)) (plan_positive b n s h) g)

-- a child whose items make F of a plan and f of chains
module _ (F : Rest → Rest) (f : Chains → Chains) (e : (k : Chains) (q : Rest) → Positive (all q) → EndsTo k (F q) ≡ EndsTo (f k) q) (h : Positive (all (F nil))) where
  ended_is : pick (all (F nil)) ≡ ended f
  ended_is = ap (λ (c : List CostLine). c ++ pick (F nil).later) (sym (choose-empty (pick (F nil).now) (now-worth (F nil) h))) ∙ e nothing nil tt ∙ ends-joined (f nothing)

  in_series_lem : (k : Chains) (q : Rest) → Ends k (pick (all (F nil)) ++ pick q.now) (pick q.later) ≡ EndsTo (called (ended f) k) q
  in_series_lem k q = ap (λ (z : List CostLine). Ends k (z ++ pick q.now) (pick q.later)) ended_is ∙ called_is (ended f) (pick q.now) (pick q.later) k

  beside : (k : Chains) (q : Rest) → Ends k (choose (pick (all (F nil))) (pick q.now)) (pick q.later) ≡ EndsTo (spawned (ended f) k) q
  beside k q = ap (λ (z : List CostLine). Ends k (choose z (pick q.now)) (pick q.later)) ended_is ∙ spawned-is (ended f) (pick q.now) (pick q.later) k

  child-is : (w : Way) (k : Chains) (q : Rest) → Positive (all q) → EndsTo k (together w F q) ≡ EndsTo (child_chains w f k) q
  child-is call k q g = in_series_lem k q
  child-is spawn k q g = beside k q
  child-is async k q g = beside k q
  child-is pass k q g = e k q g
  child-is finish k q g = in_series_lem k q

-- the invariant
run_is : (b : Body) → Paid b → (n s : ℕ) (k : Chains) (q : Rest) → Positive (all q) → EndsTo k (plan_to n s b q) ≡ EndsTo (run n s b k) q
run_is done h n s k q g = refl
run_is (leaf (spend v) r) h n s k q g =
    let x = cost_at n s v (ahead r) in
    called_is (x ∷ []) (pick (plan_to (suc n) s r q).now) (pick (plan_to (suc n) s r q).later) k ∙ run_is r h.1 (suc n) s (called (x ∷ []) k) q g
run_is (leaf sync r) h n s k q g =
    let o = plan_to (suc n) s r q in
    joined_is (pick o.now) (pick o.later) k (now-worth o (positive_to r (suc n) s q h.1 g)) ∙ run_is r h.1 (suc n) s (joined k) q g
run_is (leaf (note x) r) h n s k q g = run_is r h.1 (suc n) s k q g
run_is (child w i g r) h n s k q e =
    child-is (plan_to (suc n) i g) (run (suc n) i g) (run_is g h.0 (suc n) i) (plan_positive g (suc n) i h.0) w k (plan_to (suc n + size g) s r q) (positive_to r (suc n + size g) s q h.1 e)
    ∙ run_is r h.1 (suc n + size g) s (child_chains w (run (suc n) i g) k) q e

-- LAW: with chains for numbers, the recurrence gives the pick of the plan
pub chain-is-pick : (b : Body) (n s : ℕ) → Paid b → chain_of n s b ≡ pick (plan n s b)
chain-is-pick b n s h = sym (ended_is (plan_to n s b) (run n s b) (run_is b h n s) (plan_positive b n s h))

-- LAW: it is the chosen chain of the plan, and nothing else is
pub chain-chosen : (b : Body) (n s : ℕ) → Paid b → Chosen (plan n s b) (chain_of n s b)
chain-chosen b n s h = rw (chain-is-pick b n s h) (pick_chosen (plan n s b) (plan_ordered b n s) (plan_positive b n s h))

pub chain-only : (b : Body) (n s : ℕ) → Paid b → (c : List CostLine) → Chosen (plan n s b) c → c ≡ chain_of n s b
chain-only b n s h c w = chosen_unique (plan n s b) c (chain_of n s b) w (chain-chosen b n s h)

-- ── on numbers ──

weight-choose : (a b : List CostLine) → weight (choose a b) ≡ larger (weight a) (weight b)
weight-choose a b = go (choose-cases a b)
  where
    go : Cases a b → weight (choose a b) ≡ larger (weight a) (weight b)
    go (inl k) = simp (lt-ltb _ _ k.0) (ap weight k.1)
    go (inr k) = simp (le-ltb _ _ k.0) (ap weight k.1)

-- LAW: a join takes the heavier of the two
pub weight-joined : (k : Chains) → weight (joined k).p ≡ weight k.p + larger (weight k.l) (weight k.c)
weight-joined k = weight-append k.p (choose k.l k.c) ∙ ap (λ (x : ℕ). weight k.p + x) (weight-choose k.l k.c)

-- what is made of the weights of the chains
abbrev Made : (ℕ → ℕ → ℕ → ℕ) → Chains → ℕ
Made to k = to (weight k.p) (weight k.l) (weight k.c)

-- the recurrence on numbers, from the weights of the chains
abbrev Spans : (ℕ → ℕ → ℕ → ℕ) → Chains → Body → ℕ
Spans to k b = Made (λ p l c. span_to to p l c b) k

leaf_spans : (to : ℕ → ℕ → ℕ → ℕ) (l : Leaf) (r : Body) (n s : ℕ) (k : Chains) → Spans to (leaf_chains n s l (ahead r) k) r ≡ Spans to k (leaf l r)
leaf_spans to (spend v) r n s k =
    let e : weight (k.c ++ cost_at n s v (ahead r) ∷ []) ≡ weight k.c + v = omega (arith, weight-append k.c (cost_at n s v (ahead r) ∷ [])) in
    ap (λ (c : ℕ). span_to to (weight k.p) (weight k.l) c r) e
leaf_spans to sync r n s k = ap (λ (p : ℕ). span_to to p 0 0 r) (weight-joined k)
leaf_spans to (note x) r n s k = refl

-- a child with the body g, whose items make f of chains
module _ (g : Body) (f : Chains → Chains) (e : (to : ℕ → ℕ → ℕ → ℕ) (k : Chains) → Made to (f k) ≡ Spans to k g) where
  ended_spans : weight (ended f) ≡ span_of g
  ended_spans = weight-joined (f nothing) ∙ e ending nothing

  module _ (to : ℕ → ℕ → ℕ → ℕ) (i : ℕ) (r : Body) (k : Chains) where
    called_spans : Spans to (called (ended f) k) r ≡ Spans to k (child call i g r)
    called_spans = ap (λ (c : ℕ). span_to to (weight k.p) (weight k.l) c r) (weight-append k.c (ended f) ∙ ap (λ (x : ℕ). weight k.c + x) ended_spans)

    spawned_spans : Spans to (spawned (ended f) k) r ≡ Spans to k (child spawn i g r)
    spawned_spans = go (ended f) ended_spans (test (weight k.l) (weight k.c + weight (ended f)))
      where
        go : (c : List CostLine) → weight c ≡ span_of g → Tests k c → Spans to (spawned c k) r ≡ Spans to k (child spawn i g r)
        go c e (inl t) =
            let q : ltb (weight k.l) (weight k.c + span_of g) ≡ true = ap (λ (x : ℕ). ltb (weight k.l) (weight k.c + x)) (sym e) ∙ t.1 in
            ap (λ (x : Chains). Spans to x r) (spawn_taken c k t.1) ∙ rw (q, weight-append k.p k.c, e)
        go c e (inr t) =
            let q : ltb (weight k.l) (weight k.c + span_of g) ≡ false = ap (λ (x : ℕ). ltb (weight k.l) (weight k.c + x)) (sym e) ∙ t.1 in
            ap (λ (x : Chains). Spans to x r) (spawn_passed c k t.1) ∙ rw q

    child_spans : (w : Way) → Spans to (child_chains w f k) r ≡ Spans to k (child w i g r)
    child_spans call = called_spans
    child_spans spawn = spawned_spans
    child_spans async = spawned_spans
    child_spans pass = e (λ p l c. span_to to p l c r) k
    child_spans finish = called_spans

run_spans : (b : Body) (n s : ℕ) (to : ℕ → ℕ → ℕ → ℕ) (k : Chains) → Made to (run n s b k) ≡ Spans to k b
run_spans done n s to k = refl
run_spans (leaf l r) n s to k = run_spans r (suc n) s to (leaf_chains n s l (ahead r) k) ∙ leaf_spans to l r n s k
run_spans (child w i g r) n s to k =
    run_spans r (suc n + size g) s to (child_chains w (run (suc n) i g) k) ∙ child_spans g (run (suc n) i g) (run_spans g (suc n) i) to i r k w

-- LAW: the recurrence on numbers gives the weight of that chain, whatever the line and the row
pub weight-chain : (b : Body) (n s : ℕ) → weight (chain_of n s b) ≡ span_of b
weight-chain b n s = ended_spans b (run n s b) (run_spans b n s)

larger_le : (l c : ℕ) → larger l c ≤ l + c
larger_le l c = go (ltb l c)
  where
    go : (t : Bool) → cond t c l ≤ l + c
    go true = omega arith
    go false = omega arith

-- of p, l and c it makes at most their sum and x
abbrev AtMost : (ℕ → ℕ → ℕ → ℕ) → ℕ → Type 0
AtMost to x = (p l c : ℕ) → to p l c ≤ p + l + c + x

ending_le : AtMost ending 0
ending_le p l c = omega (arith, larger_le l c)

-- a child whose span is at most its work, and the rest
module _ (to : ℕ → ℕ → ℕ → ℕ) (x : ℕ) (g r : Body) (h : AtMost (λ p l c. span_to ending p l c g) (work_of g + 0)) (k : AtMost (λ p l c. span_to to p l c r) (work_of r + x)) where
  called_le : (i : ℕ) → AtMost (λ p l c. span_to to p l c (child call i g r)) (work_of g + work_of r + x)
  called_le i p l c = omega (arith, h 0 0 0, k p l (c + span_of g))

  spawned_le : (i : ℕ) → AtMost (λ p l c. span_to to p l c (child spawn i g r)) (work_of g + work_of r + x)
  spawned_le i p l c = go (ltb l (c + span_of g))
    where
      go : (t : Bool) → cond t (span_to to (p + c) (span_of g) 0 r) (span_to to p l c r) ≤ p + l + c + (work_of g + work_of r + x)
      go true = omega (arith, h 0 0 0, k (p + c) (span_of g) 0)
      go false = omega (arith, k p l c)

span_to_le : (b : Body) (to : ℕ → ℕ → ℕ → ℕ) (x : ℕ) → AtMost to x → AtMost (λ p l c. span_to to p l c b) (work_of b + x)
span_to_le done to x h p l c = omega (arith, h p l c)
span_to_le (leaf (spend v) r) to x h p l c = omega (arith, span_to_le r to x h p l (c + v))
span_to_le (leaf sync r) to x h p l c = omega (arith, span_to_le r to x h (p + larger l c) 0 0, larger_le l c)
span_to_le (leaf (note n) r) to x h p l c = omega (arith, span_to_le r to x h p l c)
span_to_le (child call i g r) to x h p l c = called_le to x g r (span_to_le g ending 0 ending_le) (span_to_le r to x h) i p l c
span_to_le (child spawn i g r) to x h p l c = spawned_le to x g r (span_to_le g ending 0 ending_le) (span_to_le r to x h) i p l c
span_to_le (child async i g r) to x h p l c = spawned_le to x g r (span_to_le g ending 0 ending_le) (span_to_le r to x h) i p l c
span_to_le (child pass i g r) to x h p l c = omega (arith, span_to_le g (λ p l c. span_to to p l c r) (work_of r + x) (span_to_le r to x h) p l c)
span_to_le (child finish i g r) to x h p l c = called_le to x g r (span_to_le g ending 0 ending_le) (span_to_le r to x h) i p l c

-- LAW: a span is at most what it starts from and the work; so no partial sum of an engine is above its final load
pub span_le : (b : Body) (p l c : ℕ) → span_from p l c b ≤ p + l + c + work_of b
span_le b p l c = omega (arith, span_to_le b ending 0 ending_le p l c)
