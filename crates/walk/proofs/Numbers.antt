-- The numbers of an open invocation follow its chains.
use mathlib.Core.Path.{◌≡◌, refl, ap, ◌∙◌, sym}
use mathlib.Core.Bool.{Bool, true, false, cond}
use mathlib.Core.List.{List, [], ◌∷◌, ◌++◌}
use Prim.Native.Nat.{ℕ, ◌+◌}
use native.Mathlib.Omega.{arith}
use lib.Dec.{ltb}
use Rattle.chain.specs.Plan.{CostLine, weight, choose}
use Rattle.chain.proofs.Lists.{weight-append}
use Rattle.trace.specs.Fold.{cost_at, Chains, spent, joined, called, spawned}
use Rattle.std.specs.Ordering.{is_lt, nat_cmp}
use Rattle.std.proofs.lemmas.Bool.Decides.{nat_tests}
use Rattle.trace.specs.Tree.{larger}
use Rattle.walk.specs.declared.Cycles.{Cycles}
use Rattle.walk.specs.declared.Open.{Open}
use Rattle.walk.specs.Measure.{cycles}
use Rattle.walk.specs.Numbers.{numbers, spent_n, later_heavier, joined_n, called_n, child_longer, spawned_n}

pub spent-numbers : (n w s v i : ℕ) (k : Chains) → spent_n v (numbers n w k) ≡ numbers (n + 1) (w + v) (spent (cost_at n s v i) k)
spent-numbers n w s v i k =
    let e : weight k.c + v ≡ weight (k.c ++ cost_at n s v i ∷ []) = omega (arith, weight-append k.c (cost_at n s v i ∷ [])) in
    rw e

-- the invocation f has come to the chains k
module _ (f : Open) (k : Chains) (e : f ≡ numbers f.at f.work.0 k) where
  -- at a join, the answer is the chain that is taken
  pub later-chosen : (b : Bool) → b ≡ later_heavier f → choose k.l k.c ≡ cond b k.c k.l
  unfolding choose
  later-chosen b q = ap (λ (x : Bool). cond x k.c k.l) (sym (q ∙ ap later_heavier e))

  pub joined_numbers : (b : Bool) → b ≡ later_heavier f → joined_n b f ≡ numbers (f.at + 1) f.work.0 (joined k)
  joined_numbers b q = ap (joined_n b) e ∙ go b (later-chosen b q)
    where
      go : (b : Bool) → choose k.l k.c ≡ cond b k.c k.l → joined_n b (numbers f.at f.work.0 k) ≡ numbers (f.at + 1) f.work.0 (joined k)
      go true c = rw (weight-append k.p (choose k.l k.c), c)
      go false c = rw (weight-append k.p (choose k.l k.c), c)

  -- at a child g that was spawned, it says whether the child is the longest from now on
  module _ (c : Open) (g : List CostLine) (v : weight g ≡ c.prefix.0) where
    pub child-chosen : (b : Bool) → b ≡ child_longer c f → spawned g k ≡ cond b (record { p = k.p ++ k.c; l = g; c = [] }) k
    child-chosen b q =
        let h : child_longer c f ≡ ltb (weight k.l) (weight k.c + weight g) = ap (child_longer c) e ∙ ap (λ (x : ℕ). ltb (weight k.l) (weight k.c + x)) (sym v) in
        ap (λ (x : Bool). cond {A = Chains} x (record { p = k.p ++ k.c; l = g; c = [] }) k) (sym (q ∙ h))

    pub spawned-numbers : (b : Bool) → b ≡ child_longer c f → spawned_n b c f ≡ numbers c.at (f.work.0 + c.work.0) (spawned g k)
    spawned-numbers b q = ap (spawned_n b c) e ∙ go b ∙ ap (numbers c.at (f.work.0 + c.work.0)) (sym (child-chosen b q))
      where
        go : (b : Bool) → spawned_n b c (numbers f.at f.work.0 k) ≡ numbers c.at (f.work.0 + c.work.0) (cond b (record { p = k.p ++ k.c; l = g; c = [] }) k)
        go true = rw (weight-append k.p k.c, v)
        go false = refl

pub called-numbers : (n w : ℕ) (k : Chains) (c : Open) (g : List CostLine) → weight g ≡ c.prefix.0 → called_n c (numbers n w k) ≡ numbers c.at (w + c.work.0) (called g k)
called-numbers n w k c g e = rw (weight-append k.c g, e)

-- of two numbers, the first where the other is less
pub greater-larger : (x y : ℕ) → cond (is_lt (nat_cmp y x)) x y ≡ larger x y
greater-larger x y = grind (arith, nat_tests)

-- `max` of cycles is the larger
pub larger-max : (a b : Cycles) → cond (is_lt (nat_cmp b.0 a.0)) a b ≡ cycles (larger a.0 b.0)
larger-max a b = go (is_lt (nat_cmp b.0 a.0)) ∙ ap cycles (greater-larger a.0 b.0)
  where
    go : (t : Bool) → cond t a b ≡ cycles (cond t a.0 b.0)
    go true = refl
    go false = refl
