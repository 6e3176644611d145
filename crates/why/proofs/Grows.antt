-- How far raising a line moves the span, by the answer that is true of it.
use mathlib.Core.Path.{◌≡◌, refl, ap, subst}
use mathlib.Core.Logic.{◌⊎◌, inl, inr}
use mathlib.Core.Bool.{cond}
use mathlib.Core.List.{List, [], ◌∷◌}
use Prim.Native.Nat.{ℕ, zero, suc, ◌+◌, ◌-◌, ◌≤◌}
use native.Mathlib.Omega.{arith}
use Rattle.line.specs.declared.Frame.{Frame}
use Rattle.line.specs.declared.Frame.TheVariants.{Site, Call, Spawn, Sync, Return, Cost, Instructions, Async, Finish}
use Rattle.trace.specs.Shape.{root, has}
use Rattle.trace.specs.Series.{value_at, CostIn, Chain, weight, Span}
use Rattle.trace.proofs.Unique.{span_unique}
use Rattle.weigh.specs.Cost.{costing}
use Rattle.weigh.specs.Raised.{raised}
use Rattle.weigh.proofs.OneLine.{chain-raised, raised-chain, weight-raised}
use Rattle.moves.specs.Moves.{On}
use Rattle.moves.proofs.Moves.{moves-all, chosen-moves}
use Rattle.why.specs.declared.Why.TheVariants.{NotCost, OnChain, Slack, Tied}
use Rattle.why.specs.Why.{IsNoCost, HasSlack, IsTied}
use Rattle.why.specs.Grows.{Grows}
use Rattle.why.proofs.Lines.{on_or_not, on-each, added, not_added}
use Rattle.why.proofs.Through.{through-cost}

-- a line that is no cost has nothing to raise
costing-other : (g : ℕ → ℕ) (f : Frame) → ((v : ℕ) → ¬ (f ≡ Cost v)) → costing g f ≡ f
costing-other g (Site s p) h = refl
costing-other g (Call s) h = refl
costing-other g (Spawn s) h = refl
costing-other g Sync h = refl
costing-other g Return h = refl
costing-other g (Cost v) h = absurd (h v refl)
costing-other g (Instructions v) h = refl
costing-other g (Async s) h = refl
costing-other g Finish h = refl

pub raised-other : (t : List Frame) (q d : ℕ) → IsNoCost t q → raised t q d ≡ t
raised-other [] q d h = refl
raised-other (e ∷ t) zero d h = ap (λ (f : Frame). f ∷ t) (costing-other (λ v. v + d) e h)
raised-other (e ∷ t) (suc q) d h = ap (λ (u : List Frame). e ∷ u) (raised-other t q d h)

module _ (t : List Frame) (q d m n : ℕ) (x : Span t root m) (y : Span (raised t q d) root n) where
  -- LAW: raising a line of slack k by d raises the span by d - k where d is above k, and by nothing otherwise
  pub slack_moves : (k : ℕ) → HasSlack t q k → n ≡ m + (d - k)
  slack_moves k h = go (on_or_not q y.chain)
    where
      i : CostIn t root q
      i = through-cost t q h.through h.is_through

      weighs : (c : List ℕ) → Chain t root c → weight (raised t q d) c ≡ weight t c + cond (has q c) d 0
      weighs = weight-raised t q (value_at t q) d i.is root

      old : Chain t root y.chain
      old = raised-chain t q (value_at t q) d i.is root y.chain y.is_chain

      -- a chain of the trace weighs no more than the new span
      reaches : (c : List ℕ) → Chain t root c → weight t c + cond (has q c) d 0 ≤ n
      reaches c k = omega (arith, weighs c k, y.greatest c (chain-raised t q (value_at t q) d i.is root c k))

      through-is : weight t h.through + k ≡ m
      through-is = omega (arith, h.less, span_unique t root h.span m h.is_span x)

      least : (m ≤ n) × (weight t h.through + d ≤ n)
      least = (
        omega (arith, x.weighs, reaches x.chain x.is_chain),
        omega (arith, reaches h.through h.is_through.chain, added (has q h.through) d h.is_through.on),
      )

      go : On q y.chain ⊎ (¬ On q y.chain) → n ≡ m + (d - k)
      go (inl o) = omega (arith, through-is, least.0, least.1, y.weighs, weighs y.chain old, added (has q y.chain) d o, h.is_through.heaviest y.chain old o)
      go (inr o) = omega (arith, through-is, least.0, least.1, y.weighs, weighs y.chain old, not_added (has q y.chain) d o, x.greatest y.chain old)

  -- LAW: a tied line moves the span by the whole of any raise
  pub tied_moves : (k : ℕ) → IsTied t q k → n ≡ m + d
  tied_moves k h =
      let i = through-cost t q h.through h.is_through in
      moves-all t q (value_at t q) d i.is root m n x y
      (record { chain = h.through; is_chain = h.is_through.chain; on = h.is_through.on; heaviest = λ c z. omega (arith, h.is_chosen.heaviest c z, h.as_heavy) })

-- LAW: what a tuner reads
pub answer-moves : Grows
answer-moves t q NotCost h d m n x y = omega (arith, span_unique t root m n x (subst (λ (u : List Frame). Span u root n) (raised-other t q d h) y))
answer-moves t q OnChain h d m n x y =
    chosen-moves t q (value_at t q) d (on-each (CostIn t root) h.chosen q h.is_chosen.chain.costs h.on).is h.chosen m n h.is_chosen h.on x y
answer-moves t q (Slack k) h d m n x y = slack_moves t q d m n x y k h
answer-moves t q (Tied k) h d m n x y = tied_moves t q d m n x y k h
