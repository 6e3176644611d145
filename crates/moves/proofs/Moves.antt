-- How far one cost can move the span, of any trace and of any invocation of it.
use mathlib.Core.Path.{◌≡◌, refl, sym, subst}
use mathlib.Core.Bool.{Bool, true, false, cond}
use mathlib.Core.List.{List}
use Prim.Native.Nat.{ℕ, ◌+◌, ◌-◌, ◌≤◌}
use native.Mathlib.Omega.{arith}
use lib.Dec.{T}
use Rattle.line.specs.declared.Frame.{Frame}
use Rattle.line.specs.declared.Frame.TheVariants.{Cost}
use Rattle.trace.specs.Shape.{Is, root, has}
use Rattle.trace.specs.Series.{Chain, weight, Span, Chosen}
use Rattle.trace.proofs.Basics.{cond_le}
use Rattle.weigh.specs.Raised.{raised, lowered}
use Rattle.weigh.proofs.OneLine.{line-there, raised-lowered, chain-raised, raised-chain, weight-raised}
use Rattle.moves.specs.Moves.{On, OnSomeHeaviest, Moves, Falls}

-- what a test adds, where it says yes, and where it says no
added : (b : Bool) (d : ℕ) → T b → cond b d 0 ≡ d
added true d h = refl
added false d h = absurd h

adds : (b : Bool) (d : ℕ) → 1 ≤ d → d ≤ cond b d 0 → T b
adds true d one l = tt
adds false d one l = absurd (omega arith)

module _ (t : List Frame) (k v d : ℕ) (i : Is t k (Cost v)) where
  abbrev u : List Frame
  u = raised t k d

  weighs : (F : ℕ) (c : List ℕ) → Chain t F c → weight u c ≡ weight t c + cond (has k c) d 0
  weighs = weight-raised t k v d i

  module _ (F m n : ℕ) (x : Span t F m) (y : Span u F n) where
    -- the heaviest chain of the raised trace, as a chain of the trace
    old : Chain t F y.chain
    old = raised-chain t k v d i F y.chain y.is_chain

    most : n ≤ m + cond (has k y.chain) d 0
    most = omega (arith, y.weighs, weighs F y.chain old, x.greatest y.chain old)

    -- a chain of the trace weighs no more than the new span
    reaches : (c : List ℕ) → Chain t F c → weight t c + cond (has k c) d 0 ≤ n
    reaches c h = omega (arith, weighs F c h, y.greatest c (chain-raised t k v d i F c h))

    on-heaviest : 1 ≤ d → n ≡ m + d → OnSomeHeaviest t F k
    on-heaviest one e =
        record {
          chain = y.chain;
          is_chain = old;
          on = adds (has k y.chain) d one (omega (arith, most));
          heaviest = λ c h. omega (arith, x.greatest c h, weighs F y.chain old, y.weighs, cond_le (has k y.chain) d);
        }

    -- LAW: a line on some heaviest chain moves the span by all of d
    pub moves-all : OnSomeHeaviest t F k → n ≡ m + d
    moves-all h =
        omega (arith, x.weighs, h.heaviest x.chain x.is_chain, reaches h.chain h.is_chain, added (has k h.chain) d h.on, most, cond_le (has k y.chain) d)

    -- LAW: request i, whatever the new value
    pub span-moves : 1 ≤ d → Moves t F k d m n
    span-moves one =
        record {
          at_most = omega (arith, most, cond_le (has k y.chain) d);
          never_falls = omega (arith, x.weighs, reaches x.chain x.is_chain);
          exactly = (on-heaviest one, moves-all);
        }

  -- LAW: a line on the chosen chain moves the root's span by all of d
  pub chosen-moves : (c : List ℕ) (m n : ℕ) → Chosen t c → On k c → Span t root m → Span (raised t k d) root n → n ≡ m + d
  chosen-moves c m n h o x y = moves-all root m n x y (record { chain = c; is_chain = h.chain; on = o; heaviest = h.heaviest })

-- LAW: the other way: lowered by d, the span never grows and falls by at most d
pub span_falls : (t : List Frame) (k v d : ℕ) → Is t k (Cost v) → 1 ≤ d → d ≤ v → (F m n : ℕ) → Span t F m → Span (lowered t k d) F n → Falls t F k d m n
span_falls t k v d i one l F m n x y =
    let w = span-moves (lowered t k d) k (v - d) d (line-there (λ x. x - d) t k v i) F n m y (subst (λ (z : List Frame). Span z F m) (sym (raised-lowered t k v d i l)) x) one in
    record { at_most = w.at_most; never_grows = w.never_falls; exactly = w.exactly }
