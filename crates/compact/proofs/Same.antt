-- Two plans are the same but for line numbers: their picks weigh the same, and have the same part in each row, in
-- each measure. Assumes nothing.
use mathlib.Core.Path.{◌≡◌, refl, sym, ◌∙◌, ap}
use mathlib.Core.Logic.{◌⊎◌, inl, inr}
use mathlib.Core.Bool.{cond}
use mathlib.Core.List.{List, ◌++◌}
use Prim.Native.Nat.{ℕ, ◌+◌, ◌≤◌, ◌<◌}
use native.Mathlib.Omega.{arith}
use lib.Dec.{eqb}
use Rattle.chain.specs.Plan.{CostLine, Plan, none, cost, seq, par, weight, choose, pick}
use Rattle.chain.proofs.Lists.{weight-append}
use Rattle.chain.proofs.Choose.{choose-cases}
use Rattle.trace.specs.Fold.{cost_at, on_row}
use Rattle.trace.proofs.Basics.{cond_same, cond_add}
use Rattle.trace.proofs.OnChain.{row-append}
use Rattle.compact.proofs.Pairs.{Adds}

pub record Same (p q : Plan) : Type 0 where
  pub weighs : weight (pick p) ≡ weight (pick q)
  pub on : (m : CostLine → ℕ) → Adds m → (s : ℕ) → on_row m s (pick p) ≡ on_row m s (pick q)

pub same_refl : (p : Plan) → Same p p
same_refl p = record { weighs = refl; on = λ m d s. refl }

pub same_sym : {p q : Plan} → Same p q → Same q p
same_sym h = record { weighs = sym h.weighs; on = λ m d s. sym (h.on m d s) }

pub same_trans : {p q r : Plan} → Same p q → Same q r → Same p r
same_trans h k = record { weighs = h.weighs ∙ k.weighs; on = λ m d s. h.on m d s ∙ k.on m d s }

pub same_seq : {p q a b : Plan} → Same p q → Same a b → Same (seq p a) (seq q b)
same_seq {p} {q} {a} {b} h k =
    record {
      weighs = omega (arith, weight-append (pick p) (pick a), weight-append (pick q) (pick b), h.weighs, k.weighs);
      on = λ m d s. omega (arith, row-append m s (pick p) (pick a), row-append m s (pick q) (pick b), h.on m d s, k.on m d s);
    }

-- what choose-cases gives
abbrev Cases : List CostLine → List CostLine → Type 0
Cases a b = ((weight a < weight b) × (choose a b ≡ b)) ⊎ ((weight b ≤ weight a) × (choose a b ≡ a))

pub same_par : {p q a b : Plan} → Same p q → Same a b → Same (par p a) (par q b)
same_par {p} {q} {a} {b} h k = go (choose-cases (pick p) (pick a)) (choose-cases (pick q) (pick b))
  where
    go : Cases (pick p) (pick a) → Cases (pick q) (pick b) → Same (par p a) (par q b)
    go (inl x) (inl y) =
        record { weighs = ap weight x.1 ∙ k.weighs ∙ sym (ap weight y.1); on = λ m d s. ap (on_row m s) x.1 ∙ k.on m d s ∙ sym (ap (on_row m s) y.1) }
    go (inl x) (inr y) = absurd (omega (arith, x.0, y.0, h.weighs, k.weighs))
    go (inr x) (inl y) = absurd (omega (arith, x.0, y.0, h.weighs, k.weighs))
    go (inr x) (inr y) =
        record { weighs = ap weight x.1 ∙ h.weighs ∙ sym (ap weight y.1); on = λ m d s. ap (on_row m s) x.1 ∙ h.on m d s ∙ sym (ap (on_row m s) y.1) }

pub same_assoc : (p q r : Plan) → Same (seq (seq p q) r) (seq p (seq q r))
same_assoc p q r =
    record {
      weighs = omega (arith, weight-append (pick p ++ pick q) (pick r), weight-append (pick p) (pick q), weight-append (pick p) (pick q ++ pick r), weight-append (pick q) (pick r));
      on = λ m d s.
          omega (
            arith,
            row-append m s (pick p ++ pick q) (pick r),
            row-append m s (pick p) (pick q),
            row-append m s (pick p) (pick q ++ pick r),
            row-append m s (pick q) (pick r),
          );
    }

pub same_left : (p : Plan) → Same (seq none p) p
same_left p = record { weighs = refl; on = λ m d s. refl }

-- a cost of v with the instructions i in row s, whatever its line
abbrev pub held : ℕ → ℕ → ℕ → Plan
held s v i = cost (cost_at 0 s v i)

pub same-cost : (n s v i : ℕ) → Same (cost (cost_at n s v i)) (held s v i)
same-cost n s v i = record { weighs = refl; on = λ m d r. ap (λ (x : ℕ). cond (eqb s r) x 0 + 0) (d.anywhere n 0 s v i) }

pub same_add : (s h j v i : ℕ) → Same (held s (h + v) (j + i)) (seq (held s h j) (held s v i))
same_add s h j v i =
    record {
      weighs = omega arith;
      on = λ m d r.
          omega (
            arith,
            ap (λ (x : ℕ). cond (eqb s r) x 0) (d.sum 0 s h j v i),
            cond_add (eqb s r) (m (cost_at 0 s h j)) (m (cost_at 0 s v i)),
          );
    }

pub same-zero : (s : ℕ) → Same (held s 0 0) none
same-zero s = record { weighs = refl; on = λ m d r. omega (arith, ap (λ (x : ℕ). cond (eqb s r) x 0) (d.none 0 s), cond_same (eqb s r)) }
