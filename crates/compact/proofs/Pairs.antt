-- A cost with its instructions as one: both sums fit, or one does not; and what adds up where two of them merge.
use mathlib.Core.Path.{◌≡◌, refl, ◌∙◌, ap, ap₂}
use mathlib.Core.Logic.{◌⊎◌, inl, inr}
use mathlib.Core.Bool.{Bool, true, false, ◌&&◌, and-false}
use Prim.Native.Nat.{ℕ, ◌+◌, ◌≤◌, ◌<◌}
use lib.Dec.{leb}
use borrow.Author.Tests.{leb-true, leb-false, lt-leb}
use Rattle.chain.specs.Plan.{CostLine}
use Rattle.trace.specs.Fold.{cost_at, its_cycles, its_instructions}
use Rattle.compact.specs.Compact.{most_value, both_fit}

-- ── both sums fit, or one does not ──

abbrev pub Fit : ℕ → ℕ → Type 0
Fit h j = (h ≤ most_value) × (j ≤ most_value)

abbrev pub Over : ℕ → ℕ → Type 0
Over h j = (most_value < h) ⊎ (most_value < j)

pub fit_either : (h j : ℕ) → (Fit h j × (both_fit h j ≡ true)) ⊎ (Over h j × (both_fit h j ≡ false))
fit_either h j = go (leb h most_value) (leb j most_value) refl refl
  where
    go : (a b : Bool) → leb h most_value ≡ a → leb j most_value ≡ b → (Fit h j × (both_fit h j ≡ true)) ⊎ (Over h j × (both_fit h j ≡ false))
    go true true p q = inl ((leb-true h most_value p, leb-true j most_value q), ap₂ (λ (a b : Bool). a && b) p q)
    go true false p q = inr (inr (leb-false j most_value q), ap₂ (λ (a b : Bool). a && b) p q)
    go false b p q = inr (inl (leb-false h most_value p), ap₂ (λ (a b : Bool). a && b) p q)

pub over-fit : (h j : ℕ) → Over h j → both_fit h j ≡ false
over-fit h j (inl l) = ap (λ (a : Bool). a && leb j most_value) (lt-leb h most_value l)
over-fit h j (inr l) = ap (λ (b : Bool). leb h most_value && b) (lt-leb j most_value l) ∙ and-false (leb h most_value)

-- ── what is held ──

-- no instructions without a cost
abbrev pub Paired : ℕ → ℕ → Type 0
Paired h j = h ≡ 0 → j ≡ 0

-- ── a measure that adds up ──

-- of cost lines of a row, wherever they stand: of two that merge it is the sum
pub record Adds (m : CostLine → ℕ) : Type 0 where
  pub none : (n s : ℕ) → m (cost_at n s 0 0) ≡ 0
  pub sum : (n s h j v i : ℕ) → m (cost_at n s (h + v) (j + i)) ≡ m (cost_at n s h j) + m (cost_at n s v i)
  pub anywhere : (n k s v i : ℕ) → m (cost_at n s v i) ≡ m (cost_at k s v i)

pub cycles-add : Adds its_cycles
cycles-add = record { none = λ n s. refl; sum = λ n s h j v i. refl; anywhere = λ n k s v i. refl }

pub instructions-add : Adds its_instructions
instructions-add = record { none = λ n s. refl; sum = λ n s h j v i. refl; anywhere = λ n k s v i. refl }
