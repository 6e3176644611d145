-- Small facts about truth values and numbers that many proofs use.
use mathlib.Core.Path.{◌≡◌, refl, sym}
use mathlib.Core.Logic.{◌⊎◌, inl, inr}
use mathlib.Core.Bool.{Bool, true, false, cond, ◌&&◌, ◌||◌}
use Prim.Native.Nat.{ℕ, zero, suc, ◌+◌, ◌≤◌, ◌<◌}
use native.Mathlib.Omega.{arith}

pub clash : {A : Type 0} → ◌≡◌ {A = ℕ} 0 1 → A
clash e = absurd (omega arith)

pub no_way : {A : Type 0} → false ≡ true → A
no_way e = clash (cc)

pub both : (a b : Bool) → (a && b) ≡ true → (a ≡ true) × (b ≡ true)
both true b e = (refl, e)
both false b e = no_way e

pub neither : (a b : Bool) → (a || b) ≡ false → (a ≡ false) × (b ≡ false)
neither true b e = no_way (sym e)
neither false b e = (refl, e)

-- a number below m, or m and more
pub below : (m i : ℕ) → (i < m) ⊎ ((k : ℕ) × (i ≡ m + k))
below zero i = inr (i, omega arith)
below (suc m) zero = inl (omega arith)
below (suc m) (suc i) = go (below m i)
  where
    go : (i < m) ⊎ ((k : ℕ) × (i ≡ m + k)) → (suc i < suc m) ⊎ ((k : ℕ) × (suc i ≡ suc m + k))
    go (inl h) = inl (omega arith)
    go (inr h) = inr (h.0, (omega (arith, h.1)))

-- nothing, tested or not, is nothing
pub cond_same : (b : Bool) → ◌≡◌ {A = ℕ} (cond b 0 0) 0
cond_same true = refl
cond_same false = refl

-- a sum where a test says so is a sum of two
pub cond_add : (b : Bool) (x y : ℕ) → cond b (x + y) 0 ≡ cond b x 0 + cond b y 0
cond_add true x y = refl
cond_add false x y = refl

-- what a test lets through is at most all
pub cond_le : (b : Bool) (v : ℕ) → cond b v 0 ≤ v
cond_le true v = omega arith
cond_le false v = omega arith
