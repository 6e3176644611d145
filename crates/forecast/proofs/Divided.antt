-- A value divided by a factor and rounded up: it stays in the table, it is never more, and how it is worked out.
use mathlib.Core.Path.{◌≡◌, refl, sym, ◌∙◌, ap}
use Prim.Native.Nat.{ℕ, zero, suc, ◌+◌, ◌*◌, ◌-◌, ◌/◌, ◌%◌, ◌≤◌, min}
use native.Mathlib.Omega.{arith}
use native.Mathlib.Nat.{zero-add, div-one, div-zero, mod-lt, mod-add-div', add-mul-div_right, suc-mul, mul-le-mul_left, div-eq_of_lt, le-div_iff_mul-le, div-le_of_le-mul}
use Rattle.forecast.specs.Rewritten.{divided}

-- by nothing
pub divided-one : (v : ℕ) → divided v 1 ≡ v
divided-one v = let e : v + (1 - 1) ≡ v = omega arith in ap (λ (x : ℕ). x / 1) e ∙ div-one v

-- a cost stays at least 1
pub divided-least : (v f : ℕ) → 1 ≤ v → 1 ≤ f → 1 ≤ divided v f
divided-least v f h k = (le-div_iff_mul-le {k = f} {x = 1} {y = v + (f - 1)} k).1 (omega arith)

times : (g v : ℕ) → 1 ≤ v → g ≤ g * v
times g v h = omega (arith, mul-le-mul_left g h)

-- and nothing stays nothing
pub divided-none : (f : ℕ) → 1 ≤ f → divided 0 f ≡ 0
divided-none f k = div-eq_of_lt (omega arith)

-- it never grows
pub divided-most : (v f : ℕ) → 1 ≤ f → divided v f ≤ v
divided-most v zero k = absurd (omega arith)
divided-most zero (suc g) k = omega (arith, divided-none (suc g) k)
divided-most (suc v) (suc g) k = div-le_of_le-mul (suc g) {m = suc v + (suc g - 1)} {n = suc v} (omega (arith, suc-mul g (suc v), times g (suc v) (omega arith)))

-- ── as it is worked out ──

module _ (v f : ℕ) (some : 1 ≤ f) where
  whole : v ≡ v % f + v / f * f
  whole = sym (mod-add-div' v f)

  -- where nothing remains it is the quotient
  pub divided-even : v % f ≡ 0 → divided v f ≡ v / f
  divided-even h =
      let e : v + (f - 1) ≡ (f - 1) + v / f * f = omega (arith, whole, h) in
      ap (λ (x : ℕ). x / f) e ∙ add-mul-div_right (f - 1) (v / f) {z = f} (omega arith) ∙ ap (λ (x : ℕ). x + v / f) (div-eq_of_lt {n = f - 1} {m = f} (omega arith)) ∙ zero-add (v / f)

  -- and one more where something does
  pub divided_odd : (v % f ≡ 0 → ⊥) → divided v f ≡ v / f + 1
  divided_odd h =
      let r : 1 ≤ v % f = one-at-least (v % f) h in
      let e : v + (f - 1) ≡ (v % f - 1) + (v / f + 1) * f = omega (arith, whole, r, distribute (v / f)) in
      ap (λ (x : ℕ). x / f) e
      ∙ add-mul-div_right (v % f - 1) (v / f + 1) {z = f} (omega arith)
      ∙ ap (λ (x : ℕ). x + (v / f + 1)) (div-eq_of_lt {n = v % f - 1} {m = f} (omega (arith, mod-lt v {m = f} (omega arith)))) ∙ zero-add (v / f + 1)
    where
      one-at-least : (n : ℕ) → (n ≡ 0 → ⊥) → 1 ≤ n
      one-at-least zero k = absurd (k (omega arith))
      one-at-least (suc n) k = omega arith

      distribute : (q : ℕ) → (q + 1) * f ≡ q * f + f
      distribute q = let e : q + 1 ≡ suc q = omega arith in ap (λ (k : ℕ). k * f) e ∙ suc-mul q f

-- as the library rounds up
pub divided-ceil : (v f : ℕ) → 1 ≤ f → divided v f ≡ v / f + min 1 (v % f)
divided-ceil v f some = go (v % f) refl
  where
    go : (r : ℕ) → v % f ≡ r → divided v f ≡ v / f + min 1 r
    go zero e = omega (arith, divided-even v f some e)
    go (suc r) e = omega (arith, divided_odd v f some (λ z. omega arith))

-- a factor of 0 gives 0
pub divided-zero : (v : ℕ) → divided v 0 ≡ 0
divided-zero v = div-zero (v + (0 - 1))
