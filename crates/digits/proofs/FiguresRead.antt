-- Laws of reading figures: what is read so far and what is left come to the whole, and which characters are a number.
-- Assumes nothing.
use Rattle.std.proofs.Common.{◌≡◌, ℕ, ◌+◌, ◌-◌, ◌*◌, ◌^◌, ◌<◌, ◌≤◌, Bool, ◌&&◌, List, ◌∷◌, length, None, get_or, drop, sym, ap, ◌∙◌, add-one, arith, drop-cons, le-ltb}
use mathlib.Core.Bool.{and-false}
use Rattle.digits.specs.Decimal.{all_figures, behind, number, given, value_of}
use Rattle.digits.proofs.Figures.{behind-grows}

-- what is read so far, before i, and what is left come to the whole
pub record Reads (s : List ℕ) (value i : ℕ) : Type 0 where
  pub within : i ≤ length s
  pub all : all_figures (drop i s) ≡ all_figures s
  pub same : behind value (drop i s) ≡ number s
  pub small : value < 2 ^ 64

large : (s : List ℕ) → 2 ^ 64 ≤ number s → None ≡ value_of s
large s h = sym (ap (λ (b : Bool). given (all_figures s && b) (number s)) (le-ltb (number s) (2 ^ 64) h) ∙ ap (λ (b : Bool). given b (number s)) (and-false (all_figures s)))

module _ {s : List ℕ} {value i : ℕ} (r : Reads s value i) (h : i < length s) where
  cut : drop i s ≡ get_or s i 0 ∷ drop (i + 1) s
  cut = rw (add-one i) (drop-cons s i 0 h)

  next : behind (10 * value + (get_or s i 0 - 48)) (drop (i + 1) s) ≡ number s
  next = ap (behind value) (sym cut) ∙ r.same

  pub reads_large : 2 ^ 64 ≤ 10 * value + (get_or s i 0 - 48) → None ≡ value_of s
  reads_large g = large s (let e = next in omega (arith, behind-grows (10 * value + (get_or s i 0 - 48)) (drop (i + 1) s)))
