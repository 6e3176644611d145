-- Eight characters as one number, the first in the lowest byte.
-- Assumes nothing.
use Rattle.std.proofs.Common.{◌≡◌, ℕ, suc, ◌+◌, ◌*◌, ◌≤◌, ◌<◌, Bool, cond, List, [], ◌∷◌, length, get_or, drop, sym, ap, ◌∙◌, arith, drop_of_length-le, drop-cons, eq-eqb, w64}
use Rattle.std.specs.Int.{from_le_bytes}
use Rattle.digits.specs.Word.{packed, eight_of}

module _ (s : List ℕ) where
  -- the characters from i on, packed
  from : (i : ℕ) → i < length s → packed (drop i s) ≡ get_or s i 0 + 256 * packed (drop (suc i) s)
  from i h = ap packed (drop-cons s i 0 h)

  -- past the last there is none
  end : (n : ℕ) → length s ≤ n → packed (drop n s) ≡ 0
  end n h = ap packed (drop_of_length-le s h)

  pub eight_are : length s ≡ 8
      → from_le_bytes w64 (get_or s 0 0 ∷ get_or s 1 0 ∷ get_or s 2 0 ∷ get_or s 3 0 ∷ get_or s 4 0 ∷ get_or s 5 0 ∷ get_or s 6 0 ∷ get_or s 7 0 ∷ []) ≡ eight_of s
  eight_are l =
      let z : from_le_bytes w64 (get_or s 0 0 ∷ get_or s 1 0 ∷ get_or s 2 0 ∷ get_or s 3 0 ∷ get_or s 4 0 ∷ get_or s 5 0 ∷ get_or s 6 0 ∷ get_or s 7 0 ∷ []) ≡ packed s = omega (arith, from 0 (omega arith), from 1 (omega arith), from 2 (omega arith), from 3 (omega arith), from 4 (omega arith), from 5 (omega arith), from 6 (omega arith), from 7 (omega arith), end 8 (omega arith)) in
      z ∙ ap (λ (t : Bool). cond t (packed s) 0) (sym (eq-eqb (length s) 8 l))
