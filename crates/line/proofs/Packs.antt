-- Four and eight characters as one number: the tests of it and the number in it are those of the characters.
-- Assumes nothing.
use Prim.Native.Nat.{ℕ, ◌+◌, ◌≤◌, ◌<◌}
use mathlib.Core.Bool.{Bool, true, false}
use mathlib.Core.List.{List}
use mathlib.Core.Path.{◌≡◌, refl, ap, ◌∙◌, sym}
use native.Mathlib.Omega.{arith}
use borrow.Author.Tests.{eq-eqb, eqb-true}
use lib.Dec.{eqb}
use lib.ListN.{length, get_or, drop, replicate, length-take}
use Rattle.std.proofs.lemmas.List.{get_or-take, get_or-drop}
use Rattle.digits.specs.Digits.{all_digits}
use Rattle.digits.specs.Word.{plainly, chars, eight_of, four_of}
use Rattle.line.specs.Zeros.{all_zero}
use Rattle.line.specs.Read.{part}
use Rattle.digits.proofs.Words.{Bytes, chars_eight, chars_four, digits_four, zeros_eight, eight_zeros, zeros_four, four_zeros}
use Rattle.line.proofs.Zero.{zero-all}
use Rattle.line.proofs.Lines.{part_length}

-- a test that says of characters that they are all 0
zero_test : (s : List ℕ) (x z k : ℕ) → length s ≡ k → (x ≡ z → s ≡ replicate k 48) → (s ≡ replicate k 48 → x ≡ z) → all_zero (replicate k 48) ≡ true → eqb x z ≡ all_zero s
zero_test s x z k h to from all = go (all_zero s) refl (eqb x z) refl
  where
    go : (a : Bool) → all_zero s ≡ a → (b : Bool) → eqb x z ≡ b → b ≡ a
    go true e true f = refl
    go true e false f = sym f ∙ eq-eqb x z (from (zero-all s e ∙ ap (λ (n : ℕ). replicate n 48) h))
    go false e true f = sym all ∙ ap all_zero (sym (to (eqb-true x z f))) ∙ e
    go false e false f = refl

module _ (s : List ℕ) (h : length s ≡ 8) (b : Bytes s) where
  pub eight_zero : eqb (eight_of s) 0x3030303030303030 ≡ all_zero s
  eight_zero = zero_test s (eight_of s) 0x3030303030303030 8 h (zeros_eight s h b) (λ e. ap eight_of e ∙ eight_zeros) refl

  pub eight_good : all_digits (chars (eight_of s)) ≡ all_digits s
  eight_good = ap all_digits (chars_eight s h b)

  pub eight_plain : plainly (chars (eight_of s)) ≡ plainly s
  eight_plain = ap plainly (chars_eight s h b)

module _ (s : List ℕ) (h : length s ≡ 4) (b : Bytes s) where
  pub four_zero : eqb (four_of s) 0x3030303030303030 ≡ all_zero s
  four_zero = zero_test s (four_of s) 0x3030303030303030 4 h (zeros_four s h b) (λ e. ap four_of e ∙ four_zeros) refl

  pub four_good : all_digits (chars (four_of s)) ≡ all_digits s
  four_good = ap all_digits (chars_four s h b) ∙ digits_four s

-- the parts of a line that are looked at as one number
module _ (s : List ℕ) (h : length s ≡ 23) (b : (i : ℕ) → get_or s i 0 < 256) where
  part-bytes : (from size : ℕ) → Bytes (part s from size)
  part-bytes from size i l =
      let k : i < size = omega (arith, length-take size (drop from s)) in
      rw (get_or-take size (drop from s) i 0 k, get_or-drop from s i 0) (b (from + i))

  module _ (x : ℕ) (is : x ≡ four_of (part s 2 4)) where
    pub site_zero : eqb x 0x3030303030303030 ≡ all_zero (part s 2 4)
    site_zero = ap (λ (y : ℕ). eqb y 0x3030303030303030) is ∙ four_zero (part s 2 4) (part_length s 2 4 (omega arith)) (part-bytes 2 4)

    pub site_good : all_digits (chars x) ≡ all_digits (part s 2 4)
    site_good = ap (λ (y : ℕ). all_digits (chars y)) is ∙ four_good (part s 2 4) (part_length s 2 4 (omega arith)) (part-bytes 2 4)

  module _ (from : ℕ) (fit : from + 8 ≤ 23) (x : ℕ) (is : x ≡ eight_of (part s from 8)) where
    pub zero_at : eqb x 0x3030303030303030 ≡ all_zero (part s from 8)
    zero_at = ap (λ (y : ℕ). eqb y 0x3030303030303030) is ∙ eight_zero (part s from 8) (part_length s from 8 (omega arith)) (part-bytes from 8)

    pub good_at : all_digits (chars x) ≡ all_digits (part s from 8)
    good_at = ap (λ (y : ℕ). all_digits (chars y)) is ∙ eight_good (part s from 8) (part_length s from 8 (omega arith)) (part-bytes from 8)

    pub plain_at : plainly (chars x) ≡ plainly (part s from 8)
    plain_at = ap (λ (y : ℕ). plainly (chars y)) is ∙ eight_plain (part s from 8) (part_length s from 8 (omega arith)) (part-bytes from 8)
