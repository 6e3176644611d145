-- Eight characters tested at once: a lane's top bit says whether its character is a digit.
-- Assumes nothing.
use Rattle.std.proofs.Common.{◌≡◌, ℕ, ◌+◌, ◌*◌, ◌/◌, ◌^◌, ◌<◌, ◌≤◌, Bool, true, false, cond, ◌&&◌, eqb, ◌⊎◌, List, [], ◌∷◌, sym, refl, ap, ◌∙◌, ap₂, inl, inr, arith, eq-eqb, ne_eqb, eqb-true}
use borrow.Author.Tests.{eqb-false}
use lib.Bits.{bit_and, bit_or, bit_xor, or_lt, xor_lt}
use Rattle.digits.specs.Digits.{is_digit, all_digits}
use Rattle.digits.specs.Word.{chars}
use Rattle.digits.proofs.Laws.{and_left, and_right, digit-cases}
use Rattle.digits.proofs.Lanes.{of-each, Below, bytes_below, each, each-bytes, each_same, each-add, each_and, each_or, each_xor}

-- the top bit of each of eight bytes
abbrev tops : ℕ
tops = 0x8080_8080_8080_8080

-- a byte's top bit
top : (c : ℕ) → c < 256 → bit_and c 128 ≡ c / 128 * 128
top c h = eqb-true (bit_and c 128) (c / 128 * 128) (of-each 256 (λ x. eqb (bit_and x 128) (x / 128 * 128)) refl c h)

-- the two tests of a character with no top bit: it is at least `0` and not past `9`; or, with the bit of 32, at least `a`
-- and not past `f`
abbrev figure_test : ℕ → ℕ
figure_test c = bit_xor (c + 80) (c + 70)

abbrev letter_test : ℕ → ℕ
letter_test c = bit_xor (bit_or c 32 + 31) (bit_or c 32 + 25)

-- the two tests together say whether it is a digit
told : (c : ℕ) → c < 128 → bit_and (bit_or (figure_test c) (letter_test c)) 128 ≡ cond (is_digit c) 128 0
told c h =
    eqb-true (bit_and (bit_or (figure_test c) (letter_test c)) 128) (cond (is_digit c) 128 0)
    (of-each 128 (λ x. eqb (bit_and (bit_or (figure_test x) (letter_test x)) 128) (cond (is_digit x) 128 0)) refl c h)

-- digits have no top bit
no_tops : (s : List ℕ) → all_digits s ≡ true → each (λ c. c / 128 * 128) s ≡ 0
no_tops [] e = refl
no_tops (c ∷ s) e = go (digit-cases c (and_left (is_digit c) (all_digits s) e)) (no_tops s (and_right (is_digit c) (all_digits s) e))
  where
    go : ((48 ≤ c) × (c ≤ 57)) ⊎ (((97 ≤ c) × (c ≤ 102)) ⊎ ((65 ≤ c) × (c ≤ 70))) → each (λ x. x / 128 * 128) s ≡ 0
        → c / 128 * 128 + 256 * each (λ x. x / 128 * 128) s ≡ 0
    go (inl (a, b)) r = omega arith
    go (inr (inl (a, b))) r = omega arith
    go (inr (inr (a, b))) r = omega arith

-- with no top bit each character is below 128, and a word of lanes below 128 at most as if each were 127
low : (s : List ℕ) → each (λ c. c / 128 * 128) s ≡ 0 → Below 128 s
low [] e = tt
low (c ∷ s) e = (omega arith, low s (omega arith))

at_most : (f : ℕ → ℕ) → ((c : ℕ) → c < 128 → f c < 128) → (s : List ℕ) → Below 128 s → each f s ≤ each (λ c. 127) s
at_most f h [] b = omega arith
at_most f h (c ∷ s) b = let r = at_most f h s b.1 in let l = h c b.0 in omega arith

-- all lanes say yes exactly where all characters are digits
all_told : (s : List ℕ) → eqb (each (λ c. cond (is_digit c) 128 0) s) (each (λ c. 128) s) ≡ all_digits s
all_told [] = refl
all_told (c ∷ s) = go (is_digit c) ∙ ap (λ (b : Bool). is_digit c && b) (all_told s)
  where
    more : (a b : ℕ) (t : Bool) → eqb a b ≡ t → eqb (128 + 256 * a) (128 + 256 * b) ≡ t
    more a b true e = eq-eqb (128 + 256 * a) (128 + 256 * b) (let f = eqb-true a b e in omega arith)
    more a b false e = ne_eqb (128 + 256 * a) (128 + 256 * b) (λ f. eqb-false a b e (omega arith))

    go : (b : Bool) → eqb (cond b 128 0 + 256 * each (λ x. cond (is_digit x) 128 0) s) (128 + 256 * each (λ x. 128) s) ≡ (b && eqb (each (λ x. cond (is_digit x) 128 0) s) (each (λ x. 128) s))
    go true = more (each (λ x. cond (is_digit x) 128 0) s) (each (λ x. 128) s) (eqb (each (λ x. cond (is_digit x) 128 0) s) (each (λ x. 128) s)) refl
    go false = ne_eqb (0 + 256 * each (λ x. cond (is_digit x) 128 0) s) (128 + 256 * each (λ x. 128) s) (λ f. omega arith)

module _ (w : ℕ) (h : w < 2 ^ 64) where
  -- a word is its own eight characters
  whole : each (λ c. c) (chars w) ≡ w
  whole = each-bytes 8 w h

  -- the top bit of each character
  top_bits : bit_and w tops ≡ each (λ c. c / 128 * 128) (chars w)
  top_bits =
      ap (λ (x : ℕ). bit_and x tops) (sym whole)
      ∙ each_and 256 (λ c. c) (λ c. 128) (λ c l. l) (λ c l. omega arith) (chars w) (bytes_below 8 w)
      ∙ each_same 256 (λ c. bit_and c 128) (λ c. c / 128 * 128) top (chars w) (bytes_below 8 w)

  -- a top bit is no digit's
  pub wrong-top : (bit_and w tops ≡ 0 → ⊥) → all_digits (chars w) ≡ false
  wrong-top f = go (all_digits (chars w)) refl
    where
      go : (b : Bool) → all_digits (chars w) ≡ b → b ≡ false
      go true e = absurd (f (top_bits ∙ no_tops (chars w) e))
      go false e = refl

  module _ (z : bit_and w tops ≡ 0) where
    -- no character has one
    lows : Below 128 (chars w)
    lows = low (chars w) (sym top_bits ∙ z)

    -- the bit of 32 in each lane
    smalls : bit_or w 0x2020_2020_2020_2020 ≡ each (λ c. bit_or c 32) (chars w)
    smalls =
        ap (λ (x : ℕ). bit_or x 0x2020_2020_2020_2020) (sym whole)
        ∙ each_or 256 (λ c. c) (λ c. 32) (λ c l. l) (λ c l. omega arith) (chars w) (bytes_below 8 w)

    small_low : (c : ℕ) → c < 128 → bit_or c 32 < 128
    small_low c l = or_lt 7 c 32 l (omega arith)

    -- the sums have room
    pub room : w ≤ 0x7f7f_7f7f_7f7f_7f7f
    room = omega (arith, whole, at_most (λ c. c) (λ c l. l) (chars w) lows)

    pub small-room : bit_or w 0x2020_2020_2020_2020 ≤ 0x7f7f_7f7f_7f7f_7f7f
    small-room = omega (arith, smalls, at_most (λ c. bit_or c 32) small_low (chars w) lows)

    -- a word x of lanes below 128: one number more in each lane, and two such words against each other
    differs : (x : ℕ) (f : ℕ → ℕ) → x ≡ each f (chars w) → ((c : ℕ) → c < 128 → f c < 128) → (j k : ℕ) → j ≤ 128 → k ≤ 128
        → bit_xor (x + each (λ c. j) (chars w)) (x + each (λ c. k) (chars w)) ≡ each (λ c. bit_xor (f c + j) (f c + k)) (chars w)
    differs x f e h j k hj hk =
        ap₂ bit_xor (plus j) (plus k)
        ∙ each_xor 128 (λ c. f c + j) (λ c. f c + k) (λ c l. (let q = h c l in omega arith)) (λ c l. (let q = h c l in omega arith)) (chars w) lows
      where
        plus : (i : ℕ) → x + each (λ c. i) (chars w) ≡ each (λ c. f c + i) (chars w)
        plus i = ap (λ (y : ℕ). y + each (λ c. i) (chars w)) e ∙ each-add f (λ c. i) (chars w)

    -- all eight lanes at once
    pub all_tested : eqb (bit_and (bit_or (bit_xor (w + 0x5050_5050_5050_5050) (w + 0x4646_4646_4646_4646))
        (bit_xor (bit_or w 0x2020_2020_2020_2020 + 0x1f1f_1f1f_1f1f_1f1f) (bit_or w 0x2020_2020_2020_2020 + 0x1919_1919_1919_1919))) tops) tops ≡ all_digits (chars w)
    all_tested =
        ap₂ (λ (x y : ℕ). eqb (bit_and (bit_or x y) tops) tops)
        (differs w (λ c. c) (sym whole) (λ c l. l) 80 70 (omega arith) (omega arith))
        (differs (bit_or w 0x2020_2020_2020_2020) (λ c. bit_or c 32) smalls small_low 31 25 (omega arith) (omega arith))
        ∙ ap (λ (x : ℕ). eqb (bit_and x tops) tops) (each_or 128 figure_test letter_test figure_fits letter_fits (chars w) lows)
        ∙ ap (λ (x : ℕ). eqb x tops) (each_and 128 (λ c. bit_or (figure_test c) (letter_test c)) (λ c. 128) (λ c l. or_lt 8 (figure_test c) (letter_test c) (figure_fits c l) (letter_fits c l)) (λ c l. omega arith) (chars w) lows)
        ∙ ap (λ (x : ℕ). eqb x tops) (each_same 128 (λ c. bit_and (bit_or (figure_test c) (letter_test c)) 128) (λ c. cond (is_digit c) 128 0) told (chars w) lows)
        ∙ all_told (chars w)
      where
        figure_fits : (c : ℕ) → c < 128 → figure_test c < 256
        figure_fits c l = xor_lt 8 (c + 80) (c + 70) (omega arith) (omega arith)

        letter_fits : (c : ℕ) → c < 128 → letter_test c < 256
        letter_fits c l =
            let q = small_low c l in
            xor_lt 8 (bit_or c 32 + 31) (bit_or c 32 + 25) (omega arith) (omega arith)
