-- Eight characters taken for digits at once, and the digits joined by two, by four and by eight.
-- Assumes nothing.
use Rattle.std.proofs.Common.{◌≡◌, ℕ, ◌+◌, ◌-◌, ◌*◌, ◌/◌, ◌%◌, ◌^◌, ◌<◌, eqb, get_or, sym, refl, ap, ◌∙◌, ap₂, lt_of_lt_of_le, le-add_right, mod-lt, arith, pow_pos, pow_mono, eqb-true}
use lib.Bits.{bit_and, and_block, and_mask, and_le_r}
use lib.Pow.{split, mod-mod-pow, ones_lt, low as low_part}
use Rattle.digits.specs.Word.{plain, plainly, chars}
use Rattle.digits.proofs.Lanes.{of-each, bytes_below, each, each-bytes, each_same, each-add, each_times, each_and}

-- the four low bits, and the two high bits, of each of eight bytes
abbrev lows : ℕ
lows = 0x0f0f_0f0f_0f0f_0f0f

abbrev highs : ℕ
highs = 0xc0c0_c0c0_c0c0_c0c0

-- what the program makes of a word: each character taken for a digit
abbrev pub ones : ℕ → ℕ
ones w = bit_and (bit_and w lows + 9 * (bit_and w highs / 2 ^ 6)) lows

-- the digits by two, by four, and by eight
abbrev pub twos : ℕ → ℕ
twos x = bit_and (16 * x + x / 2 ^ 8) 0x00ff_00ff_00ff_00ff

abbrev pub fours : ℕ → ℕ
fours x = bit_and (256 * x + x / 2 ^ 16) 0x0000_ffff_0000_ffff

abbrev pub eights : ℕ → ℕ
eights x = bit_and (65536 * x + x / 2 ^ 32) 0xffff_ffff

-- a byte's four low bits, and its two high bits
low : (c : ℕ) → bit_and c 15 ≡ c % 16
low c = and_mask c 4

high : (c : ℕ) → c < 256 → bit_and c 192 ≡ 64 * (c / 64)
high c h = eqb-true (bit_and c 192) (64 * (c / 64)) (of-each 256 (λ x. eqb (bit_and x 192) (64 * (x / 64))) refl c h)

module _ (w : ℕ) (h : w < 2 ^ 64) where
  -- a word is its own eight characters
  whole : each (λ c. c) (chars w) ≡ w
  whole = each-bytes 8 w h

  -- the same mask on each character
  masked : (m : ℕ) → m < 256 → bit_and w (each (λ c. m) (chars w)) ≡ each (λ c. bit_and c m) (chars w)
  masked m l =
      ap (λ (x : ℕ). bit_and x (each (λ c. m) (chars w))) (sym whole)
      ∙ each_and 256 (λ c. c) (λ c. m) (λ c b. b) (λ c b. l) (chars w) (bytes_below 8 w)

  -- the two high bits of each character, shifted down
  quarters : bit_and w highs / 64 ≡ each (λ c. c / 64) (chars w)
  quarters =
      ap (λ (x : ℕ). x / 64) (masked 192 (omega arith) ∙ each_same 256 (λ c. bit_and c 192) (λ c. 64 * (c / 64)) high (chars w) (bytes_below 8 w) ∙ sym (each_times 64 (λ c. c / 64) (chars w)))
      ∙ back (each (λ c. c / 64) (chars w))
    where
      back : (x : ℕ) → 64 * x / 64 ≡ x
      back x = omega arith

  -- each character taken for a digit, in its lane
  pub each-plain : ones w ≡ each plain (chars w)
  each-plain =
      ap₂ (λ (x y : ℕ). bit_and (x + 9 * y) lows) (masked 15 (omega arith)) quarters
      ∙ ap (λ (x : ℕ). bit_and (each (λ c. bit_and c 15) (chars w) + x) lows) (each_times 9 (λ c. c / 64) (chars w))
      ∙ ap (λ (x : ℕ). bit_and x lows) (each-add (λ c. bit_and c 15) (λ c. 9 * (c / 64)) (chars w))
      ∙ each_and 256 sum (λ c. 15) fits (λ c b. omega arith) (chars w) (bytes_below 8 w)
      ∙ each_same 256 (λ c. bit_and (sum c) 15) plain (λ c b. low (sum c) ∙ ap (λ (x : ℕ). (x + 9 * (c / 64)) % 16) (low c)) (chars w) (bytes_below 8 w)
    where
      sum : ℕ → ℕ
      sum c = bit_and c 15 + 9 * (c / 64)

      fits : (c : ℕ) → c < 256 → sum c < 256
      fits c b = omega (arith, and_le_r c 15)

-- a mask's lowest field keeps the k low bits of x, and the rest of the mask meets the rest of x
kept : (k x m : ℕ) → bit_and x (m * 2 ^ (k + k) + (2 ^ k - 1)) ≡ bit_and (x / 2 ^ (k + k)) m * 2 ^ (k + k) + x % 2 ^ k
kept k x m =
    ap (λ (n : ℕ). bit_and n (m * 2 ^ (k + k) + (2 ^ k - 1))) (sym (split x (k + k)))
    ∙ and_block (k + k) (x / 2 ^ (k + k)) m (x % 2 ^ (k + k)) (2 ^ k - 1) (mod-lt x (pow_pos (k + k))) (lt_of_lt_of_le (ones_lt k) (pow_mono (le-add_right k k)))
    ∙ ap (λ (n : ℕ). bit_and (x / 2 ^ (k + k)) m * 2 ^ (k + k) + n) (and_mask (x % 2 ^ (k + k)) k ∙ mod-mod-pow x k k)

-- two digits in front, below the others y
two-more : (a b y m : ℕ) → a < 16 → b < 16 → y % 256 < 16
    → bit_and (16 * (a + 256 * (b + 256 * y)) + (a + 256 * (b + 256 * y)) / 256) (m * 65536 + 255) ≡ bit_and (16 * y + y / 256) m * 65536 + (16 * a + b)
two-more a b y m ha hb hy =
    let s : (a + 256 * (b + 256 * y)) / 256 ≡ b + 256 * y = omega arith in
    let x = 16 * (a + 256 * (b + 256 * y)) + (a + 256 * (b + 256 * y)) / 256 in
    let p : x / 65536 ≡ 16 * y + y / 256 = omega arith in
    let e : x ≡ (16 * b + y + 4096 * y) * 256 + (16 * a + b) = omega arith in
    let q : x % 256 ≡ 16 * a + b = ap (λ (n : ℕ). n % 2 ^ 8) e ∙ low_part (16 * b + y + 4096 * y) 8 (omega arith) in
    kept 8 x m ∙ ap₂ (λ (n l : ℕ). bit_and n m * 65536 + l) p q

-- two pairs of digits in front
four_more : (a b y m : ℕ) → a < 256 → b < 256 → y % 65536 < 256
    → bit_and (256 * (a + 65536 * (b + 65536 * y)) + (a + 65536 * (b + 65536 * y)) / 65536) (m * 4294967296 + 65535) ≡ bit_and (256 * y + y / 65536) m * 4294967296 + (256 * a + b)
four_more a b y m ha hb hy =
    let s : (a + 65536 * (b + 65536 * y)) / 65536 ≡ b + 65536 * y = omega arith in
    let x = 256 * (a + 65536 * (b + 65536 * y)) + (a + 65536 * (b + 65536 * y)) / 65536 in
    let p : x / 4294967296 ≡ 256 * y + y / 65536 = omega arith in
    let e : x ≡ (256 * b + y + 16777216 * y) * 65536 + (256 * a + b) = omega arith in
    let q : x % 65536 ≡ 256 * a + b = ap (λ (n : ℕ). n % 2 ^ 16) e ∙ low_part (256 * b + y + 16777216 * y) 16 (omega arith) in
    kept 16 x m ∙ ap₂ (λ (n l : ℕ). bit_and n m * 4294967296 + l) p q

-- two fours of digits
eight_all : (a b : ℕ) → a < 65536 → b < 65536 → eights (a + 4294967296 * b) ≡ 65536 * a + b
eight_all a b ha hb =
    let s : (a + 4294967296 * b) / 4294967296 ≡ b = omega arith in
    let x = 65536 * (a + 4294967296 * b) + (a + 4294967296 * b) / 4294967296 in
    let e : x ≡ 65536 * b * 4294967296 + (65536 * a + b) = omega arith in
    and_mask x 32 ∙ ap (λ (n : ℕ). n % 2 ^ 32) e ∙ low_part (65536 * b) 32 (omega arith)

-- eight digits in their lanes, by two
by_two : (a b c d e f g h : ℕ) → a < 16 → b < 16 → c < 16 → d < 16 → e < 16 → f < 16 → g < 16 → h < 16
    → twos (a + 256 * (b + 256 * (c + 256 * (d + 256 * (e + 256 * (f + 256 * (g + 256 * (h + 256 * 0))))))))
    ≡ (16 * a + b) + 65536 * ((16 * c + d) + 65536 * ((16 * e + f) + 65536 * ((16 * g + h) + 65536 * 0)))
by_two a b c d e f g h ha hb hc hd he hf hg hh =
    two-more a b (c + 256 * (d + 256 * (e + 256 * (f + 256 * (g + 256 * (h + 256 * 0)))))) 0x00ff_00ff_00ff ha hb (omega arith)
    ∙ ap (λ (n : ℕ). n * 65536 + (16 * a + b)) (two-more c d (e + 256 * (f + 256 * (g + 256 * (h + 256 * 0)))) 0x00ff_00ff hc hd (omega arith))
    ∙ ap (λ (n : ℕ). (n * 65536 + (16 * c + d)) * 65536 + (16 * a + b)) (two-more e f (g + 256 * (h + 256 * 0)) 0x00ff he hf (omega arith))
    ∙ ap (λ (n : ℕ). ((n * 65536 + (16 * e + f)) * 65536 + (16 * c + d)) * 65536 + (16 * a + b)) (two-more g h 0 0 hg hh (omega arith))
    ∙ omega arith

-- four pairs in their lanes, by two
by_four : (a b c d : ℕ) → a < 256 → b < 256 → c < 256 → d < 256
    → fours (a + 65536 * (b + 65536 * (c + 65536 * (d + 65536 * 0)))) ≡ (256 * a + b) + 4294967296 * (256 * c + d)
by_four a b c d ha hb hc hd =
    four_more a b (c + 65536 * (d + 65536 * 0)) 0xffff ha hb (omega arith)
    ∙ ap (λ (n : ℕ). n * 4294967296 + (256 * a + b)) (four_more c d 0 0 hc hd (omega arith))
    ∙ omega arith

-- the number that eight digits are
by_eight : (a b c d e f g h : ℕ) → a < 16 → b < 16 → c < 16 → d < 16 → e < 16 → f < 16 → g < 16 → h < 16
    → eights (fours (twos (a + 256 * (b + 256 * (c + 256 * (d + 256 * (e + 256 * (f + 256 * (g + 256 * (h + 256 * 0))))))))))
    ≡ 16 * (16 * (16 * (16 * (16 * (16 * (16 * (16 * 0 + a) + b) + c) + d) + e) + f) + g) + h
by_eight a b c d e f g h ha hb hc hd he hf hg hh =
    ap (λ (n : ℕ). eights (fours n)) (by_two a b c d e f g h ha hb hc hd he hf hg hh)
    ∙ ap eights (by_four (16 * a + b) (16 * c + d) (16 * e + f) (16 * g + h) (omega arith) (omega arith) (omega arith) (omega arith))
    ∙ eight_all (256 * (16 * a + b) + (16 * c + d)) (256 * (16 * e + f) + (16 * g + h)) (omega arith) (omega arith)
    ∙ omega arith

-- the number that a word's eight characters are, each taken for a digit
pub word_plainly : (w : ℕ) → w < 2 ^ 64 → eights (fours (twos (ones w))) ≡ plainly (chars w)
word_plainly w h =
    ap (λ (n : ℕ). eights (fours (twos n))) (each-plain w h)
    ∙ by_eight (v 0) (v 1) (v 2) (v 3) (v 4) (v 5) (v 6) (v 7) (below 0) (below 1) (below 2) (below 3) (below 4) (below 5) (below 6) (below 7)
  where
    v : ℕ → ℕ
    v i = plain (get_or (chars w) i 0)

    below : (i : ℕ) → v i < 16
    below i = mod-lt (get_or (chars w) i 0 % 16 + 9 * (get_or (chars w) i 0 / 64)) (omega arith)
