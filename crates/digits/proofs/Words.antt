-- Laws of words: characters there and back, characters taken for digits, and leading zeros.
-- Assumes nothing.
use Rattle.std.proofs.Common.{◌≡◌, ℕ, zero, suc, ◌+◌, ◌-◌, ◌*◌, ◌/◌, ◌%◌, ◌^◌, ◌<◌, ◌≤◌, Bool, true, cond, ◌⊎◌, List, [], ◌∷◌, length, get_or, drop, replicate, sym, refl, ap, ◌∙◌, ap₂, inl, inr, suc-le-suc, le_of_suc-le-suc, mod-eq_of_lt, mul_assoc, mul_comm, pow-suc, arith, eq-eqb}
use Rattle.digits.specs.Digits.{is_digit, worth, all_digits, behind, number}
use Rattle.digits.specs.Word.{plain, plain_behind, plainly, packed, bytes, chars, eight_of, four_of}
use Rattle.digits.proofs.Laws.{and_left, and_right, digit-cases, figure, letter, capital}

-- every character is a byte, as those of a lent slice of bytes are
abbrev pub Bytes : List ℕ → Type 0
Bytes s = (i : ℕ) → i < length s → get_or s i 0 < 256

-- one byte more in front
pub bytes-cons : (c : ℕ) (s : List ℕ) → c < 256 → Bytes s → Bytes (c ∷ s)
bytes-cons c s h b zero l = h
bytes-cons c s h b (suc i) l = b i (le_of_suc-le-suc l)

-- a digit taken for one is worth what it is
pub plain-worth : (c : ℕ) → is_digit c ≡ true → plain c ≡ worth c
plain-worth c e = go (digit-cases c e)
  where
    lane : (x y z : ℕ) → c % 16 ≡ x → c / 64 ≡ y → x + 9 * y ≡ z → z < 16 → plain c ≡ z
    lane x y z e f g h = ap₂ (λ (m n : ℕ). (m + 9 * n) % 16) e f ∙ ap (λ (n : ℕ). n % 16) g ∙ mod-eq_of_lt h

    go : ((48 ≤ c) × (c ≤ 57)) ⊎ (((97 ≤ c) × (c ≤ 102)) ⊎ ((65 ≤ c) × (c ≤ 70))) → plain c ≡ worth c
    go (inl (a, b)) = lane (c - 48) 0 (c - 48) (omega arith) (omega arith) (omega arith) (omega arith) ∙ sym (figure c a b).1
    go (inr (inl (a, b))) = lane (c - 96) 1 (c - 87) (omega arith) (omega arith) (omega arith) (omega arith) ∙ sym (letter c a b).1
    go (inr (inr (a, b))) = lane (c - 64) 1 (c - 55) (omega arith) (omega arith) (omega arith) (omega arith) ∙ sym (capital c a b).1

-- digits, each taken for one, are the number that they are
plain-behind : (n : ℕ) (s : List ℕ) → all_digits s ≡ true → plain_behind n s ≡ behind n s
plain-behind n [] e = refl
plain-behind n (c ∷ s) e =
    ap (λ (v : ℕ). plain_behind (16 * n + v) s) (plain-worth c (and_left (is_digit c) (all_digits s) e))
    ∙ plain-behind (16 * n + worth c) s (and_right (is_digit c) (all_digits s) e)

pub plain-number : (s : List ℕ) → all_digits s ≡ true → plainly s ≡ number s
plain-number s e = plain-behind 0 s e

-- the bytes of packed characters are the characters
bytes_packed : (s : List ℕ) → Bytes s → bytes (length s) (packed s) ≡ s
bytes_packed [] b = refl
bytes_packed (c ∷ s) b = ap₂ (λ (x y : ℕ). x ∷ bytes (length s) y) (low c (packed s) (b 0 (omega arith))) (high c (packed s) (b 0 (omega arith))) ∙ ap (λ (l : List ℕ). c ∷ l) (bytes_packed s (λ i h. b (suc i) (suc-le-suc h)))
  where
    low : (c q : ℕ) → c < 256 → (c + 256 * q) % 256 ≡ c
    low c q h = omega arith

    high : (c q : ℕ) → c < 256 → (c + 256 * q) / 256 ≡ q
    high c q h = omega arith

-- the eight characters of eight packed characters
pub chars_eight : (s : List ℕ) → length s ≡ 8 → Bytes s → chars (eight_of s) ≡ s
chars_eight s e b =
    ap (λ (t : Bool). chars (cond t (packed s) 0)) (eq-eqb (length s) 8 e) ∙ ap (λ (n : ℕ). bytes n (packed s)) (sym e) ∙ bytes_packed s b

pub chars_four : (s : List ℕ) → length s ≡ 4 → Bytes s → chars (four_of s) ≡ 48 ∷ 48 ∷ 48 ∷ 48 ∷ s
chars_four s e b =
    ap (λ (t : Bool). chars (cond t (packed (zeros s)) 0)) (eq-eqb (length s) 4 e)
    ∙ ap (λ (n : ℕ). bytes (suc (suc (suc (suc n)))) (packed (zeros s))) (sym e)
    ∙ bytes_packed (zeros s) (more (48 ∷ 48 ∷ 48 ∷ s) (more (48 ∷ 48 ∷ s) (more (48 ∷ s) (more s b))))
  where
    zeros : List ℕ → List ℕ
    zeros t = 48 ∷ 48 ∷ 48 ∷ 48 ∷ t

    more : (t : List ℕ) → Bytes t → Bytes (48 ∷ t)
    more t = bytes-cons 48 t (omega arith)

-- leading zeros
pub digits_four : (s : List ℕ) → all_digits (48 ∷ 48 ∷ 48 ∷ 48 ∷ s) ≡ all_digits s
digits_four s = refl

pub plainly_four : (s : List ℕ) → plainly (48 ∷ 48 ∷ 48 ∷ 48 ∷ s) ≡ plainly s
plainly_four s = refl

-- eight (four) characters are all the digit 0 exactly where the word is that of zeros
pub zeros_eight : (s : List ℕ) → length s ≡ 8 → Bytes s → eight_of s ≡ 0x3030303030303030 → s ≡ replicate 8 48
zeros_eight s e b z = sym (chars_eight s e b) ∙ ap chars z

pub eight_zeros : eight_of (replicate 8 48) ≡ 0x3030303030303030
eight_zeros = refl

pub zeros_four : (s : List ℕ) → length s ≡ 4 → Bytes s → four_of s ≡ 0x3030303030303030 → s ≡ replicate 4 48
zeros_four s e b z = ap (drop 4) (sym (chars_four s e b) ∙ ap chars z)

pub four_zeros : four_of (replicate 4 48) ≡ 0x3030303030303030
four_zeros = refl

-- n characters taken for digits come to less than 16 ^ n
behind-below : (n m : ℕ) (s : List ℕ) → n < m → plain_behind n s < m * 16 ^ length s
behind-below n m [] h = omega arith
behind-below n m (c ∷ s) h =
    let l = behind-below (16 * n + plain c) (m * 16) s (omega arith) in
    rw (pow-suc 16 (length s), mul_comm (16 ^ length s) 16, ← mul_assoc m 16 (16 ^ length s)) l

pub plainly-below : (s : List ℕ) → plainly s < 16 ^ length s
plainly-below s = omega (arith, behind-below 0 1 s (omega arith))
