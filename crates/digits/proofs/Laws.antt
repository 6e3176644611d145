-- Laws of digits at every width: each digit there and back, a number's digits, and the number that digits are.
-- Assumes nothing.
use Rattle.std.proofs.Common.{◌≡◌, ℕ, zero, suc, ◌+◌, ◌-◌, ◌*◌, ◌/◌, ◌%◌, ◌^◌, ◌<◌, ◌≤◌, Bool, true, false, cond, ◌&&◌, ◌||◌, eqb, leb, ◌⊎◌, List, [], ◌∷◌, ◌++◌, length, sym, refl, ap, ◌∙◌, ap₂, inl, inr, mul-le-mul_right, mod-lt, mul_assoc, mul_comm, add-mul, pow-suc, div-one, arith, le-ltb, lt-ltb, ne_eqb, le-leb, leb-true}
use mathlib.Core.Bool.{and_assoc}
use native.Mathlib.Nat.{div-div-eq-div-mul}
use native.Mathlib.Decide.{dec_lt}
use borrow.Author.Tests.{lt-leb}
use lib.Arith.{digits_div}
use Rattle.digits.specs.Digits.{is_capital, is_digit, worth, small, small_form, all_digits, behind, number, digit, digits}

-- a test of both ends, where they hold and where one does not
pub inside : (a b c : ℕ) → a ≤ c → c ≤ b → (leb a c && leb c b) ≡ true
inside a b c g h = simp (le-leb a c g, le-leb c b h)

pub outside : (a b c : ℕ) → (a ≤ c → c ≤ b → ⊥) → (leb a c && leb c b) ≡ false
outside a b c f = go (leb a c) (leb c b) refl refl
  where
    go : (x y : Bool) → leb a c ≡ x → leb c b ≡ y → (x && y) ≡ false
    go true true g h = absurd (f (leb-true a c g) (leb-true c b h))
    go true false g h = refl
    go false y g h = refl

-- both halves of a test
pub and_left : (a b : Bool) → (a && b) ≡ true → a ≡ true
and_left true b e = refl
and_left false b e = e

pub and_right : (a b : Bool) → (a && b) ≡ true → b ≡ true
and_right true b e = e
and_right false b e = absurd (let z : ◌≡◌ {A = ℕ} 0 1 = cc in omega arith)

bounds : (a b c : ℕ) → (leb a c && leb c b) ≡ true → (a ≤ c) × (c ≤ b)
bounds a b c e = (leb-true a c (and_left (leb a c) (leb c b) e), leb-true c b (and_right (leb a c) (leb c b) e))

-- a digit is a figure, a small letter up to `f`, or a capital letter up to `F`
pub digit-cases : (c : ℕ) → is_digit c ≡ true → ((48 ≤ c) × (c ≤ 57)) ⊎ (((97 ≤ c) × (c ≤ 102)) ⊎ ((65 ≤ c) × (c ≤ 70)))
digit-cases c = go (leb 48 c && leb c 57) (leb 97 c && leb c 102) refl refl
  where
    go : (x y : Bool) → (leb 48 c && leb c 57) ≡ x → (leb 97 c && leb c 102) ≡ y → (x || (y || is_capital c)) ≡ true
        → ((48 ≤ c) × (c ≤ 57)) ⊎ (((97 ≤ c) × (c ≤ 102)) ⊎ ((65 ≤ c) × (c ≤ 70)))
    go true y h k e = inl (bounds 48 57 c h)
    go false true h k e = inr (inl (bounds 97 102 c k))
    go false false h k e = inr (inr (bounds 65 70 c e))

-- a figure, a small letter, a capital letter, and any other character; and each with a small letter for a capital one
pub figure : (c : ℕ) → 48 ≤ c → c ≤ 57 → (is_digit c ≡ true) × (worth c ≡ c - 48) × (small c ≡ c)
figure c g h = (
  ap (λ (b : Bool). b || ((leb 97 c && leb c 102) || is_capital c)) (inside 48 57 c g h),
  ap (λ (b : Bool). cond b (c - 48) (cond (leb c 70) (c - 55) (c - 87))) (le-leb c 57 h),
  ap (λ (b : Bool). cond b (c + 32) c) (outside 65 70 c (λ x y. omega arith)),
)

pub letter : (c : ℕ) → 97 ≤ c → c ≤ 102 → (is_digit c ≡ true) × (worth c ≡ c - 87) × (small c ≡ c)
letter c g h = (
  ap (λ (b : Bool). b || ((leb 97 c && leb c 102) || is_capital c)) (outside 48 57 c (λ x y. omega arith))
      ∙ ap (λ (b : Bool). b || is_capital c) (inside 97 102 c g h),
  ap (λ (b : Bool). cond b (c - 48) (cond (leb c 70) (c - 55) (c - 87))) (lt-leb c 57 (omega arith))
      ∙ ap (λ (b : Bool). cond b (c - 55) (c - 87)) (lt-leb c 70 (omega arith)),
  ap (λ (b : Bool). cond b (c + 32) c) (outside 65 70 c (λ x y. omega arith)),
)

pub capital : (c : ℕ) → 65 ≤ c → c ≤ 70 → (is_digit c ≡ true) × (worth c ≡ c - 55) × (small c ≡ c + 32)
capital c g h = (
  ap (λ (b : Bool). b || ((leb 97 c && leb c 102) || is_capital c)) (outside 48 57 c (λ x y. omega arith))
      ∙ ap (λ (b : Bool). b || is_capital c) (outside 97 102 c (λ x y. omega arith))
      ∙ inside 65 70 c g h,
  ap (λ (b : Bool). cond b (c - 48) (cond (leb c 70) (c - 55) (c - 87))) (lt-leb c 57 (omega arith))
      ∙ ap (λ (b : Bool). cond b (c - 55) (c - 87)) (le-leb c 70 h),
  ap (λ (b : Bool). cond b (c + 32) c) (inside 65 70 c g h),
)

digit_low : (d : ℕ) → d < 10 → digit d ≡ 48 + d
digit_low d h = ap (λ (b : Bool). cond b (48 + d) (87 + d)) (lt-ltb d 10 h)

digit_high : (d : ℕ) → 10 ≤ d → digit d ≡ 87 + d
digit_high d h = ap (λ (b : Bool). cond b (48 + d) (87 + d)) (le-ltb d 10 h)

-- the digit that is worth d is a digit, and is worth d
pub digit_good : (d : ℕ) → d < 16 → (is_digit (digit d) ≡ true) × (worth (digit d) ≡ d)
digit_good d h = go (dec_lt d 10)
  where
    go : Dec (d < 10) → (is_digit (digit d) ≡ true) × (worth (digit d) ≡ d)
    go (yes g) =
        let f = figure (48 + d) (omega arith) (omega arith) in
        (ap is_digit (digit_low d g) ∙ f.0, ap worth (digit_low d g) ∙ f.1 ∙ omega arith)
    go (no g) =
        let k : 10 ≤ d = omega arith in
        let f = letter (87 + d) (omega arith) (omega arith) in
        (ap is_digit (digit_high d k) ∙ f.0, ap worth (digit_high d k) ∙ f.1 ∙ omega arith)

-- a digit is worth less than 16, and the digit of what it is worth is it with a small letter
pub worth_good : (c : ℕ) → is_digit c ≡ true → (worth c < 16) × (digit (worth c) ≡ small c)
worth_good c e = go (digit-cases c e)
  where
    go : ((48 ≤ c) × (c ≤ 57)) ⊎ (((97 ≤ c) × (c ≤ 102)) ⊎ ((65 ≤ c) × (c ≤ 70))) → (worth c < 16) × (digit (worth c) ≡ small c)
    go (inl (a, b)) =
        let f = figure c a b in
        (omega (arith, f.1), ap digit f.1 ∙ digit_low (c - 48) (omega arith) ∙ omega (arith, f.2))
    go (inr (inl (a, b))) =
        let f = letter c a b in
        (omega (arith, f.1), ap digit f.1 ∙ digit_high (c - 87) (omega arith) ∙ omega (arith, f.2))
    go (inr (inr (a, b))) =
        let f = capital c a b in
        (omega (arith, f.1), ap digit f.1 ∙ digit_high (c - 55) (omega arith) ∙ omega (arith, f.2))

-- with a small letter a character is a digit where it was one, of the same worth
pub small-digit : (c : ℕ) → is_digit (small c) ≡ is_digit c
small-digit c = go (is_capital c) refl
  where
    go : (x : Bool) → is_capital c ≡ x → is_digit (cond x (c + 32) c) ≡ is_digit c
    go true e = let b = bounds 65 70 c e in (letter (c + 32) (omega (arith, b.0)) (omega (arith, b.1))).0 ∙ sym (capital c b.0 b.1).0
    go false e = refl

pub small-worth : (c : ℕ) → worth (small c) ≡ worth c
small-worth c = go (is_capital c) refl
  where
    go : (x : Bool) → is_capital c ≡ x → worth (cond x (c + 32) c) ≡ worth c
    go true e =
        let b = bounds 65 70 c e in
        (letter (c + 32) (omega (arith, b.0)) (omega (arith, b.1))).1 ∙ omega (arith, b.0) ∙ sym (capital c b.0 b.1).1
    go false e = refl

-- a character before the letters is its own small form, and no other has it
pub small_eqb : (c d : ℕ) → d < 65 → eqb (small c) d ≡ eqb c d
small_eqb c d h = go (is_capital c) refl
  where
    go : (x : Bool) → is_capital c ≡ x → eqb (cond x (c + 32) c) d ≡ eqb c d
    go true e =
        let b = bounds 65 70 c e in
        ne_eqb (c + 32) d (λ k. omega (arith, b.0)) ∙ sym (ne_eqb c d (λ k. omega (arith, b.0)))
    go false e = refl

-- its last sixteenth is that of the character
pub small-mod : (c : ℕ) → small c % 16 ≡ c % 16
small-mod c = go (is_capital c)
  where
    go : (x : Bool) → cond x (c + 32) c % 16 ≡ c % 16
    go true = omega arith
    go false = refl

-- a small form is its own
small_again : (c : ℕ) → small (small c) ≡ small c
small_again c = go (is_capital c) refl
  where
    go : (x : Bool) → is_capital c ≡ x → small (cond x (c + 32) c) ≡ cond x (c + 32) c
    go true e = let b = bounds 65 70 c e in (letter (c + 32) (omega (arith, b.0)) (omega (arith, b.1))).2
    go false e = ap (λ (b : Bool). cond b (c + 32) c) e

pub form_again : (s : List ℕ) → small_form (small_form s) ≡ small_form s
form_again [] = refl
form_again (c ∷ s) = ap₂ (λ (x : ℕ) (l : List ℕ). x ∷ l) (small_again c) (form_again s)

-- the small-letter form is as long, has digits where there were digits, and is the same number
pub small-length : (s : List ℕ) → length (small_form s) ≡ length s
small-length [] = refl
small-length (c ∷ s) = ap suc (small-length s)

pub small-append : (s t : List ℕ) → small_form (s ++ t) ≡ small_form s ++ small_form t
small-append [] t = refl
small-append (c ∷ s) t = ap (λ (l : List ℕ). small c ∷ l) (small-append s t)

pub small_all : (s : List ℕ) → all_digits (small_form s) ≡ all_digits s
small_all [] = refl
small_all (c ∷ s) = rw (small-digit c, small_all s)

small-behind : (n : ℕ) (s : List ℕ) → behind n (small_form s) ≡ behind n s
small-behind n [] = refl
small-behind n (c ∷ s) = ap (λ (w : ℕ). behind (16 * n + w) (small_form s)) (small-worth c) ∙ small-behind (16 * n + worth c) s

pub small-number : (s : List ℕ) → number (small_form s) ≡ number s
small-number s = small-behind 0 s

-- digits and more digits
pub all_append : (s t : List ℕ) → all_digits (s ++ t) ≡ (all_digits s && all_digits t)
all_append [] t = refl
all_append (c ∷ s) t = ap (λ (b : Bool). is_digit c && b) (all_append s t) ∙ sym (and_assoc (is_digit c) (all_digits s) (all_digits t))

pub behind-append : (n : ℕ) (s t : List ℕ) → behind n (s ++ t) ≡ behind (behind n s) t
behind-append n [] t = refl
behind-append n (c ∷ s) t = behind-append (16 * n + worth c) s t

-- what came before stands above all the digits that follow
pub behind-number : (n : ℕ) (s : List ℕ) → behind n s ≡ n * 16 ^ length s + number s
behind-number n [] = omega arith
behind-number n (c ∷ s) =
    behind-number (16 * n + worth c) s
    ∙ rw (pow-suc 16 (length s), behind-number (16 * 0 + worth c) s) (lin n (worth c) (16 ^ length s) (number s))
  where
    lin : (n w p m : ℕ) → (16 * n + w) * p + m ≡ n * (p * 16) + ((16 * 0 + w) * p + m)
    lin n w p m = omega (arith, add-mul (16 * n) w p, mul_assoc 16 n p, mul_assoc n p 16)

-- a number of n digits is below 16 ^ n
pub number-below : (s : List ℕ) → all_digits s ≡ true → number s < 16 ^ length s
number-below [] e = omega arith
number-below (c ∷ s) e =
    let g = and_left (is_digit c) (all_digits s) e in
    let h = number-below s (and_right (is_digit c) (all_digits s) e) in
    let w = (worth_good c g).0 in
    rw (pow-suc 16 (length s), behind-number (16 * 0 + worth c) s)
    (omega (arith, mul-le-mul_right (16 ^ length s) (le w), mul_comm (16 ^ length s) 16))
  where
    le : {x : ℕ} → x < 16 → 16 * 0 + x ≤ 15
    le h = omega arith

-- the digits of a number are digits, and are that number where it has room in them
pub digits_good : (n x : ℕ) → all_digits (digits n x) ≡ true
digits_good zero x = refl
digits_good (suc n) x =
    all_append (digits n (x / 16)) (digit (x % 16) ∷ [])
    ∙ simp (digits_good n (x / 16), (digit_good (x % 16) (mod-lt x (omega arith))).0)

div_below : (n x : ℕ) → x < 16 ^ suc n → x / 16 < 16 ^ n
div_below n x h = let e = pow-suc 16 n in omega arith

pub digits_number : (n x : ℕ) → x < 16 ^ n → number (digits n x) ≡ x
digits_number zero x h = omega arith
digits_number (suc n) x h =
    behind-append 0 (digits n (x / 16)) (digit (x % 16) ∷ [])
    ∙ rw (digits_number n (x / 16) (div_below n x h), (digit_good (x % 16) (mod-lt x (omega arith))).1) (omega arith)

-- one digit more in front
digits-cons : (n x : ℕ) → digits (suc n) x ≡ digit (x / 16 ^ n % 16) ∷ digits n x
digits-cons zero x = rw (div-one x) refl
digits-cons (suc n) x =
    ap (λ (l : List ℕ). l ++ digit (x % 16) ∷ []) (digits-cons n (x / 16))
    ∙ ap (λ (q : ℕ). digit (q % 16) ∷ (digits n (x / 16) ++ digit (x % 16) ∷ [])) (div-div-eq-div-mul x 16 (16 ^ n) ∙ ap (λ (p : ℕ). x / p) (mul_comm 16 (16 ^ n) ∙ sym (pow-suc 16 n)))

-- the digits of the number that s is are s in small letters, whatever stands before them
behind-digits : (n : ℕ) (s : List ℕ) → all_digits s ≡ true → digits (length s) (behind n s) ≡ small_form s
behind-digits n [] e = refl
behind-digits n (c ∷ s) e =
    let g = and_left (is_digit c) (all_digits s) e in
    let r = and_right (is_digit c) (all_digits s) e in
    let m = 16 * n + worth c in
    let top : behind m s / 16 ^ length s ≡ m = ap (λ (y : ℕ). y / 16 ^ length s) (behind-number m s) ∙ digits_div m (number-below s r) in
    let last : m % 16 ≡ worth c = low n (worth c) (worth_good c g).0 in
    digits-cons (length s) (behind m s)
    ∙ ap (λ (d : ℕ). digit d ∷ digits (length s) (behind m s)) (ap (λ (y : ℕ). y % 16) top ∙ last)
    ∙ ap (λ (d : ℕ). d ∷ digits (length s) (behind m s)) (worth_good c g).1
    ∙ ap (λ (l : List ℕ). small c ∷ l) (behind-digits m s r)
  where
    low : (n w : ℕ) → w < 16 → (16 * n + w) % 16 ≡ w
    low n w h = omega arith

pub number_digits : (s : List ℕ) → all_digits s ≡ true → digits (length s) (number s) ≡ small_form s
number_digits s e = behind-digits 0 s e
