-- The bits of a word: which are set in an or, and which lie below the lowest that is set.
use Prim.Native.Nat.{ℕ, zero, suc, ◌+◌, ◌*◌, ◌-◌, ◌/◌, ◌%◌, ◌^◌, ◌≤◌, ◌<◌, max}
use mathlib.Core.Path.{◌≡◌, refl, ap, ◌∙◌, sym}
use mathlib.Core.Logic.{◌⊎◌, inl, inr}
use native.Mathlib.Nat.{mod-lt, pow-suc, div-one, div_self, zero-div, div-div-eq-div-mul, div-eq_of_lt, div-le_self, mul_comm, one-mul, mod-eq_of_lt, one-le-pow, pow-le-pow_right, le-max_left, le-max_right}
use native.Mathlib.Decide.{dec_lt}
use native.Mathlib.Omega.{arith}
use lib.Bits.{bit_or, or_step, or_shr}
use lib.Count.{count_trailing_zeros, under}
use lib.Pow.{pow-add}
use Rattle.tables.specs.Walks.{Idle}

bit-cases : (a : ℕ) → a < 2 → (a ≡ 0) ⊎ (a ≡ 1)
bit-cases zero h = inl refl
bit-cases (suc zero) h = inr refl
bit-cases (suc (suc a)) h = absurd (omega arith)

-- the first bit of an or, and the others
max_bit : (a b : ℕ) → a < 2 → b < 2 → max a b < 2
max_bit a b h k = go a b (bit-cases a h) (bit-cases b k)
  where
    go : (a b : ℕ) → (a ≡ 0) ⊎ (a ≡ 1) → (b ≡ 0) ⊎ (b ≡ 1) → max a b < 2
    go a b (inl x) (inl y) = rw (x, y) (omega arith)
    go a b (inl x) (inr y) = rw (x, y) (omega arith)
    go a b (inr x) (inl y) = rw (x, y) (omega arith)
    go a b (inr x) (inr y) = rw (x, y) (omega arith)

or_low : (a b : ℕ) → bit_or a b % 2 ≡ max (a % 2) (b % 2)
or_low a b = omega (arith, or_step a b, max_bit (a % 2) (b % 2) (mod-lt a (omega arith)) (mod-lt b (omega arith)))

or_half : (a b : ℕ) → bit_or a b / 2 ≡ bit_or (a / 2) (b / 2)
or_half a b = omega (arith, or_step a b, max_bit (a % 2) (b % 2) (mod-lt a (omega arith)) (mod-lt b (omega arith)))

max_bits : (a b c : ℕ) → a < 2 → b < 2 → c < 2 → max (max a b) c ≡ max a (max b c)
max_bits a b c h k m = go a b c (bit-cases a h) (bit-cases b k) (bit-cases c m)
  where
    go : (a b c : ℕ) → (a ≡ 0) ⊎ (a ≡ 1) → (b ≡ 0) ⊎ (b ≡ 1) → (c ≡ 0) ⊎ (c ≡ 1) → max (max a b) c ≡ max a (max b c)
    go a b c (inl x) (inl y) (inl z) = rw (x, y, z)
    go a b c (inl x) (inl y) (inr z) = rw (x, y, z)
    go a b c (inl x) (inr y) (inl z) = rw (x, y, z)
    go a b c (inl x) (inr y) (inr z) = rw (x, y, z)
    go a b c (inr x) (inl y) (inl z) = rw (x, y, z)
    go a b c (inr x) (inl y) (inr z) = rw (x, y, z)
    go a b c (inr x) (inr y) (inl z) = rw (x, y, z)
    go a b c (inr x) (inr y) (inr z) = rw (x, y, z)

-- an or of three, however it is put together
pub or_assoc : (a b c : ℕ) → bit_or (bit_or a b) c ≡ bit_or a (bit_or b c)
or_assoc a b c = go (a + (b + c)) a b c (omega arith)
  where
    go : (k a b c : ℕ) → a + (b + c) ≤ k → bit_or (bit_or a b) c ≡ bit_or a (bit_or b c)
    go zero a b c h =
        let x : a ≡ 0 = omega arith in
        let y : b ≡ 0 = omega arith in
        let z : c ≡ 0 = omega arith in
        rw (x, y, z)
    go (suc k) a b c h =
        let ih = go k (a / 2) (b / 2) (c / 2) (omega arith) in
        let high : bit_or (bit_or a b / 2) (c / 2) ≡ bit_or (a / 2) (bit_or b c / 2) = ap (λ (x : ℕ). bit_or x (c / 2)) (or_half a b) ∙ ih ∙ ap (bit_or (a / 2)) (sym (or_half b c)) in
        let low : max (bit_or a b % 2) (c % 2) ≡ max (a % 2) (bit_or b c % 2) = ap (λ (x : ℕ). max x (c % 2)) (or_low a b) ∙ max_bits (a % 2) (b % 2) (c % 2) (mod-lt a (omega arith)) (mod-lt b (omega arith)) (mod-lt c (omega arith)) ∙ ap (max (a % 2)) (sym (or_low b c)) in
        omega (arith, or_step (bit_or a b) c, or_step a (bit_or b c))

-- a bit that is not set in an or is set in neither
pub idle_or : (u v b : ℕ) → Idle (bit_or u v) b → Idle u b × Idle v b
idle_or u v b h =
    let e = sym (ap (λ (x : ℕ). x % 2) (or_shr u v b) ∙ or_low (u / 2 ^ b) (v / 2 ^ b)) ∙ h in
    (omega (arith, le-max_left (u / 2 ^ b % 2) (v / 2 ^ b % 2)), omega (arith, le-max_right (u / 2 ^ b % 2) (v / 2 ^ b % 2)))

-- a power's own bit is set
pub power_idle : (b : ℕ) → Idle (2 ^ b) b → ⊥
power_idle b h = omega (arith, sym (ap (λ (x : ℕ). x % 2) (div_self {n = 2 ^ b} (one-le-pow b 2 (omega arith)))) ∙ h)

-- 1 shifted within a word is a power
pub shifted_one : (b : ℕ) → b < 64 → (1 * 2 ^ b) % 2 ^ 64 ≡ 2 ^ b
shifted_one b h =
    ap (λ (x : ℕ). x % 2 ^ 64) (one-mul (2 ^ b))
    ∙ mod-eq_of_lt (omega (arith, pow-suc 2 b, one-le-pow b 2 (omega arith), pow-le-pow_right {n = 2} (omega arith) {i = suc b} {j = 64} h))

-- the other bits of a number are those of its half
half_idle : (n b : ℕ) → n / 2 / 2 ^ b ≡ n / 2 ^ suc b
half_idle n b = div-div-eq-div-mul n 2 (2 ^ b) ∙ ap (λ (x : ℕ). n / x) (mul_comm 2 (2 ^ b) ∙ sym (pow-suc 2 b))

-- the bits below the lowest that is set
below_lowest : (d n b : ℕ) → b < count_trailing_zeros d n → Idle n b
unfolding count_trailing_zeros
below_lowest zero n b h = absurd (omega arith)
below_lowest (suc d) n b h = go (n % 2) refl b h (below_lowest d (n / 2))
  where
    go : (x : ℕ) → n % 2 ≡ x → (b : ℕ) → b < under x (count_trailing_zeros d (n / 2)) → ((b : ℕ) → b < count_trailing_zeros d (n / 2) → Idle (n / 2) b) → Idle n b
    go zero e zero l ih = ap (λ (x : ℕ). x % 2) (div-one n) ∙ e
    go zero e (suc b) l ih = ap (λ (x : ℕ). x % 2) (sym (half_idle n b)) ∙ ih b (omega arith)
    go (suc x) e b l ih = absurd (omega arith)

-- there is a bit that is set
lowest_there : (d n : ℕ) → 0 < n → n < 2 ^ d → count_trailing_zeros d n < d
unfolding count_trailing_zeros
lowest_there zero n h k = absurd (omega arith)
lowest_there (suc d) n h k = go (n % 2) refl (λ e. lowest_there d (n / 2) (omega arith) (omega (arith, pow-suc 2 d)))
  where
    go : (x : ℕ) → n % 2 ≡ x → (n % 2 ≡ 0 → count_trailing_zeros d (n / 2) < d) → under x (count_trailing_zeros d (n / 2)) < suc d
    go zero e ih = omega (arith, ih e)
    go (suc x) e ih = omega arith

-- A walk over the bits of a word has come to bit c, and left is what lies from there on.
module _ (word c left : ℕ) (is : left ≡ word / 2 ^ c) where
  from-here : (k : ℕ) → word / 2 ^ (c + k) ≡ left / 2 ^ k
  from-here k = ap (λ (x : ℕ). word / x) (pow-add 2 c k) ∙ sym (div-div-eq-div-mul word (2 ^ c) (2 ^ k)) ∙ ap (λ (x : ℕ). x / 2 ^ k) (sym is)

  idle-here : (b : ℕ) → c ≤ b → Idle left (b - c) → Idle word b
  idle-here b h k = let e : b ≡ c + (b - c) = omega arith in ap (λ (x : ℕ). word / 2 ^ x % 2) e ∙ ap (λ (x : ℕ). x % 2) (from-here (b - c)) ∙ k

  -- up to the next bit that is set, none is
  pub skipped : (b : ℕ) → c ≤ b → b < c + count_trailing_zeros 64 left → Idle word b
  skipped b h l = idle-here b h (below_lowest 64 left (b - c) (omega arith))

  -- nothing is left
  pub none_left : left ≡ 0 → (b : ℕ) → c ≤ b → Idle word b
  none_left e b h = idle-here b h (ap (λ (x : ℕ). x / 2 ^ (b - c) % 2) e ∙ ap (λ (x : ℕ). x % 2) (zero-div (2 ^ (b - c))))

  -- less is left behind it
  pub falls : (z : ℕ) → (left ≡ 0 → ⊥) → left / 2 ^ z / 2 ^ 1 < left
  falls z h = omega (arith, div-le_self left (2 ^ z))

  -- one bit further
  pub farther : (z : ℕ) → left / 2 ^ z / 2 ^ 1 ≡ word / 2 ^ (c + z + 1)
  farther z = ap (λ (x : ℕ). x / 2 ^ 1) (sym (from-here z)) ∙ div-div-eq-div-mul word (2 ^ (c + z)) (2 ^ 1) ∙ ap (λ (x : ℕ). word / x) (sym (pow-add 2 (c + z) 1))

  -- a word has 64 bits
  pub within : word < 2 ^ 64 → (left ≡ 0 → ⊥) → (c < 64) × (count_trailing_zeros 64 left < 64)
  within h k = (go (dec_lt c 64), lowest_there 64 left (omega arith) (omega (arith, div-le_self word (2 ^ c))))
    where
      go : Dec (c < 64) → c < 64
      go (yes l) = l
      go (no l) = absurd (k (is ∙ div-eq_of_lt (omega (arith, pow-le-pow_right {n = 2} (omega arith) {i = 64} {j = c} (omega arith)))))
