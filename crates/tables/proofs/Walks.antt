-- The walks over the fours in a word: what is passed over is zero, and what is handled is done.
use mathlib.Core.Path.{◌≡◌, ◌∙◌}
use mathlib.Core.List.{List}
use Prim.Native.Nat.{ℕ, ◌+◌, ◌*◌, ◌/◌, ◌^◌, ◌≤◌, ◌<◌}
use native.Mathlib.Decide.{dec_lt}
use native.Mathlib.Omega.{arith}
use lib.Count.{count_trailing_zeros}
use lib.ListN.{length, get_or}
use Rattle.tables.specs.Walks.{Idle, Idles, Apart, Taken, Cleared}
use Rattle.tables.proofs.Bits.{skipped, none_left}
use Rattle.tables.proofs.Loops.{apart_in, taken-zero, taken_then, taken-same, taken-off, cleared-zero, cleared-then, cleared-same}

-- The walk over word has come to four c, and left is what lies from there on.
module _ (word c left : ℕ) (is : left ≡ word / 2 ^ c) where
  -- the numbers up to the next four in the word
  idle-row : (i : ℕ) → 8 * c ≤ i → i < 8 * (c + count_trailing_zeros 64 left) → Idle word (i / 8)
  idle-row i h l = skipped word c left is (i / 8) (omega arith) (omega arith)

  -- and all numbers from here on, where nothing is left
  last_row : left ≡ 0 → (i : ℕ) → 8 * c ≤ i → Idle word (i / 8)
  last_row e i h = none_left word c left is e (i / 8) (omega arith)

  -- the tables at b, e and g, from t₀ on
  module _ {w b e g : ℕ} {t₀ : List ℕ} (a : Apart w b e g t₀) (B : Idles word w b t₀) (E : Idles word w e t₀) (G : Idles word w g t₀) (t : List ℕ) (same : length t ≡ length t₀) (x : Taken b e g w 0 (8 * c) t₀ t) where
    zero-rows : (i : ℕ) → 8 * c ≤ i → i < w → Idle word (i / 8) → (get_or t (b + i) 0 ≡ 0) × (get_or t (e + i) 0 ≡ 0) × (get_or t (g + i) 0 ≡ 0)
    zero-rows i h l z = let o = taken-off a 0 (8 * c) t x i l (λ p q. omega arith) in (o.1 ∙ B i l z, o.2 ∙ E i l z, o.3 ∙ G i l z)

    -- a four more
    pub take_on : (t' : List ℕ) → Taken b e g w (8 * (c + count_trailing_zeros 64 left)) (8 * (c + count_trailing_zeros 64 left) + 8) t t' → Taken b e g w 0 (8 * (c + count_trailing_zeros 64 left + 1)) t₀ t'
    take_on t' y =
        let m = 8 * (c + count_trailing_zeros 64 left) in
        let s = taken_then a 0 (8 * c) m (omega arith) (omega arith) t t x (taken-zero (apart_in t same a) (8 * c) m (λ i h k l. zero-rows i h l (idle-row i h k))) in
        taken-same w (8 * (c + count_trailing_zeros 64 left + 1)) (λ i f k l. (omega arith, l)) (λ i f k l. (omega arith, l)) (taken_then a 0 m (m + 8) (omega arith) (omega arith) t t' s y)

    -- all of them
    pub take_done : left ≡ 0 → Taken b e g w 0 w t₀ t
    take_done z = go (dec_lt (8 * c) w)
      where
        go : Dec (8 * c < w) → Taken b e g w 0 w t₀ t
        go (yes l) = taken_then a 0 (8 * c) w (omega arith) (omega arith) t t x (taken-zero (apart_in t same a) (8 * c) w (λ i h k r. zero-rows i h r (last_row z i h)))
        go (no l) = taken-same w w (λ i f k r. (omega arith, r)) (λ i f k r. (r, r)) x

  -- the table at a, from t₀ on
  module _ {w a : ℕ} {t₀ : List ℕ} (A : Idles word w a t₀) (t : List ℕ) (x : Cleared a w 0 (8 * c) t₀ t) where
    zero_row : (i : ℕ) → 8 * c ≤ i → i < w → Idle word (i / 8) → get_or t (a + i) 0 ≡ 0
    zero_row i h l z = x.rest (a + i) (λ k p q r e. omega arith) ∙ A i l z

    pub clear-on : (t' : List ℕ) → Cleared a w (8 * (c + count_trailing_zeros 64 left)) (8 * (c + count_trailing_zeros 64 left) + 8) t t' → Cleared a w 0 (8 * (c + count_trailing_zeros 64 left + 1)) t₀ t'
    clear-on t' y =
        let m = 8 * (c + count_trailing_zeros 64 left) in
        let s = cleared-then a w t₀ 0 (8 * c) m (omega arith) (omega arith) t t x (cleared-zero a w t (8 * c) m (λ i h k l. zero_row i h l (idle-row i h k))) in
        cleared-same w (8 * (c + count_trailing_zeros 64 left + 1)) (λ i f k l. (omega arith, l)) (λ i f k l. (omega arith, l)) (cleared-then a w t₀ 0 m (m + 8) (omega arith) (omega arith) t t' s y)

    pub clear-done : left ≡ 0 → Cleared a w 0 w t₀ t
    clear-done z = go (dec_lt (8 * c) w)
      where
        go : Dec (8 * c < w) → Cleared a w 0 w t₀ t
        go (yes l) = cleared-then a w t₀ 0 (8 * c) w (omega arith) (omega arith) t t x (cleared-zero a w t (8 * c) w (λ i h k r. zero_row i h r (last_row z i h)))
        go (no l) = cleared-same w w (λ i f k r. (omega arith, r)) (λ i f k r. (r, r)) x
