-- What the two readers rest on: a character's worth by two differences that wrap, and one more character read.
-- Assumes nothing.
use Rattle.std.proofs.Common.{◌≡◌, ℕ, ◌+◌, ◌*◌, ◌%◌, ◌^◌, ◌<◌, ◌≤◌, Bool, true, false, cond, ◌&&◌, eqb, ltb, leb, List, [], ◌∷◌, length, Some, None, get_or, drop, sym, refl, ap, ◌∙◌, pow-suc, add-one, arith, drop_of_length-le, drop-cons, le-ltb, lt-ltb, eqb-true, le-leb}
use mathlib.Core.Bool.{and_assoc, and-true}
use native.Mathlib.Nat.{pow-le-pow_right}
use borrow.Author.Tests.{lt-leb}
use lib.Bits.{bit_or}
use Rattle.digits.specs.Digits.{is_digit, worth, all_digits, behind, number}
use Rattle.digits.specs.Read.{worth_of, reading}
use Rattle.digits.proofs.Laws.{worth_good, and_left, and_right, number-below}
use Rattle.digits.proofs.Lanes.{of-each}

-- a byte's worth by two differences that wrap: of it and `0`, and of it with the bit of 32 and `a`
abbrev by_differences : ℕ → ℕ → ℕ
by_differences d l = cond (ltb d 10) d (cond (ltb l 6) (10 + l) 16)

worth-by : (c : ℕ) → c < 256 → worth_of c ≡ by_differences ((c + 208) % 256) ((bit_or c 32 + 159) % 256)
worth-by c h =
    eqb-true (worth_of c) (by_differences ((c + 208) % 256) ((bit_or c 32 + 159) % 256))
    (of-each 256 (λ x. eqb (worth_of x) (by_differences ((x + 208) % 256) ((bit_or x 32 + 159) % 256))) refl c h)

module _ (c : ℕ) (h : c < 256) (g : 10 ≤ (c + 208) % 256) where
  pub worth_letter : (bit_or c 32 + 159) % 256 < 6 → 10 + (bit_or c 32 + 159) % 256 ≡ worth_of c
  worth_letter k = sym (worth-by c h ∙ simp (le-ltb ((c + 208) % 256) 10 g, lt-ltb ((bit_or c 32 + 159) % 256) 6 k))

  pub worth_neither : 6 ≤ (bit_or c 32 + 159) % 256 → 16 ≡ worth_of c
  worth_neither k = sym (worth-by c h ∙ simp (le-ltb ((c + 208) % 256) 10 g, le-ltb ((bit_or c 32 + 159) % 256) 6 k))

module _ (c : ℕ) where
  worth-of : (b : Bool) → is_digit c ≡ b → worth_of c ≡ cond b (worth c) 16
  worth-of b e = ap (λ (t : Bool). cond t (worth c) 16) e

  -- 16 tells a digit from any other character
  pub worth-tells : ltb (worth_of c) 16 ≡ is_digit c
  worth-tells = go (is_digit c) refl
    where
      go : (b : Bool) → is_digit c ≡ b → ltb (worth_of c) 16 ≡ b
      go true e = lt-ltb (worth_of c) 16 (let f = worth-of true e in let g = (worth_good c e).0 in omega arith)
      go false e = ap (λ (n : ℕ). ltb n 16) (worth-of false e)

  pub worth-small : worth_of c ≤ 16
  worth-small = go (is_digit c) refl
    where
      go : (b : Bool) → is_digit c ≡ b → worth_of c ≤ 16
      go true e = let f = worth-of true e in let g = (worth_good c e).0 in omega arith
      go false e = let f = worth-of false e in omega arith

-- what reading gives, by cases
module _ (s : List ℕ) where
  reading-of : (a b : Bool) → leb (length s) 8 ≡ a → all_digits s ≡ b → reading s ≡ cond (a && b) (Some (number s)) None
  reading-of a b e f = simp (e, f)

  pub reading-long : 8 < length s → reading s ≡ None
  reading-long h = reading-of false (all_digits s) (lt-leb (length s) 8 h) refl

  pub reading-wrong : length s ≤ 8 → all_digits s ≡ false → reading s ≡ None
  reading-wrong h e = reading-of true false (le-leb (length s) 8 h) e

  pub reading_good : length s ≤ 8 → all_digits s ≡ true → reading s ≡ Some (number s)
  reading_good h e = reading-of true true (le-leb (length s) 8 h) e

  -- what it tells: a number where all are digits, and how large it is at most
  pub reading-some : {v : ℕ} → length s ≤ 8 → Some v ≡ reading s → (all_digits s ≡ true) × (v ≡ number s) × (v < 16 ^ length s)
  reading-some {v} h e = go (all_digits s) refl
    where
      go : (b : Bool) → all_digits s ≡ b → (all_digits s ≡ true) × (v ≡ number s) × (v < 16 ^ length s)
      go true a = let same : v ≡ number s = (let f = reading_good h a in cc) in (a, same, omega (arith, number-below s a))
      go false a = let f = reading-wrong h a in let g : Some v ≡ None = cc in cc

  pub reading-none : length s ≤ 8 → None ≡ reading s → all_digits s ≡ false
  reading-none h e = go (all_digits s) refl
    where
      go : (b : Bool) → all_digits s ≡ b → all_digits s ≡ false
      go true a = let f = reading_good h a in let g : None ≡ Some (number s) = cc in cc
      go false a = a

  short_below : length s ≤ 8 → all_digits s ≡ true → number s < 2 ^ 32
  short_below h e = let p = pow-le-pow_right {n = 16} (omega arith) {i = length s} {j = 8} h in omega (arith, number-below s e)

-- what is read so far, at i, comes to the same as the whole
pub record Reads (s : List ℕ) (good : Bool) (value i : ℕ) : Type 0 where
  pub within : i ≤ length s
  pub all : (good && all_digits (drop i s)) ≡ all_digits s
  pub same : all_digits s ≡ true → behind value (drop i s) ≡ number s
  pub room : value < 32 ^ i

module _ {s : List ℕ} {good : Bool} {value i : ℕ} (r : Reads s good value i) where
  -- at most eight characters: nothing overflows
  pub reads-room : length s ≤ 8 → value < 1099511627776
  reads-room h = let p = pow-le-pow_right {n = 32} (omega arith) {i = i} {j = 8} (omega (arith, r.within)) in omega (arith, r.room)

  -- one more character, which is worth w
  pub reads_more : (w x : ℕ) → i < length s → w ≡ worth_of (get_or s i 0) → x ≡ w → Reads s (good && ltb w 16) (16 * value + x) (i + 1)
  reads_more w x h e f =
      record {
        within = omega arith;
        all = ap (λ (b : Bool). (good && b) && all_digits rest) (ap (λ (n : ℕ). ltb n 16) e ∙ worth-tells c) ∙ and_assoc good (is_digit c) (all_digits rest) ∙ ap (λ (l : List ℕ). good && all_digits l) (sym cut) ∙ r.all;
        same = λ a. ap (λ (n : ℕ). behind (16 * value + n) rest) (f ∙ e ∙ worth-of c true (here a)) ∙ ap (behind value) (sym cut) ∙ r.same a;
        room = rw (add-one i, pow-suc 32 i) (omega (arith, r.room, worth-small c));
      }
    where
      c : ℕ
      c = get_or s i 0

      rest : List ℕ
      rest = drop (i + 1) s

      cut : drop i s ≡ c ∷ rest
      cut = rw (add-one i) (drop-cons s i 0 h)

      here : all_digits s ≡ true → is_digit c ≡ true
      here a = and_left (is_digit c) (all_digits rest) (ap all_digits (sym cut) ∙ and_right good (all_digits (drop i s)) (r.all ∙ a))

  -- at the end
  module _ (short : length s ≤ 8) (h : length s ≤ i) where
    rest : drop i s ≡ []
    rest = drop_of_length-le s h

    tells : good ≡ all_digits s
    tells = sym (and-true good) ∙ ap (λ (l : List ℕ). good && all_digits l) (sym rest) ∙ r.all

    is : all_digits s ≡ true → value ≡ number s
    is e = ap (behind value) (sym rest) ∙ r.same e

    pub reads-fits : good ≡ true → value < 2 ^ 32
    reads-fits e =
        let g = sym tells ∙ e in
        omega (arith, is g, short_below s short g)
