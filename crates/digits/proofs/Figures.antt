-- Laws of figures: each figure, numbers at a fixed width, how many figures a number has, and the round trip both ways.
-- Assumes nothing.
use Rattle.std.proofs.Common.{◌≡◌, ℕ, zero, suc, ◌+◌, ◌-◌, ◌*◌, ◌/◌, ◌%◌, ◌^◌, ◌<◌, ◌≤◌, Bool, true, false, not, ◌&&◌, eqb, ltb, leb, List, [], ◌∷◌, ◌++◌, length, sym, refl, ap, ◌∙◌, mul-le-mul_right, mul_assoc, mul_comm, add-mul, pow-suc, div-one, add-one, arith, length-append, ltb-true, le-ltb, lt-ltb, ne_eqb, le-leb, leb-true}
use mathlib.Core.Bool.{and_assoc}
use native.Mathlib.Nat.{div-div-eq-div-mul, pow-le-pow_right, one-le-pow}
use native.Mathlib.Decide.{dec_lt}
use borrow.Author.Tests.{lt-leb, eqb-false, not-true}
use lib.Arith.{digits_div}
use Rattle.digits.specs.Decimal.{is_figure, all_figures, behind, number, proper, is_number, sizes, size_of, figures, decimal}
use Rattle.digits.proofs.Laws.{and_left, and_right, inside}

-- a figure is a character from 48 to 57
pub figure_inside : (c : ℕ) → 48 ≤ c → c ≤ 57 → is_figure c ≡ true
figure_inside c g h = inside 48 57 c g h

pub figure_below : (c : ℕ) → c < 48 → is_figure c ≡ false
figure_below c h = simp (lt-leb 48 c h)

pub figure_above : (c : ℕ) → 57 < c → is_figure c ≡ false
figure_above c h = simp (le-leb 48 c (omega arith), lt-leb c 57 h)

pub figure_bounds : (c : ℕ) → is_figure c ≡ true → (48 ≤ c) × (c ≤ 57)
figure_bounds c e = (leb-true 48 c (and_left (leb 48 c) (leb c 57) e), leb-true c 57 (and_right (leb 48 c) (leb c 57) e))

pub last_figure : (x : ℕ) → is_figure (48 + x % 10) ≡ true
last_figure x = figure_inside (48 + x % 10) (omega arith) (omega arith)

-- figures and more figures
pub all_append : (s t : List ℕ) → all_figures (s ++ t) ≡ (all_figures s && all_figures t)
all_append [] t = refl
all_append (c ∷ s) t = ap (λ (b : Bool). is_figure c && b) (all_append s t) ∙ sym (and_assoc (is_figure c) (all_figures s) (all_figures t))

pub behind-append : (n : ℕ) (s t : List ℕ) → behind n (s ++ t) ≡ behind (behind n s) t
behind-append n [] t = refl
behind-append n (c ∷ s) t = behind-append (10 * n + (c - 48)) s t

-- more figures make no number less
pub behind-grows : (n : ℕ) (s : List ℕ) → n ≤ behind n s
behind-grows n [] = omega arith
behind-grows n (c ∷ s) = omega (arith, behind-grows (10 * n + (c - 48)) s)

-- what came before stands above all the figures that follow
behind-number : (n : ℕ) (s : List ℕ) → behind n s ≡ n * 10 ^ length s + number s
behind-number n [] = omega arith
behind-number n (c ∷ s) =
    behind-number (10 * n + (c - 48)) s
    ∙ rw (pow-suc 10 (length s), behind-number (10 * 0 + (c - 48)) s) (lin n (c - 48) (10 ^ length s) (number s))
  where
    lin : (n w p m : ℕ) → (10 * n + w) * p + m ≡ n * (p * 10) + ((10 * 0 + w) * p + m)
    lin n w p m = omega (arith, add-mul (10 * n) w p, mul_assoc 10 n p, mul_assoc n p 10)

-- a number of n figures is below 10 ^ n
pub number-below : (s : List ℕ) → all_figures s ≡ true → number s < 10 ^ length s
number-below [] e = omega arith
number-below (c ∷ s) e =
    let g = and_left (is_figure c) (all_figures s) e in
    let h = number-below s (and_right (is_figure c) (all_figures s) e) in
    let w = (figure_bounds c g).1 in
    rw (pow-suc 10 (length s), behind-number (10 * 0 + (c - 48)) s)
    (omega (arith, mul-le-mul_right (10 ^ length s) (le w), mul_comm (10 ^ length s) 10))
  where
    le : {x : ℕ} → x ≤ 57 → 10 * 0 + (x - 48) ≤ 9
    le h = omega arith

-- as many figures as asked; they are figures, and are the number where it has room in them
pub figures-length : (n x : ℕ) → length (figures n x) ≡ n
figures-length zero x = refl
figures-length (suc n) x = length-append (figures n (x / 10)) ((48 + x % 10) ∷ []) ∙ ap (λ (m : ℕ). m + 1) (figures-length n (x / 10)) ∙ add-one n

div_below : (n x : ℕ) → x < 10 ^ suc n → x / 10 < 10 ^ n
div_below n x h = let e = pow-suc 10 n in omega arith

pub figures-number : (n x : ℕ) → x < 10 ^ n → number (figures n x) ≡ x
figures-number zero x h = omega arith
figures-number (suc n) x h =
    behind-append 0 (figures n (x / 10)) ((48 + x % 10) ∷ [])
    ∙ rw (figures-number n (x / 10) (div_below n x h)) (omega arith)

-- one figure more in front
figures-cons : (n x : ℕ) → figures (suc n) x ≡ (48 + x / 10 ^ n % 10) ∷ figures n x
figures-cons zero x = rw (div-one x) refl
figures-cons (suc n) x =
    ap (λ (l : List ℕ). l ++ (48 + x % 10) ∷ []) (figures-cons n (x / 10))
    ∙ ap (λ (q : ℕ). (48 + q % 10) ∷ (figures n (x / 10) ++ (48 + x % 10) ∷ [])) (div-div-eq-div-mul x 10 (10 ^ n) ∙ ap (λ (p : ℕ). x / p) (mul_comm 10 (10 ^ n) ∙ sym (pow-suc 10 n)))

-- the figures of the number that s is are s, whatever stands before them
behind-figures : (n : ℕ) (s : List ℕ) → all_figures s ≡ true → figures (length s) (behind n s) ≡ s
behind-figures n [] e = refl
behind-figures n (c ∷ s) e =
    let g = figure_bounds c (and_left (is_figure c) (all_figures s) e) in
    let r = and_right (is_figure c) (all_figures s) e in
    let m = 10 * n + (c - 48) in
    let top : behind m s / 10 ^ length s ≡ m = ap (λ (y : ℕ). y / 10 ^ length s) (behind-number m s) ∙ digits_div m (number-below s r) in
    let last : 48 + m % 10 ≡ c = low n c g.0 g.1 in
    figures-cons (length s) (behind m s)
    ∙ ap (λ (d : ℕ). (48 + d) ∷ figures (length s) (behind m s)) (ap (λ (y : ℕ). y % 10) top)
    ∙ ap (λ (d : ℕ). d ∷ figures (length s) (behind m s)) last
    ∙ ap (λ (l : List ℕ). c ∷ l) (behind-figures m s r)
  where
    low : (n c : ℕ) → 48 ≤ c → c ≤ 57 → 48 + (10 * n + (c - 48)) % 10 ≡ c
    low n c g h = omega arith

-- how many figures there are: at least one, at most n, and the number has room in them
pub sizes-low : (n x : ℕ) → x < 10 → sizes (suc n) x ≡ 1
sizes-low n x h = simp (lt-ltb x 10 h)

sizes_high : (n x : ℕ) → 10 ≤ x → sizes (suc n) x ≡ suc (sizes n (x / 10))
sizes_high n x h = simp (le-ltb x 10 h)

pub record Sized (n x k : ℕ) : Type 0 where
  pub some : 1 ≤ k
  pub few : k ≤ n
  pub room : x < 10 ^ k
  pub well : proper (figures k x) ≡ true

-- a figure more behind a well written number other than 0
proper-more : (s : List ℕ) (d : ℕ) → proper s ≡ true → 1 ≤ number s → is_figure d ≡ true → proper (s ++ d ∷ []) ≡ true
proper-more [] d e h g = g
proper-more (c ∷ []) d e h g = simp (ne_eqb c 48 (λ z. omega arith), e, g)
proper-more (c ∷ b ∷ s) d e h g =
    let f = not (eqb c 48) in
    simp (and_left f (all_figures (c ∷ b ∷ s)) e, all_append (c ∷ b ∷ s) (d ∷ []), and_right f (all_figures (c ∷ b ∷ s)) e, g)

pub one_left : (n x : ℕ) → x < 10 ^ suc n → 10 ≤ x → 1 ≤ n
one_left zero x h g = absurd (omega arith)
one_left (suc m) x h g = omega arith

pub sized : (n x : ℕ) → 1 ≤ n → x < 10 ^ n → Sized n x (sizes n x)
sized zero x p h = absurd (omega arith)
sized (suc n) x p h = go (dec_lt x 10) (λ q. sized n (x / 10) (one_left n x h q) (div_below n x h))
  where
    go : Dec (x < 10) → (10 ≤ x → Sized n (x / 10) (sizes n (x / 10))) → Sized (suc n) x (sizes (suc n) x)
    go (yes g) f =
        rw (sizes-low n x g)
        (record {
          some = omega arith;
          few = omega arith;
          room = omega arith;
          well = last_figure x;
        })
    go (no g) f =
        let q : 10 ≤ x = omega arith in
        let r = f q in
        let k = sizes n (x / 10) in
        rw (sizes_high n x q)
        (record {
          some = omega arith;
          few = omega (arith, r.few);
          room = rw (pow-suc 10 k) (omega (arith, r.room));
          well = proper-more (figures k (x / 10)) (48 + x % 10) r.well (rw (figures-number k (x / 10) r.room) (omega arith)) (last_figure x);
        })

-- a number from 10 ^ k on and below 10 ^ (k + 1) has k + 1 figures
pub sizes-at : (k n x : ℕ) → k < n → 10 ^ k ≤ x → x < 10 ^ suc k → sizes n x ≡ suc k
sizes-at k zero x p a b = absurd (omega arith)
sizes-at zero (suc n) x p a b = sizes-low n x (omega arith)
sizes-at (suc k) (suc n) x p a b =
    let e = pow-suc 10 k in
    let q : 10 ≤ x = omega (arith, one-le-pow k 10 (omega arith)) in
    sizes_high n x q ∙ ap suc (sizes-at k n (x / 10) (omega arith) (omega arith) (div_below (suc k) x b))

-- well written figures are figures
pub proper-figures : (s : List ℕ) → proper s ≡ true → all_figures s ≡ true
proper-figures [] e = refl
proper-figures (c ∷ []) e = simp e
proper-figures (c ∷ d ∷ s) e = and_right (not (eqb c 48)) (all_figures (c ∷ d ∷ s)) e

-- a number below 10 ^ 20 that is well written has as many figures as it is written with
proper-size : (s : List ℕ) → proper s ≡ true → number s < 10 ^ 20 → size_of (number s) ≡ length s
proper-size [] e h = absurd (let z : ◌≡◌ {A = ℕ} 0 1 = cc in omega arith)
proper-size (c ∷ []) e h = let b = figure_bounds c e in sizes-low 19 (10 * 0 + (c - 48)) (omega arith)
proper-size (c ∷ d ∷ s) e h = sizes-at (length t) 20 (number (c ∷ t)) below least (number-below (c ∷ t) all)
  where
    t : List ℕ
    t = d ∷ s

    all : all_figures (c ∷ t) ≡ true
    all = and_right (not (eqb c 48)) (all_figures (c ∷ t)) e

    high : 1 ≤ c - 48
    high =
        let b = figure_bounds c (and_left (is_figure c) (all_figures t) all) in
        let f = eqb-false c 48 (not-true (eqb c 48) (and_left (not (eqb c 48)) (all_figures (c ∷ t)) e)) in
        above c b.0 f
      where
        above : (c : ℕ) → 48 ≤ c → (c ≡ 48 → ⊥) → 1 ≤ c - 48
        above c g f = go (dec_lt 48 c)
          where
            go : Dec (48 < c) → 1 ≤ c - 48
            go (yes h) = omega arith
            go (no h) = absurd (f (omega arith))

    least : 10 ^ length t ≤ number (c ∷ t)
    least = rw (behind-number (10 * 0 + (c - 48)) t) (omega (arith, mul-le-mul_right (10 ^ length t) (le high)))
      where
        le : {x : ℕ} → 1 ≤ x → 1 ≤ 10 * 0 + x
        le h = omega arith

    below : length t < 20
    below = go (dec_lt (length t) 20)
      where
        go : Dec (length t < 20) → length t < 20
        go (yes g) = g
        go (no g) = absurd (omega (arith, pow-le-pow_right {n = 10} (omega arith) {i = 20} {j = length t} (omega arith), least))

-- written and read: the figures of a number of 64 bits are well written, and are that number
module _ (x : ℕ) (h : x < 2 ^ 64) where
  size-of : Sized 20 x (size_of x)
  size-of = sized 20 x (omega arith) (omega arith)

  pub decimal-proper : proper (decimal x) ≡ true
  unfolding decimal
  decimal-proper = size-of.well

  pub decimal-number : number (decimal x) ≡ x
  unfolding decimal
  decimal-number = figures-number (size_of x) x size-of.room

  pub decimal-is-number : is_number (decimal x) ≡ true
  decimal-is-number = simp (decimal-proper, decimal-number, lt-ltb x (2 ^ 64) h)

  -- "decimal numbers": 1 to 20 characters
  pub decimal-some : 1 ≤ length (decimal x)
  unfolding decimal
  decimal-some = rw (figures-length (size_of x) x) size-of.some

  pub decimal-few : length (decimal x) ≤ 20
  unfolding decimal
  decimal-few = rw (figures-length (size_of x) x) size-of.few

-- how long, at every number
pub decimal-length : (x : ℕ) → length (decimal x) ≡ size_of x
unfolding decimal
decimal-length x = figures-length (size_of x) x

-- read and written: a number has one way to be written well
pub number-decimal : (s : List ℕ) → is_number s ≡ true → decimal (number s) ≡ s
unfolding decimal
number-decimal s e =
    let p = and_left (proper s) (ltb (number s) (2 ^ 64)) e in
    let l = ltb-true (number s) (2 ^ 64) (and_right (proper s) (ltb (number s) (2 ^ 64)) e) in
    ap (λ (n : ℕ). figures n (number s)) (proper-size s p (omega arith)) ∙ behind-figures 0 s (proper-figures s p)

-- and two numbers that are written alike are one
pub decimal-one : (x y : ℕ) → x < 2 ^ 64 → y < 2 ^ 64 → decimal x ≡ decimal y → x ≡ y
decimal-one x y g h e = sym (decimal-number x g) ∙ ap number e ∙ decimal-number y h
