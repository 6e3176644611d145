-- A word's bytes as lanes: operations on whole words are operations on each byte apart, as long as no byte outgrows
-- its lane. Assumes nothing.
use Rattle.std.proofs.Common.{◌≡◌, ℕ, zero, suc, ◌+◌, ◌*◌, ◌/◌, ◌^◌, ◌<◌, Bool, true, ◌&&◌, List, [], ◌∷◌, sym, refl, ap, ◌∙◌, ap₂, mod-lt, pow-suc, mul-zero, mul-add, mul_left_comm, arith}
use native.Mathlib.Decide.{dec_lt}
use lib.Bits.{bit_and, bit_or, bit_xor, and_block, or_block, xor_block}
use Rattle.digits.specs.Word.{bytes}
use Rattle.digits.proofs.Laws.{and_left, and_right}

-- a test that holds of every number below n
abbrev pub all_below : ℕ → (ℕ → Bool) → Bool
all_below zero p = true
all_below (suc n) p = p n && all_below n p

pub of-each : (n : ℕ) (p : ℕ → Bool) → all_below n p ≡ true → (c : ℕ) → c < n → p c ≡ true
of-each zero p e c h = absurd (omega arith)
of-each (suc n) p e c h = go (dec_lt c n) (of-each n p (and_right (p n) (all_below n p) e) c)
  where
    go : Dec (c < n) → (c < n → p c ≡ true) → p c ≡ true
    go (yes l) r = r l
    go (no l) r =
        let z : c ≡ n = omega arith in
        ap p z ∙ and_left (p n) (all_below n p) e

-- every character is below n
abbrev pub Below : ℕ → List ℕ → Type 0
Below n [] = Unit
Below n (c ∷ s) = (c < n) × Below n s

pub bytes_below : (n w : ℕ) → Below 256 (bytes n w)
bytes_below zero w = tt
bytes_below (suc n) w = (mod-lt w (omega arith), bytes_below n (w / 256))

-- the word that has f of each character in the character's lane
abbrev pub each : (ℕ → ℕ) → List ℕ → ℕ
each f [] = 0
each f (c ∷ s) = f c + 256 * each f s

-- a word is its own bytes
pub each-bytes : (n w : ℕ) → w < 256 ^ n → each (λ c. c) (bytes n w) ≡ w
each-bytes zero w h = omega arith
each-bytes (suc n) w h =
    let p = pow-suc 256 n in
    let r = each-bytes n (w / 256) (omega arith) in
    omega arith

-- what is the same for each character below n
pub each_same : (n : ℕ) (f g : ℕ → ℕ) → ((c : ℕ) → c < n → f c ≡ g c) → (s : List ℕ) → Below n s → each f s ≡ each g s
each_same n f g e [] b = refl
each_same n f g e (c ∷ s) b = ap₂ (λ (x y : ℕ). x + 256 * y) (e c b.0) (each_same n f g e s b.1)

-- sums and multiples
pub each-add : (f g : ℕ → ℕ) (s : List ℕ) → each f s + each g s ≡ each (λ c. f c + g c) s
each-add f g [] = refl
each-add f g (c ∷ s) = let r = each-add f g s in omega arith

pub each_times : (k : ℕ) (f : ℕ → ℕ) (s : List ℕ) → k * each f s ≡ each (λ c. k * f c) s
each_times k f [] = mul-zero k
each_times k f (c ∷ s) =
    mul-add k (f c) (256 * each f s)
    ∙ ap (λ (x : ℕ). k * f c + x) (mul_left_comm k 256 (each f s) ∙ ap (λ (x : ℕ). 256 * x) (each_times k f s))

-- an operation on bits that works on each run of digits apart
module _ (op : ℕ → ℕ → ℕ) (none : op 0 0 ≡ 0)
    (block : (k a b r s : ℕ) → r < 2 ^ k → s < 2 ^ k → op (a * 2 ^ k + r) (b * 2 ^ k + s) ≡ op a b * 2 ^ k + op r s) where
  each_op : (n : ℕ) (f g : ℕ → ℕ) → ((c : ℕ) → c < n → f c < 256) → ((c : ℕ) → c < n → g c < 256)
      → (s : List ℕ) → Below n s → op (each f s) (each g s) ≡ each (λ c. op (f c) (g c)) s
  each_op n f g hf hg [] b = none
  each_op n f g hf hg (c ∷ s) b =
      ap₂ op (turned (f c) (each f s)) (turned (g c) (each g s))
      ∙ block 8 (each f s) (each g s) (f c) (g c) (hf c b.0) (hg c b.0)
      ∙ sym (turned (op (f c) (g c)) (op (each f s) (each g s)))
      ∙ ap (λ (x : ℕ). op (f c) (g c) + 256 * x) (each_op n f g hf hg s b.1)
    where
      turned : (x y : ℕ) → x + 256 * y ≡ y * 256 + x
      turned x y = omega arith

pub each_and : (n : ℕ) (f g : ℕ → ℕ) → ((c : ℕ) → c < n → f c < 256) → ((c : ℕ) → c < n → g c < 256)
    → (s : List ℕ) → Below n s → bit_and (each f s) (each g s) ≡ each (λ c. bit_and (f c) (g c)) s
each_and = each_op bit_and refl and_block

pub each_or : (n : ℕ) (f g : ℕ → ℕ) → ((c : ℕ) → c < n → f c < 256) → ((c : ℕ) → c < n → g c < 256)
    → (s : List ℕ) → Below n s → bit_or (each f s) (each g s) ≡ each (λ c. bit_or (f c) (g c)) s
each_or = each_op bit_or refl or_block

pub each_xor : (n : ℕ) (f g : ℕ → ℕ) → ((c : ℕ) → c < n → f c < 256) → ((c : ℕ) → c < n → g c < 256)
    → (s : List ℕ) → Below n s → bit_xor (each f s) (each g s) ≡ each (λ c. bit_xor (f c) (g c)) s
each_xor = each_op bit_xor refl xor_block
