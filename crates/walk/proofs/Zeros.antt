-- Lists of zeros, and lists whose first numbers were cleared.
use mathlib.Core.Path.{◌≡◌, ap, ◌∙◌, sym}
use mathlib.Core.List.{List, ◌++◌, append-nil}
use Prim.Native.Nat.{ℕ, ◌+◌, ◌-◌, ◌≤◌, ◌<◌}
use native.Mathlib.Decide.{dec_lt}
use native.Mathlib.Omega.{arith}
use lib.ListN.{length, get_or, drop, replicate, length-append, length-drop, length-replicate, get_or-replicate, get_or-eq_default, get_or-append}
use lib.Seq.{get_or-append-add, get_or-drop, drop-length}

pub zeros-at : (n i : ℕ) → ◌≡◌ {A = ℕ} (get_or (replicate n 0) i 0) 0
zeros-at n i = go (dec_lt i n)
  where
    go : Dec (i < n) → ◌≡◌ {A = ℕ} (get_or (replicate n 0) i 0) 0
    go (yes l) = get_or-replicate n i 0 0 l
    go (no l) = get_or-eq_default (replicate n 0) 0 {n = i} (omega (arith, length-replicate {A = ℕ} n 0))

-- a list with its first k numbers cleared
module _ (a : List ℕ) (k : ℕ) (h : k ≤ length a) where
  pub cleared-length : length (replicate k 0 ++ drop k a) ≡ length a
  cleared-length = omega (arith, length-append (replicate k 0) (drop k a), length-replicate {A = ℕ} k 0, length-drop k a)

  pub cleared-front : (i : ℕ) → i < k → get_or (replicate k 0 ++ drop k a) i 0 ≡ 0
  cleared-front i l = get_or-append (replicate k 0) (drop k a) 0 i (omega (arith, length-replicate {A = ℕ} k 0)) ∙ zeros-at k i

  pub cleared-back : (i : ℕ) → k ≤ i → get_or (replicate k 0 ++ drop k a) i 0 ≡ get_or a i 0
  cleared-back i l =
      let e : length {A = ℕ} (replicate k 0) + (i - k) ≡ i = omega (arith, length-replicate {A = ℕ} k 0) in
      let f : k + (i - k) ≡ i = omega arith in
      ap (λ (j : ℕ). get_or (replicate k 0 ++ drop k a) j 0) (sym e) ∙ get_or-append-add (replicate k 0) (drop k a) (i - k) 0 ∙ get_or-drop k a (i - k) 0 ∙ ap (λ (j : ℕ). get_or a j 0) f

pub cleared-all : (a : List ℕ) → replicate (length a) 0 ++ drop (length a) a ≡ replicate (length a) 0
cleared-all a = ap (λ (z : List ℕ). replicate (length a) 0 ++ z) (drop-length a) ∙ append-nil (replicate (length a) 0)
