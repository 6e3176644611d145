-- Laws of joined names and of the rows of open invocations. Assumes nothing.
use Prim.Native.Nat.{ℕ, zero, suc, ◌+◌, ◌-◌, ◌≤◌, ◌<◌}
use mathlib.Core.List.{List, [], ◌∷◌, ◌++◌, append_assoc, append-nil}
use mathlib.Core.Path.{◌≡◌, refl, ap, ◌∙◌, sym}
use native.Mathlib.Numerals.{add-one}
use native.Mathlib.Omega.{arith}
use lib.ListN.{length, take, drop, get_or, length-append}
use lib.Seq.{take-add, take-suc, length-take-le}
use Rattle.folded.specs.Text.{root_first, further, joined}
use Rattle.folded.specs.Rows.{stack}
use Rattle.folded.specs.Write.{piece}

pub root-length : (o : List ℕ) → length (root_first o) ≡ length o
root-length [] = refl
root-length (x ∷ o) = length-append (root_first o) (x ∷ []) ∙ ap (λ (n : ℕ). n + 1) (root-length o) ∙ add-one (length o)

pub piece-length : (k : ℕ) (s : List ℕ) → 1 ≤ k → length (piece k s) ≡ length s + 1
piece-length zero s h = absurd (omega arith)
piece-length (suc k) s h = omega arith

pub piece-some : (k : ℕ) (s : List ℕ) → (k ≡ 0 → ⊥) → 59 ∷ s ≡ piece k s
piece-some zero s h = absurd (h refl)
piece-some (suc k) s h = refl

module _ (name : ℕ → List ℕ) where
  further-on : (rs : List ℕ) (r : ℕ) → further name (rs ++ r ∷ []) ≡ further name rs ++ 59 ∷ name r
  further-on [] r = ap (λ (x : List ℕ). 59 ∷ x) (append-nil (name r))
  further-on (q ∷ rs) r = ap (λ (x : List ℕ). 59 ∷ x) (ap (λ (x : List ℕ). name q ++ x) (further-on rs r) ∙ sym (append_assoc (name q) (further name rs) (59 ∷ name r)))

  -- a name more
  pub joined-on : (rs : List ℕ) (r : ℕ) → joined name (rs ++ r ∷ []) ≡ joined name rs ++ piece (length rs) (name r)
  joined-on [] r = append-nil (name r)
  joined-on (q ∷ rs) r = ap (λ (x : List ℕ). name q ++ x) (further-on rs r) ∙ sym (append_assoc (name q) (further name rs) (59 ∷ name r))

  pub joined-take : (t : List ℕ) (k : ℕ) → k < length t → joined name (take (k + 1) t) ≡ joined name (take k t) ++ piece k (name (get_or t k 0))
  joined-take t k h =
      ap (λ (n : ℕ). joined name (take n t)) (add-one k)
      ∙ ap (joined name) (take-suc t k 0 h)
      ∙ joined-on (take k t) (get_or t k 0)
      ∙ ap (λ (n : ℕ). joined name (take k t) ++ piece n (name (get_or t k 0))) (length-take-le k t (omega arith))

  -- fewer names are shorter
  further-append : (rs qs : List ℕ) → further name (rs ++ qs) ≡ further name rs ++ further name qs
  further-append [] qs = refl
  further-append (r ∷ rs) qs = ap (λ (x : List ℕ). 59 ∷ x) (ap (λ (x : List ℕ). name r ++ x) (further-append rs qs) ∙ sym (append_assoc (name r) (further name rs) (further name qs)))

  joined-front : (rs qs : List ℕ) → length (joined name rs) ≤ length (joined name (rs ++ qs))
  joined-front [] qs = omega arith
  joined-front (r ∷ rs) qs =
      omega (arith, length-append (name r) (further name rs), length-append (name r) (further name (rs ++ qs)), ap length (further-append rs qs), length-append (further name rs) (further name qs))

  pub joined-fewer : (t : List ℕ) (k d : ℕ) → k ≤ d → length (joined name (take k t)) ≤ length (joined name (take d t))
  joined-fewer t k d h =
      let e : k + (d - k) ≡ d = omega arith in
      let f : take d t ≡ take k t ++ take (d - k) (drop k t) = ap (λ (n : ℕ). take n t) (sym e) ∙ take-add k (d - k) t in
      omega (arith, joined-front (take k t) (take (d - k) (drop k t)), ap (λ (x : List ℕ). length (joined name x)) f)

  -- so the next name fits where all of them do
  pub next_fits : (t : List ℕ) (k d : ℕ) → k < d → d ≤ length t
      → length (joined name (take k t)) + length (piece k (name (get_or t k 0))) ≤ length (joined name (take d t))
  next_fits t k d h l =
      omega
      (arith, joined-fewer t (k + 1) d (omega arith), ap length (joined-take t k (omega arith)), length-append (joined name (take k t)) (piece k (name (get_or t k 0))))

  -- the names of open rows with one row more
  pub stack-length : (x : ℕ) (o : List ℕ) → length (stack name (x ∷ o)) ≡ length (stack name o) + length (piece (length o) (name x))
  stack-length x o =
      ap length (joined-on (root_first o) x)
      ∙ length-append (stack name o) (piece (length (root_first o)) (name x))
      ∙ ap (λ (n : ℕ). length (stack name o) + length (piece n (name x))) (root-length o)
