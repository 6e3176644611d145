-- Laws of writing: how many digits there are, and digits written from the last to the first.
-- Assumes nothing.
use Rattle.std.proofs.Common.{◌≡◌, ℕ, zero, suc, ◌+◌, ◌-◌, ◌/◌, ◌%◌, ◌<◌, ◌≤◌, List, [], ◌∷◌, ◌++◌, length, drop, set, sym, refl, ap, ◌∙◌, append_assoc, add-one, arith, length-append, length-set, drop-cons, get_or-set_same, drop-set-lt}
use Rattle.digits.specs.Digits.{digit, digits}

-- as many digits as asked
pub digits-length : (n x : ℕ) → length (digits n x) ≡ n
digits-length zero x = refl
digits-length (suc n) x = length-append (digits n (x / 16)) (digit (x % 16) ∷ []) ∙ ap (λ (m : ℕ). m + 1) (digits-length n (x / 16)) ∙ add-one n

-- a store at j, and the rest from j on
pub stored : (p : List ℕ) (j v : ℕ) → j < length p → drop j (set p j v) ≡ v ∷ drop (suc j) p
stored p j v h =
    let h' : j < length (set p j v) = simp length-set h in
    drop-cons (set p j v) j 0 h'
    ∙ ap (λ (x : ℕ). x ∷ drop (suc j) (set p j v)) (get_or-set_same p j v 0 h)
    ∙ ap (λ (l : List ℕ). v ∷ l) (drop-set-lt (suc j) p j v (omega arith))

-- one digit more in front of those written
pub one_more : (p : List ℕ) (i x : ℕ) → 0 < i → i ≤ length p → digits (i - 1) (x / 16) ++ drop (i - 1) (set p (i - 1) (digit (x % 16))) ≡ digits i x ++ drop i p
one_more p zero x h l = absurd (omega arith)
one_more p (suc j) x h l =
    let e : suc j - 1 ≡ j = omega arith in
    rw e
    (ap (λ (r : List ℕ). digits j (x / 16) ++ r) (stored p j (digit (x % 16)) l)
    ∙ sym (append_assoc (digits j (x / 16)) (digit (x % 16) ∷ []) (drop (suc j) p)))
