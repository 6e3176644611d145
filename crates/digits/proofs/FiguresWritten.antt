-- Laws of writing figures: from the last to the first, and their count. Assumes nothing.
use Rattle.std.proofs.Common.{◌≡◌, ℕ, zero, suc, ◌+◌, ◌-◌, ◌*◌, ◌/◌, ◌%◌, ◌^◌, ◌<◌, ◌≤◌, List, [], ◌∷◌, Option, Some, None, MatchOption, add-one, ◌++◌, length, drop, set, sym, ap, ◌∙◌, append_assoc, pow-suc, arith}
use Rattle.std.specs.Option.{IfNone, IfSome}
use Rattle.digits.specs.Decimal.{size_of, figures}
use Rattle.digits.proofs.Writing.{stored}
use Rattle.digits.proofs.Figures.{sizes-low, sizes-at}

-- one figure more in front of those written
pub one_more : (p : List ℕ) (i x : ℕ) → 0 < i → i ≤ length p → figures (i - 1) (x / 10) ++ drop (i - 1) (set p (i - 1) (48 + x % 10)) ≡ figures i x ++ drop i p
one_more p zero x h l = absurd (omega arith)
one_more p (suc j) x h l =
    let e : suc j - 1 ≡ j = omega arith in
    rw e
    (ap (λ (r : List ℕ). figures j (x / 10) ++ r) (stored p j (48 + x % 10) l)
    ∙ sym (append_assoc (figures j (x / 10)) ((48 + x % 10) ∷ []) (drop (suc j) p)))

-- how many figures a number has, by its logarithm
pub size-is : (x : ℕ) (r : Option ℕ) {n : ℕ} → IfNone r (x ≡ 0) → IfSome r (λ k. 10 ^ k ≤ x) → IfSome r (λ k. x < 10 * 10 ^ k) → IfSome r (λ k. k < 20)
    → MatchOption r (n ≡ 1) (λ k. n ≡ k + 1) → n ≡ size_of x
size-is x None z a b f e = e ∙ sym (sizes-low 19 x (omega arith))
size-is x (Some k) z a b f e = e ∙ add-one k ∙ sym (sizes-at k 20 x f a (omega (arith, pow-suc 10 k)))
