-- Characters that are put one by one in small letters. Assumes nothing.
use Prim.Native.Nat.{ℕ, ◌+◌, ◌<◌}
use mathlib.Core.List.{List, [], ◌∷◌, ◌++◌}
use mathlib.Core.Path.{◌≡◌, ap, ◌∙◌, sym}
use native.Mathlib.Numerals.{add-one}
use lib.ListN.{length, take, get_or, set}
use lib.Seq.{take-suc-set, take-suc}
use Rattle.digits.specs.Digits.{small, small_form}
use Rattle.digits.proofs.Laws.{small-append}

-- one more
pub small-more : (to from : List ℕ) (i x : ℕ) → i < length to → i < length from → x ≡ small (get_or from i 0) → take i to ≡ small_form (take i from) → take (i + 1) (set to i x) ≡ small_form (take (i + 1) from)
small-more to from i x ht hf h e =
    rw add-one
    (take-suc-set to i x ht
    ∙ ap (λ (l : List ℕ). l ++ x ∷ []) e
    ∙ ap (λ (c : ℕ). small_form (take i from) ++ c ∷ []) h
    ∙ sym (small-append (take i from) (get_or from i 0 ∷ []))
    ∙ sym (ap small_form (take-suc from i 0 hf)))
