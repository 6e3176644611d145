-- Characters that are all the digit 0: they are digits, and the number 0.
use mathlib.Core.Path.{◌≡◌, refl, ap, ◌∙◌, sym}
use Rattle.std.proofs.Common.{Some}
use mathlib.Core.Bool.{Bool, true, false, ◌&&◌}
use mathlib.Core.List.{List, [], ◌∷◌, ◌++◌}
use Prim.Native.Nat.{ℕ, ◌≤◌}
use lib.Dec.{eqb}
use lib.ListN.{length, replicate}
use borrow.Author.Tests.{eqb-true}
use Rattle.digits.specs.Digits.{all_digits, number, behind}
use Rattle.digits.specs.Read.{reading}
use Rattle.digits.proofs.Laws.{and_left, and_right}
use Rattle.digits.proofs.Reading.{reading_good}
use Rattle.line.specs.Zeros.{all_zero}

and_assoc : (a b c : Bool) → ((a && b) && c) ≡ (a && (b && c))
and_assoc true b c = refl
and_assoc false b c = refl

zero-digits : (s : List ℕ) → all_zero s ≡ true → all_digits s ≡ true
zero-digits [] e = refl
zero-digits (c ∷ s) e =
    let q = eqb-true c 48 (and_left (eqb c 48) (all_zero s) e) in
    rw q (zero-digits s (and_right (eqb c 48) (all_zero s) e))

zero-behind : (s : List ℕ) → all_zero s ≡ true → behind 0 s ≡ 0
zero-behind [] e = refl
zero-behind (c ∷ s) e =
    let q = eqb-true c 48 (and_left (eqb c 48) (all_zero s) e) in
    rw q (zero-behind s (and_right (eqb c 48) (all_zero s) e))

pub zero_number : (s : List ℕ) → all_zero s ≡ true → number s ≡ 0
zero_number s e = zero-behind s e

pub zero-reading : (s : List ℕ) → length s ≤ 8 → all_zero s ≡ true → Some 0 ≡ reading s
zero-reading s h e = sym (reading_good s h (zero-digits s e) ∙ ap Some (zero-behind s e))

pub zero-append : (s t : List ℕ) → all_zero (s ++ t) ≡ (all_zero s && all_zero t)
zero-append [] t = refl
zero-append (c ∷ s) t = ap (λ (b : Bool). eqb c 48 && b) (zero-append s t) ∙ sym (and_assoc (eqb c 48) (all_zero s) (all_zero t))

-- they are that digit so often
pub zero-all : (s : List ℕ) → all_zero s ≡ true → s ≡ replicate (length s) 48
zero-all [] e = refl
zero-all (c ∷ s) e =
    let q = eqb-true c 48 (and_left (eqb c 48) (all_zero s) e) in
    ap (λ (x : ℕ). x ∷ s) q ∙ ap (λ (l : List ℕ). 48 ∷ l) (zero-all s (and_right (eqb c 48) (all_zero s) e))
