-- Small facts about the lines of a chain.
use mathlib.Core.Path.{◌≡◌, refl, sym, subst}
use mathlib.Core.Logic.{◌⊎◌, inl, inr}
use mathlib.Core.Bool.{Bool, true, false, cond}
use mathlib.Core.List.{List, [], ◌∷◌}
use Prim.Native.Nat.{ℕ}
use lib.Dec.{T}
use Rattle.chain.specs.Over.{Each}
use Rattle.trace.specs.Shape.{has}
use Rattle.trace.proofs.Open.{has-cases}
use Rattle.moves.specs.Moves.{On}

pub yes_or_no : (b : Bool) → T b ⊎ (¬ T b)
yes_or_no true = inl tt
yes_or_no false = inr (λ h. h)

pub on_or_not : (q : ℕ) (c : List ℕ) → On q c ⊎ (¬ On q c)
on_or_not q c = yes_or_no (has q c)

-- what holds of each line of a chain holds of one on it
pub on-each : (p : ℕ → Type 0) (c : List ℕ) (q : ℕ) → Each p c → On q c → p q
on-each p [] q h m = absurd m
on-each p (x ∷ c) q h m = elim (has-cases q x c m) [ inl e ↦ subst p (sym e) h.0 | inr r ↦ on-each p c q h.1 r ]

-- what a test adds, where it says yes, and where it says no
pub added : (b : Bool) (d : ℕ) → T b → cond b d 0 ≡ d
added true d h = refl
added false d h = absurd h

pub not_added : (b : Bool) (d : ℕ) → ¬ T b → cond b d 0 ≡ 0
not_added true d h = absurd (h tt)
not_added false d h = refl
