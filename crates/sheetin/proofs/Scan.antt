-- Laws of a search for the first character that a test picks. Assumes nothing.
use Rattle.std.proofs.Common.{◌≡◌, ℕ, suc, zero, ◌≤◌, ◌<◌, Bool, true, false, List, [], ◌∷◌, Option, Some, None, length, get_or, sym, refl, ap, ◌∙◌, arith, MatchOption}
use Rattle.std.specs.Option.{unwrap_or}
use Rattle.sheet.specs.Grammar.{before}

-- no character is picked, or the one at a place is the first
abbrev pub FirstPicked : (ℕ → Bool) → List ℕ → Option ℕ → Type 0
FirstPicked p s r =
    MatchOption r ((k : ℕ) → k < length s → p (get_or s k 0) ≡ false)
    (λ i. (i < length s) × (p (get_or s i 0) ≡ true) × ((k : ℕ) → k < i → p (get_or s k 0) ≡ false))

pub before_none : (p : ℕ → Bool) (s : List ℕ) → FirstPicked p s None → before p s ≡ length s
before_none p [] f = refl
before_none p (c ∷ s) f = simp (f 0 (omega arith)) (ap suc (before_none p s (λ k h. f (suc k) (omega arith))))

pub before_some : (p : ℕ → Bool) (s : List ℕ) (i : ℕ) → FirstPicked p s (Some i) → before p s ≡ i
before_some p [] i f = absurd (let h = f.0 in omega arith)
before_some p (c ∷ s) zero f = simp f.1
before_some p (c ∷ s) (suc i) f =
    let e = before_some p s i ((let h = f.0 in omega arith), f.1, (λ k l. f.2 (suc k) (omega arith))) in
    simp (f.2 0 (omega arith)) (ap suc e)

-- the place of the first, and the length where there is none
pub picked : (p : ℕ → Bool) (s : List ℕ) (r : Option ℕ) {n : ℕ} → FirstPicked p s r → n ≡ unwrap_or r (length s) → (n ≡ before p s) × (n ≤ length s)
picked p s None f e = (e ∙ sym (before_none p s f), omega arith)
picked p s (Some i) f e = (e ∙ sym (before_some p s i f), (let g = f.0 in omega arith))
