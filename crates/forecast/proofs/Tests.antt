-- What each check of a list of entries asks, as the library's methods answer it. Assumes nothing.
use Rattle.std.proofs.Common.{ℕ, zero, suc, ◌<◌, ◌≡◌, Bool, true, false, ◌&&◌, ◌||◌, List, [], ◌∷◌, length, get_or, ltb, leb, refl, sym, ap, ◌∙◌, add-one, arith}
use Rattle.std.specs.List.{IsAllAdjacentAnswer, list_all, list_any}
use mathlib.Core.Bool.{and-false}
use Rattle.forecast.specs.declared.Entry.{Entry}
use Rattle.forecast.specs.Asked.{ascending, all_declared, bad_factor}

-- "rows strictly ascending", of two entries
abbrev pub below : Entry → Entry → Bool
below a b = ltb a.row b.row

up : (es : List Entry) → ((k : ℕ) (d : Entry) → suc k < length es → below (get_or es k d) (get_or es (suc k) d) ≡ true) → ascending es ≡ true
up [] h = refl
up (e ∷ []) h = refl
up (e ∷ f ∷ es) h = ap (λ (b : Bool). b && ascending (f ∷ es)) (h 0 e (omega arith)) ∙ up (f ∷ es) (λ k d l. h (suc k) d (omega arith))

down : (es : List Entry) (k : ℕ) → suc k < length es → ((d : Entry) → below (get_or es k d) (get_or es (suc k) d) ≡ false) → ascending es ≡ false
down [] k l h = absurd (omega arith)
down (e ∷ []) k l h = absurd (omega arith)
down (e ∷ f ∷ es) zero l h = ap (λ (b : Bool). b && ascending (f ∷ es)) (h e)
down (e ∷ f ∷ es) (suc k) l h = ap (λ (b : Bool). below e f && b) (down (f ∷ es) k (omega arith) h) ∙ and-false (below e f)

pub ascending-asked : (es : List Entry) (r : Bool) → IsAllAdjacentAnswer (λ x y b. b ≡ below x y) es r → r ≡ ascending es
ascending-asked es true h =
    sym (up es (λ k d l. ap (λ (i : ℕ). below (get_or es k d) (get_or es i d)) (sym (add-one k)) ∙ sym (h k d (omega arith))))
ascending-asked es false h =
    sym (down es h.0 (omega (arith, h.1)) (λ d. ap (λ (i : ℕ). below (get_or es h.0 d) (get_or es i d)) (sym (add-one h.0)) ∙ sym (h.2 d)))

pub declared-asked : (m : ℕ) (es : List Entry) → list_all (λ e. leb e.row m) es ≡ all_declared m es
declared-asked m [] = refl
declared-asked m (e ∷ es) = ap (λ (b : Bool). leb e.row m && b) (declared-asked m es)

pub range-asked : (es : List Entry) → list_any (λ e. ltb e.factor 2 || ltb 1000 e.factor) es ≡ bad_factor es
range-asked [] = refl
range-asked (e ∷ es) = ap (λ (b : Bool). ltb e.factor 2 || ltb 1000 e.factor || b) (range-asked es)
