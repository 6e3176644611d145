-- Laws of what stands at the front of a text: a comma, a line end, a field. Assumes nothing.
use Prim.{Unit, tt}
use Rattle.std.proofs.Common.{◌≡◌, ℕ, suc, ◌+◌, ◌-◌, ◌≤◌, ◌<◌, Bool, true, false, cond, List, [], ◌∷◌, Option, Some, None, MatchOption, length, get_or, take, drop, sym, refl, ap, ◌∙◌, arith, take_all, drop-cons, drop_of_length-le, eq-eqb, ne_eqb, eqb, eqb-true, ap₂, add-one, length-drop}
use denote.Ref.{Bor}
use lib.Pointwise.{pointwise}
use mathlib.Core.Bool.{and-true, and-false}
use Rattle.sheetin.specs.Seen.{past}
use Rattle.sheet.specs.Found.{Found, none, found}
use Rattle.sheet.specs.Grammar.{before, ends_bare, ends_quoted, closing, quoted, bare, field, separator, line_end}
use Rattle.sheetin.proofs.Scan.{FirstPicked, before_none, before_some}

-- the rest of a text behind its first character, as a lent part of it
pub rest-is : (s : List ℕ) → take (length s - 1) (drop 1 s) ≡ drop 1 s
rest-is s = take_all (length s - 1) (drop 1 s) (omega (arith, length-drop 1 s))

-- what is known where characters were taken from the front of a text
abbrev Strips : List ℕ → List ℕ → Option (Bor (List ℕ)) → Type 0
Strips p s r =
    MatchOption r (pointwise eqb (take (length p) s) p ≡ false)
    (λ x. (pointwise eqb (take (length p) s) p ≡ true) × (x.now ≡ drop (length p) s) × (length x.now + length p ≡ length s))

stripped : (p s : List ℕ) (r : Option (Bor (List ℕ))) → Strips p s r → past r ≡ cond (pointwise eqb (take (length p) s) p) (found tt (drop (length p) s)) none
stripped p s None e = sym (ap (λ (b : Bool). cond b (found tt (drop (length p) s)) none) e)
stripped p s (Some x) e = ap (found tt) e.1 ∙ sym (ap (λ (b : Bool). cond b (found tt (drop (length p) s)) none) e.0)

-- a comma
pub comma_is : (s : List ℕ) (r : Option (Bor (List ℕ))) → Strips (44 ∷ []) s r → past r ≡ separator s
unfolding separator
comma_is s r e = stripped (44 ∷ []) s r e ∙ go s
  where
    go : (s : List ℕ) → cond (pointwise eqb (take 1 s) (44 ∷ [])) (found tt (drop 1 s)) none ≡ separator s
    go [] = refl
    go (c ∷ s) = simp and-true

-- a line end
pub line_end-empty : (s : List ℕ) → true ≡ eqb (length s) 0 → ◌≡◌ {A = Found Unit} (found tt s) (line_end s)
unfolding line_end
line_end-empty [] h = refl
line_end-empty (c ∷ s) h = absurd (let e = eqb-true (suc (length s)) 0 (sym h) in omega arith)

pub line_end_is : (s : List ℕ) (r : Option (Bor (List ℕ))) → false ≡ eqb (length s) 0 → Strips (13 ∷ 10 ∷ []) s r → past r ≡ line_end s
unfolding line_end
line_end_is s r f e = stripped (13 ∷ 10 ∷ []) s r e ∙ go s f
  where
    go : (s : List ℕ) → false ≡ eqb (length s) 0 → cond (pointwise eqb (take 2 s) (13 ∷ 10 ∷ [])) (found tt (drop 2 s)) none ≡ line_end s
    go [] f = cc
    go (c ∷ []) f = simp and-false
    go (c ∷ d ∷ s) f = simp and-true

-- a field in quotes, closed or not
quoted_yes : (t : List ℕ) (n : ℕ) → FirstPicked ends_quoted t (Some n) → found (take n t) (take (length t - (n + 1)) (drop (n + 1) t)) ≡ quoted t
quoted_yes t n f =
    let l : n < length t = f.0 in
    ap (found (take n t)) (take_all (length t - (n + 1)) (drop (n + 1) t) (omega (arith, length-drop (n + 1) t)))
    ∙ ap (λ (k : ℕ). found (take n t) (drop k t)) (add-one n)
    ∙ sym (ap (λ (k : ℕ). closing (take k t) (drop k t)) (before_some ends_quoted t n f) ∙ ap (closing (take n t)) (drop-cons t n 0 l))

quoted_no : (t : List ℕ) → FirstPicked ends_quoted t None → none ≡ quoted t
quoted_no t f =
    sym (ap (λ (k : ℕ). closing (take k t) (drop k t)) (before_none ends_quoted t f) ∙ ap (closing (take (length t) t)) (drop_of_length-le t {i = length t} (omega arith)))

pub field-quoted : (s : List ℕ) (n : ℕ) → 1 ≤ length s → get_or s 0 0 ≡ 34 → FirstPicked ends_quoted (take (length s - 1) (drop 1 s)) (Some n)
    → found (take n (take (length s - 1) (drop 1 s))) (take (length (take (length s - 1) (drop 1 s)) - (n + 1)) (drop (n + 1) (take (length s - 1) (drop 1 s)))) ≡ field s
unfolding field
field-quoted [] n h q f = absurd (omega arith)
field-quoted (c ∷ s) n h q f =
    quoted_yes (take (suc (length s) - 1) s) n f
    ∙ ap quoted (take_all (suc (length s) - 1) s (omega arith))
    ∙ sym (ap (λ (b : Bool). cond b (quoted s) (bare (c ∷ s))) (eq-eqb c 34 q))

pub field-unclosed : (s : List ℕ) → 1 ≤ length s → get_or s 0 0 ≡ 34 → FirstPicked ends_quoted (take (length s - 1) (drop 1 s)) None → none ≡ field s
unfolding field
field-unclosed [] h q f = absurd (omega arith)
field-unclosed (c ∷ s) h q f =
    quoted_no (take (suc (length s) - 1) s) f
    ∙ ap quoted (take_all (suc (length s) - 1) s (omega arith))
    ∙ sym (ap (λ (b : Bool). cond b (quoted s) (bare (c ∷ s))) (eq-eqb c 34 q))

-- a bare field
pub field-bare : (s t u : List ℕ) (n : ℕ) → (1 ≤ length s → get_or s 0 0 ≡ 34 → ⊥) → n ≡ before ends_bare s → t ≡ take n s → u ≡ drop n s → found t u ≡ field s
unfolding field
field-bare [] t u n q e f g = ap₂ found (f ∙ ap (λ (k : ℕ). take k []) e) (g ∙ ap (λ (k : ℕ). drop k []) e)
field-bare (c ∷ s) t u n q e f g =
    ap₂ found (f ∙ ap (λ (k : ℕ). take k (c ∷ s)) e) (g ∙ ap (λ (k : ℕ). drop k (c ∷ s)) e)
    ∙ sym (ap (λ (b : Bool). cond b (quoted s) (bare (c ∷ s))) (ne_eqb c 34 (q (omega arith))))
