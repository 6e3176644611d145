-- Laws of lines and of their places. Assumes nothing.
use Rattle.std.specs.List.{AllWithin, HoldsAt}
use Rattle.std.specs.Option.{MatchOption, unwrap_or}
use Rattle.std.proofs.Common.{Option, ◌≢◌}
use Rattle.std.proofs.lemmas.Iterator.{index_from_first}
use Prim.Native.Nat.{ℕ, suc, ◌+◌, ◌-◌, ◌<◌}
use mathlib.Core.Bool.{Bool, true, false, cond}
use mathlib.Core.List.{List, [], ◌∷◌}
use mathlib.Core.Path.{◌≡◌, refl, ap, ◌∙◌, sym}
use native.Mathlib.Numerals.{add-one}
use native.Mathlib.Omega.{arith}
use borrow.Author.Tests.{eq-eqb, ne_eqb, lt-ltb, le-ltb}
use native.Mathlib.Decide.{dec_lt}
use lib.Dec.{eqb}
use lib.ListN.{length, take, drop, drop_of_length-le}
use lib.Seq.{drop-drop}
use Rattle.names.specs.Names.{first_line, other_lines, from_line, line_in, or_else, shown}
use Rattle.names.specs.Places.{part, end_of, next_of}

-- a text is its first line, a line feed, and the rest
first_part : (s : List ℕ) → take (length (first_line s)) s ≡ first_line s
first_part [] = refl
first_part (c ∷ s) = go (eqb c 10) (first_part s)
  where
    go : (b : Bool) → take (length (first_line s)) s ≡ first_line s
        → take (length (cond b [] (c ∷ first_line s))) (c ∷ s) ≡ cond b [] (c ∷ first_line s)
    go true h = refl
    go false h = ap (λ (l : List ℕ). c ∷ l) h

others-part : (s : List ℕ) → drop (suc (length (first_line s))) s ≡ other_lines s
others-part [] = refl
others-part (c ∷ s) = go (eqb c 10) (others-part s)
  where
    go : (b : Bool) → drop (suc (length (first_line s))) s ≡ other_lines s
        → drop (suc (length (cond b [] (c ∷ first_line s)))) (c ∷ s) ≡ cond b s (other_lines s)
    go true h = refl
    go false h = h

-- a line is as long as there are characters before its line feed
pub line-length : (s : List ℕ) (r : Option ℕ) → MatchOption r (AllWithin (λ x. x ≢ 10) s 0 (length s)) (λ i. (i < length s) × HoldsAt (λ x. x ≡ 10) s i × AllWithin (λ x. x ≢ 10) s 0 i)
    → length (first_line s) ≡ unwrap_or r (length s)
line-length s r h =
    index_from_first (λ (s : List ℕ). length (first_line s)) (λ x. x ≡ 10) (λ x. x ≢ 10) refl
    (λ x xs y. ap (λ (b : Bool). length (cond b [] (x ∷ first_line xs))) (eq-eqb x 10 y))
    (λ x xs n. ap (λ (b : Bool). length (cond b [] (x ∷ first_line xs))) (ne_eqb x 10 n) ∙ sym (add-one (length (first_line xs))))
    s r h

module _ (s : List ℕ) (i : ℕ) where
  -- from the next place on stands what is behind place i
  next-drop : drop (next_of s i) s ≡ drop (i + 1) s
  next-drop = go (dec_lt i (length s))
    where
      go : Dec (i < length s) → drop (next_of s i) s ≡ drop (i + 1) s
      go (yes h) = ap (λ (b : Bool). drop (cond b (i + 1) i) s) (lt-ltb i (length s) h)
      go (no h) =
          ap (λ (b : Bool). drop (cond b (i + 1) i) s) (le-ltb i (length s) (omega arith))
          ∙ drop_of_length-le s {i = i} (omega arith)
          ∙ sym (drop_of_length-le s {i = i + 1} (omega arith))

-- line r begins at place a
abbrev pub Begins : List ℕ → ℕ → ℕ → Type 0
Begins s r a = drop a s ≡ from_line s r

module _ (s : List ℕ) (r a e : ℕ) (h : Begins s r a) (ends : e ≡ end_of s a) where
  -- then this is the line, and there the next one begins
  pub line-part : part s a e ≡ line_in s r
  line-part =
      ap (λ (n : ℕ). take n (drop a s)) (let z : e - a ≡ length (first_line (drop a s)) = omega arith in z)
      ∙ first_part (drop a s)
      ∙ ap first_line h

  pub begins-next : (n : ℕ) → n ≡ next_of s e → Begins s (r + 1) n
  begins-next n is =
      ap (λ (k : ℕ). drop k s) is
      ∙ next-drop s e
      ∙ ap (λ (k : ℕ). drop k s) (let z : e + 1 ≡ a + suc (length (first_line (drop a s))) = omega arith in z)
      ∙ sym (drop-drop (suc (length (first_line (drop a s)))) a s)
      ∙ others-part (drop a s)
      ∙ ap other_lines h
      ∙ ap (from_line s) (sym (add-one r))

-- the parts at which line r of either text stands give the name shown
pub shown-parts : (p q : List ℕ) (r a e b f : ℕ) → Begins p r a → e ≡ end_of p a → Begins q r b → f ≡ end_of q b
    → or_else (part p a e) (part q b f) ≡ shown p q r
shown-parts p q r a e b f h i k j =
    ap (λ (x : List ℕ). or_else x (part q b f)) (line-part p r a e h i) ∙ ap (or_else (line_in p r)) (line-part q r b f k j)
