-- A line and its small-letter form: what is asked of their characters has the same answer, and they read the same.
-- Assumes nothing.
use Prim.Native.Nat.{ℕ, zero, suc, ◌+◌, ◌*◌, ◌%◌, ◌<◌}
use mathlib.Core.Bool.{Bool, cond, not, ◌&&◌}
use mathlib.Core.List.{List, [], ◌∷◌}
use mathlib.Core.Path.{◌≡◌, refl, ap, ap₂, ◌∙◌, sym}
use native.Mathlib.Omega.{arith}
use lib.Dec.{eqb}
use lib.ListN.{length, get_or, take, drop}
use Rattle.std.specs.Prelude.{Err}
use Rattle.digits.specs.Digits.{small, small_form, all_digits, number}
use Rattle.digits.proofs.Laws.{small_eqb, small-mod, small-length, small_all, small-number}
use Rattle.line.specs.Refusal.{refusal}
use Rattle.line.specs.Family.{Family, Base}
use Rattle.line.specs.Table.{Fields, table_of}
use Rattle.line.specs.Read.{part, width, end, fields, wrong, tabled, read_line_of, read_line, line_at, read_at_of, read_at, Read}
use Rattle.line.specs.At.{both_in}
use Rattle.line.specs.Zeros.{all_zero}

-- one character of it
small_at : (s : List ℕ) (i : ℕ) → get_or (small_form s) i 0 ≡ small (get_or s i 0)
small_at [] i = refl
small_at (c ∷ s) zero = refl
small_at (c ∷ s) (suc i) = small_at s i

pub small_is : (s : List ℕ) (i d : ℕ) → d < 65 → eqb (get_or (small_form s) i 0) d ≡ eqb (get_or s i 0) d
small_is s i d h = ap (λ (c : ℕ). eqb c d) (small_at s i) ∙ small_eqb (get_or s i 0) d h

-- a part of it
small-take : (n : ℕ) (s : List ℕ) → take n (small_form s) ≡ small_form (take n s)
small-take zero s = refl
small-take (suc n) [] = refl
small-take (suc n) (c ∷ s) = ap (λ (l : List ℕ). small c ∷ l) (small-take n s)

small-drop : (n : ℕ) (s : List ℕ) → drop n (small_form s) ≡ small_form (drop n s)
small-drop zero s = refl
small-drop (suc n) [] = refl
small-drop (suc n) (c ∷ s) = small-drop n s

small-part : (s : List ℕ) (from size : ℕ) → part (small_form s) from size ≡ small_form (part s from size)
small-part s from size = ap (take size) (small-drop from s) ∙ small-take size (drop from s)

-- digits, zeros and the number of a part
pub zeros : (s : List ℕ) → all_zero (small_form s) ≡ all_zero s
zeros [] = refl
zeros (c ∷ s) = ap₂ (λ (a b : Bool). a && b) (small_eqb c 48 (omega arith)) (zeros s)

module _ (s : List ℕ) (from size : ℕ) where
  pub part-digits : all_digits (part (small_form s) from size) ≡ all_digits (part s from size)
  part-digits = ap all_digits (small-part s from size) ∙ small_all (part s from size)

  pub part-zeros : all_zero (part (small_form s) from size) ≡ all_zero (part s from size)
  part-zeros = ap all_zero (small-part s from size) ∙ zeros (part s from size)

  part-number : number (part (small_form s) from size) ≡ number (part s from size)
  part-number = ap number (small-part s from size) ∙ small-number (part s from size)

module _ (s : List ℕ) where
  -- its kind, which is read off its first two characters
  pub small-both : both_in (small_form s) ≡ both_in s
  small-both = ap₂ (λ (a b : ℕ). 16 * a + b) (low 0) (low 1)
    where
      low : (i : ℕ) → get_or (small_form s) i 0 % 16 ≡ get_or s i 0 % 16
      low i = ap (λ (c : ℕ). c % 16) (small_at s i) ∙ small-mod (get_or s i 0)

  small-wrong : wrong (small_form s) ≡ wrong s
  small-wrong =
      ap₂ (λ (a b : Bool). not (a && b)) (ap all_digits (small-take end s) ∙ small_all (take end s)) (small_is s end 10 (omega arith))

  small-fields : fields (small_form s) ≡ fields s
  small-fields = rw (part-number s 0 2, part-number s 2 4, part-number s 6 8, part-number s 14 4, part-number s 18 4)

  -- LAW: it reads the same
  pub read_small : (g : Family) (n : ℕ) → read_line_of g (small_form s) n ≡ read_line_of g s n
  read_small g n =
      ap (λ (l : ℕ). cond (eqb l width) (cond (wrong (small_form s)) (Err (refusal 5 n)) (tabled (table_of g (fields (small_form s))) n)) (Err (refusal 2 0))) (small-length s)
      ∙ ap₂ (λ (b : Bool) (x : Fields). cond {A = Read} (eqb (length s) width) (cond b (Err (refusal 5 n)) (tabled (table_of g x) n)) (Err (refusal 2 0))) small-wrong small-fields

module _ (g : Family) where
  -- LAW: two lines with the same small-letter form read the same
  pub same-small-of : (s z : List ℕ) (n : ℕ) → small_form s ≡ small_form z → read_line_of g s n ≡ read_line_of g z n
  same-small-of s z n e = sym (read_small s g n) ∙ ap (λ (l : List ℕ). read_line_of g l n) e ∙ read_small z g n

  -- LAW: so do the lines of a text and of its small-letter form
  pub read_at_small_of : (s : List ℕ) (n : ℕ) → read_at_of g (small_form s) n ≡ read_at_of g s n
  read_at_small_of s n = ap (λ (l : List ℕ). read_line_of g l n) (small-part s (width * n) width) ∙ read_small (line_at s n) g n

-- those of document 01's family
pub same-small : (s z : List ℕ) (n : ℕ) → small_form s ≡ small_form z → read_line s n ≡ read_line z n
same-small = same-small-of Base

pub read_at_small : (s : List ℕ) (n : ℕ) → read_at (small_form s) n ≡ read_at s n
read_at_small = read_at_small_of Base
