-- Laws of names, of the first bad row, and of the rows before it. Assumes nothing.
use Rattle.std.specs.List.{list_all}
use Prim.Native.Nat.{ℕ, zero, suc, ◌+◌, ◌-◌, ◌<◌}
use mathlib.Core.Bool.{Bool, true, false, cond, ◌&&◌}
use mathlib.Core.List.{List, [], ◌∷◌}
use mathlib.Core.Path.{◌≡◌, refl, ap, ◌∙◌, sym}
use native.Mathlib.Numerals.{add-one}
use native.Mathlib.Omega.{arith}
use lib.ListN.{length}
use Rattle.names.specs.Names.{shown, name_char, name_chars, is_name, bad_from, first_bad}

-- `all` asks what `name_chars` asks
pub chars-all : (s : List ℕ) → name_chars s ≡ list_all name_char s
chars-all [] = refl
chars-all (c ∷ s) = ap (λ (b : Bool). name_char c && b) (chars-all s)

pub name-start : (s : List ℕ) → (length s ≡ 0 → ⊥) → is_name s ≡ name_chars s
name-start [] h = absurd (h refl)
name-start (c ∷ s) h = refl

module _ (p q : List ℕ) where
  on : (r n : ℕ) (b : Bool) → r < n → is_name (shown p q r) ≡ b → bad_from p q r (n - r) ≡ cond b (bad_from p q (r + 1) (n - (r + 1))) r
  on r n b l e =
      let m : n - r ≡ suc (n - (r + 1)) = omega arith in
      ap (bad_from p q r) m
      ∙ ap (λ (x : Bool). cond x (bad_from p q (suc r) (n - (r + 1))) r) e
      ∙ ap (λ (x : ℕ). cond b (bad_from p q x (n - (r + 1))) r) (sym (add-one r))

  pub bad-here : (r n : ℕ) → r < n → is_name (shown p q r) ≡ false → bad_from p q r (n - r) ≡ r
  bad-here r n l e = on r n false l e

  pub bad-on : (r n : ℕ) → r < n → is_name (shown p q r) ≡ true → bad_from p q r (n - r) ≡ bad_from p q (r + 1) (n - (r + 1))
  bad-on r n l e = on r n true l e

  -- no row before the first bad one is bad
  good_from : (r n i : ℕ) → r + i < bad_from p q r n → is_name (shown p q (r + i)) ≡ true
  good_from r zero i h = absurd (omega arith)
  good_from r (suc n) i h = go (is_name (shown p q r)) refl h i refl (λ j. good_from (suc r) n j)
    where
      go : (b : Bool) → is_name (shown p q r) ≡ b → r + i < cond b (bad_from p q (suc r) n) r → (j : ℕ) → i ≡ j
          → ((j : ℕ) → suc r + j < bad_from p q (suc r) n → is_name (shown p q (suc r + j)) ≡ true) → is_name (shown p q (r + i)) ≡ true
      go true e h zero z on = ap (λ (k : ℕ). is_name (shown p q k)) (let z : r + i ≡ r = omega arith in z) ∙ e
      go true e h (suc j) z on = ap (λ (k : ℕ). is_name (shown p q k)) (let z : r + i ≡ suc r + j = omega arith in z) ∙ on j (omega arith)
      go false e h j z on = absurd (omega arith)

  pub good_before : (n r : ℕ) → r < first_bad p q n → is_name (shown p q r) ≡ true
  good_before n r h = ap (λ (k : ℕ). is_name (shown p q k)) (let z : r ≡ 0 + r = omega arith in z) ∙ good_from 0 n r (omega arith)
