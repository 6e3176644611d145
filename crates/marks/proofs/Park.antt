-- An invocation stored in a zero scratch and loaded again is the same, and the scratch is zero again.
use mathlib.Core.Path.{◌≡◌, refl, ap, ◌∙◌, sym}
use mathlib.Core.List.{List, [], ◌∷◌}
use Prim.Native.Nat.{ℕ, ◌+◌, ◌-◌, ◌≤◌}
use native.Mathlib.Omega.{arith}
use lib.ListN.{length, take, drop, get_or, length-drop}
use lib.Seq.{get_or-drop, take-length}
use borrow.Rule.Slice.PartMut.{put_mid, put_same}
use Rattle.marks.specs.declared.Zones.{Zones}
use Rattle.marks.specs.Park.{park, parked, blank, Zero}

by_eight : (P : List ℕ → Type 0) → ((a b c d e f g h : ℕ) (r : List ℕ) → P (a ∷ b ∷ c ∷ d ∷ e ∷ f ∷ g ∷ h ∷ r)) → (t : List ℕ) → 8 ≤ length t → P t
by_eight P k [] l = absurd (omega arith)
by_eight P k (a ∷ []) l = absurd (omega arith)
by_eight P k (a ∷ b ∷ []) l = absurd (omega arith)
by_eight P k (a ∷ b ∷ c ∷ []) l = absurd (omega arith)
by_eight P k (a ∷ b ∷ c ∷ d ∷ []) l = absurd (omega arith)
by_eight P k (a ∷ b ∷ c ∷ d ∷ e ∷ []) l = absurd (omega arith)
by_eight P k (a ∷ b ∷ c ∷ d ∷ e ∷ f ∷ []) l = absurd (omega arith)
by_eight P k (a ∷ b ∷ c ∷ d ∷ e ∷ f ∷ g ∷ []) l = absurd (omega arith)
by_eight P k (a ∷ b ∷ c ∷ d ∷ e ∷ f ∷ g ∷ h ∷ r) l = k a b c d e f g h r

module _ (z : Zones) (t : List ℕ) (l : 8 ≤ length t) where
  loaded : parked (park z t) ≡ z
  loaded = by_eight (λ (t : List ℕ). parked (park z t) ≡ z) (λ a b c d e f g h r. refl) t l

  rest-same : drop 8 (park z t) ≡ drop 8 t
  rest-same = by_eight (λ (t : List ℕ). drop 8 (park z t) ≡ drop 8 t) (λ a b c d e f g h r. refl) t l

  cleared : Zero t → park blank (park z t) ≡ t
  cleared o = by_eight (λ (t : List ℕ). Zero t → park blank (park z t) ≡ t) (λ a b c d e f g h r o. cc (o 0, o 1, o 2, o 3, o 4, o 5, o 6, o 7)) t l o

-- the invocation z is stored in a zero scratch t, which is t₁ with it
pub record Stored (z : Zones) (t t₁ : List ℕ) : Type 0 where
  pub room : 8 ≤ length t
  pub zero : Zero t
  pub is : t₁ ≡ park z t

-- while it is stored, the child is lent zeros; they come back as they were
module _ {z : Zones} {t t₁ : List ℕ} (h : Stored z t t₁) where
  abbrev part : List ℕ
  part = take (length t₁ - 8) (drop 8 t₁)

  part-is : part ≡ drop 8 t
  part-is = ap (λ (k : ℕ). take k (drop 8 t₁)) (sym (length-drop 8 t₁)) ∙ take-length (drop 8 t₁) ∙ ap (drop 8) h.is ∙ rest-same z t h.room

  pub part-zero : Zero part
  part-zero j = ap (λ (q : List ℕ). get_or q j 0) part-is ∙ get_or-drop 8 t j 0 ∙ h.zero (8 + j)

  pub part_length : length part ≡ length t - 8
  part_length = ap length part-is ∙ length-drop 8 t

  module _ (y : List ℕ) (same : y ≡ part) where
    back : put_mid 8 (length t₁ - 8) t₁ y ≡ park z t
    back = ap (λ (q : List ℕ). put_mid 8 (length t₁ - 8) t₁ q) same ∙ put_same 8 (length t₁ - 8) t₁ ∙ h.is

    pub load_is : (k : Zones) → k ≡ parked (put_mid 8 (length t₁ - 8) t₁ y) → k ≡ z
    load_is k q = q ∙ ap parked back ∙ loaded z t h.room

    pub load-clear : (t₃ : List ℕ) → t₃ ≡ park blank (put_mid 8 (length t₁ - 8) t₁ y) → t₃ ≡ t
    load-clear t₃ q = q ∙ ap (park blank) back ∙ cleared z t h.room h.zero
