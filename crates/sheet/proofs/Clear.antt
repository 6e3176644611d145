-- Characters that end no field, bare or in quotes: names and numbers are made of them. Assumes nothing.
use Prim.{Unit, tt}
use Prim.Native.Nat.{ℕ, suc}
use mathlib.Core.Bool.{Bool, true, false, cond, ◌&&◌, not}
use mathlib.Core.List.{List, [], ◌∷◌, ◌++◌}
use mathlib.Core.Path.{◌≡◌, refl, ap, ◌∙◌}
use native.Mathlib.Omega.{arith}
use borrow.Author.Tests.{ne_eqb, not-true}
use lib.ListN.{length}
use Rattle.digits.specs.Decimal.{is_figure, all_figures}
use Rattle.digits.proofs.Laws.{and_left, and_right}
use Rattle.digits.proofs.Figures.{figure_bounds}
use Rattle.sheet.specs.Text.{quote, names}
use Rattle.sheet.specs.Grammar.{before, ends_bare, ends_quoted}

-- no character ends a field
abbrev pub Clear : List ℕ → Type 0
Clear [] = Unit
Clear (c ∷ t) = (ends_bare c ≡ false) × (ends_quoted c ≡ false) × Clear t

-- what may stand behind a bare field: nothing, a comma or a CR
pub data Stop : List ℕ → Type 0 where
  end : Stop []
  at : (c : ℕ) (u : List ℕ) → ends_bare c ≡ true → ends_quoted c ≡ false → Stop (c ∷ u)

pub before-stop : (t u : List ℕ) → Clear t → Stop u → before ends_bare (t ++ u) ≡ length t
before-stop [] [] k end = refl
before-stop [] (c ∷ u) k (at _ _ e q) = ap (λ (b : Bool). cond b 0 (suc (before ends_bare u))) e
before-stop (d ∷ t) u k s =
    ap (λ (b : Bool). cond b 0 (suc (before ends_bare (t ++ u)))) k.0 ∙ ap suc (before-stop t u k.2 s)

pub before-quote : (t u : List ℕ) → Clear t → before ends_quoted (t ++ quote ∷ u) ≡ length t
before-quote [] u k = refl
before-quote (d ∷ t) u k =
    ap (λ (b : Bool). cond b 0 (suc (before ends_quoted (t ++ quote ∷ u)))) k.1 ∙ ap suc (before-quote t u k.2)

-- figures end no field
pub figures-clear : (t : List ℕ) → all_figures t ≡ true → Clear t
figures-clear [] a = tt
figures-clear (c ∷ t) a =
    let b = figure_bounds c (and_left (is_figure c) (all_figures t) a) in (
      simp (ne_eqb c 44 (λ z. omega arith), ne_eqb c 13 (λ z. omega arith)),
      ne_eqb c 34 (λ z. omega arith),
      figures-clear t (and_right (is_figure c) (all_figures t) a),
    )

-- nor does one of any of some names
abbrev pub AllClear : List (List ℕ) → Type 0
AllClear [] = Unit
AllClear (t ∷ ts) = Clear t × AllClear ts

-- which is seen by computing: of the header's names too
clear : List ℕ → Bool
clear [] = true
clear (c ∷ t) = not (ends_bare c) && (not (ends_quoted c) && clear t)

clear-is : (t : List ℕ) → clear t ≡ true → Clear t
unfolding clear
clear-is [] e = tt
clear-is (c ∷ t) e =
    let a = not (ends_bare c) in
    let b = not (ends_quoted c) in
    let f = and_right a (b && clear t) e in
    (not-true (ends_bare c) (and_left a (b && clear t) e), not-true (ends_quoted c) (and_left b (clear t) f), clear-is t (and_right b (clear t) f))

all-clear : List (List ℕ) → Bool
all-clear [] = true
all-clear (t ∷ ts) = clear t && all-clear ts

all-clear-is : (ts : List (List ℕ)) → all-clear ts ≡ true → AllClear ts
unfolding all-clear
all-clear-is [] e = tt
all-clear-is (t ∷ ts) e = (clear-is t (and_left (clear t) (all-clear ts) e), all-clear-is ts (and_right (clear t) (all-clear ts) e))

pub names-clear : AllClear names
unfolding all-clear clear
names-clear = all-clear-is names refl
