-- The row whose name is shown for an invocation is the one in which the rows count it. Assumes nothing.
use Prim.Native.Nat.{ℕ, zero, suc, ◌+◌}
use mathlib.Core.Bool.{Bool, true, false, cond}
use mathlib.Core.List.{List, [], ◌∷◌}
use mathlib.Core.Logic.{◌⊎◌, inl, inr}
use mathlib.Core.Path.{◌≡◌, refl, ap, ◌∙◌}
use native.Mathlib.Omega.{arith}
use borrow.Author.Tests.{eqb-true}
use lib.Dec.{T}
use Rattle.line.specs.declared.Frame.{Frame}
use Rattle.line.specs.declared.Frame.TheVariants.{Site, Call, Spawn, Sync, Return, Cost, Instructions, Async, Finish}
use Rattle.trace.specs.Shape.{if_makes, has}
use Rattle.trace.specs.Rows.{makes, made, of_row}
use Rattle.trace.proofs.Open.{has-cases}
use Rattle.folded.specs.Text.{site_on, row_of}

-- an invocation among those made from site s in lines from line n on: the line that makes it
pub record Made (n : ℕ) (u : List Frame) (s F : ℕ) : Type 0 where
  pub k : ℕ
  pub is : F ≡ suc (n + k)
  pub site : site_on u k ≡ s

made-later : (n : ℕ) (f : Frame) (u : List Frame) (s F : ℕ) → Made (suc n) u s F → Made n (f ∷ u) s F
made-later n f u s F x = record { k = suc x.k; is = omega (arith, x.is); site = x.site }

made_by : (n : ℕ) (u : List Frame) (s F : ℕ) → T (has F (made n u s)) → Made n u s F
made_by n [] s F h = absurd h
made_by n (f ∷ u) s F h = go (makes s f) refl h (made_by (suc n) u s F)
  where
    makes-site : (e : Frame) → makes s e ≡ true → if_makes (λ i. i) 0 e ≡ s
    makes-site (Site i p) x = absurd (let z : ◌≡◌ {A = ℕ} 0 1 = cc in omega arith)
    makes-site (Call i) x = eqb-true i s x
    makes-site (Spawn i) x = eqb-true i s x
    makes-site Sync x = absurd (let z : ◌≡◌ {A = ℕ} 0 1 = cc in omega arith)
    makes-site Return x = absurd (let z : ◌≡◌ {A = ℕ} 0 1 = cc in omega arith)
    makes-site (Cost v) x = absurd (let z : ◌≡◌ {A = ℕ} 0 1 = cc in omega arith)
    makes-site (Instructions v) x = absurd (let z : ◌≡◌ {A = ℕ} 0 1 = cc in omega arith)
    makes-site (Async i) x = eqb-true i s x
    makes-site Finish x = absurd (let z : ◌≡◌ {A = ℕ} 0 1 = cc in omega arith)

    first : makes s f ≡ true → (F ≡ suc n) ⊎ T (has F (made (suc n) u s)) → (T (has F (made (suc n) u s)) → Made (suc n) u s F) → Made n (f ∷ u) s F
    first e (inl z) on = record { k = 0; is = omega arith; site = makes-site f e }
    first e (inr z) on = made-later n f u s F (on z)

    go : (b : Bool) → makes s f ≡ b → T (has F (cond b (suc n ∷ made (suc n) u s) (made (suc n) u s)))
        → (T (has F (made (suc n) u s)) → Made (suc n) u s F) → Made n (f ∷ u) s F
    go true e x on = first e (has-cases F (suc n) (made (suc n) u s) x) on
    go false e x on = made-later n f u s F (on x)

-- LAW: an invocation of row s has that row
pub row_is : (t : List Frame) (s F : ℕ) → T (has F (of_row t s)) → row_of t F ≡ s
row_is t zero F h = go (has-cases F 0 [] h)
  where
    go : (F ≡ 0) ⊎ T (has F []) → row_of t F ≡ 0
    go (inl e) = ap (row_of t) e
    go (inr x) = absurd x
row_is t (suc s) F h =
    let x = made_by 0 t (suc s) F h in
    ap (row_of t) (x.is ∙ (let z : suc (0 + x.k) ≡ suc x.k = omega arith in z)) ∙ x.site
