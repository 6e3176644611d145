-- A trace without 07 lines has no instructions: columns 6 and 7 of every row are 0.
use mathlib.Core.Path.{◌≡◌, refl, ◌∙◌, ap, subst}
use mathlib.Core.Bool.{Bool, true, false, cond, ◌&&◌}
use mathlib.Core.List.{List, [], ◌∷◌}
use Prim.Native.Nat.{ℕ, zero, suc}
use native.Mathlib.Omega.{arith}
use Rattle.line.specs.declared.Frame.{Frame}
use Rattle.line.specs.declared.Frame.TheVariants.{Site, Call, Spawn, Sync, Return, Cost, Instructions, Async, Finish}
use Rattle.trace.specs.Shape.{if_instructions, Is, root, step, has}
use Rattle.trace.specs.Async.{owner_is}
use Rattle.trace.specs.Rows.{of_row, carried, instructions, sum_of, itotal, direct, direct_on, ilocal, ion_span}
use Rattle.trace.proofs.Basics.{no_way, cond_same}
use Rattle.trace.proofs.Sums.{sum-zero, sum_same}

-- no line is a 07 line
abbrev pub Plain : List Frame → Type 0
Plain t = (k v : ℕ) → ¬ Is t k (Instructions v)

-- the same as a test
abbrev pub plain : List Frame → Bool
plain [] = true
plain (f ∷ t) = if_instructions (λ v. false) (plain t) f

pub plain_is : (t : List Frame) → plain t ≡ true → Plain t
plain_is [] e k v i = i
plain_is (f ∷ t) e zero v i = no_way (subst (λ (g : Frame). plain (g ∷ t) ≡ true) i e)
plain_is (f ∷ t) e (suc k) v i = plain_is t (rest f e) k v i
  where
    rest : (f : Frame) → plain (f ∷ t) ≡ true → plain t ≡ true
    rest (Site s p) e = e
    rest (Call s) e = e
    rest (Spawn s) e = e
    rest Sync e = e
    rest Return e = e
    rest (Cost w) e = e
    rest (Instructions w) e = no_way e
    rest (Async s) e = e
    rest Finish e = e

none-carried : (t : List Frame) → Plain t → carried t ≡ 0
none-carried [] h = refl
none-carried (Site s p ∷ t) h = refl
none-carried (Call s ∷ t) h = refl
none-carried (Spawn s ∷ t) h = refl
none-carried (Sync ∷ t) h = refl
none-carried (Return ∷ t) h = refl
none-carried (Cost v ∷ t) h = refl
none-carried (Instructions v ∷ t) h = absurd (h zero v refl)
none-carried (Async s ∷ t) h = refl
none-carried (Finish ∷ t) h = refl

none_of : (f : Frame) (t : List Frame) → Plain t → instructions f t ≡ 0
none_of (Site s p) t h = refl
none_of (Call s) t h = refl
none_of (Spawn s) t h = refl
none_of Sync t h = refl
none_of Return t h = refl
none_of (Cost v) t h = none-carried t h
none_of (Instructions v) t h = refl
none_of (Async s) t h = refl
none_of Finish t h = refl

none-summed : (p : ℕ → List ℕ → Bool) (n : ℕ) (o : List ℕ) (t : List Frame) → Plain t → sum_of instructions p n o t ≡ 0
none-summed p n o [] h = refl
none-summed p n o (f ∷ t) h =
    omega (
      arith,
      ap (λ (x : ℕ). cond (p n o) x 0) (none_of f t (λ k. h (suc k))),
      cond_same (p n o),
      none-summed p (suc n) (step n f o) t (λ k. h (suc k)),
    )

module _ (t : List Frame) (h : Plain t) where
  -- LAW: a trace without 07 lines has 0 in columns 6 and 7 of every row
  pub plain_local : (s : ℕ) → ilocal t s ≡ 0
  plain_local s = sum_same (direct instructions t) (λ F. 0) (λ F. none-summed (λ k o. owner_is t F o) 0 (root ∷ []) t h) (of_row t s) ∙ sum-zero (of_row t s)

  pub plain-on-span : (c : List ℕ) (s : ℕ) → ion_span t c s ≡ 0
  plain-on-span c s =
      sum_same (direct_on instructions t c) (λ F. 0) (λ F. none-summed (λ k o. owner_is t F o && has k c) 0 (root ∷ []) t h) (of_row t s) ∙ sum-zero (of_row t s)

  -- and none in all
  pub plain-total : itotal t ≡ 0
  plain-total = none-summed (λ k o. true) 0 (root ∷ []) t h
