-- Lines that name their sites by the rules: refusals 8 to 11 apply to none. Only site lines, calls and spawns have a
-- say in that.
use mathlib.Core.Path.{◌≡◌, refl, sym, ◌∙◌, ap, subst}
use mathlib.Core.Logic.{◌⊎◌, inl, inr}
use mathlib.Core.Bool.{Bool, false, not, ◌||◌}
use mathlib.Core.List.{List, [], ◌∷◌, ◌++◌, append-nil}
use Prim.Native.Nat.{ℕ, suc}
use lib.Dec.{eqb}
use Rattle.line.specs.declared.Place.{Place}
use Rattle.line.specs.Family.{Family}
use Rattle.line.specs.declared.Frame.{Frame}
use Rattle.line.specs.declared.Frame.TheVariants.{Site, Call, Spawn, Sync, Return, Cost, Instructions, Async, Finish}
use Rattle.trace.specs.Shape.{if_site, sites}
use Rattle.trace.specs.Refusals.{last_site, misplaced, above_m, placed, place_again, declared, undeclared}
use Rattle.trace.proofs.Cases.{both_ways, makes-same}
use Rattle.trace.proofs.Scan.{Clean, faultless}

-- one line, behind the lines before
pub record NamedLine (M : ℕ) (before : List Frame) (f : Frame) : Type 0 where
  pub not8 : misplaced before f ≡ false
  pub not9 : above_m M f ≡ false
  pub not10 : place_again before f ≡ false
  pub not11 : undeclared before f ≡ false

abbrev pub Named : ℕ → List Frame → List Frame → Type 0
Named M before [] = Unit {0}
Named M before (f ∷ t) = NamedLine M before f × Named M (before ++ f ∷ []) t

-- ── the lines that have a say ──

abbrev pub naming : List Frame → List Frame
naming [] = []
naming (Site s p ∷ t) = Site s p ∷ naming t
naming (Call s ∷ t) = Call s ∷ naming t
naming (Spawn s ∷ t) = Spawn s ∷ naming t
naming (Sync ∷ t) = naming t
naming (Return ∷ t) = naming t
naming (Cost v ∷ t) = naming t
naming (Instructions v ∷ t) = naming t
naming (Async s ∷ t) = Async s ∷ naming t
naming (Finish ∷ t) = naming t

pub naming-append : (t u : List Frame) → naming (t ++ u) ≡ naming t ++ naming u
naming-append [] u = refl
naming-append (Site s p ∷ t) u = ap (λ (l : List Frame). Site s p ∷ l) (naming-append t u)
naming-append (Call s ∷ t) u = ap (λ (l : List Frame). Call s ∷ l) (naming-append t u)
naming-append (Spawn s ∷ t) u = ap (λ (l : List Frame). Spawn s ∷ l) (naming-append t u)
naming-append (Sync ∷ t) u = naming-append t u
naming-append (Return ∷ t) u = naming-append t u
naming-append (Cost v ∷ t) u = naming-append t u
naming-append (Instructions v ∷ t) u = naming-append t u
naming-append (Async s ∷ t) u = ap (λ (l : List Frame). Async s ∷ l) (naming-append t u)
naming-append (Finish ∷ t) u = naming-append t u

sites-naming : (t : List Frame) → sites (naming t) ≡ sites t
sites-naming [] = refl
sites-naming (Site s p ∷ t) = ap suc (sites-naming t)
sites-naming (Call s ∷ t) = sites-naming t
sites-naming (Spawn s ∷ t) = sites-naming t
sites-naming (Sync ∷ t) = sites-naming t
sites-naming (Return ∷ t) = sites-naming t
sites-naming (Cost v ∷ t) = sites-naming t
sites-naming (Instructions v ∷ t) = sites-naming t
sites-naming (Async s ∷ t) = sites-naming t
sites-naming (Finish ∷ t) = sites-naming t

-- lines that name alike have as many sites
pub sites_alike : (t u : List Frame) → naming t ≡ naming u → sites t ≡ sites u
sites_alike t u e = sym (sites-naming t) ∙ ap sites e ∙ sites-naming u

last-naming : (n : ℕ) (t : List Frame) → last_site n (naming t) ≡ last_site n t
last-naming n [] = refl
last-naming n (Site s p ∷ t) = last-naming s t
last-naming n (Call s ∷ t) = last-naming n t
last-naming n (Spawn s ∷ t) = last-naming n t
last-naming n (Sync ∷ t) = last-naming n t
last-naming n (Return ∷ t) = last-naming n t
last-naming n (Cost v ∷ t) = last-naming n t
last-naming n (Instructions v ∷ t) = last-naming n t
last-naming n (Async s ∷ t) = last-naming n t
last-naming n (Finish ∷ t) = last-naming n t

placed-naming : (p : Place) (t : List Frame) → placed p (naming t) ≡ placed p t
placed-naming p [] = refl
placed-naming p (Site s q ∷ t) = rw (placed-naming p t)
placed-naming p (Call s ∷ t) = placed-naming p t
placed-naming p (Spawn s ∷ t) = placed-naming p t
placed-naming p (Sync ∷ t) = placed-naming p t
placed-naming p (Return ∷ t) = placed-naming p t
placed-naming p (Cost v ∷ t) = placed-naming p t
placed-naming p (Instructions v ∷ t) = placed-naming p t
placed-naming p (Async s ∷ t) = placed-naming p t
placed-naming p (Finish ∷ t) = placed-naming p t

declared-naming : (s : ℕ) (t : List Frame) → declared s (naming t) ≡ declared s t
declared-naming s [] = refl
declared-naming s (Site i p ∷ t) = rw (declared-naming s t)
declared-naming s (Call i ∷ t) = declared-naming s t
declared-naming s (Spawn i ∷ t) = declared-naming s t
declared-naming s (Sync ∷ t) = declared-naming s t
declared-naming s (Return ∷ t) = declared-naming s t
declared-naming s (Cost v ∷ t) = declared-naming s t
declared-naming s (Instructions v ∷ t) = declared-naming s t
declared-naming s (Async i ∷ t) = declared-naming s t
declared-naming s (Finish ∷ t) = declared-naming s t

-- what the rules say of a line is the same behind the lines that have a say
module _ (M : ℕ) (b : List Frame) (f : Frame) where
  eight : misplaced (naming b) f ≡ misplaced b f
  eight = ap (λ (n : ℕ). if_site (λ s p. not (eqb s (suc n))) false f) (last-naming 0 b)

  ten : place_again (naming b) f ≡ place_again b f
  ten = both_ways (λ (x y : Bool). x ≡ y) f (λ s p. placed-naming p b) refl

  eleven : undeclared (naming b) f ≡ undeclared b f
  eleven =
      makes-same (λ s. eqb s 0 || not (declared s (naming b))) (λ s. eqb s 0 || not (declared s b)) false f
      (λ s. ap (λ (x : Bool). eqb s 0 || not x) (declared-naming s b))

  seen : NamedLine M b f → NamedLine M (naming b) f
  seen h = record { not8 = eight ∙ h.not8; not9 = h.not9; not10 = ten ∙ h.not10; not11 = eleven ∙ h.not11 }

  unseen : NamedLine M (naming b) f → NamedLine M b f
  unseen h = record { not8 = sym eight ∙ h.not8; not9 = h.not9; not10 = sym ten ∙ h.not10; not11 = sym eleven ∙ h.not11 }

-- a line has a say, or none
record Silent (M : ℕ) (f : Frame) : Type 0 where
  skipped : (t : List Frame) → naming (f ∷ t) ≡ naming t
  passes : (b : List Frame) → NamedLine M b f

says : (M : ℕ) (f : Frame) → ((t : List Frame) → naming (f ∷ t) ≡ f ∷ naming t) ⊎ Silent M f
says M (Site s p) = inl (λ t. refl)
says M (Call s) = inl (λ t. refl)
says M (Spawn s) = inl (λ t. refl)
says M Sync = inr (record { skipped = λ t. refl; passes = λ b. record { not8 = refl; not9 = refl; not10 = refl; not11 = refl } })
says M Return = inr (record { skipped = λ t. refl; passes = λ b. record { not8 = refl; not9 = refl; not10 = refl; not11 = refl } })
says M (Cost v) = inr (record { skipped = λ t. refl; passes = λ b. record { not8 = refl; not9 = refl; not10 = refl; not11 = refl } })
says M (Instructions v) = inr (record { skipped = λ t. refl; passes = λ b. record { not8 = refl; not9 = refl; not10 = refl; not11 = refl } })
says M (Async s) = inl (λ t. refl)
says M Finish = inr (record { skipped = λ t. refl; passes = λ b. record { not8 = refl; not9 = refl; not10 = refl; not11 = refl } })

-- one line more, among all lines and among those that have a say
module _ (M : ℕ) (b : List Frame) (f : Frame) (t : List Frame) where
  abbrev Rest : List Frame → Type 0
  Rest l = Named M l (naming t)

  spoken : ((u : List Frame) → naming (f ∷ u) ≡ f ∷ naming u) → naming (b ++ f ∷ []) ≡ naming b ++ f ∷ []
  spoken e = naming-append b (f ∷ []) ∙ ap (λ (l : List Frame). naming b ++ l) (e [])

  silent : Silent M f → naming (b ++ f ∷ []) ≡ naming b
  silent k = naming-append b (f ∷ []) ∙ ap (λ (l : List Frame). naming b ++ l) (k.skipped []) ∙ append-nil (naming b)

  named-cons : NamedLine M b f → Named M (naming (b ++ f ∷ [])) (naming t) → Named M (naming b) (naming (f ∷ t))
  named-cons h w = elim (says M f) [
    | inl e ↦ subst (Named M (naming b)) (sym (e t)) (seen M b f h, subst Rest (spoken e) w)
    | inr k ↦ subst (Named M (naming b)) (sym (k.skipped t)) (subst Rest (silent k) w)
  ]

  pub named_head : Named M (naming b) (naming (f ∷ t)) → NamedLine M b f × Named M (naming (b ++ f ∷ [])) (naming t)
  named_head w = elim (says M f) [
    | inl e ↦ (let x = subst (Named M (naming b)) (e t) w in (unseen M b f x.0, subst Rest (sym (spoken e)) x.1))
    | inr k ↦ (k.passes b, subst Rest (sym (silent k)) (subst (Named M (naming b)) (k.skipped t) w))
  ]

-- LAW: of lines that pass, those that have a say name their sites by the rules
pub clean-named : (g : Family) (D M : ℕ) (before t : List Frame) → Clean g D M before t → Named M (naming before) (naming t)
clean-named g D M before [] c = tt
clean-named g D M before (f ∷ t) c =
    let w = faultless D M before f c.0 in
    named-cons M before f t (record { not8 = w.not8; not9 = w.not9; not10 = w.not10; not11 = w.not11 }) (clean-named g D M (before ++ f ∷ []) t c.2)
