-- A site line or another: one case rule for lines, and what a test on site lines says of either.
use mathlib.Core.Path.{◌≡◌, refl, sym, subst}
use mathlib.Core.Bool.{true, false}
use Prim.Native.Nat.{ℕ}
use lib.Dec.{T}
use Rattle.line.specs.declared.Place.{Place}
use Rattle.line.specs.declared.Frame.{Frame}
use Rattle.line.specs.declared.Frame.TheVariants.{Site, Call, Spawn, Sync, Return, Cost, Instructions, Async, Finish}
use Rattle.trace.specs.Shape.{if_site, if_makes}

-- a line that is no site line
abbrev pub NotSite : Frame → Type 0
NotSite f = T (if_site (λ s p. false) true f)

-- what holds of site lines and of lines that are none holds of every line
pub by-site : (P : Frame → Type 0) → ((s : ℕ) (p : Place) → P (Site s p)) → ((f : Frame) → NotSite f → P f) → (f : Frame) → P f
by-site P a b (Site s p) = a s p
by-site P a b (Call s) = b (Call s) tt
by-site P a b (Spawn s) = b (Spawn s) tt
by-site P a b Sync = b Sync tt
by-site P a b Return = b Return tt
by-site P a b (Cost v) = b (Cost v) tt
by-site P a b (Instructions v) = b (Instructions v) tt
by-site P a b (Async s) = b (Async s) tt
by-site P a b Finish = b Finish tt

-- what is said of a line that is no site line
pub other : {A : Type 0} (a : ℕ → Place → A) (b : A) (f : Frame) → NotSite f → if_site a b f ≡ b
other a b (Site s p) h = absurd h
other a b (Call s) h = refl
other a b (Spawn s) h = refl
other a b Sync h = refl
other a b Return h = refl
other a b (Cost v) h = refl
other a b (Instructions v) h = refl
other a b (Async s) h = refl
other a b Finish h = refl

-- what holds of both things that are said holds of what is said of a line
pub either_way : {A : Type 0} (P : A → Type 0) {a : ℕ → Place → A} {b : A} (f : Frame) → ((s : ℕ) (p : Place) → P (a s p)) → P b → P (if_site a b f)
either_way P {a} {b} f h k = by-site (λ g. P (if_site a b g)) h (λ g n. subst P (sym (other a b g n)) k) f

-- and of two things at once
pub both_ways : {A B : Type 0} (R : A → B → Type 0) {a : ℕ → Place → A} {b : A} {c : ℕ → Place → B} {d : B} (f : Frame)
    → ((s : ℕ) (p : Place) → R (a s p) (c s p)) → R b d → R (if_site a b f) (if_site c d f)
both_ways R {a} {b} {c} {d} f h k =
    by-site (λ g. R (if_site a b g) (if_site c d g)) h
    (λ g n. subst (λ x. R x (if_site c d g)) (sym (other a b g n)) (subst (R b) (sym (other c d g n)) k)) f

-- what two say of a call, spawn or async, they say of any line
pub makes-same : {A : Type 0} (a c : ℕ → A) (b : A) (f : Frame) → ((s : ℕ) → a s ≡ c s) → if_makes a b f ≡ if_makes c b f
makes-same a c b (Site s p) h = refl
makes-same a c b (Call s) h = h s
makes-same a c b (Spawn s) h = h s
makes-same a c b Sync h = refl
makes-same a c b Return h = refl
makes-same a c b (Cost v) h = refl
makes-same a c b (Instructions v) h = refl
makes-same a c b (Async s) h = h s
makes-same a c b Finish h = refl
