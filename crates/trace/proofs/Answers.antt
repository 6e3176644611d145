-- What equal answers have in common; and what an answer says of the number of the first check that fails.
use mathlib.Core.Path.{◌≡◌, refl, ap}
use mathlib.Core.Bool.{Bool, true, false, cond}
use Prim.Native.Nat.{ℕ}
use lib.Dec.{eqb}
use borrow.Author.Tests.{eqb-true, eqb-false}
use Rattle.std.specs.Prelude.{Result, Ok, Err}
use Rattle.line.specs.declared.Refusal.{Refusal}
use Rattle.line.specs.Refusal.{refusal}
use Rattle.trace.specs.declared.Profile.{Profile}
use Rattle.trace.specs.Answer.{Answer, profiled, passing}
use Rattle.trace.proofs.Basics.{clash}

pub ok-same : {A : Type 0} (x y : A) → ◌≡◌ {A = Result A Refusal} (Ok x) (Ok y) → x ≡ y
ok-same x y e = cc

pub err-same : {A : Type 0} (x y : Refusal) → ◌≡◌ {A = Result A Refusal} (Err x) (Err y) → x ≡ y
err-same x y e = cc

pub same-sites : (w s m n w' s' m' n' : ℕ) → profiled w s m n ≡ profiled w' s' m' n' → m ≡ m'
same-sites w s m n w' s' m' n' e = ap (λ (p : Profile). p.sites) (ok-same _ _ e)

pub same-number : {A : Type 0} (m k n l : ℕ) → ◌≡◌ {A = Result A Refusal} (Err (refusal m k)) (Err (refusal n l)) → m ≡ n
same-number m k n l e = ap (λ (r : Refusal). r.number) (err-same _ _ e)

abbrev answered : Bool → ℕ → Result (Unit {0}) Refusal
answered b n = cond b (Ok tt) (Err (refusal n 0))

-- none fails
pub passed-all : (n : ℕ) (u : Unit {0}) → passing n ≡ Ok u → n ≡ 0
passed-all n u e = go (eqb n 0) refl e
  where
    go : (b : Bool) → eqb n 0 ≡ b → answered b n ≡ Ok u → n ≡ 0
    go true h q = eqb-true n 0 h
    go false h q = clash (cc)

-- one fails, and the refusal has its number
pub failed-one : (n : ℕ) (r : Refusal) → passing n ≡ Err r → (n ≡ 0 → ⊥) × (r ≡ refusal n 0)
failed-one n r e = go (eqb n 0) refl e
  where
    go : (b : Bool) → eqb n 0 ≡ b → answered b n ≡ Err r → (n ≡ 0 → ⊥) × (r ≡ refusal n 0)
    go true h q = clash (cc)
    go false h q = (eqb-false n 0 h, cc)
