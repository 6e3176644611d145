-- A line's fault by the tally: the step on numbers gives what the refusals say of the line behind the lines before it.
use mathlib.Core.Path.{◌≡◌, refl, sym, ◌∙◌, ap}
use mathlib.Core.Bool.{Bool, true, false, not, cond, ◌||◌, or-false}
use mathlib.Core.List.{List, [], ◌∷◌, ◌++◌}
use Prim.Native.Nat.{ℕ, suc, ◌+◌, ◌-◌}
use native.Mathlib.Omega.{arith}
use lib.ListN.{length, length-append}
use lib.Dec.{eqb, ltb, leb}
use borrow.Author.Tests.{eqb-false, leb-true, leb-false, ne_eqb, lt-ltb, le-ltb}
use Rattle.line.specs.declared.Frame.{Frame}
use Rattle.line.specs.declared.Frame.TheVariants.{Site, Call, Spawn, Sync, Return, Cost, Instructions, Async, Finish}
use Rattle.trace.specs.Shape.{closed, step, sites}
use Rattle.trace.specs.Refusals.{open_now, empty, after_root, after_cost, stray, last_site, placed, place_again, declared, fault}
use Rattle.trace.proofs.Scan.{now}
use Rattle.trace.proofs.Sites.{sites-append, Numbered}
use Rattle.admit.specs.declared.Tally.{Tally}
use Rattle.admit.specs.Step.{Tallied, tally_of, refuse, next, stepped}

-- ── the tests by the tally ──

-- 7: nothing is open
pub none_open : (o : List ℕ) → eqb (length o) 0 ≡ empty o
none_open [] = refl
none_open (x ∷ o) = ne_eqb (length (x ∷ o)) 0 (λ e. omega arith)

-- 11: a site is declared where it is one of those counted
undeclared-is : (before : List Frame) (s : ℕ) → Numbered before → (eqb s 0 || not (declared s before)) ≡ (eqb s 0 || ltb (sites before) s)
undeclared-is before s h = go (eqb s 0) refl
  where
    above : (b : Bool) → leb s (sites before) ≡ b → not b ≡ ltb (sites before) s
    above true e = sym (le-ltb (sites before) s (leb-true s (sites before) e))
    above false e = sym (lt-ltb (sites before) s (leb-false s (sites before) e))

    go : (b : Bool) → eqb s 0 ≡ b → (b || not (declared s before)) ≡ (b || ltb (sites before) s)
    go true e = refl
    go false e = ap not (h.each s (omega (arith, eqb-false s 0 e))) ∙ above (leb s (sites before)) refl

-- 12: one more is open than the limit
too_deep_is : (D d : ℕ) → ltb D (suc d) ≡ leb D d
too_deep_is D d = go (leb D d) refl
  where
    go : (b : Bool) → leb D d ≡ b → ltb D (suc d) ≡ b
    go true e = lt-ltb D (suc d) (omega (arith, leb-true D d e))
    go false e = le-ltb D (suc d) (omega (arith, leb-false D d e))

-- ── one line more ──

tally-is : (l l' s s' d d' : ℕ) → l ≡ l' → s ≡ s' → d ≡ d' → ◌≡◌ {A = Tally} (record { lines = l; sites = s; depth = d }) (record { lines = l'; sites = s'; depth = d' })
tally-is l l' s s' d d' e f g = rw (e, f, g)

next-is : (before : List Frame) (f : Frame) (s d : ℕ) → s ≡ sites before + sites (f ∷ []) → d ≡ length (step (length before) f (open_now before)) → ◌≡◌ {A = Tally} (record { lines = length before + 1; sites = s; depth = d }) (tally_of (before ++ f ∷ []))
next-is before f s d e g =
    tally-is (length before + 1) (length (before ++ f ∷ [])) s (sites (before ++ f ∷ [])) d (length (open_now (before ++ f ∷ [])))
    (sym (length-append before (f ∷ []))) (e ∙ sym (sites-append before (f ∷ []))) (g ∙ sym (ap length (now before f)))

closed-length : (o : List ℕ) → length o - 1 ≡ length (closed o)
closed-length [] = omega arith
closed-length (x ∷ o) = omega arith

-- what a fault, or none, makes of a line
abbrev outcome : ℕ → Tally → Tally → Tallied
outcome k after t = cond (eqb k 0) (next after) (refuse t k)

-- what the refusals say of a line
abbrev pub judgement : ℕ → ℕ → List Frame → Frame → Tallied
judgement D M before f = outcome (fault D M before f) (tally_of (before ++ f ∷ [])) (tally_of before)

-- a: 7 applies
plain : (a d : Bool) (u v t : Tally) → d ≡ a → u ≡ v → cond d (refuse t 7) (next u) ≡ outcome (cond a 7 0) v t
plain a d u v t e g = rw (e, g) (go a)
  where
    go : (a : Bool) → cond a (refuse t 7) (next v) ≡ outcome (cond a 7 0) v t
    go true = refl
    go false = refl

-- k: too deep
deepen : (a d k : Bool) (u v t : Tally) → d ≡ a → u ≡ v → cond d (refuse t 7) (cond k (refuse t 12) (next u)) ≡ outcome (cond a 7 (cond k 12 0)) v t
deepen a d k u v t e g = rw (e, g) (go a k)
  where
    go : (a k : Bool) → cond a (refuse t 7) (cond k (refuse t 12) (next v)) ≡ outcome (cond a 7 (cond k 12 0)) v t
    go true k = refl
    go false true = refl
    go false false = refl

-- z, w: the site is 0, or is not declared
make : (a d : Bool) (x z w k : Bool) (u v t : Tally) → d ≡ a → u ≡ v → x ≡ (z || w)
    → cond d (refuse t 7) (cond z (refuse t 11) (cond w (refuse t 11) (cond k (refuse t 12) (next u)))) ≡ outcome (cond a 7 (cond x 11 (cond k 12 0))) v t
make a d x z w k u v t e g h = rw (e, g, h) (go a z w k)
  where
    go : (a z w k : Bool) → cond a (refuse t 7) (cond z (refuse t 11) (cond w (refuse t 11) (cond k (refuse t 12) (next v)))) ≡ outcome (cond a 7 (cond (z || w) 11 (cond k 12 0))) v t
    go true z w k = refl
    go false true w k = refl
    go false false true k = refl
    go false false false true = refl
    go false false false false = refl

-- q: the number is the next; m: above M; g: the place again
site : (a d : Bool) (q m g r : Bool) (u v t : Tally) → d ≡ a → u ≡ v → r ≡ g
    → cond d (refuse t 7) (cond q (cond m (refuse t 9) (cond r (refuse t 10) (next u))) (refuse t 8)) ≡ outcome (cond a 7 (cond (not q) 8 (cond m 9 (cond g 10 0)))) v t
site a d q m g r u v t e h k = rw (e, h, k) (go a q m g)
  where
    go : (a q m g : Bool) → cond a (refuse t 7) (cond q (cond m (refuse t 9) (cond g (refuse t 10) (next v))) (refuse t 8)) ≡ outcome (cond a 7 (cond (not q) 8 (cond m 9 (cond g 10 0)))) v t
    go true q m g = refl
    go false false m g = refl
    go false true true g = refl
    go false true false true = refl
    go false true false false = refl

-- y: 22 applies
carry : (a d y r : Bool) (u v t : Tally) → d ≡ a → u ≡ v → r ≡ y → cond d (refuse t 7) (cond r (refuse t 22) (next u)) ≡ outcome (cond a 7 (cond y 22 0)) v t
carry a d y r u v t e g h = rw (e, g, h) (go a y)
  where
    go : (a y : Bool) → cond a (refuse t 7) (cond y (refuse t 22) (next v)) ≡ outcome (cond a 7 (cond y 22 0)) v t
    go true y = refl
    go false true = refl
    go false false = refl

-- what the lines before say against a line: refusals 10 and 22, the first of site lines and the second of 07 lines
abbrev pub objection : List Frame → Frame → Bool
objection before f = place_again before f || stray before f

-- the step on numbers is what the refusals say
module _ (D M : ℕ) (before : List Frame) (against : Bool) (h : Numbered before) where
  abbrev n : ℕ
  n = length before

  abbrev o : List ℕ
  o = open_now before

  abbrev t : Tally
  t = tally_of before

  abbrev behind : ℕ → ℕ → Tally
  behind s d = record { lines = n + 1; sites = s; depth = d }

  -- a line that has no refusal of its own
  plain_is : (f : Frame) (d : ℕ) → ◌≡◌ {A = ℕ} (sites (f ∷ [])) 0 → d ≡ length (step n f o) → cond (eqb (length o) 0) (refuse t 7) (next (behind (sites before) d)) ≡ outcome (cond (after_root before) 7 0) (tally_of (before ++ f ∷ [])) t
  plain_is f d z e = plain (after_root before) (eqb (length o) 0) (behind (sites before) d) (tally_of (before ++ f ∷ [])) t (none_open o) (next-is before f (sites before) d (omega (arith, z)) e)

  -- a call, spawn or async of site s
  make_is : (f : Frame) (s : ℕ) → ◌≡◌ {A = ℕ} (sites (f ∷ [])) 0 → length o + 1 ≡ length (step n f o)
      → cond (eqb (length o) 0) (refuse t 7) (cond (eqb s 0) (refuse t 11) (cond (ltb (sites before) s) (refuse t 11) (cond (leb D (length o)) (refuse t 12) (next (behind (sites before) (length o + 1))))))
      ≡ outcome (cond (after_root before) 7 (cond (eqb s 0 || not (declared s before)) 11 (cond (ltb D (suc (length o))) 12 0))) (tally_of (before ++ f ∷ [])) t
  make_is f s z e =
      rw (too_deep_is D (length o))
      (make (after_root before) (eqb (length o) 0) (eqb s 0 || not (declared s before)) (eqb s 0) (ltb (sites before) s) (leb D (length o)) (behind (sites before) (length o + 1)) (tally_of (before ++ f ∷ [])) t
      (none_open o) (next-is before f (sites before) (length o + 1) (omega (arith, z)) e) (undeclared-is before s h))

  pub step_is : (f : Frame) → against ≡ objection before f → stepped D M against (tally_of before) f ≡ judgement D M before f
  step_is (Site s p) g =
      let e : sites before + 1 ≡ suc (last_site 0 before) = omega (arith, h.last) in
      rw e
      (site (after_root before) (eqb (length o) 0) (eqb s (suc (last_site 0 before))) (ltb M s) (placed p before) against (behind (suc (last_site 0 before)) (length o)) (tally_of (before ++ Site s p ∷ [])) t
      (none_open o) (next-is before (Site s p) (suc (last_site 0 before)) (length o) (omega (arith, h.last)) refl) (g ∙ or-false (placed p before)))
  step_is (Call s) g = make_is (Call s) s refl (omega arith)
  step_is (Spawn s) g = make_is (Spawn s) s refl (omega arith)
  step_is Sync g = plain_is Sync (length o) refl refl
  step_is Return g = plain_is Return (length o - 1) refl (closed-length o)
  step_is (Cost v) g = plain_is (Cost v) (length o) refl refl
  step_is (Instructions v) g =
      carry (after_root before) (eqb (length o) 0) (not (after_cost false before)) against (behind (sites before) (length o)) (tally_of (before ++ Instructions v ∷ [])) t
      (none_open o) (next-is before (Instructions v) (sites before) (length o) (omega arith) refl) g
  step_is (Async s) g = make_is (Async s) s refl (omega arith)
  step_is Finish g =
      rw (too_deep_is D (length o))
      (deepen (after_root before) (eqb (length o) 0) (leb D (length o)) (behind (sites before) (length o + 1)) (tally_of (before ++ Finish ∷ [])) t
      (none_open o) (next-is before Finish (sites before) (length o + 1) (omega arith) (omega arith)))
