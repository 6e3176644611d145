-- Site lines: how many there are, and that they are numbered 1, 2, 3 and on.
use mathlib.Core.Path.{◌≡◌, refl, sym, ◌∙◌, ap, subst}
use mathlib.Core.Bool.{Bool, true, false, ◌||◌, or-false, or_assoc}
use mathlib.Core.List.{List, [], ◌∷◌, ◌++◌, append-nil}
use Prim.Native.Nat.{ℕ, zero, suc, ◌+◌, ◌≤◌}
use native.Mathlib.Omega.{arith}
use lib.ListN.{length}
use lib.Seq.{append_snoc}
use lib.Dec.{eqb, leb}
use borrow.Author.Tests.{eqb-true, eqb-false, ltb-false, leb-true, leb-false, le-leb, lt-leb, not-false}
use Rattle.line.specs.declared.Place.{Place}
use Rattle.line.specs.Family.{Family}
use Rattle.line.specs.declared.Frame.{Frame}
use Rattle.line.specs.declared.Frame.TheVariants.{Site}
use Rattle.trace.specs.Shape.{if_site, sites}
use Rattle.trace.specs.Refusals.{last_site, misplaced, above_m, declared}
use Rattle.trace.proofs.Cases.{NotSite, by-site, other, either_way, both_ways}
use Rattle.trace.proofs.Scan.{Clean, faultless}

-- a line that is no site line adds none
pub sites-other : (f : Frame) (t : List Frame) → NotSite f → sites (f ∷ t) ≡ sites t
sites-other f t h = other (λ s p. suc (sites t)) (sites t) f h

pub sites-append : (t u : List Frame) → sites (t ++ u) ≡ sites t + sites u
sites-append [] u = omega arith
sites-append (f ∷ t) u = both_ways (λ (x y : ℕ). x ≡ y + sites u) f (λ s p. omega (arith, sites-append t u)) (sites-append t u)

pub sites_le : (t : List Frame) → sites t ≤ length t
sites_le [] = omega arith
sites_le (f ∷ t) = either_way (λ (x : ℕ). x ≤ suc (length t)) f (λ s p. omega (arith, sites_le t)) (omega (arith, sites_le t))

-- what refusal 8 leaves of a site line: its number
pub number_is : (before : List Frame) (s : ℕ) (p : Place) → misplaced before (Site s p) ≡ false → s ≡ suc (last_site 0 before)
number_is before s p m = eqb-true s (suc (last_site 0 before)) (not-false (eqb s (suc (last_site 0 before))) m)

-- ── numbered 1, 2, 3 and on, over any lines ──

pub record Numbered (before : List Frame) : Type 0 where
  pub last : last_site 0 before ≡ sites before
  pub each : (s : ℕ) → 1 ≤ s → declared s before ≡ leb s (sites before)

pub numbered-start : Numbered []
numbered-start = record { last = refl; each = λ s l. sym (lt-leb s 0 (omega arith)) }

-- the sites of such lines are those that are declared
pub declared-upto : (b : List Frame) → Numbered b → (s : ℕ) → declared s b ≡ true → s ≤ sites b
declared-upto b h zero d = omega arith
declared-upto b h (suc s) d = leb-true (suc s) (sites b) (sym (h.each (suc s) (omega arith)) ∙ d)

pub last_snoc : (b : List Frame) (n : ℕ) (f : Frame) → last_site n (b ++ f ∷ []) ≡ if_site (λ s p. s) (last_site n b) f
last_snoc [] n f = refl
last_snoc (e ∷ b) n f = both_ways (λ (x y : ℕ). x ≡ if_site (λ s p. s) y f) e (λ s p. last_snoc b s f) (last_snoc b n f)

declared_snoc : (b : List Frame) (x : ℕ) (f : Frame) → declared x (b ++ f ∷ []) ≡ (declared x b || declared x (f ∷ []))
declared_snoc [] x f = refl
declared_snoc (e ∷ b) x f =
    both_ways (λ (y z : Bool). y ≡ (z || declared x (f ∷ []))) e
    (λ s p. ap (λ (y : Bool). eqb x s || y) (declared_snoc b x f) ∙ sym (or_assoc (eqb x s) (declared x b) (declared x (f ∷ [])))) (declared_snoc b x f)

-- among n, or the next one
one_more : (x n : ℕ) → (leb x n || eqb x (suc n)) ≡ leb x (suc n)
one_more x n = go (leb x n) (eqb x (suc n)) refl refl
  where
    go : (a b : Bool) → leb x n ≡ a → eqb x (suc n) ≡ b → (a || b) ≡ leb x (suc n)
    go true b e f = sym (le-leb x (suc n) (omega (arith, leb-true x n e)))
    go false true e f = sym (le-leb x (suc n) (omega (arith, eqb-true x (suc n) f)))
    go false false e f = sym (lt-leb x (suc n) (omega (arith, leb-false x n e, eqb-false x (suc n) f)))

-- LAW: a line that refusal 8 passes keeps the sites numbered
pub numbered_snoc : (before : List Frame) (f : Frame) → misplaced before f ≡ false → Numbered before → Numbered (before ++ f ∷ [])
numbered_snoc before f m h = by-site (λ g. misplaced before g ≡ false → Numbered (before ++ g ∷ [])) a-site another f m
  where
    a-site : (s : ℕ) (p : Place) → misplaced before (Site s p) ≡ false → Numbered (before ++ Site s p ∷ [])
    a-site s p m =
        let k : s ≡ suc (sites before) = omega (arith, number_is before s p m, h.last) in
        let e : sites (before ++ Site s p ∷ []) ≡ suc (sites before) = omega (arith, sites-append before (Site s p ∷ [])) in
        record {
          last = last_snoc before 0 (Site s p) ∙ k ∙ sym e;
          each = λ x l.
              declared_snoc before x (Site s p)
              ∙ ap (λ (y : Bool). declared x before || y) (or-false (eqb x s))
              ∙ ap (λ (y : Bool). y || eqb x s) (h.each x l)
              ∙ ap (λ (z : ℕ). leb x (sites before) || eqb x z) k
              ∙ one_more x (sites before)
              ∙ ap (leb x) (sym e);
        }

    another : (g : Frame) → NotSite g → misplaced before g ≡ false → Numbered (before ++ g ∷ [])
    another g n m =
        let e : sites (before ++ g ∷ []) ≡ sites before = omega (arith, sites-append before (g ∷ []), sites-other g [] n) in
        record {
          last = last_snoc before 0 g ∙ other (λ s p. s) (last_site 0 before) g n ∙ h.last ∙ sym e;
          each = λ s l.
              declared_snoc before s g
              ∙ ap (λ (y : Bool). declared s before || y) (other (λ i p. eqb s i || false) false g n)
              ∙ or-false (declared s before)
              ∙ h.each s l
              ∙ ap (leb s) (sym e);
        }

-- and refusal 9 keeps them within M
pub within_snoc : (M : ℕ) (before : List Frame) (f : Frame) → misplaced before f ≡ false → above_m M f ≡ false → Numbered before → sites before ≤ M → sites (before ++ f ∷ []) ≤ M
within_snoc M before f m a h l =
    by-site (λ g. misplaced before g ≡ false → above_m M g ≡ false → sites (before ++ g ∷ []) ≤ M)
    (λ s p m a. omega (arith, ltb-false M s a, number_is before s p m, h.last, sites-append before (Site s p ∷ [])))
    (λ g n m a. omega (arith, sites-append before (g ∷ []), sites-other g [] n)) f m a

-- lines that pass have their sites within M
pub clean-sites : (g : Family) (D M : ℕ) (before t : List Frame) → Clean g D M before t → Numbered before → sites before ≤ M → sites (before ++ t) ≤ M
clean-sites g D M before [] c h l = subst (λ (u : List Frame). sites u ≤ M) (sym (append-nil before)) l
clean-sites g D M before (f ∷ t) c h l =
    let w = faultless D M before f c.0 in
    subst (λ (u : List Frame). sites u ≤ M) (append_snoc before f t)
    (clean-sites g D M (before ++ f ∷ []) t c.2 (numbered_snoc before f w.not8 h) (within_snoc M before f w.not8 w.not9 h l))
