-- No two sites share a row: an accepted site line has the number of the sites before it and one more, and its place is
-- its own.
use mathlib.Core.Path.{◌≡◌, refl, sym, ◌∙◌, ap, subst}
use mathlib.Core.Bool.{Bool, true, false, ◌&&◌, ◌||◌, or-true}
use mathlib.Core.List.{List, [], ◌∷◌, ◌++◌, append-nil}
use Prim.Native.Nat.{ℕ, zero, suc, ◌<◌}
use native.Mathlib.Omega.{arith}
use lib.ListN.{take}
use lib.Seq.{append_snoc}
use lib.Dec.{eqb}
use borrow.Author.Tests.{eqb-true, eq-eqb}
use Rattle.line.specs.declared.Place.{Place}
use Rattle.line.specs.Family.{Family}
use Rattle.line.specs.declared.Frame.{Frame}
use Rattle.line.specs.declared.Frame.TheVariants.{Site}
use Rattle.trace.specs.Shape.{Is, sites}
use Rattle.trace.specs.Refusals.{misplaced, same_place, placed, place_again}
use Rattle.trace.proofs.Basics.{no_way, both}
use Rattle.trace.proofs.Cases.{by-site, other, either_way, both_ways}
use Rattle.trace.proofs.Scan.{Clean, faultless, Fine}
use Rattle.trace.proofs.Sites.{number_is, Numbered, numbered-start, numbered_snoc}

-- a line is one frame
pub is_one : (t : List Frame) (k : ℕ) (f g : Frame) → Is t k f → Is t k g → f ≡ g
is_one [] k f g h i = absurd h
is_one (e ∷ t) zero f g h i = sym h ∙ i
is_one (e ∷ t) (suc k) f g h i = is_one t k f g h i

-- ── numbers ──

-- the lines before a line that passes number their sites, and refusal 8 does not apply to it
record InOrder (before : List Frame) (f : Frame) : Type 0 where
  numbered : Numbered before
  not8 : misplaced before f ≡ false

in_order : (x : Family) (D M : ℕ) (before u : List Frame) → Clean x D M before u → Numbered before → (k : ℕ) (f : Frame) → Is u k f → InOrder (before ++ take k u) f
in_order x D M before [] c n k f i = absurd i
in_order x D M before (e ∷ u) c n zero f i =
    subst (λ (b : List Frame). InOrder b f) (sym (append-nil before)) (record { numbered = n; not8 = subst (λ (g : Frame). misplaced before g ≡ false) i (faultless D M before e c.0).not8 })
in_order x D M before (e ∷ u) c n (suc k) f i =
    subst (λ (b : List Frame). InOrder b f) (append_snoc before e (take k u))
    (in_order x D M (before ++ e ∷ []) u c.2 (numbered_snoc before e (faultless D M before e c.0).not8 n) k f i)

-- a site line counts from the next line on
counts : (t : List Frame) (i j s : ℕ) (p : Place) → Is t i (Site s p) → i < j → sites (take i t) < sites (take j t)
counts [] i j s p a l = absurd a
counts (f ∷ t) i zero s p a l = absurd (omega arith)
counts (f ∷ t) zero (suc j) s p a l = subst (λ (g : Frame). 0 < sites (g ∷ take j t)) (sym a) (omega arith)
counts (f ∷ t) (suc i) (suc j) s p a l =
    let r = counts t i j s p a (omega arith) in
    both_ways (λ (x y : ℕ). x < y) f (λ u q. omega (arith, r)) r

one_line : (i j : ℕ) → (i < j → ⊥) → (j < i → ⊥) → i ≡ j
one_line i j a b = omega (arith, a, b)

-- ── places ──

same_place_lem : (p : Place) → same_place p p ≡ true
same_place_lem p = simp (eq-eqb p.file p.file refl, eq-eqb p.line p.line refl, eq-eqb p.column p.column refl)

-- file, line and column are the whole place
place_is : (p q : Place) → same_place p q ≡ true → p ≡ q
place_is p q h =
    let x = both (eqb p.file q.file && eqb p.line q.line) (eqb p.column q.column) h in
    let y = both (eqb p.file q.file) (eqb p.line q.line) x.0 in
    ap (λ (n : ℕ). record { file = n; line = p.line; column = p.column }) (eqb-true p.file q.file y.0)
    ∙ ap (λ (n : ℕ). record { file = q.file; line = n; column = p.column }) (eqb-true p.line q.line y.1)
    ∙ ap (λ (n : ℕ). record { file = q.file; line = q.line; column = n }) (eqb-true p.column q.column x.1)

later : (p : Place) (e : Frame) (b : List Frame) → (i : ℕ) × (s : ℕ) × Is b i (Site s p) → (i : ℕ) × (s : ℕ) × Is (e ∷ b) i (Site s p)
later p e b w = (suc w.0, w.1, w.2)

-- LAW: refusal 10 is given only where an earlier site line has the same place
pub placed-is : (p : Place) (b : List Frame) → placed p b ≡ true → (i : ℕ) × (s : ℕ) × Is b i (Site s p)
placed-is p [] h = no_way h
placed-is p (f ∷ b) h =
    by-site (λ g. placed p (g ∷ b) ≡ true → (i : ℕ) × (s : ℕ) × Is (g ∷ b) i (Site s p)) (λ s q k. go s q (same_place p q) refl (placed-is p b) k)
    (λ g n k. later p g b (placed-is p b (sym (other (λ s q. same_place p q || placed p b) (placed p b) g n) ∙ k))) f h
  where
    go : (s : ℕ) (q : Place) (x : Bool) → same_place p q ≡ x → (placed p b ≡ true → (i : ℕ) × (u : ℕ) × Is b i (Site u p)) → (x || placed p b) ≡ true → (i : ℕ) × (u : ℕ) × Is (Site s q ∷ b) i (Site u p)
    go s q true e r k = (zero, s, ap (Site s) (sym (place_is p q e)))
    go s q false e r k = later p (Site s q) b (r k)

or_more : (x a b : Bool) → (a ≡ true → b ≡ true) → (x || a) ≡ true → (x || b) ≡ true
or_more true a b h k = refl
or_more false a b h k = h k

placed-more : (p : Place) (b u : List Frame) → placed p b ≡ true → placed p (b ++ u) ≡ true
placed-more p [] u h = no_way h
placed-more p (f ∷ b) u h =
    both_ways (λ (x y : Bool). x ≡ true → y ≡ true) f (λ s q. or_more (same_place p q) (placed p b) (placed p (b ++ u)) (placed-more p b u)) (placed-more p b u) h

placed-last : (p : Place) (s : ℕ) (b : List Frame) → placed p (b ++ Site s p ∷ []) ≡ true
placed-last p s [] = ap (λ (x : Bool). x || false) (same_place_lem p)
placed-last p s (f ∷ b) =
    either_way (λ (x : Bool). x ≡ true) f (λ i q. ap (λ (x : Bool). same_place p q || x) (placed-last p s b) ∙ or-true (same_place p q)) (placed-last p s b)

-- a place that was declared is not declared again
not_again : (x : Family) (D M : ℕ) (before u : List Frame) → Clean x D M before u → (p : Place) → placed p before ≡ true → (k s : ℕ) → Is u k (Site s p) → ⊥
not_again x D M before [] c p d k s i = i
not_again x D M before (f ∷ u) c p d zero s i = no_way (sym (subst (λ (g : Frame). place_again before g ≡ false) i (faultless D M before f c.0).not10) ∙ d)
not_again x D M before (f ∷ u) c p d (suc k) s i = not_again x D M (before ++ f ∷ []) u c.2 p (placed-more p before (f ∷ []) d) k s i

once : (x : Family) (D M : ℕ) (before t : List Frame) → Clean x D M before t → (i j s u : ℕ) (p : Place) → Is t i (Site s p) → Is t j (Site u p) → i < j → ⊥
once x D M before [] c i j s u p a b l = a
once x D M before (f ∷ t) c i zero s u p a b l = omega arith
once x D M before (f ∷ t) c zero (suc j) s u p a b l =
    not_again x D M (before ++ f ∷ []) t c.2 p (subst (λ (g : Frame). placed p (before ++ g ∷ []) ≡ true) (sym a) (placed-last p s before)) j u b
once x D M before (f ∷ t) c (suc i) (suc j) s u p a b l = once x D M (before ++ f ∷ []) t c.2 i j s u p a b (omega arith)

module _ (x : Family) (D M : ℕ) (t : List Frame) (f : Fine x D M t) where
  passed : (i s : ℕ) (p : Place) → Is t i (Site s p) → InOrder (take i t) (Site s p)
  passed i s p a = in_order x D M [] t f.clean numbered-start i (Site s p) a

  -- LAW: site lines are numbered 1, 2, 3 and on: a site line's number is one above the number of sites before it
  pub site-number : (i s : ℕ) (p : Place) → Is t i (Site s p) → s ≡ suc (sites (take i t))
  site-number i s p a = let x = passed i s p a in omega (arith, number_is (take i t) s p x.not8, x.numbered.last)

  -- LAW: no two sites share a row: two site lines with one number are one line, with one place
  pub row_once : (i j s : ℕ) (p q : Place) → Is t i (Site s p) → Is t j (Site s q) → (i ≡ j) × (p ≡ q)
  row_once i j s p q a b =
      let x = site-number i s p a in
      let y = site-number j s q b in
      let e = one_line i j (λ l. omega (arith, counts t i j s p a l)) (λ l. omega (arith, counts t j i s q b l)) in
      (e, (let z = is_one t j (Site s p) (Site s q) (subst (λ (k : ℕ). Is t k (Site s p)) e a) b in cc))

  -- LAW: "No two have the same place."
  pub place_once : (i j s u : ℕ) (p : Place) → Is t i (Site s p) → Is t j (Site u p) → i ≡ j
  place_once i j s u p a b = one_line i j (once x D M [] t f.clean i j s u p a b) (once x D M [] t f.clean j i u s p b a)
