-- No rule but refusal 10 sees a place: texts that differ only in places have one verdict, unless one is refused with 10.
use mathlib.Core.Path.{◌≡◌, refl, sym, ◌∙◌, ap, subst}
use mathlib.Core.Logic.{inl, inr}
use mathlib.Core.Bool.{Bool, true, false, not, cond, ◌||◌}
use mathlib.Core.List.{List, [], ◌∷◌, ◌++◌}
use Prim.Native.Nat.{ℕ, zero, suc, ◌+◌, ◌/◌, ◌≤◌, ◌<◌}
use native.Mathlib.Omega.{arith}
use lib.ListN.{length}
use lib.Dec.{eqb, ltb}
use Rattle.std.specs.Prelude.{Ok, Err}
use Rattle.line.specs.declared.Place.{Place}
use Rattle.line.specs.Family.{Family}
use Rattle.line.specs.declared.Frame.{Frame}
use Rattle.line.specs.declared.Frame.TheVariants.{Site}
use Rattle.line.specs.Read.{read_at_of, Read, says}
use Rattle.trace.specs.Shape.{if_site, if_makes, if_opens, if_instructions, root, step, walk, open_at, sites}
use Rattle.trace.specs.Refusals.{line_count, checks, open_now, empty, after_root, is_cost, after_cost, stray, last_site, misplaced, above_m, place_again, declared, undeclared, too_deep, fault, Verdict, accepted, refused, judged, scan, reads_from_of, reads_of, verdict_of}
use Rattle.trace.specs.Places.{Alike, OnlyPlaces}
use Rattle.trace.proofs.Basics.{no_way}
use Rattle.trace.proofs.Cases.{by-site, other, both_ways, makes-same}

-- a frame without its place
abbrev pub blank : Frame → Frame
blank f = if_site (λ s p. Site s (record { file = 0; line = 0; column = 0 })) f f

abbrev pub blanks : List Frame → List Frame
blanks [] = []
blanks (e ∷ t) = blank e ∷ blanks t

-- the frames of two traces that differ only in places
abbrev pub ButPlaces : List Frame → List Frame → Type 0
ButPlaces t u = blanks t ≡ blanks u

pub blanks-append : (u v : List Frame) → blanks (u ++ v) ≡ blanks u ++ blanks v
blanks-append [] v = refl
blanks-append (e ∷ u) v = ap (λ (l : List Frame). blank e ∷ l) (blanks-append u v)

pub blanks-length : (u : List Frame) → length (blanks u) ≡ length u
blanks-length [] = refl
blanks-length (e ∷ u) = ap suc (blanks-length u)

-- ── what a line says without its place ──

-- what does not look at a site line's place
pub unseen : {A : Type 0} (g : Frame → A) → ((s : ℕ) (p q : Place) → g (Site s p) ≡ g (Site s q)) → (f : Frame) → g (blank f) ≡ g f
unseen g h f = by-site (λ e. g (blank e) ≡ g e) (λ s p. h s (record { file = 0; line = 0; column = 0 }) p) (λ e n. ap g (other (λ s p. Site s (record { file = 0; line = 0; column = 0 })) e e n)) f

step-blank : (n : ℕ) (f : Frame) (o : List ℕ) → step n (blank f) o ≡ step n f o
step-blank n f o = unseen (λ e. step n e o) (λ s p q. refl) f

makes-blank : {A : Type 0} (a : ℕ → A) (b : A) (f : Frame) → if_makes a b (blank f) ≡ if_makes a b f
makes-blank a b f = unseen (if_makes a b) (λ s p q. refl) f

opens_blank : {A : Type 0} (a b : A) (f : Frame) → if_opens a b (blank f) ≡ if_opens a b f
opens_blank a b f = unseen (if_opens a b) (λ s p q. refl) f

-- ── what all lines say without their places ──

walk-blank : (n : ℕ) (o : List ℕ) (t : List Frame) (j : ℕ) → walk n o (blanks t) j ≡ walk n o t j
walk-blank n o [] j = refl
walk-blank n o (e ∷ t) zero = refl
walk-blank n o (e ∷ t) (suc j) =
    ap (λ (p : List ℕ). walk (suc n) p (blanks t) j) (step-blank n e o)
    ∙ walk-blank (suc n) (step n e o) t j

now-blank : (t : List Frame) → open_now (blanks t) ≡ open_now t
now-blank t = ap (open_at (blanks t)) (blanks-length t) ∙ walk-blank 0 (root ∷ []) t (length t)

pub sites-blank : (t : List Frame) → sites (blanks t) ≡ sites t
sites-blank [] = refl
sites-blank (f ∷ t) = unseen (λ e. sites (e ∷ blanks t)) (λ s p q. refl) f ∙ ap (λ (n : ℕ). if_site (λ s p. suc n) n f) (sites-blank t)

cost-blank : (b : Bool) (t : List Frame) → after_cost b (blanks t) ≡ after_cost b t
cost-blank b [] = refl
cost-blank b (f ∷ t) =
    ap (λ (c : Bool). after_cost c (blanks t)) (unseen is_cost (λ s p q. refl) f) ∙ cost-blank (is_cost f) t

stray-blank : (t : List Frame) (f : Frame) → stray (blanks t) (blank f) ≡ stray t f
stray-blank t f =
    unseen (stray (blanks t)) (λ s p q. refl) f
    ∙ ap (λ (c : Bool). if_instructions (λ v. not c) false f) (cost-blank false t)

last-blank : (n : ℕ) (t : List Frame) → last_site n (blanks t) ≡ last_site n t
last-blank n [] = refl
last-blank n (f ∷ t) =
    unseen (λ e. last_site n (e ∷ blanks t)) (λ s p q. refl) f
    ∙ both_ways (λ (x y : ℕ). x ≡ y) f (λ s p. last-blank s t) (last-blank n t)

declared-blank : (s : ℕ) (t : List Frame) → declared s (blanks t) ≡ declared s t
declared-blank s [] = refl
declared-blank s (f ∷ t) =
    unseen (λ e. declared s (e ∷ blanks t)) (λ i p q. refl) f
    ∙ ap (λ (b : Bool). if_site (λ i p. eqb s i || b) b f) (declared-blank s t)

misplaced-blank : (t : List Frame) (f : Frame) → misplaced (blanks t) (blank f) ≡ misplaced t f
misplaced-blank t f =
    unseen (misplaced (blanks t)) (λ s p q. refl) f
    ∙ ap (λ (n : ℕ). if_site (λ s p. not (eqb s (suc n))) false f) (last-blank 0 t)

above-blank : (M : ℕ) (f : Frame) → above_m M (blank f) ≡ above_m M f
above-blank M f = unseen (above_m M) (λ s p q. refl) f

undeclared-blank : (t : List Frame) (f : Frame) → undeclared (blanks t) (blank f) ≡ undeclared t f
undeclared-blank t f =
    makes-blank (λ s. eqb s 0 || not (declared s (blanks t))) false f
    ∙ makes-same (λ s. eqb s 0 || not (declared s (blanks t))) (λ s. eqb s 0 || not (declared s t)) false f
    (λ s. ap (λ (b : Bool). eqb s 0 || not b) (declared-blank s t))

deep-blank : (D : ℕ) (t : List Frame) (f : Frame) → too_deep D (blanks t) (blank f) ≡ too_deep D t f
deep-blank D t f =
    ap (λ (o : List ℕ). if_opens (ltb D (suc (length o))) false (blank f)) (now-blank t)
    ∙ opens_blank (ltb D (suc (length (open_now t)))) false f

-- ── the refusals of a line ──

-- the first of 7, 22 and 8 to 12 that applies, by what applies
abbrev first : Bool → Bool → Bool → Bool → Bool → Bool → Bool → ℕ
first a b c d e f g = cond a 7 (cond b 22 (cond c 8 (cond d 9 (cond e 10 (cond f 11 (cond g 12 0))))))

first_but_ten : (a b c d e k f g : Bool) → ¬ (first a b c d e f g ≡ 10) → ¬ (first a b c d k f g ≡ 10)
    → first a b c d e f g ≡ first a b c d k f g
first_but_ten true b c d e k f g h i = refl
first_but_ten false true c d e k f g h i = refl
first_but_ten false false true d e k f g h i = refl
first_but_ten false false false true e k f g h i = refl
first_but_ten false false false false true k f g h i = absurd (h refl)
first_but_ten false false false false false true f g h i = absurd (i refl)
first_but_ten false false false false false false f g h i = refl

module _ (D M : ℕ) (t u : List Frame) (f g : Frame) (d : ButPlaces t u) (e : blank f ≡ blank g) where
  snoc_alike : ButPlaces (t ++ f ∷ []) (u ++ g ∷ [])
  snoc_alike =
      blanks-append t (f ∷ [])
      ∙ ap (λ (l : List Frame). l ++ blank f ∷ []) d
      ∙ ap (λ (h : Frame). blanks u ++ h ∷ []) e
      ∙ sym (blanks-append u (g ∷ []))

  -- what is the same of lines and a line without their places is the same of both
  of-both : {A : Type 0} (s : List Frame → Frame → A)
      → ((v : List Frame) (h : Frame) → s (blanks v) (blank h) ≡ s v h) → s t f ≡ s u g
  of-both s k = sym (k t f) ∙ ap (λ (v : List Frame). s v (blank f)) d ∙ ap (s (blanks u)) e ∙ k u g

  seven_alike : after_root t ≡ after_root u
  seven_alike = of-both (λ v h. after_root v) (λ v h. ap empty (now-blank v))

  stray_alike : stray t f ≡ stray u g
  stray_alike = of-both stray stray-blank

  eight_alike : misplaced t f ≡ misplaced u g
  eight_alike = of-both misplaced misplaced-blank

  nine_alike : above_m M f ≡ above_m M g
  nine_alike = of-both (λ v h. above_m M h) (λ v h. above-blank M h)

  eleven_alike : undeclared t f ≡ undeclared u g
  eleven_alike = of-both undeclared undeclared-blank

  twelve_alike : too_deep D t f ≡ too_deep D u g
  twelve_alike = of-both (too_deep D) (deep-blank D)

  -- the refusal of both lines, where 10 applies to both or to neither
  first_alike : (k : Bool)
      → first (after_root t) (stray t f) (misplaced t f) (above_m M f) k (undeclared t f) (too_deep D t f)
      ≡ first (after_root u) (stray u g) (misplaced u g) (above_m M g) k (undeclared u g) (too_deep D u g)
  first_alike k = rw (seven_alike, stray_alike, eight_alike, nine_alike, eleven_alike, twelve_alike)

  -- LAW: but for 10, the same refusal applies to both lines
  fault_alike : ¬ (fault D M t f ≡ 10) → ¬ (fault D M u g ≡ 10) → fault D M t f ≡ fault D M u g
  fault_alike h i =
      let one = first_alike (place_again u g) in
      first_but_ten (after_root t) (stray t f) (misplaced t f) (above_m M f) (place_again t f) (place_again u g) (undeclared t f) (too_deep D t f)
      h (λ q. i (sym one ∙ q))
      ∙ one

-- ── the verdict ──

-- both accepted, with frames that differ only in places, or one refusal
abbrev pub SameVerdict : Verdict → Verdict → Type 0
SameVerdict (accepted t) (accepted u) = ButPlaces t u
SameVerdict (accepted t) (refused n k) = ⊥
SameVerdict (refused n k) (accepted u) = ⊥
SameVerdict (refused n k) (refused m l) = (n ≡ m) × (k ≡ l)

abbrev pub NotTen : Verdict → Type 0
NotTen v = (line : ℕ) → ¬ (v ≡ refused 10 line)

-- two readings that are the same but for a site's place
abbrev SameRead : Read → Read → Type 0
SameRead (Ok x) (Ok y) = (x.number ≡ y.number) × (blank x.frame ≡ blank y.frame)
SameRead (Ok x) (Err q) = ⊥
SameRead (Err r) (Ok y) = ⊥
SameRead (Err r) (Err q) = (r.number ≡ q.number) × (r.line ≡ q.line)

same_self : (r : Read) → SameRead r r
same_self (Ok x) = (refl, refl)
same_self (Err r) = (refl, refl)

alike_same : (g : Family) (s z : List ℕ) (n : ℕ) → Alike g s z n → SameRead (read_at_of g s n) (read_at_of g z n)
alike_same g s z n (inl e) = subst (SameRead (read_at_of g s n)) e (same_self (read_at_of g s n))
alike_same g s z n (inr w) =
    subst (λ (r : Read). SameRead r (read_at_of g z n)) (sym w.reads_one)
    (subst (SameRead (says n (Site w.number w.place))) (sym w.reads_other) (refl, refl))

-- what comes of line n with this fault, where v is the verdict without one
abbrev faulted : ℕ → ℕ → Verdict → Verdict
faulted n a v = cond (eqb a 0) v (refused a n)

faulted-same : (n m a c : ℕ) (v w : Verdict) → n ≡ m → a ≡ c → (NotTen v → NotTen w → SameVerdict v w)
    → NotTen (faulted n a v) → NotTen (faulted m c w) → SameVerdict (faulted n a v) (faulted m c w)
faulted-same n m a c v w e q k h =
    subst (λ (x : ℕ). NotTen (faulted m x w) → SameVerdict (faulted n a v) (faulted m x w)) q (go (eqb a 0) h)
  where
    go : (b : Bool) → NotTen (cond b v (refused a n)) → NotTen (cond b w (refused a m))
        → SameVerdict (cond b v (refused a n)) (cond b w (refused a m))
    go true h i = k h i
    go false h i = (refl, e)

-- one line of both texts, and those behind it
judged-same : (D M : ℕ) (t u : List Frame) (on on' : Frame → Verdict) → ButPlaces t u
    → ((f g : Frame) → blank f ≡ blank g → NotTen (on f) → NotTen (on' g) → SameVerdict (on f) (on' g))
    → (r q : Read) → SameRead r q → NotTen (judged D M t r on) → NotTen (judged D M u q on')
    → SameVerdict (judged D M t r on) (judged D M u q on')
judged-same D M t u on on' d rec (Err r) (Err q) e h i = e
judged-same D M t u on on' d rec (Err r) (Ok y) e h i = absurd e
judged-same D M t u on on' d rec (Ok x) (Err q) e h i = absurd e
judged-same D M t u on on' d rec (Ok x) (Ok y) e h i =
    let c = fault_alike D M t u x.frame y.frame d e.1
    (λ a. h x.number (ap (λ (j : ℕ). faulted x.number j (on x.frame)) a)) (λ a. i y.number (ap (λ (j : ℕ). faulted y.number j (on' y.frame)) a)) in
    faulted-same x.number y.number (fault D M t x.frame) (fault D M u y.frame) (on x.frame) (on' y.frame) e.0 c (rec x.frame y.frame e.1) h i

scan-same : (x : Family) (D M : ℕ) (s z : List ℕ) (t u : List Frame) (n count : ℕ) → ButPlaces t u
    → ((i : ℕ) → n ≤ i → i < n + count → Alike x s z i)
    → NotTen (scan D M t (reads_from_of x s n count)) → NotTen (scan D M u (reads_from_of x z n count))
    → SameVerdict (scan D M t (reads_from_of x s n count)) (scan D M u (reads_from_of x z n count))
scan-same x D M s z t u n zero d l h i =
    go (after_root t) (after_root u) (sym (ap empty (now-blank t)) ∙ ap after_root d ∙ ap empty (now-blank u))
  where
    go : (a b : Bool) → a ≡ b
        → SameVerdict (cond a (accepted t) (refused 14 (length t))) (cond b (accepted u) (refused 14 (length u)))
    go true true e = d
    go true false e = no_way (sym e)
    go false true e = no_way e
    go false false e = (refl, sym (blanks-length t) ∙ ap length d ∙ blanks-length u)
scan-same x D M s z t u n (suc count) d l h i =
    judged-same D M t u
    (λ f. scan D M (t ++ f ∷ []) (reads_from_of x s (suc n) count)) (λ f. scan D M (u ++ f ∷ []) (reads_from_of x z (suc n) count)) d
    (λ f g e. scan-same x D M s z (t ++ f ∷ []) (u ++ g ∷ []) (suc n) count
    (snoc_alike D M t u f g d e) (λ j a b. l j (omega arith) (omega arith)))
    (read_at_of x s n) (read_at_of x z n) (alike_same x s z n (l n (omega arith) (omega arith))) h i

-- the lines decide, or the checks gave n
decided-same : (b : Bool) (n : ℕ) (v w : Verdict) → (NotTen v → NotTen w → SameVerdict v w)
    → NotTen (cond b v (refused n 0)) → NotTen (cond b w (refused n 0))
    → SameVerdict (cond b v (refused n 0)) (cond b w (refused n 0))
decided-same true n v w k h i = k h i
decided-same false n v w k h i = (refl, refl)

-- LAW: two texts that differ only in places have one verdict, unless one is refused with 10
pub verdict-same : (x : Family) (s z : List ℕ) (D M : ℕ) (room : Bool) → OnlyPlaces x s z
    → NotTen (verdict_of x s D M room) → NotTen (verdict_of x z D M room) → SameVerdict (verdict_of x s D M room) (verdict_of x z D M room)
verdict-same x s z D M room d h =
    subst (λ (v : Verdict). NotTen v → SameVerdict (verdict_of x s D M room) v) (ap of_length d.same_length)
    (decided-same (eqb (checks (length s) D M room) 0) (checks (length s) D M room)
    (scan D M [] (reads_of x s)) (scan D M [] (reads_from_of x z 0 (line_count s)))
    (scan-same x D M s z [] [] 0 (line_count s) refl (λ n a b. d.lines n (omega arith))) h)
  where
    -- the verdict on z, were it of this length
    of_length : ℕ → Verdict
    of_length k = cond (eqb (checks k D M room) 0) (scan D M [] (reads_from_of x z 0 (k / 23))) (refused (checks k D M room) 0)
