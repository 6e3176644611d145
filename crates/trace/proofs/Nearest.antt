-- What is open along a trace of asyncs and finishes: the nearest finish, and the asyncs that escape what a line opens.
use mathlib.Core.Path.{◌≡◌, refl, sym, ◌∙◌, ap, subst}
use mathlib.Core.Logic.{◌⊎◌, inl, inr}
use mathlib.Core.Bool.{Bool, true, false, cond, ◌||◌}
use mathlib.Core.List.{List, [], ◌∷◌, ◌++◌}
use Prim.Native.Nat.{ℕ, zero, suc, ◌+◌, ◌≤◌, ◌<◌}
use native.Mathlib.Omega.{arith}
use native.Mathlib.Nat.{le_dest}
use lib.Dec.{T, eqb}
use borrow.Author.Tests.{eqb-true, eq-eqb}
use Rattle.line.specs.declared.Frame.{Frame}
use Rattle.line.specs.declared.Frame.TheVariants.{Call, Async, Finish}
use Rattle.trace.specs.Shape.{Is, root, step, walk, open_at, has, Open}
use Rattle.trace.specs.Async.{is_finish, finish_line, finish, nearest_is, Parallel}
use Rattle.trace.specs.Tree.{Way, Body, child, lines_of, size}
use Rattle.trace.proofs.Basics.{clash, below}
use Rattle.trace.proofs.Declared.{is_one}
use Rattle.trace.proofs.Levels.{in_of}
use Rattle.trace.proofs.Open.{or_cases, or_right, has-cases, has-later, has_here, first_eq, first_of, Low, gone, in_to}
use Rattle.trace.proofs.Context.{Ctx, Rooted, low-walk, has_le, at_open, open_here, keep, below_lt}
use Rattle.trace.proofs.Invocations.{ctx-child, ctx_skip}

-- ── the nearest finish ──

-- the search for the nearest finish stops at x
abbrev stops : List Frame → ℕ → Bool
stops t x = eqb x root || finish t x

nearest-has : (t : List Frame) (F : ℕ) (o : List ℕ) → T (nearest_is t F o) → T (has F o)
nearest-has t F [] h = h
nearest-has t F (x ∷ o) h = go (stops t x) h (nearest-has t F o)
  where
    go : (b : Bool) → T (cond b (eqb F x) (nearest_is t F o)) → (T (nearest_is t F o) → T (has F o)) → T (has F (x ∷ o))
    go true k f = has_here F x o (first_eq F x o k)
    go false k f = has-later F x o (f k)

nearest-stops : (t : List Frame) (F : ℕ) (o : List ℕ) → T (nearest_is t F o) → T (stops t F)
nearest-stops t F [] h = absurd h
nearest-stops t F (x ∷ o) h = go (stops t x) refl h (nearest-stops t F o)
  where
    go : (b : Bool) → stops t x ≡ b → T (cond b (eqb F x) (nearest_is t F o)) → (T (nearest_is t F o) → T (stops t F)) → T (stops t F)
    go true e k f = subst (λ (y : ℕ). T (stops t y)) (sym (first_eq F x o k)) (subst T (sym e) tt)
    go false e k f = f k

-- no finish is nearer
nearest-first : (t : List Frame) (F C n : ℕ) (o : List ℕ) → Low n o → T (has C o) → T (finish t C) → T (nearest_is t F o) → C ≤ F
nearest-first t F C n [] l h q k = absurd h
nearest-first t F C n (x ∷ o) l h q k = go (stops t x) refl k (has-cases C x o h) (λ m. nearest-first t F C n o l.2 m q)
  where
    go : (b : Bool) → stops t x ≡ b → T (cond b (eqb F x) (nearest_is t F o)) → (C ≡ x) ⊎ T (has C o) → (T (has C o) → T (nearest_is t F o) → C ≤ F) → C ≤ F
    go true e k (inl c) f = omega (arith, first_eq F x o k)
    go true e k (inr m) f = omega (arith, first_eq F x o k, below_lt x C o l.1 m)
    go false e k (inl c) f = absurd (subst T e (subst (λ (y : ℕ). T (stops t y)) c (or_right (eqb C root) (finish t C) q)))
    go false e k (inr m) f = f m k

-- the root is one
nearest-some : (t : List Frame) (c : ℕ) (o : List ℕ) → Rooted (c ∷ o) → (F : ℕ) × T (nearest_is t F (c ∷ o))
nearest-some t c [] h =
    let e : stops t c ≡ true = ap (λ (b : Bool). b || finish t c) (eq-eqb c root h) in
    (c, subst (λ (b : Bool). T (cond b (eqb c c) false)) (sym e) (first_of c c [] refl))
nearest-some t c (d ∷ o) h = go (stops t c) (nearest-some t d o h)
  where
    go : (b : Bool) → (F : ℕ) × T (nearest_is t F (d ∷ o)) → (F : ℕ) × T (cond b (eqb F c) (nearest_is t F (d ∷ o)))
    go true k = (c, first_of c c [] refl)
    go false k = k

pub finish-at : (t : List Frame) (n : ℕ) (e : Frame) → Is t n e → finish_line t n ≡ is_finish e
finish-at [] n e h = absurd h
finish-at (x ∷ t) zero e h = ap is_finish h
finish-at (x ∷ t) (suc n) e h = finish-at t n e h

-- ── what is open, from line to line ──

was_open : (X n : ℕ) (o : List ℕ) (u : List Frame) (i : ℕ) → X ≤ n → T (has X (walk n o u i)) → T (has X o)
was_open X n o u i l h = go (has X o) refl
  where
    go : (b : Bool) → has X o ≡ b → T (has X o)
    go true e = subst T (sym e) tt
    go false e = absurd (gone X n o u i l (λ q. subst T e q) h)

walk-back : (X m n i : ℕ) (o : List ℕ) (u : List Frame) → X ≤ m + n → n ≤ i → T (has X (walk m o u i)) → T (has X (walk m o u n))
walk-back X m n i o [] l h k = k
walk-back X m zero i o (e ∷ u) l h k = was_open X m o (e ∷ u) i (omega arith) k
walk-back X m (suc n) zero o (e ∷ u) l h k = absurd (omega arith)
walk-back X m (suc n) (suc i) o (e ∷ u) l h k = walk-back X (suc m) n i (step m e o) u (omega arith) (omega arith) k

-- what was opened before line n and is open at a later line is open at line n
back : (t : List Frame) (X n i : ℕ) → X ≤ n → n ≤ i → Open t X i → Open t X n
back t X n i l h k = walk-back X 0 n i (root ∷ []) t (omega arith) h k

-- what is open at a body's first line is open at all its lines
pub stays : (t : List Frame) (n c : ℕ) (o : List ℕ) (b : Body) (u : List Frame) → Ctx t n (c ∷ o) (lines_of b ++ u) → (X i : ℕ) → n ≤ i → i < n + size b → Open t X n → Open t X i
stays t n c o b u x X i l m h = go (le_dest l)
  where
    v : List Frame
    v = lines_of b ++ u

    go : (j : ℕ) × (n + j ≡ i) → Open t X i
    go w =
        let k = in_of b u w.0 (omega (arith, w.1)) in
        subst (Open t X) w.1 (subst (λ (s : List ℕ). T (has X s)) (sym (at_open t n (c ∷ o) v x w.0))
        (elim (has-cases X c o (subst (λ (s : List ℕ). T (has X s)) (open_here t n (c ∷ o) v x) h)) [
          | inl e ↦ subst (λ (y : ℕ). T (has y (walk n (c ∷ o) v w.0))) (sym e) (in_to c zero n (c ∷ o) v w.0 x.low.0 (refl, x.low.1) k)
          | inr m ↦ keep X c zero n (c ∷ o) v w.0 x.low.0 (below_lt c X o x.low.1 m) (refl, x.low.1) k (has-later X c o m)
        ]))

-- ── asyncs that escape ──

-- an async that line n or a later one opens contains line i, and the nearest finish around it is open already at line n
pub record Escapes (t : List Frame) (n i : ℕ) : Type 0 where
  pub g : ℕ
  pub site : ℕ
  pub F : ℕ
  pub async : Is t g (Async site)
  pub from : n ≤ g
  pub contains : Open t (suc g) i
  pub nearest : T (nearest_is t F (open_at t g))
  pub around : F ≤ n

-- line n opens a child, with line i in it, and line j behind it in the thing that has the child
module _ (t : List Frame) (n c : ℕ) (o : List ℕ) (w : Way) (v : ℕ) (g r : Body) (u : List Frame) (x : Ctx t n (c ∷ o) (lines_of (child w v g r) ++ u)) where
  pub inner : Ctx t (suc n) (suc n ∷ c ∷ o) (lines_of g ++ (lines_of r ++ u))
  inner = ctx-child t n c o w v g r u x

  pub behind : Ctx t (suc n + size g) (c ∷ o) (lines_of r ++ u)
  behind = ctx_skip t g (suc n) (suc n) (c ∷ o) (lines_of r ++ u) inner

  same : open_at t (suc n + size g) ≡ open_at t n
  same = open_here t (suc n + size g) (c ∷ o) (lines_of r ++ u) behind ∙ sym (open_here t n (c ∷ o) (lines_of (child w v g r) ++ u) x)

  module _ (i : ℕ) (li : suc n ≤ i) (hi : i < suc n + size g) where
    -- the child contains it
    pub in_child : Open t (suc n) i
    in_child =
        stays t (suc n) (suc n) (c ∷ o) g (lines_of r ++ u) inner (suc n) i li hi
        (subst (λ (s : List ℕ). T (has (suc n) s)) (sym (open_here t (suc n) (suc n ∷ c ∷ o) (lines_of g ++ (lines_of r ++ u)) inner)) (has_here (suc n) (suc n) (c ∷ o) refl))

    -- LAW: an async escapes itself
    pub async_escapes : Is t n (Async v) → Escapes t n i
    async_escapes a =
        let e = open_here t n (c ∷ o) (lines_of (child w v g r) ++ u) x in
        let k = nearest-some t c o x.rooted in
        let f = subst (λ (s : List ℕ). T (nearest_is t k.0 s)) (sym e) k.1 in
        record { g = n; site = v; F = k.0; async = a; from = omega arith; contains = in_child; nearest = f; around = has_le t n k.0 (nearest-has t k.0 (open_at t n) f) }

    -- LAW: no async escapes a finish
    pub finish-holds : Is t n Finish → Escapes t n i → ⊥
    finish-holds a p = go (below (suc n) p.g)
      where
        go : (p.g < suc n) ⊎ ((k : ℕ) × (p.g ≡ suc n + k)) → ⊥
        go (inl l) =
            let e : p.g ≡ n = omega (arith, p.from) in
            clash (let z = is_one t n Finish (Async p.site) a (subst (λ (k : ℕ). Is t k (Async p.site)) e p.async) in cc)
        go (inr w) =
            let l = has_le t i (suc p.g) p.contains in
            let h : suc n ≤ p.F =
            nearest-first t p.F (suc n) (0 + p.g) (open_at t p.g) (low-walk 0 (root ∷ []) t p.g (omega arith, tt, tt))
            (back t (suc n) p.g i (omega (arith, w.1)) (omega arith) in_child) (subst T (sym (finish-at t n Finish a)) tt) p.nearest in
            omega (arith, p.around)

    module _ (j : ℕ) (lj : suc n + size g ≤ j) (hj : j < suc n + size g + size r) where
      kept : (X : ℕ) → Open t X n → Open t X j
      kept X h = stays t (suc n + size g) c o r u behind X j lj hj (subst (λ (s : List ℕ). T (has X s)) (sym same) h)

      old : (X : ℕ) → X ≤ suc n + size g → Open t X j → X ≤ n
      old X l h = has_le t n X (subst (λ (s : List ℕ). T (has X s)) same (back t X (suc n + size g) j l lj h))

      -- LAW: the two lines are parallel exactly where an async escapes the child
      pub parallel_escapes : Parallel t i j → Escapes t n i
      parallel_escapes p = elim (below n p.g) [
        | inl l ↦ absurd (p.without (kept (suc p.g) (back t (suc p.g) n i (omega arith) (omega arith) p.contains)))
        | inr w ↦ record {
          g = p.g;
          site = p.site;
          F = p.F;
          async = p.async;
          from = omega (arith, w.1);
          contains = p.contains;
          nearest = p.nearest;
          around = old p.F (omega (arith, has_le t p.g p.F (nearest-has t p.F (open_at t p.g) p.nearest), has_le t i (suc p.g) p.contains)) p.still_open;
        }
      ]

      pub escapes_parallel : Escapes t n i → Parallel t i j
      escapes_parallel p =
          record {
            g = p.g;
            site = p.site;
            F = p.F;
            async = p.async;
            contains = p.contains;
            without = λ h. omega (arith, p.from, old (suc p.g) (omega (arith, has_le t i (suc p.g) p.contains)) h);
            nearest = p.nearest;
            still_open = kept p.F (back t p.F n p.g p.around p.from (nearest-has t p.F (open_at t p.g) p.nearest));
          }

-- a call that line m opens, with line n in it directly
module _ (t : List Frame) (m v n : ℕ) (o : List ℕ) (u : List Frame) (x : Ctx t n (suc m ∷ o) u) (a : Is t m (Call v)) where
  -- none of the asyncs from line m on is open there
  none_open : (g s : ℕ) → Is t g (Async s) → m ≤ g → Open t (suc g) n → ⊥
  none_open g s b l h = elim (has-cases (suc g) (suc m) o (subst (λ (y : List ℕ). T (has (suc g) y)) (open_here t n (suc m ∷ o) u x) h)) [
    | inl e ↦ (let d : g ≡ m = omega arith in clash (let z = is_one t m (Call v) (Async s) a (subst (λ (k : ℕ). Is t k (Async s)) d b) in cc))
    | inr k ↦ omega (arith, below_lt (suc m) (suc g) o x.low.1 k)
  ]

  -- LAW: no async of the call contains a line directly in it
  pub none-direct : Escapes t m n → ⊥
  none-direct p = none_open p.g p.site p.async p.from p.contains

  -- LAW: what escapes an item of the call escapes the call, and nothing else does
  pub escapes_call : (i : ℕ) → Escapes t n i → Escapes t m i
  escapes_call i p =
      let h = back t p.F n p.g p.around p.from (nearest-has t p.F (open_at t p.g) p.nearest) in
      record { g = p.g; site = p.site; F = p.F; async = p.async; from = omega (arith, x.low.0, p.from); contains = p.contains; nearest = p.nearest; around = go (has-cases p.F (suc m) o (subst (λ (y : List ℕ). T (has p.F y)) (open_here t n (suc m ∷ o) u x) h)) }
    where
      go : (p.F ≡ suc m) ⊎ T (has p.F o) → p.F ≤ m
      go (inl e) = elim (or_cases (eqb (suc m) root) (finish t (suc m)) (subst (λ (y : ℕ). T (stops t y)) e (nearest-stops t p.F (open_at t p.g) p.nearest))) [
        | inl d ↦ absurd (omega (arith, eqb-true (suc m) root d))
        | inr d ↦ absurd (subst T (finish-at t m (Call v) a) d)
      ]
      go (inr k) = omega (arith, below_lt (suc m) p.F o x.low.1 k)

  pub escapes_item : (i : ℕ) → n ≤ i → Escapes t m i → Escapes t n i
  escapes_item i l p = elim (below n p.g) [
    | inl k ↦ absurd (none_open p.g p.site p.async p.from (back t (suc p.g) n i (omega arith) l p.contains))
    | inr w ↦ record { g = p.g; site = p.site; F = p.F; async = p.async; from = omega (arith, w.1); contains = p.contains; nearest = p.nearest; around = omega (arith, x.low.0, p.around) }
  ]
