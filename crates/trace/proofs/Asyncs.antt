-- In a body of the finish family two costs of the plan are apart exactly where their lines are parallel.
use mathlib.Core.Path.{◌≡◌, refl, sym, subst}
use mathlib.Core.Logic.{◌⊎◌, inl, inr}
use mathlib.Core.List.Memᴰ
use mathlib.Core.List.{List, ◌∷◌, ◌++◌, Memᴰ}
use Prim.Native.Nat.{ℕ, suc, ◌+◌}
use native.Mathlib.Omega.{arith}
use Rattle.line.specs.Family.{Finishes}
use Rattle.line.specs.declared.Frame.{Frame}
use Rattle.line.specs.declared.Frame.TheVariants.{Call}
use Rattle.chain.specs.Plan.{CostLine, Plan, none, costs, Less, On, Apart}
use Rattle.trace.specs.Shape.{Is, Open}
use Rattle.trace.specs.Async.{Parallel}
use Rattle.trace.specs.Tree.{Way, call, spawn, async, pass, finish, opening, spend, sync, note, Body, done, leaf, child, WayOf, Of, lines_of, size}
use Rattle.trace.specs.Fold.{Rest, nil, all, together, plan_to, plan}
use Rattle.trace.proofs.Plans.{costs-to, on-two, two-on, on-leaf, leaf-on, rest-of-leaf, leaf-of-rest, on-range}
use Rattle.trace.proofs.Context.{Ctx, first-is}
use Rattle.trace.proofs.Invocations.{ctx-leaf}
use Rattle.trace.proofs.Nearest.{stays, Escapes, inner, behind, async_escapes, finish-holds, parallel_escapes, escapes_parallel, none-direct, escapes_call, escapes_item}

-- ── by the tree ──

-- a cost of a child runs on beside what follows the child. M: it is one of the child's; L: it runs on beside what
-- follows the child's body.
abbrev RunsOn : Way → Type 0 → Type 0 → Type 0
RunsOn call M L = ⊥
RunsOn spawn M L = M
RunsOn async M L = M
RunsOn pass M L = L
RunsOn finish M L = ⊥

runs_on : (w : Way) (M L : Type 0) → (L → M) → RunsOn w M L → M
runs_on call M L f h = absurd h
runs_on spawn M L f h = h
runs_on async M L f h = h
runs_on pass M L f h = f h
runs_on finish M L f h = absurd h

-- the cost y runs on beside what follows the body
abbrev Loose : CostLine → ℕ → ℕ → Body → Type 0
Loose y n s done = ⊥
Loose y n s (leaf l r) = Loose y (suc n) s r
Loose y n s (child w i g r) = RunsOn w (On (plan (suc n) i g) y) (Loose y (suc n) i g) ⊎ Loose y (suc n + size g) s r

-- it is a cost of the child that line n opens, and runs on beside what follows the child
abbrev Freed : CostLine → Way → ℕ → ℕ → Body → Type 0
Freed y w n i g = RunsOn w (On (plan (suc n) i g) y) (Loose y (suc n) i g)

-- the costs y and z of the body are apart
abbrev Aside : CostLine → CostLine → ℕ → ℕ → Body → Type 0
Aside y z n s done = ⊥
Aside y z n s (leaf l r) = Aside y z (suc n) s r
Aside y z n s (child w i g r) = Aside y z (suc n) i g ⊎ ((Freed y w n i g × On (plan (suc n + size g) s r) z) ⊎ Aside y z (suc n + size g) s r)

loose-on : (y : CostLine) (b : Body) (n s : ℕ) → Loose y n s b → On (plan n s b) y
loose-on y done n s h = absurd h
loose-on y (leaf l r) n s h = leaf-on l n s r y (loose-on y r (suc n) s h)
loose-on y (child w i g r) n s (inl h) = two-on w n s i g r y (inl (runs_on w (On (plan (suc n) i g) y) (Loose y (suc n) i g) (loose-on y g (suc n) i) h))
loose-on y (child w i g r) n s (inr h) = two-on w n s i g r y (inr (loose-on y r (suc n + size g) s h))

freed_on : (y : CostLine) (w : Way) (n i : ℕ) (g : Body) → Freed y w n i g → On (plan (suc n) i g) y
freed_on y w n i g h = runs_on w (On (plan (suc n) i g) y) (Loose y (suc n) i g) (loose-on y g (suc n) i) h

-- no sync: nothing is behind the block
abbrev Flat : Rest → Type 0
Flat k = k.later ≡ none

flat_together : (w : Way) (f : Rest → Rest) (k : Rest) → ((k : Rest) → Flat k → Flat (f k)) → Flat k → Flat (together w f k)
flat_together call f k h e = e
flat_together spawn f k h e = e
flat_together async f k h e = e
flat_together pass f k h e = h k e
flat_together finish f k h e = e

flat_to : (b : Body) (n s : ℕ) → Of Finishes s b → (k : Rest) → Flat k → Flat (plan_to n s b k)
flat_to done n s h k e = e
flat_to (leaf (spend v) r) n s h k e = flat_to r (suc n) s h.1 k e
flat_to (leaf sync r) n s h k e = absurd h.0
flat_to (leaf (note x) r) n s h k e = flat_to r (suc n) s h.1 k e
flat_to (child w i g r) n s h k e = flat_together w (plan_to (suc n) i g) (plan_to (suc n + size g) s r k) (flat_to g (suc n) i h.1) (flat_to r (suc n + size g) s h.2 k e)

flat_now : (k : Rest) (z : CostLine) → Flat k → On (all k) z → On k.now z
flat_now k z e m = elim (Memᴰ.append_cases (costs k.now) m) [ inl o ↦ o | inr o ↦ absurd (Memᴰ.not-nil (subst (λ (p : Plan). On p z) e o)) ]

module _ (y z : CostLine) where
  -- two costs of a body with k behind it: A, they are apart in the body; L, the first runs on beside what follows it
  abbrev Split : Type 0 → Type 0 → Rest → Type 0
  Split A L k = A ⊎ ((L × On (all k) z) ⊎ Apart (all k) y z)

  alone : (A L : Type 0) → Split A L nil → A
  alone A L (inl a) = a
  alone A L (inr (inl a)) = absurd (Memᴰ.not-nil a.1)
  alone A L (inr (inr (inl a))) = absurd a
  alone A L (inr (inr (inr a))) = absurd a

  -- a child whose body makes f of a plan, with k behind it
  module _ (A L : Type 0) (f : Rest → Rest) (k : Rest) where
    series-to : ((q : Rest) → Apart (all (f q)) y z → Split A L q) → Apart (all (together call f k)) y z → Split A ⊥ k
    series-to e (inl (inl a)) = inl (alone A L (e nil a))
    series-to e (inl (inr a)) = inr (inr (inl a))
    series-to e (inr a) = inr (inr (inr a))

    beside_to : ((q : Rest) → Apart (all (f q)) y z → Split A L q) → Apart (all (together spawn f k)) y z → Split A (On (all (f nil)) y) k
    beside_to e (inl (inl a)) = inr (inl (a.0, Memᴰ.append_left (costs k.later) a.1))
    beside_to e (inl (inr (inl a))) = inl (alone A L (e nil a))
    beside_to e (inl (inr (inr a))) = inr (inr (inl a))
    beside_to e (inr a) = inr (inr (inr a))

    way-to : (w : Way) → ((q : Rest) → Apart (all (f q)) y z → Split A L q) → Apart (all (together w f k)) y z → Split A (RunsOn w (On (all (f nil)) y) L) k
    way-to call e a = series-to e a
    way-to spawn e a = beside_to e a
    way-to async e a = beside_to e a
    way-to pass e a = e k a
    way-to finish e a = series-to e a

    series-from : Flat k → ((q : Rest) → Flat q → Split A L q → Apart (all (f q)) y z) → Split A ⊥ k → Apart (all (together call f k)) y z
    series-from h e (inl a) = inl (inl (e nil refl (inl a)))
    series-from h e (inr (inl a)) = absurd a.0
    series-from h e (inr (inr (inl a))) = inl (inr a)
    series-from h e (inr (inr (inr a))) = inr a

    beside_from : Flat k → ((q : Rest) → Flat q → Split A L q → Apart (all (f q)) y z) → Split A (On (all (f nil)) y) k → Apart (all (together spawn f k)) y z
    beside_from h e (inl a) = inl (inr (inl (e nil refl (inl a))))
    beside_from h e (inr (inl a)) = inl (inl (a.0, flat_now k z h a.1))
    beside_from h e (inr (inr (inl a))) = inl (inr (inr a))
    beside_from h e (inr (inr (inr a))) = inr a

    way-from : (w : Way) → Flat k → ((q : Rest) → Flat q → Split A L q → Apart (all (f q)) y z) → Split A (RunsOn w (On (all (f nil)) y) L) k → Apart (all (together w f k)) y z
    way-from call h e a = series-from h e a
    way-from spawn h e a = beside_from h e a
    way-from async h e a = beside_from h e a
    way-from pass h e a = e k h a
    way-from finish h e a = series-from h e a

  on-to : (b : Body) (n s : ℕ) (k : Rest) → On (all (plan_to n s b k)) z → On (plan n s b) z ⊎ On (all k) z
  on-to b n s k m = Memᴰ.append_cases (costs (plan n s b)) (subst (λ (l : List CostLine). Memᴰ z l) (costs-to b n s k) m)

  on-from : (b : Body) (n s : ℕ) (k : Rest) → On (plan n s b) z ⊎ On (all k) z → On (all (plan_to n s b k)) z
  on-from b n s k (inl m) = subst (λ (l : List CostLine). Memᴰ z l) (sym (costs-to b n s k)) (Memᴰ.append_left (costs (all k)) m)
  on-from b n s k (inr m) = subst (λ (l : List CostLine). Memᴰ z l) (sym (costs-to b n s k)) (Memᴰ.append_right (costs (plan n s b)) m)

  apart-to : (b : Body) (n s : ℕ) (k : Rest) → Apart (all (plan_to n s b k)) y z → Split (Aside y z n s b) (Loose y n s b) k
  apart-to done n s k h = inr (inr h)
  apart-to (leaf l r) n s k h = apart-to r (suc n) s k (rest-of-leaf l n s r k y z h)
  apart-to (child w i g r) n s k h =
      go (way-to (Aside y z (suc n) i g) (Loose y (suc n) i g) (plan_to (suc n) i g) (plan_to (suc n + size g) s r k) w (apart-to g (suc n) i) h) (apart-to r (suc n + size g) s k)
    where
      go : Split (Aside y z (suc n) i g) (Freed y w n i g) (plan_to (suc n + size g) s r k)
          → (Apart (all (plan_to (suc n + size g) s r k)) y z → Split (Aside y z (suc n + size g) s r) (Loose y (suc n + size g) s r) k)
          → Split (Aside y z n s (child w i g r)) (Loose y n s (child w i g r)) k
      go (inl a) e = inl (inl a)
      go (inr (inl a)) e = elim (on-to r (suc n + size g) s k a.1) [ inl m ↦ inl (inr (inl (a.0, m))) | inr m ↦ inr (inl (inl a.0, m)) ]
      go (inr (inr a)) e = elim (e a) [ inl q ↦ inl (inr (inr q)) | inr (inl q) ↦ inr (inl (inr q.0, q.1)) | inr (inr q) ↦ inr (inr q) ]

  apart_from : (b : Body) (n s : ℕ) → Of Finishes s b → (k : Rest) → Flat k → Split (Aside y z n s b) (Loose y n s b) k → Apart (all (plan_to n s b k)) y z
  apart_from done n s h k e (inl a) = absurd a
  apart_from done n s h k e (inr (inl a)) = absurd a.0
  apart_from done n s h k e (inr (inr a)) = a
  apart_from (leaf l r) n s h k e a = leaf-of-rest l n s r k y z (apart_from r (suc n) s h.1 k e a)
  apart_from (child w i g r) n s h k e a =
      way-from (Aside y z (suc n) i g) (Loose y (suc n) i g) (plan_to (suc n) i g) (plan_to (suc n + size g) s r k) w (flat_to r (suc n + size g) s h.2 k e) (apart_from g (suc n) i h.1)
      (go a (apart_from r (suc n + size g) s h.2 k e))
    where
      go : Split (Aside y z n s (child w i g r)) (Loose y n s (child w i g r)) k
          → (Split (Aside y z (suc n + size g) s r) (Loose y (suc n + size g) s r) k → Apart (all (plan_to (suc n + size g) s r k)) y z)
          → Split (Aside y z (suc n) i g) (Freed y w n i g) (plan_to (suc n + size g) s r k)
      go (inl (inl a)) f = inl a
      go (inl (inr (inl a))) f = inr (inl (a.0, on-from r (suc n + size g) s k (inl a.1)))
      go (inl (inr (inr a))) f = inr (inr (f (inl a)))
      go (inr (inl (inl a, m))) f = inr (inl (a, on-from r (suc n + size g) s k (inr m)))
      go (inr (inl (inr a, m))) f = inr (inr (f (inr (inl (a, m)))))
      go (inr (inr a)) f = inr (inr (f (inr (inr a))))

-- ── by the lines ──

module _ (t : List Frame) (y : CostLine) where
  -- a child's cost runs on exactly where an async escapes the child
  module _ (n c s : ℕ) (o : List ℕ) (v : ℕ) (g r : Body) (u : List Frame) (m : On (plan (suc n) v g) y) where
    freed_escapes : (w : Way) → WayOf Finishes s w v → Ctx t n (c ∷ o) (lines_of (child w v g r) ++ u) → (Is t n (Call v) → Loose y (suc n) v g → Escapes t n y.line) → Freed y w n v g → Escapes t n y.line
    freed_escapes call h x f q = absurd h
    freed_escapes spawn h x f q = absurd h
    freed_escapes async h x f q =
        let k = on-range g (suc n) v y m in
        async_escapes t n c o async v g r u x y.line k.0 k.1 (first-is t n (c ∷ o) (opening async v) ((lines_of g ++ lines_of r) ++ u) x)
    freed_escapes pass h x f q = f (first-is t n (c ∷ o) (opening pass v) ((lines_of g ++ lines_of r) ++ u) x) q
    freed_escapes finish h x f q = absurd q

    escapes_freed : (w : Way) → WayOf Finishes s w v → Ctx t n (c ∷ o) (lines_of (child w v g r) ++ u) → (Is t n (Call v) → Escapes t n y.line → Loose y (suc n) v g) → Escapes t n y.line → Freed y w n v g
    escapes_freed call h x f q = absurd h
    escapes_freed spawn h x f q = absurd h
    escapes_freed async h x f q = m
    escapes_freed pass h x f q = f (first-is t n (c ∷ o) (opening pass v) ((lines_of g ++ lines_of r) ++ u) x) q
    escapes_freed finish h x f q =
        let k = on-range g (suc n) v y m in
        finish-holds t n c o finish v g r u x y.line k.0 k.1 (first-is t n (c ∷ o) (opening finish v) ((lines_of g ++ lines_of r) ++ u) x) q

  -- a cost of a call that line m opens runs on exactly where an async escapes the call
  loose_escapes : (b : Body) (n s m v : ℕ) (o : List ℕ) (u : List Frame) → Of Finishes s b → Ctx t n (suc m ∷ o) (lines_of b ++ u) → Is t m (Call v) → Loose y n s b → Escapes t m y.line
  loose_escapes done n s m v o u h x a q = absurd q
  loose_escapes (leaf l r) n s m v o u h x a q = loose_escapes r (suc n) s m v o u h.1 (ctx-leaf t n (suc m) o l (lines_of r ++ u) x) a q
  loose_escapes (child w i g r) n s m v o u h x a (inl q) =
      escapes_call t m v n o (lines_of (child w i g r) ++ u) x a y.line
      (freed_escapes n (suc m) s o i g r u (freed_on y w n i g q) w h.0 x (loose_escapes g (suc n) i n i (suc m ∷ o) (lines_of r ++ u) h.1 (inner t n (suc m) o w i g r u x)) q)
  loose_escapes (child w i g r) n s m v o u h x a (inr q) = loose_escapes r (suc n + size g) s m v o u h.2 (behind t n (suc m) o w i g r u x) a q

  escapes_loose : (b : Body) (n s m v : ℕ) (o : List ℕ) (u : List Frame) → Of Finishes s b → Ctx t n (suc m ∷ o) (lines_of b ++ u) → Is t m (Call v) → On (plan n s b) y → Escapes t m y.line → Loose y n s b
  escapes_loose done n s m v o u h x a k q = absurd (Memᴰ.not-nil k)
  escapes_loose (leaf l r) n s m v o u h x a k q = elim (on-leaf l n s r y k) [
    | inl e ↦ absurd (none-direct t m v n o (lines_of (leaf l r) ++ u) x a (subst (Escapes t m) e q))
    | inr d ↦ escapes_loose r (suc n) s m v o u h.1 (ctx-leaf t n (suc m) o l (lines_of r ++ u) x) a d q
  ]
  escapes_loose (child w i g r) n s m v o u h x a k q = elim (on-two w n s i g r y k) [
    | inl d ↦ inl (escapes_freed n (suc m) s o i g r u d w h.0 x
        (λ b. escapes_loose g (suc n) i n i (suc m ∷ o) (lines_of r ++ u) h.1 (inner t n (suc m) o w i g r u x) b d)
        (escapes_item t m v n o (lines_of (child w i g r) ++ u) x a y.line (omega (arith, on-range g (suc n) i y d)) q))
    | inr d ↦ inr (escapes_loose r (suc n + size g) s m v o u h.2 (behind t n (suc m) o w i g r u x) a d q)
  ]

module _ (t : List Frame) (y z : CostLine) where
  aside_parallel : (b : Body) (n s c : ℕ) (o : List ℕ) (u : List Frame) → Of Finishes s b → Ctx t n (c ∷ o) (lines_of b ++ u) → Aside y z n s b → Parallel t y.line z.line
  aside_parallel done n s c o u h x a = absurd a
  aside_parallel (leaf l r) n s c o u h x a = aside_parallel r (suc n) s c o u h.1 (ctx-leaf t n c o l (lines_of r ++ u) x) a
  aside_parallel (child w i g r) n s c o u h x (inl a) = aside_parallel g (suc n) i (suc n) (c ∷ o) (lines_of r ++ u) h.1 (inner t n c o w i g r u x) a
  aside_parallel (child w i g r) n s c o u h x (inr (inl (q, m))) =
      let d = freed_on y w n i g q in
      let k = on-range g (suc n) i y d in
      let k' = on-range r (suc n + size g) s z m in
      escapes_parallel t n c o w i g r u x y.line k.0 k.1 z.line k'.0 k'.1
      (freed_escapes t y n c s o i g r u d w h.0 x (loose_escapes t y g (suc n) i n i (c ∷ o) (lines_of r ++ u) h.1 (inner t n c o w i g r u x)) q)
  aside_parallel (child w i g r) n s c o u h x (inr (inr a)) = aside_parallel r (suc n + size g) s c o u h.2 (behind t n c o w i g r u x) a

  parallel_aside : (b : Body) (n s c : ℕ) (o : List ℕ) (u : List Frame) → Of Finishes s b → Ctx t n (c ∷ o) (lines_of b ++ u) → On (plan n s b) y → On (plan n s b) z → Less y z → Parallel t y.line z.line → Aside y z n s b
  parallel_aside done n s c o u h x my mz l p = absurd (Memᴰ.not-nil my)
  parallel_aside (leaf e r) n s c o u h x my mz l p = go (on-leaf e n s r y my) (on-leaf e n s r z mz) (λ oy oz. parallel_aside r (suc n) s c o u h.1 (ctx-leaf t n c o e (lines_of r ++ u) x) oy oz l p)
    where
      go : (y.line ≡ n) ⊎ On (plan (suc n) s r) y → (z.line ≡ n) ⊎ On (plan (suc n) s r) z → (On (plan (suc n) s r) y → On (plan (suc n) s r) z → Aside y z (suc n) s r) → Aside y z (suc n) s r
      go (inl d) q f =
          absurd (p.without (stays t n c o (leaf e r) u x (suc p.g) z.line (omega arith) (on-range (leaf e r) n s z mz).1 (subst (Open t (suc p.g)) d p.contains)))
      go (inr d) (inl q) f = absurd (omega (arith, on-range r (suc n) s y d))
      go (inr d) (inr q) f = f d q
  parallel_aside (child w i g r) n s c o u h x my mz l p =
      go (on-two w n s i g r y my) (on-two w n s i g r z mz) (λ oy oz. parallel_aside g (suc n) i (suc n) (c ∷ o) (lines_of r ++ u) h.1 (inner t n c o w i g r u x) oy oz l p)
      (λ oy oz. parallel_aside r (suc n + size g) s c o u h.2 (behind t n c o w i g r u x) oy oz l p)
    where
      go : On (plan (suc n) i g) y ⊎ On (plan (suc n + size g) s r) y → On (plan (suc n) i g) z ⊎ On (plan (suc n + size g) s r) z
          → (On (plan (suc n) i g) y → On (plan (suc n) i g) z → Aside y z (suc n) i g) → (On (plan (suc n + size g) s r) y → On (plan (suc n + size g) s r) z → Aside y z (suc n + size g) s r)
          → Aside y z n s (child w i g r)
      go (inl d) (inl q) f f' = inl (f d q)
      go (inl d) (inr q) f f' =
          let k = on-range g (suc n) i y d in
          let k' = on-range r (suc n + size g) s z q in
          inr (inl (
            escapes_freed t y n c s o i g r u d w h.0 x (λ a. escapes_loose t y g (suc n) i n i (c ∷ o) (lines_of r ++ u) h.1 (inner t n c o w i g r u x) a d)
                (parallel_escapes t n c o w i g r u x y.line k.0 k.1 z.line k'.0 k'.1 p),
            q,
          ))
      go (inr d) (inl q) f f' = absurd (omega (arith, on-range r (suc n + size g) s y d, on-range g (suc n) i z q))
      go (inr d) (inr q) f f' = inr (inr (f' d q))

-- The thing c, in row s, has the body b, from line n on.
module _ (t : List Frame) (n s c : ℕ) (o : List ℕ) (b : Body) (u : List Frame) (x : Ctx t n (c ∷ o) (lines_of b ++ u)) (h : Of Finishes s b) (y z : CostLine) (my : On (plan n s b) y) (mz : On (plan n s b) z) (l : Less y z) where
  -- LAW: parallel by the definition exactly where apart in the plan
  pub apart-is-parallel : Apart (plan n s b) y z → Parallel t y.line z.line
  apart-is-parallel a = aside_parallel t y z b n s c o u h x (alone y z (Aside y z n s b) (Loose y n s b) (apart-to y z b n s nil a))

  pub parallel-is-apart : Parallel t y.line z.line → Apart (plan n s b) y z
  parallel-is-apart p = apart_from y z b n s h nil refl (inl (parallel_aside t y z b n s c o u h x my mz l p))
