-- A line of a trace with what is open there and the lines from there on; and parallel lines inside one invocation.
use mathlib.Core.Path.{◌≡◌, refl, sym, ◌∙◌, ap, subst}
use mathlib.Core.Logic.{inl, inr}
use mathlib.Core.Bool.{Bool, true, false}
use mathlib.Core.List.{List, [], ◌∷◌, ◌++◌}
use Prim.Native.Nat.{ℕ, zero, suc, ◌+◌, ◌≤◌, ◌<◌}
use native.Mathlib.Omega.{arith}
use native.Mathlib.Nat.{suc-add, le_dest}
use lib.ListN.{length}
use lib.Dec.{T}
use Rattle.line.specs.declared.Frame.{Frame}
use Rattle.line.specs.declared.Frame.TheVariants.{Site, Call, Spawn, Sync, Return, Cost, Instructions, Async, Finish}
use Rattle.trace.specs.Shape.{Is, root, step, walk, open_at, has, first_is, Parallel}
use Rattle.trace.proofs.Basics.{below}
use Rattle.trace.proofs.Levels.{Climb, Never, Beside}
use Rattle.trace.proofs.Open.{has-cases, has-later, first-has, Below, Low, Nth, gone, in_from}
use Rattle.trace.proofs.Parallels.{ParallelFrom, Alive, low_step, low_not, beside_parallel, parallel_beside}

pub walk-append : (n : ℕ) (o : List ℕ) (p v : List Frame) (j : ℕ) → walk n o (p ++ v) (length p + j) ≡ walk (n + length p) (walk n o p (length p)) v j
walk-append n o [] v j =
    let e : 0 + j ≡ j = omega arith in
    let f : n ≡ n + 0 = omega arith in
    ap (walk n o v) e ∙ ap (λ (k : ℕ). walk k o v j) f
walk-append n o (e ∷ p) v j =
    let q : suc n + length p ≡ n + suc (length p) = omega arith in
    ap (walk n o (e ∷ (p ++ v))) (suc-add (length p) j) ∙ walk-append (suc n) (step n e o) p v j ∙ ap (λ (k : ℕ). walk k (walk (suc n) (step n e o) p (length p)) v j) q

pub walk_start : (n : ℕ) (o : List ℕ) (u : List Frame) → walk n o u 0 ≡ o
walk_start n o [] = refl
walk_start n o (e ∷ u) = refl

pub is-append : (p v : List Frame) (j : ℕ) (f : Frame) → Is (p ++ v) (length p + j) f ≡ Is v j f
is-append [] v j f = let e : 0 + j ≡ j = omega arith in ap (λ (k : ℕ). Is v k f) e
is-append (e ∷ p) v j f = ap (λ (k : ℕ). Is (e ∷ (p ++ v)) k f) (suc-add (length p) j) ∙ is-append p v j f

-- the outermost of these is the root, where there are any
abbrev pub Rooted : List ℕ → Type 0
Rooted [] = Unit {0}
Rooted (c ∷ []) = c ≡ root
Rooted (c ∷ d ∷ o) = Rooted (d ∷ o)

rooted-closed : (c : ℕ) (o : List ℕ) → Rooted (c ∷ o) → Rooted o
rooted-closed c [] h = tt
rooted-closed c (d ∷ o) h = h

-- a line leaves it so
pub rooted-step : (n : ℕ) (e : Frame) (c : ℕ) (o : List ℕ) → Rooted (c ∷ o) → Rooted (step n e (c ∷ o))
rooted-step n (Site s p) c o h = h
rooted-step n (Call s) c o h = h
rooted-step n (Spawn s) c o h = h
rooted-step n Sync c o h = h
rooted-step n Return c o h = rooted-closed c o h
rooted-step n (Cost v) c o h = h
rooted-step n (Instructions v) c o h = h
rooted-step n (Async s) c o h = h
rooted-step n Finish c o h = h

-- at line n of t the invocations o are open, and v are the lines from there on
pub record Ctx (t : List Frame) (n : ℕ) (o : List ℕ) (v : List Frame) : Type 0 where
  pub pre : List Frame
  pub whole : t ≡ pre ++ v
  pub count : length pre ≡ n
  pub opened : walk 0 (0 ∷ []) pre (length pre) ≡ o
  pub low : Low n o
  pub rooted : Rooted o
  pub alive : Alive n o v

low-more : (n d : ℕ) (o : List ℕ) → Low n o → Low (n + d) o
low-more n d [] h = tt
low-more n d (c ∷ o) h = (omega (arith, h.0), h.1, low-more n d o h.2)

pub low-walk : (n : ℕ) (o : List ℕ) (u : List Frame) (k : ℕ) → Low n o → Low (n + k) (walk n o u k)
low-walk n o [] k h = low-more n k o h
low-walk n o (e ∷ u) zero h = low-more n 0 o h
low-walk n o (e ∷ u) (suc k) h =
    let q : suc n + k ≡ n + suc k = omega arith in
    subst (λ (x : ℕ). Low x (walk (suc n) (step n e o) u k)) q (low-walk (suc n) (step n e o) u k (low_step n e o h))

-- an open invocation's name is at most the line's number
pub has_le : (t : List Frame) (k G : ℕ) → T (has G (open_at t k)) → G ≤ k
has_le t k G h = elim (below (suc k) G) [ inl l ↦ omega arith | inr w ↦ absurd (low_not (0 + k) G (open_at t k) (low-walk 0 (0 ∷ []) t k (omega arith, tt, tt)) (omega (arith, w.1)) h) ]

module _ (t : List Frame) (n : ℕ) (o : List ℕ) (v : List Frame) (x : Ctx t n o v) where
  pub at_open : (j : ℕ) → open_at t (n + j) ≡ walk n o v j
  at_open j =
      let e : 0 + length x.pre ≡ n = omega (arith, x.count) in
      ap (λ (k : ℕ). open_at t (k + j)) (sym x.count)
      ∙ ap (λ (s : List Frame). open_at s (length x.pre + j)) x.whole
      ∙ walk-append 0 (0 ∷ []) x.pre v j
      ∙ ap (λ (s : List ℕ). walk (0 + length x.pre) s v j) x.opened
      ∙ ap (λ (k : ℕ). walk k o v j) e

  pub at_is : (j : ℕ) (f : Frame) → Is t (n + j) f ≡ Is v j f
  at_is j f =
      ap (λ (k : ℕ). Is t (k + j) f) (sym x.count)
      ∙ ap (λ (s : List Frame). Is s (length x.pre + j) f) x.whole
      ∙ is-append x.pre v j f

  -- what is open at the context's line
  pub open_here : open_at t n ≡ o
  open_here = let e : n ≡ n + 0 = omega arith in ap (open_at t) e ∙ at_open 0 ∙ walk_start n o v

  -- a place of the trace from the context's line on
  from-here : (k : ℕ) → n ≤ k → (j : ℕ) × (n + j ≡ k)
  from-here k l = le_dest l

  pub to_abs : (i j : ℕ) → ParallelFrom n o v i j → Parallel t (n + i) (n + j)
  to_abs i j p =
      let nm : suc (n + p.g) ≡ p.G = sym p.named in
      record {
        g = n + p.g;
        site = p.site;
        F = p.F;
        end = n + p.passed.end;
        spawned = subst (λ (A : Type 0). A) (sym (at_is p.g (Spawn p.site))) p.spawned;
        contains = subst (λ (l : List ℕ). T (has (suc (n + p.g)) l)) (sym (at_open i)) (subst (λ (G : ℕ). T (has G (walk n o v i))) p.named p.contains);
        without = λ h. p.passed.without (subst (λ (G : ℕ). T (has G (walk n o v j))) nm (subst (λ (l : List ℕ). T (has (suc (n + p.g)) l)) (at_open j) h));
        spawner = subst (λ (l : List ℕ). T (first_is p.F l)) (sym (at_open p.g)) p.spawner;
        still_open = subst (λ (l : List ℕ). T (has p.F l)) (sym (at_open j)) p.passed.still_open;
        returned = record {
          is = subst (λ (A : Type 0). A) (sym (at_is p.passed.end Return)) p.passed.is;
          its_own = subst (λ (l : List ℕ). T (first_is (suc (n + p.g)) l)) (sym (at_open p.passed.end)) (subst (λ (G : ℕ). T (first_is G (walk n o v p.passed.end))) p.named p.passed.its_own);
        };
        unjoined = λ k a d lo hi. un k (from-here k (omega arith)) a d lo hi;
      }
    where
      un : (k : ℕ) → (q : ℕ) × (n + q ≡ k) → Is t k Sync → T (first_is p.F (open_at t k)) → n + p.passed.end < k → k < n + j → ⊥
      un k q a d lo hi =
          p.passed.unjoined q.0
          (subst (λ (A : Type 0). A) (at_is q.0 Sync) (subst (λ (z : ℕ). Is t z Sync) (sym q.1) a))
          (subst (λ (l : List ℕ). T (first_is p.F l)) (at_open q.0) (subst (λ (z : ℕ). T (first_is p.F (open_at t z))) (sym q.1) d))
          (omega (arith, q.1)) (omega (arith, q.1))

  -- the spawn stands at the context's line or behind it
  pub to_rel : (i j : ℕ) (p : Parallel t (n + i) (n + j)) → n ≤ p.g → ParallelFrom n o v i j
  to_rel i j p l =
      let e : p.g < p.end = has_le t p.end (suc p.g) (first-has (suc p.g) (open_at t p.end) p.returned.its_own) in
      go (from-here p.g l) (from-here p.end (omega arith))
    where
      go : (a : ℕ) × (n + a ≡ p.g) → (b : ℕ) × (n + b ≡ p.end) → ParallelFrom n o v i j
      go a b =
          let nm : suc p.g ≡ suc (n + a.0) = omega (arith, a.1) in
          record {
            g = a.0;
            site = p.site;
            F = p.F;
            G = suc p.g;
            named = nm;
            spawned = subst (λ (A : Type 0). A) (at_is a.0 (Spawn p.site)) (subst (λ (z : ℕ). Is t z (Spawn p.site)) (sym a.1) p.spawned);
            contains = subst (λ (l : List ℕ). T (has (suc p.g) l)) (at_open i) p.contains;
            spawner = subst (λ (l : List ℕ). T (first_is p.F l)) (at_open a.0) (subst (λ (z : ℕ). T (first_is p.F (open_at t z))) (sym a.1) p.spawner);
            passed = record {
              end = b.0;
              is = subst (λ (A : Type 0). A) (at_is b.0 Return) (subst (λ (z : ℕ). Is t z Return) (sym b.1) p.returned.is);
              its_own = subst (λ (l : List ℕ). T (first_is (suc p.g) l)) (at_open b.0) (subst (λ (z : ℕ). T (first_is (suc p.g) (open_at t z))) (sym b.1) p.returned.its_own);
              without = λ h. p.without (subst (λ (l : List ℕ). T (has (suc p.g) l)) (sym (at_open j)) h);
              still_open = subst (λ (l : List ℕ). T (has p.F l)) (at_open j) p.still_open;
              unjoined = λ q x y lo hi.
                  p.unjoined (n + q) (subst (λ (A : Type 0). A) (sym (at_is q Sync)) x) (subst (λ (l : List ℕ). T (first_is p.F l)) (sym (at_open q)) y) (omega (arith, b.1)) (omega arith);
            };
          }

-- line n of the trace is the first of the context's lines
pub first-is : (t : List Frame) (n : ℕ) (o : List ℕ) (e : Frame) (v : List Frame) → Ctx t n o (e ∷ v) → Is t n e
first-is t n o e v x = let f : n + 0 ≡ n = omega arith in subst (λ (k : ℕ). Is t k e) f (subst (λ (A : Type 0). A) (sym (at_is t n o (e ∷ v) x 0 e)) refl)

-- what was open around F stays open as long as F is
pub keep : (b F k n : ℕ) (o : List ℕ) (u : List Frame) (i : ℕ) → F ≤ n → b < F → Nth F k o → Climb (Unit {0}) true Never k u i → T (has b o) → T (has b (walk n o u i))
keep b F k n o [] i l m h w q = absurd w
keep b F k n o (e ∷ u) zero l m h w q = q
keep b F k n o (Site x p ∷ u) (suc i) l m h w q = keep b F k (suc n) o u i (omega arith) m h w q
keep b F k n o (Call x ∷ u) (suc i) l m h w q = keep b F (suc k) (suc n) (suc n ∷ o) u i (omega arith) m (omega arith, h) w (has-later b (suc n) o q)
keep b F k n o (Spawn x ∷ u) (suc i) l m h w q = keep b F (suc k) (suc n) (suc n ∷ o) u i (omega arith) m (omega arith, h) w (has-later b (suc n) o q)
keep b F zero n o (Sync ∷ u) (suc i) l m h w q = keep b F zero (suc n) o u i (omega arith) m h w q
keep b F (suc k) n o (Sync ∷ u) (suc i) l m h w q = keep b F (suc k) (suc n) o u i (omega arith) m h w q
keep b F zero n o (Return ∷ u) (suc i) l m h w q = absurd w
keep b F (suc k) n [] (Return ∷ u) (suc i) l m h w q = absurd h
keep b F (suc k) n (c ∷ o) (Return ∷ u) (suc i) l m h w q =
    keep b F k (suc n) o u i (omega arith) m h.1 w (elim (has-cases b c o q) [ inl e ↦ absurd (omega (arith, h.0)) | inr r ↦ r ])
keep b F k n o (Cost v ∷ u) (suc i) l m h w q = keep b F k (suc n) o u i (omega arith) m h w q
keep b F k n o (Instructions v ∷ u) (suc i) l m h w q = keep b F k (suc n) o u i (omega arith) m h w q
keep b F k n o (Async x ∷ u) (suc i) l m h w q = keep b F (suc k) (suc n) (suc n ∷ o) u i (omega arith) m (omega arith, h) w (has-later b (suc n) o q)
keep b F k n o (Finish ∷ u) (suc i) l m h w q = keep b F (suc k) (suc n) (suc n ∷ o) u i (omega arith) m (omega arith, h) w (has-later b (suc n) o q)

pub below_lt : (b c : ℕ) (o : List ℕ) → Below b o → T (has c o) → c < b
below_lt b c [] h k = absurd k
below_lt b c (x ∷ o) h k = elim (has-cases c x o k) [ inl e ↦ omega (arith, h.0) | inr m ↦ below_lt b c o h.1 m ]

-- two lines of the invocation F that is innermost at line n
module _ (t : List Frame) (n F : ℕ) (o : List ℕ) (v : List Frame) (x : Ctx t n (F ∷ o) v) (i j : ℕ)
    (hi : T (has F (walk n (F ∷ o) v i))) (hj : T (has F (walk n (F ∷ o) v j))) (li : i < j) (lj : j < length v) where
  -- an invocation opened before line n that contains the one contains the other
  outer : (G : ℕ) → G ≤ n → T (has G (walk n (F ∷ o) v i)) → T (has G (walk n (F ∷ o) v j))
  outer G l h = elim (has-cases G F o (was (has G (F ∷ o)) refl)) [
    | inl e ↦ subst (λ (z : ℕ). T (has z (walk n (F ∷ o) v j))) (sym e) hj
    | inr m ↦ keep G F zero n (F ∷ o) v j x.low.0 (below_lt F G o x.low.1 m) (refl, x.low.1) (in_from F zero n (F ∷ o) v j x.low.0 (refl, x.low.1) lj hj) (has-later G F o m)
  ]
    where
      was : (b : Bool) → has G (F ∷ o) ≡ b → T (has G (F ∷ o))
      was true e = subst T (sym e) tt
      was false e = absurd (gone G n (F ∷ o) v i l (λ q. subst T e q) h)

  pub local-to : Parallel t (n + i) (n + j) → Beside v i j
  local-to p = elim (below n p.g) [
    | inl m ↦ absurd (p.without (subst (λ (l : List ℕ). T (has (suc p.g) l)) (sym (at_open t n (F ∷ o) v x j))
        (outer (suc p.g) (omega arith) (subst (λ (l : List ℕ). T (has (suc p.g) l)) (at_open t n (F ∷ o) v x i) p.contains))))
    | inr w ↦ parallel_beside n (F ∷ o) v i j x.low x.alive li lj (to_rel t n (F ∷ o) v x i j p (omega (arith, w.1)))
  ]

  pub local-from : Beside v i j → Parallel t (n + i) (n + j)
  local-from p = to_abs t n (F ∷ o) v x i j (beside_parallel n (F ∷ o) v i j x.low x.alive p)
