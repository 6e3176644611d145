-- The definition of parallel lines, over lines with what is open at the first of them, is that they are beside each
-- other.
use mathlib.Core.Path.{◌≡◌, refl, sym, subst}
use mathlib.Core.Logic.{inl, inr}
use mathlib.Core.List.{List, [], ◌∷◌}
use Prim.Native.Nat.{ℕ, zero, suc, ◌+◌, ◌<◌}
use native.Mathlib.Omega.{arith}
use lib.ListN.{length}
use lib.Dec.{T}
use Rattle.line.specs.declared.Frame.{Frame}
use Rattle.line.specs.declared.Frame.TheVariants.{Site, Call, Spawn, Sync, Return, Cost, Instructions, Async, Finish}
use Rattle.trace.specs.Shape.{Is, step, walk, has, first_is}
use Rattle.trace.proofs.Levels.{In, Past, Beside}
use Rattle.trace.proofs.Open.{first_eq, first_of, first-has, Low, below_not, low_below, low-on, low_push, in_to, in_from, Passed, passed-cons, passed-tail, past_to, past-from}

-- the definition over lines u, the first of which is line n, where o are open; lines are counted from there
pub record ParallelFrom (n : ℕ) (o : List ℕ) (u : List Frame) (i j : ℕ) : Type 0 where
  pub g : ℕ
  pub site : ℕ
  pub F : ℕ
  pub G : ℕ
  pub named : G ≡ suc (n + g)
  pub spawned : Is u g (Spawn site)
  pub contains : T (has G (walk n o u i))
  pub spawner : T (first_is F (walk n o u g))
  pub passed : Passed G F n o u j

-- some invocation is open at each line
abbrev pub Alive : ℕ → List ℕ → List Frame → Type 0
Alive n o [] = Unit {0}
Alive n [] (e ∷ u) = ⊥
Alive n (c ∷ o) (e ∷ u) = Alive (suc n) (step n e (c ∷ o)) u

pub low_step : (n : ℕ) (e : Frame) (o : List ℕ) → Low n o → Low (suc n) (step n e o)
low_step n (Site s p) o l = low-on n o l
low_step n (Call s) o l = low_push n o l
low_step n (Spawn s) o l = low_push n o l
low_step n Sync o l = low-on n o l
low_step n Return [] l = tt
low_step n Return (c ∷ o) l = low-on n o l.2
low_step n (Cost v) o l = low-on n o l
low_step n (Instructions v) o l = low-on n o l
low_step n (Async s) o l = low_push n o l
low_step n Finish o l = low_push n o l

parallel-cons : (n : ℕ) (o : List ℕ) (e : Frame) (u : List Frame) (i j : ℕ) → ParallelFrom (suc n) (step n e o) u i j → ParallelFrom n o (e ∷ u) (suc i) (suc j)
parallel-cons n o e u i j p =
    record {
      g = suc p.g;
      site = p.site;
      F = p.F;
      G = p.G;
      named = omega (arith, p.named);
      spawned = p.spawned;
      contains = p.contains;
      spawner = p.spawner;
      passed = passed-cons p.G p.F n o e u j p.passed;
    }

pub beside_parallel : (n : ℕ) (o : List ℕ) (u : List Frame) (i j : ℕ) → Low n o → Alive n o u → Beside u i j → ParallelFrom n o u i j
beside_parallel n o [] i j l a w = absurd w
beside_parallel n [] (e ∷ u) i j l a w = absurd a
beside_parallel n (c ∷ o) (e ∷ u) zero j l a w = absurd w
beside_parallel n (c ∷ o) (e ∷ u) (suc i) zero l a w = absurd w
beside_parallel n (c ∷ o) (Site s p ∷ u) (suc i) (suc j) l a w = parallel-cons n (c ∷ o) (Site s p) u i j (beside_parallel (suc n) (c ∷ o) u i j (low-on n (c ∷ o) l) a w)
beside_parallel n (c ∷ o) (Cost v ∷ u) (suc i) (suc j) l a w = parallel-cons n (c ∷ o) (Cost v) u i j (beside_parallel (suc n) (c ∷ o) u i j (low-on n (c ∷ o) l) a w)
beside_parallel n (c ∷ o) (Instructions v ∷ u) (suc i) (suc j) l a w = parallel-cons n (c ∷ o) (Instructions v) u i j (beside_parallel (suc n) (c ∷ o) u i j (low-on n (c ∷ o) l) a w)
beside_parallel n (c ∷ o) (Sync ∷ u) (suc i) (suc j) l a w = parallel-cons n (c ∷ o) Sync u i j (beside_parallel (suc n) (c ∷ o) u i j (low-on n (c ∷ o) l) a w)
beside_parallel n (c ∷ o) (Return ∷ u) (suc i) (suc j) l a w = parallel-cons n (c ∷ o) Return u i j (beside_parallel (suc n) o u i j (low-on n o l.2) a w)
beside_parallel n (c ∷ o) (Call s ∷ u) (suc i) (suc j) l a w = parallel-cons n (c ∷ o) (Call s) u i j (beside_parallel (suc n) (suc n ∷ c ∷ o) u i j (low_push n (c ∷ o) l) a w)
beside_parallel n (c ∷ o) (Async s ∷ u) (suc i) (suc j) l a w = parallel-cons n (c ∷ o) (Async s) u i j (beside_parallel (suc n) (suc n ∷ c ∷ o) u i j (low_push n (c ∷ o) l) a w)
beside_parallel n (c ∷ o) (Finish ∷ u) (suc i) (suc j) l a w = parallel-cons n (c ∷ o) Finish u i j (beside_parallel (suc n) (suc n ∷ c ∷ o) u i j (low_push n (c ∷ o) l) a w)
beside_parallel n (c ∷ o) (Spawn s ∷ u) (suc i) (suc j) l a (inr w) = parallel-cons n (c ∷ o) (Spawn s) u i j (beside_parallel (suc n) (suc n ∷ c ∷ o) u i j (low_push n (c ∷ o) l) a w)
beside_parallel n (c ∷ o) (Spawn s ∷ u) (suc i) (suc j) l a (inl w) =
    let b = low_below n (suc n) (c ∷ o) l (omega arith) in
    let p = past_to (suc n) c zero (suc n) (suc n ∷ c ∷ o) u j (omega arith) (omega arith) (refl, b, (refl, l.1)) w.1 in
    record {
      g = zero;
      site = s;
      F = c;
      G = suc n;
      named = omega arith;
      spawned = refl;
      contains = in_to (suc n) zero (suc n) (suc n ∷ c ∷ o) u i (omega arith) (refl, b) w.0;
      spawner = first_of c c o refl;
      passed = passed-cons (suc n) c n (c ∷ o) (Spawn s) u j p;
    }

pub low_not : (n G : ℕ) (o : List ℕ) → Low n o → n < G → T (has G o) → ⊥
low_not n G o l h k = below_not G o (low_below n G o l h) k

pub parallel_beside : (n : ℕ) (o : List ℕ) (u : List Frame) (i j : ℕ) → Low n o → Alive n o u → i < j → j < length u → ParallelFrom n o u i j → Beside u i j
parallel_beside n o [] i j l a lt m p = absurd (omega arith)
parallel_beside n [] (e ∷ u) i j l a lt m p = absurd a
parallel_beside n (c ∷ o) (e ∷ u) zero j l a lt m p = low_not n p.G (c ∷ o) l (omega (arith, p.named)) p.contains
parallel_beside n (c ∷ o) (e ∷ u) (suc i) zero l a lt m p = absurd (omega arith)
parallel_beside n (c ∷ o) (e ∷ u) (suc i) (suc j) l a lt m p =
    go p.g p.named p.spawned p.spawner (parallel_beside (suc n) (step n e (c ∷ o)) u i j (low_step n e (c ∷ o) l) a (omega arith) (omega arith))
  where
    rest : (f : Frame) → Beside u i j → Beside (f ∷ u) (suc i) (suc j)
    rest (Site s q) w = w
    rest (Call s) w = w
    rest (Spawn s) w = inr w
    rest Sync w = w
    rest Return w = w
    rest (Cost v) w = w
    rest (Instructions v) w = w
    rest (Async s) w = w
    rest Finish w = w

    -- the spawn is this line
    here : (s : ℕ) → Spawn s ≡ e → p.G ≡ suc n → p.F ≡ c → In u i × Past u j
    here s q nm fc =
        let b = low_below n (suc n) (c ∷ o) l (omega arith) in
        let x : T (has (suc n) (walk (suc n) (suc n ∷ c ∷ o) u i)) =
        subst (λ (f : Frame). T (has (suc n) (walk (suc n) (step n f (c ∷ o)) u i))) (sym q) (subst (λ (G : ℕ). T (has G (walk (suc n) (step n e (c ∷ o)) u i))) nm p.contains) in
        let y : Passed (suc n) c n (c ∷ o) (Spawn s ∷ u) (suc j) =
        subst (λ (f : Frame). Passed (suc n) c n (c ∷ o) (f ∷ u) (suc j)) (sym q)
        (subst (λ (G : ℕ). Passed G c n (c ∷ o) (e ∷ u) (suc j)) nm (subst (λ (F : ℕ). Passed p.G F n (c ∷ o) (e ∷ u) (suc j)) fc p.passed)) in (
          in_from (suc n) zero (suc n) (suc n ∷ c ∷ o) u i (omega arith) (refl, b) (omega arith) x,
          past-from (suc n) c zero (suc n) (suc n ∷ c ∷ o) u j (omega arith) (omega (arith, l.0)) (refl, b, (refl, l.1)) (omega arith)
              (passed-tail (suc n) c n (c ∷ o) (Spawn s) u j (λ z f. low_not n (suc n) (c ∷ o) l (omega arith) (first-has (suc n) (c ∷ o) f)) y),
        )

    go : (g : ℕ) → p.G ≡ suc (n + g) → Is (e ∷ u) g (Spawn p.site) → T (first_is p.F (walk n (c ∷ o) (e ∷ u) g)) → (ParallelFrom (suc n) (step n e (c ∷ o)) u i j → Beside u i j) → Beside (e ∷ u) (suc i) (suc j)
    go zero nm is fs rec =
        let q : Spawn p.site ≡ e = sym is in
        subst (λ (f : Frame). Beside (f ∷ u) (suc i) (suc j)) q (inl (here p.site q (omega arith) (first_eq p.F c o fs)))
    go (suc g) nm is fs rec =
        rest e (rec (record {
          g = g;
          site = p.site;
          F = p.F;
          G = p.G;
          named = omega arith;
          spawned = is;
          contains = p.contains;
          spawner = fs;
          passed = passed-tail p.G p.F n (c ∷ o) e u j (λ z f. low_not n p.G (c ∷ o) l (omega arith) (first-has p.G (c ∷ o) f)) p.passed;
        }))
