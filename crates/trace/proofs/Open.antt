-- The open invocations along lines, against levels: what it is to be inside an invocation, near and past it.
use mathlib.Core.Path.{◌≡◌, refl, sym, subst}
use mathlib.Core.Logic.{◌⊎◌, inl, inr}
use mathlib.Core.Bool.{Bool, true, false, ◌||◌}
use mathlib.Core.List.{List, [], ◌∷◌}
use Prim.Native.Nat.{ℕ, zero, suc, ◌≤◌, ◌<◌}
use native.Mathlib.Omega.{arith}
use lib.ListN.{length}
use lib.Dec.{T, eqb}
use borrow.Author.Tests.{eqb-true, eq-eqb}
use Rattle.line.specs.declared.Frame.{Frame}
use Rattle.line.specs.declared.Frame.TheVariants.{Site, Call, Spawn, Sync, Return, Cost, Instructions, Async, Finish}
use Rattle.trace.specs.Shape.{Is, step, walk, has, first_is}
use Rattle.trace.proofs.Basics.{clash}
use Rattle.trace.proofs.Levels.{Climb, Never, Near}

-- ── membership ──

pub or_cases : (a b : Bool) → T (a || b) → (a ≡ true) ⊎ T b
or_cases true b h = inl refl
or_cases false b h = inr h

pub or_right : (a b : Bool) → T b → T (a || b)
or_right true b h = tt
or_right false b h = h

pub has-cases : (x y : ℕ) (l : List ℕ) → T (has x (y ∷ l)) → (x ≡ y) ⊎ T (has x l)
has-cases x y l h = go (or_cases (eqb x y) (has x l) h)
  where
    go : (eqb x y ≡ true) ⊎ T (has x l) → (x ≡ y) ⊎ T (has x l)
    go (inl e) = inl (eqb-true x y e)
    go (inr k) = inr k

pub has-later : (x y : ℕ) (l : List ℕ) → T (has x l) → T (has x (y ∷ l))
has-later x y l h = or_right (eqb x y) (has x l) h

pub has_here : (x y : ℕ) (l : List ℕ) → x ≡ y → T (has x (y ∷ l))
has_here x y l e = subst (λ (b : Bool). T (b || has x l)) (sym (eq-eqb x y e)) tt

pub first_eq : (x y : ℕ) (l : List ℕ) → T (first_is x (y ∷ l)) → x ≡ y
first_eq x y l h = eqb-true x y (go (eqb x y) h)
  where
    go : (b : Bool) → T b → b ≡ true
    go true h = refl
    go false h = absurd h

pub first_of : (x y : ℕ) (l : List ℕ) → x ≡ y → T (first_is x (y ∷ l))
first_of x y l e = subst T (sym (eq-eqb x y e)) tt

pub first-has : (x : ℕ) (l : List ℕ) → T (first_is x l) → T (has x l)
first-has x [] h = h
first-has x (y ∷ l) h = has_here x y l (first_eq x y l h)

-- ── the list of open invocations is strictly descending ──

abbrev pub Below : ℕ → List ℕ → Type 0
Below b [] = Unit {0}
Below b (c ∷ o) = (c < b) × Below b o

abbrev pub Low : ℕ → List ℕ → Type 0
Low n [] = Unit {0}
Low n (c ∷ o) = (c ≤ n) × Below c o × Low n o

pub below_not : (b : ℕ) (o : List ℕ) → Below b o → T (has b o) → ⊥
below_not b [] h k = k
below_not b (c ∷ o) h k = elim (has-cases b c o k) [ inl e ↦ omega arith | inr m ↦ below_not b o h.1 m ]

pub low_below : (n b : ℕ) (o : List ℕ) → Low n o → n < b → Below b o
low_below n b [] h l = tt
low_below n b (c ∷ o) h l = (omega arith, low_below n b o h.2 l)

pub low-on : (n : ℕ) (o : List ℕ) → Low n o → Low (suc n) o
low-on n [] h = tt
low-on n (c ∷ o) h = (omega arith, h.1, low-on n o h.2)

pub low_push : (n : ℕ) (o : List ℕ) → Low n o → Low (suc n) (suc n ∷ o)
low_push n o h = (omega arith, low_below n (suc n) o h (omega arith), low-on n o h)

-- b stands at place k, what is before it is above it, and what is behind it below
abbrev pub Nth : ℕ → ℕ → List ℕ → Type 0
Nth b k [] = ⊥
Nth b zero (c ∷ o) = (b ≡ c) × Below b o
Nth b (suc k) (c ∷ o) = (b < c) × Nth b k o

nth-has : (b k : ℕ) (o : List ℕ) → Nth b k o → T (has b o)
nth-has b zero [] h = absurd h
nth-has b (suc k) [] h = absurd h
nth-has b zero (c ∷ o) h = has_here b c o h.0
nth-has b (suc k) (c ∷ o) h = has-later b c o (nth-has b k o h.1)

-- G stands at place k, and F right behind it
abbrev pub Two : ℕ → ℕ → ℕ → List ℕ → Type 0
Two G F k [] = ⊥
Two G F zero (c ∷ o) = (G ≡ c) × Below G o × Nth F zero o
Two G F (suc k) (c ∷ o) = (G < c) × Two G F k o

two-nth : (G F k : ℕ) (o : List ℕ) → Two G F k o → Nth G k o
two-nth G F zero [] h = h
two-nth G F (suc k) [] h = h
two-nth G F zero (c ∷ o) h = (h.0, h.1)
two-nth G F (suc k) (c ∷ o) h = (h.0, two-nth G F k o h.1)

-- an invocation that is not open, and was made before line n, stays so
pub gone : (b n : ℕ) (o : List ℕ) (u : List Frame) (i : ℕ) → b ≤ n → (T (has b o) → ⊥) → T (has b (walk n o u i)) → ⊥
gone b n o [] i l h k = h k
gone b n o (e ∷ u) zero l h k = h k
gone b n o (Site x p ∷ u) (suc i) l h k = gone b (suc n) o u i (omega arith) h k
gone b n o (Call x ∷ u) (suc i) l h k =
    gone b (suc n) (suc n ∷ o) u i (omega arith) (λ m. elim (has-cases b (suc n) o m) [ inl e ↦ omega arith | inr q ↦ h q ]) k
gone b n o (Spawn x ∷ u) (suc i) l h k =
    gone b (suc n) (suc n ∷ o) u i (omega arith) (λ m. elim (has-cases b (suc n) o m) [ inl e ↦ omega arith | inr q ↦ h q ]) k
gone b n o (Sync ∷ u) (suc i) l h k = gone b (suc n) o u i (omega arith) h k
gone b n [] (Return ∷ u) (suc i) l h k = gone b (suc n) [] u i (omega arith) h k
gone b n (c ∷ o) (Return ∷ u) (suc i) l h k = gone b (suc n) o u i (omega arith) (λ m. h (has-later b c o m)) k
gone b n o (Cost v ∷ u) (suc i) l h k = gone b (suc n) o u i (omega arith) h k
gone b n o (Instructions v ∷ u) (suc i) l h k = gone b (suc n) o u i (omega arith) h k
gone b n o (Async x ∷ u) (suc i) l h k =
    gone b (suc n) (suc n ∷ o) u i (omega arith) (λ m. elim (has-cases b (suc n) o m) [ inl e ↦ omega arith | inr q ↦ h q ]) k
gone b n o (Finish ∷ u) (suc i) l h k =
    gone b (suc n) (suc n ∷ o) u i (omega arith) (λ m. elim (has-cases b (suc n) o m) [ inl e ↦ omega arith | inr q ↦ h q ]) k

-- ── In ──

pub in_to : (b k n : ℕ) (o : List ℕ) (u : List Frame) (i : ℕ) → b ≤ n → Nth b k o → Climb (Unit {0}) true Never k u i → T (has b (walk n o u i))
in_to b k n o [] i l h w = absurd w
in_to b k n o (e ∷ u) zero l h w = nth-has b k o h
in_to b k n o (Site x p ∷ u) (suc i) l h w = in_to b k (suc n) o u i (omega arith) h w
in_to b k n o (Call x ∷ u) (suc i) l h w = in_to b (suc k) (suc n) (suc n ∷ o) u i (omega arith) (omega arith, h) w
in_to b k n o (Spawn x ∷ u) (suc i) l h w = in_to b (suc k) (suc n) (suc n ∷ o) u i (omega arith) (omega arith, h) w
in_to b zero n o (Sync ∷ u) (suc i) l h w = in_to b zero (suc n) o u i (omega arith) h w
in_to b (suc k) n o (Sync ∷ u) (suc i) l h w = in_to b (suc k) (suc n) o u i (omega arith) h w
in_to b zero n o (Return ∷ u) (suc i) l h w = absurd w
in_to b (suc k) n [] (Return ∷ u) (suc i) l h w = absurd h
in_to b (suc k) n (c ∷ o) (Return ∷ u) (suc i) l h w = in_to b k (suc n) o u i (omega arith) h.1 w
in_to b k n o (Cost v ∷ u) (suc i) l h w = in_to b k (suc n) o u i (omega arith) h w
in_to b k n o (Instructions v ∷ u) (suc i) l h w = in_to b k (suc n) o u i (omega arith) h w
in_to b k n o (Async x ∷ u) (suc i) l h w = in_to b (suc k) (suc n) (suc n ∷ o) u i (omega arith) (omega arith, h) w
in_to b k n o (Finish ∷ u) (suc i) l h w = in_to b (suc k) (suc n) (suc n ∷ o) u i (omega arith) (omega arith, h) w

pub in_from : (b k n : ℕ) (o : List ℕ) (u : List Frame) (i : ℕ) → b ≤ n → Nth b k o → i < length u → T (has b (walk n o u i)) → Climb (Unit {0}) true Never k u i
in_from b k n o [] i l h m w = absurd (omega arith)
in_from b k n o (e ∷ u) zero l h m w = tt
in_from b k n o (Site x p ∷ u) (suc i) l h m w = in_from b k (suc n) o u i (omega arith) h (omega arith) w
in_from b k n o (Call x ∷ u) (suc i) l h m w = in_from b (suc k) (suc n) (suc n ∷ o) u i (omega arith) (omega arith, h) (omega arith) w
in_from b k n o (Spawn x ∷ u) (suc i) l h m w = in_from b (suc k) (suc n) (suc n ∷ o) u i (omega arith) (omega arith, h) (omega arith) w
in_from b zero n o (Sync ∷ u) (suc i) l h m w = in_from b zero (suc n) o u i (omega arith) h (omega arith) w
in_from b (suc k) n o (Sync ∷ u) (suc i) l h m w = in_from b (suc k) (suc n) o u i (omega arith) h (omega arith) w
in_from b zero n [] (Return ∷ u) (suc i) l h m w = absurd h
in_from b zero n (c ∷ o) (Return ∷ u) (suc i) l h m w = gone b (suc n) o u i (omega arith) (below_not b o h.1) w
in_from b (suc k) n [] (Return ∷ u) (suc i) l h m w = absurd h
in_from b (suc k) n (c ∷ o) (Return ∷ u) (suc i) l h m w = in_from b k (suc n) o u i (omega arith) h.1 (omega arith) w
in_from b k n o (Cost v ∷ u) (suc i) l h m w = in_from b k (suc n) o u i (omega arith) h (omega arith) w
in_from b k n o (Instructions v ∷ u) (suc i) l h m w = in_from b k (suc n) o u i (omega arith) h (omega arith) w
in_from b k n o (Async x ∷ u) (suc i) l h m w = in_from b (suc k) (suc n) (suc n ∷ o) u i (omega arith) (omega arith, h) (omega arith) w
in_from b k n o (Finish ∷ u) (suc i) l h m w = in_from b (suc k) (suc n) (suc n ∷ o) u i (omega arith) (omega arith, h) (omega arith) w

-- ── Near: b is still open, and no sync directly in b lies between ──

abbrev pub Unjoined : ℕ → ℕ → List ℕ → List Frame → ℕ → Type 0
Unjoined b n o u i = (q : ℕ) → Is u q Sync → T (first_is b (walk n o u q)) → q < i → ⊥

-- a line more in front
unjoined-tail : (b n : ℕ) (o : List ℕ) (e : Frame) (u : List Frame) (i : ℕ) → Unjoined b n o (e ∷ u) (suc i) → Unjoined b (suc n) (step n e o) u i
unjoined-tail b n o e u i h q a d l = h (suc q) a d (omega arith)

unjoined-cons : (b n : ℕ) (o : List ℕ) (e : Frame) (u : List Frame) (i : ℕ) → (e ≡ Sync → T (first_is b o) → ⊥) → Unjoined b (suc n) (step n e o) u i → Unjoined b n o (e ∷ u) (suc i)
unjoined-cons b n o e u i f h zero a d l = f a d
unjoined-cons b n o e u i f h (suc q) a d l = h q a d (omega arith)

above_not_first : (b k : ℕ) (o : List ℕ) → Nth b (suc k) o → T (first_is b o) → ⊥
above_not_first b k [] h f = f
above_not_first b k (c ∷ o) h f = omega (arith, first_eq b c o f)

pub near_to : (b k n : ℕ) (o : List ℕ) (u : List Frame) (i : ℕ) → b ≤ n → Nth b k o → Climb (Unit {0}) false Never k u i → T (has b (walk n o u i)) × Unjoined b n o u i
near_to b k n o [] i l h w = absurd w
near_to b k n o (e ∷ u) zero l h w = (nth-has b k o h, λ q a d m. omega arith)
near_to b k n o (Site x p ∷ u) (suc i) l h w =
    let r = near_to b k (suc n) o u i (omega arith) h w in
    (r.0, unjoined-cons b n o (Site x p) u i (λ e f. clash (cc)) r.1)
near_to b k n o (Call x ∷ u) (suc i) l h w =
    let r = near_to b (suc k) (suc n) (suc n ∷ o) u i (omega arith) (omega arith, h) w in
    (r.0, unjoined-cons b n o (Call x) u i (λ e f. clash (cc)) r.1)
near_to b k n o (Spawn x ∷ u) (suc i) l h w =
    let r = near_to b (suc k) (suc n) (suc n ∷ o) u i (omega arith) (omega arith, h) w in
    (r.0, unjoined-cons b n o (Spawn x) u i (λ e f. clash (cc)) r.1)
near_to b zero n o (Sync ∷ u) (suc i) l h w = absurd w
near_to b (suc k) n o (Sync ∷ u) (suc i) l h w =
    let r = near_to b (suc k) (suc n) o u i (omega arith) h w in
    (r.0, unjoined-cons b n o Sync u i (λ e f. above_not_first b k o h f) r.1)
near_to b zero n o (Return ∷ u) (suc i) l h w = absurd w
near_to b (suc k) n [] (Return ∷ u) (suc i) l h w = absurd h
near_to b (suc k) n (c ∷ o) (Return ∷ u) (suc i) l h w =
    let r = near_to b k (suc n) o u i (omega arith) h.1 w in
    (r.0, unjoined-cons b n (c ∷ o) Return u i (λ e f. clash (cc)) r.1)
near_to b k n o (Cost v ∷ u) (suc i) l h w =
    let r = near_to b k (suc n) o u i (omega arith) h w in
    (r.0, unjoined-cons b n o (Cost v) u i (λ e f. clash (cc)) r.1)
near_to b k n o (Instructions v ∷ u) (suc i) l h w =
    let r = near_to b k (suc n) o u i (omega arith) h w in
    (r.0, unjoined-cons b n o (Instructions v) u i (λ e f. clash (cc)) r.1)
near_to b k n o (Async x ∷ u) (suc i) l h w =
    let r = near_to b (suc k) (suc n) (suc n ∷ o) u i (omega arith) (omega arith, h) w in
    (r.0, unjoined-cons b n o (Async x) u i (λ e f. clash (cc)) r.1)
near_to b k n o (Finish ∷ u) (suc i) l h w =
    let r = near_to b (suc k) (suc n) (suc n ∷ o) u i (omega arith) (omega arith, h) w in
    (r.0, unjoined-cons b n o Finish u i (λ e f. clash (cc)) r.1)

pub near_from : (b k n : ℕ) (o : List ℕ) (u : List Frame) (i : ℕ) → b ≤ n → Nth b k o → i < length u → T (has b (walk n o u i)) → Unjoined b n o u i → Climb (Unit {0}) false Never k u i
near_from b k n o [] i l h m w j = absurd (omega arith)
near_from b k n o (e ∷ u) zero l h m w j = tt
near_from b k n o (Site x p ∷ u) (suc i) l h m w j = near_from b k (suc n) o u i (omega arith) h (omega arith) w (unjoined-tail b n o (Site x p) u i j)
near_from b k n o (Call x ∷ u) (suc i) l h m w j = near_from b (suc k) (suc n) (suc n ∷ o) u i (omega arith) (omega arith, h) (omega arith) w (unjoined-tail b n o (Call x) u i j)
near_from b k n o (Spawn x ∷ u) (suc i) l h m w j = near_from b (suc k) (suc n) (suc n ∷ o) u i (omega arith) (omega arith, h) (omega arith) w (unjoined-tail b n o (Spawn x) u i j)
near_from b zero n [] (Sync ∷ u) (suc i) l h m w j = absurd h
near_from b zero n (c ∷ o) (Sync ∷ u) (suc i) l h m w j = j zero refl (first_of b c o h.0) (omega arith)
near_from b (suc k) n o (Sync ∷ u) (suc i) l h m w j = near_from b (suc k) (suc n) o u i (omega arith) h (omega arith) w (unjoined-tail b n o Sync u i j)
near_from b zero n [] (Return ∷ u) (suc i) l h m w j = absurd h
near_from b zero n (c ∷ o) (Return ∷ u) (suc i) l h m w j = gone b (suc n) o u i (omega arith) (below_not b o h.1) w
near_from b (suc k) n [] (Return ∷ u) (suc i) l h m w j = absurd h
near_from b (suc k) n (c ∷ o) (Return ∷ u) (suc i) l h m w j = near_from b k (suc n) o u i (omega arith) h.1 (omega arith) w (unjoined-tail b n (c ∷ o) Return u i j)
near_from b k n o (Cost v ∷ u) (suc i) l h m w j = near_from b k (suc n) o u i (omega arith) h (omega arith) w (unjoined-tail b n o (Cost v) u i j)
near_from b k n o (Instructions v ∷ u) (suc i) l h m w j = near_from b k (suc n) o u i (omega arith) h (omega arith) w (unjoined-tail b n o (Instructions v) u i j)
near_from b k n o (Async x ∷ u) (suc i) l h m w j = near_from b (suc k) (suc n) (suc n ∷ o) u i (omega arith) (omega arith, h) (omega arith) w (unjoined-tail b n o (Async x) u i j)
near_from b k n o (Finish ∷ u) (suc i) l h m w j = near_from b (suc k) (suc n) (suc n ∷ o) u i (omega arith) (omega arith, h) (omega arith) w (unjoined-tail b n o Finish u i j)

-- ── Past: G has returned, and from there on Near holds of F ──

pub record Passed (G F n : ℕ) (o : List ℕ) (u : List Frame) (j : ℕ) : Type 0 where
  pub end : ℕ
  pub is : Is u end Return
  pub its_own : T (first_is G (walk n o u end))
  pub without : T (has G (walk n o u j)) → ⊥
  pub still_open : T (has F (walk n o u j))
  pub unjoined : (q : ℕ) → Is u q Sync → T (first_is F (walk n o u q)) → end < q → q < j → ⊥

pub passed-cons : (G F n : ℕ) (o : List ℕ) (e : Frame) (u : List Frame) (j : ℕ) → Passed G F (suc n) (step n e o) u j → Passed G F n o (e ∷ u) (suc j)
passed-cons G F n o e u j p =
    record { end = suc p.end; is = p.is; its_own = p.its_own; without = p.without; still_open = p.still_open; unjoined = un }
  where
    un : (q : ℕ) → Is (e ∷ u) q Sync → T (first_is F (walk n o (e ∷ u) q)) → suc p.end < q → q < suc j → ⊥
    un zero a d l m = omega arith
    un (suc q) a d l m = p.unjoined q a d (omega arith) (omega arith)

pub passed-tail : (G F n : ℕ) (o : List ℕ) (e : Frame) (u : List Frame) (j : ℕ) → (e ≡ Return → T (first_is G o) → ⊥) → Passed G F n o (e ∷ u) (suc j) → Passed G F (suc n) (step n e o) u j
passed-tail G F n o e u j f p = go p.end p.is p.its_own p.unjoined
  where
    go : (r : ℕ) → Is (e ∷ u) r Return → T (first_is G (walk n o (e ∷ u) r)) → ((q : ℕ) → Is (e ∷ u) q Sync → T (first_is F (walk n o (e ∷ u) q)) → r < q → q < suc j → ⊥) → Passed G F (suc n) (step n e o) u j
    go zero a d un = absurd (f a d)
    go (suc r) a d un = record { end = r; is = a; its_own = d; without = p.without; still_open = p.still_open; unjoined = λ q x y l m. un (suc q) x y (omega arith) (omega arith) }

above-two : (G F k : ℕ) (o : List ℕ) → Two G F (suc k) o → T (first_is G o) → ⊥
above-two G F k [] h f = f
above-two G F k (c ∷ o) h f = omega (arith, first_eq G c o f)

pub past_to : (G F k n : ℕ) (o : List ℕ) (u : List Frame) (j : ℕ) → G ≤ n → F < G → Two G F k o → Climb ⊥ true Near k u j → Passed G F n o u j
past_to G F k n o [] j l f h w = absurd w
past_to G F k n o (e ∷ u) zero l f h w = absurd w
past_to G F k n o (Site x p ∷ u) (suc j) l f h w = passed-cons G F n o (Site x p) u j (past_to G F k (suc n) o u j (omega arith) f h w)
past_to G F k n o (Call x ∷ u) (suc j) l f h w = passed-cons G F n o (Call x) u j (past_to G F (suc k) (suc n) (suc n ∷ o) u j (omega arith) f (omega arith, h) w)
past_to G F k n o (Spawn x ∷ u) (suc j) l f h w = passed-cons G F n o (Spawn x) u j (past_to G F (suc k) (suc n) (suc n ∷ o) u j (omega arith) f (omega arith, h) w)
past_to G F zero n o (Sync ∷ u) (suc j) l f h w = passed-cons G F n o Sync u j (past_to G F zero (suc n) o u j (omega arith) f h w)
past_to G F (suc k) n o (Sync ∷ u) (suc j) l f h w = passed-cons G F n o Sync u j (past_to G F (suc k) (suc n) o u j (omega arith) f h w)
past_to G F zero n [] (Return ∷ u) (suc j) l f h w = absurd h
past_to G F zero n (c ∷ o) (Return ∷ u) (suc j) l f h w =
    let r = near_to F zero (suc n) o u j (omega arith) h.2 w in
    record {
      end = zero;
      is = refl;
      its_own = first_of G c o h.0;
      without = gone G (suc n) o u j (omega arith) (below_not G o h.1);
      still_open = r.0;
      unjoined = λ q a d lo hi. unjoined-cons F n (c ∷ o) Return u j (λ e g. clash (cc)) r.1 q a d hi;
    }
past_to G F (suc k) n [] (Return ∷ u) (suc j) l f h w = absurd h
past_to G F (suc k) n (c ∷ o) (Return ∷ u) (suc j) l f h w = passed-cons G F n (c ∷ o) Return u j (past_to G F k (suc n) o u j (omega arith) f h.1 w)
past_to G F k n o (Cost v ∷ u) (suc j) l f h w = passed-cons G F n o (Cost v) u j (past_to G F k (suc n) o u j (omega arith) f h w)
past_to G F k n o (Instructions v ∷ u) (suc j) l f h w = passed-cons G F n o (Instructions v) u j (past_to G F k (suc n) o u j (omega arith) f h w)
past_to G F k n o (Async x ∷ u) (suc j) l f h w = passed-cons G F n o (Async x) u j (past_to G F (suc k) (suc n) (suc n ∷ o) u j (omega arith) f (omega arith, h) w)
past_to G F k n o (Finish ∷ u) (suc j) l f h w = passed-cons G F n o Finish u j (past_to G F (suc k) (suc n) (suc n ∷ o) u j (omega arith) f (omega arith, h) w)

pub past-from : (G F k n : ℕ) (o : List ℕ) (u : List Frame) (j : ℕ) → G ≤ n → F < G → Two G F k o → j < length u → Passed G F n o u j → Climb ⊥ true Near k u j
past-from G F k n o [] j l f h m p = absurd (omega arith)
past-from G F k n o (e ∷ u) zero l f h m p = p.without (nth-has G k o (two-nth G F k o h))
past-from G F k n o (Site x q ∷ u) (suc j) l f h m p = past-from G F k (suc n) o u j (omega arith) f h (omega arith) (passed-tail G F n o (Site x q) u j (λ e g. clash (cc)) p)
past-from G F k n o (Call x ∷ u) (suc j) l f h m p =
    past-from G F (suc k) (suc n) (suc n ∷ o) u j (omega arith) f (omega arith, h) (omega arith) (passed-tail G F n o (Call x) u j (λ e g. clash (cc)) p)
past-from G F k n o (Spawn x ∷ u) (suc j) l f h m p =
    past-from G F (suc k) (suc n) (suc n ∷ o) u j (omega arith) f (omega arith, h) (omega arith) (passed-tail G F n o (Spawn x) u j (λ e g. clash (cc)) p)
past-from G F zero n o (Sync ∷ u) (suc j) l f h m p = past-from G F zero (suc n) o u j (omega arith) f h (omega arith) (passed-tail G F n o Sync u j (λ e g. clash (cc)) p)
past-from G F (suc k) n o (Sync ∷ u) (suc j) l f h m p = past-from G F (suc k) (suc n) o u j (omega arith) f h (omega arith) (passed-tail G F n o Sync u j (λ e g. clash (cc)) p)
past-from G F zero n [] (Return ∷ u) (suc j) l f h m p = absurd h
past-from G F zero n (c ∷ o) (Return ∷ u) (suc j) l f h m p = go p.end p.its_own p.unjoined
  where
    go : (r : ℕ) → T (first_is G (walk n (c ∷ o) (Return ∷ u) r)) → ((q : ℕ) → Is (Return ∷ u) q Sync → T (first_is F (walk n (c ∷ o) (Return ∷ u) q)) → r < q → q < suc j → ⊥) → Near u j
    go zero d un = near_from F zero (suc n) o u j (omega arith) h.2 (omega arith) p.still_open (λ q x y l. un (suc q) x y (omega arith) (omega arith))
    go (suc r) d un = absurd (gone G (suc n) o u r (omega arith) (below_not G o h.1) (first-has G (walk (suc n) o u r) d))
past-from G F (suc k) n [] (Return ∷ u) (suc j) l f h m p = absurd h
past-from G F (suc k) n (c ∷ o) (Return ∷ u) (suc j) l f h m p =
    past-from G F k (suc n) o u j (omega arith) f h.1 (omega arith) (passed-tail G F n (c ∷ o) Return u j (λ e g. above-two G F k (c ∷ o) h g) p)
past-from G F k n o (Cost v ∷ u) (suc j) l f h m p = past-from G F k (suc n) o u j (omega arith) f h (omega arith) (passed-tail G F n o (Cost v) u j (λ e g. clash (cc)) p)
past-from G F k n o (Instructions v ∷ u) (suc j) l f h m p = past-from G F k (suc n) o u j (omega arith) f h (omega arith) (passed-tail G F n o (Instructions v) u j (λ e g. clash (cc)) p)
past-from G F k n o (Async x ∷ u) (suc j) l f h m p =
    past-from G F (suc k) (suc n) (suc n ∷ o) u j (omega arith) f (omega arith, h) (omega arith) (passed-tail G F n o (Async x) u j (λ e g. clash (cc)) p)
past-from G F k n o (Finish ∷ u) (suc j) l f h m p =
    past-from G F (suc k) (suc n) (suc n ∷ o) u j (omega arith) f (omega arith, h) (omega arith) (passed-tail G F n o Finish u j (λ e g. clash (cc)) p)
