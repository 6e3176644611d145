-- A trace that differs only in what its cost lines weigh, none of them more: the same invocations in every row, and no
-- number above that of the other.
use mathlib.Core.Path.{◌≡◌, refl, sym, ◌∙◌, ap, subst}
use mathlib.Core.Bool.{Bool, true, false, cond, ◌&&◌, ◌||◌}
use mathlib.Core.List.{List, [], ◌∷◌}
use Prim.Native.Nat.{ℕ, zero, suc, ◌+◌, ◌-◌, ◌≤◌}
use native.Mathlib.Omega.{arith}
use lib.Dec.{eqb}
use lib.ListN.{length}
use Rattle.line.specs.declared.Frame.{Frame}
use Rattle.line.specs.declared.Frame.TheVariants.{Site, Call, Spawn, Sync, Return, Cost, Instructions, Async, Finish}
use Rattle.chain.specs.Over as Over
use Rattle.trace.specs.Shape.{if_cost, if_instructions, root, step, open_at, has}
use Rattle.trace.specs.Async.{is_finish, finish_line, finish, owner_is}
use Rattle.trace.specs.Series.{value, value_at, Chain, weight, Span}
use Rattle.trace.specs.Rows.{makes, made, of_row, has_of, enclosed, unenclosed, counted, cycles, carried, instructions, sum_of, total, inside, direct, direct_on, sum, Sum, calls, work, Spans, ilocal, ion_span}
use Rattle.trace.proofs.Sums.{sum_same, sum_le}
use Rattle.weigh.proofs.Alike.{bare, ButCosts, alike_sym, step_alike, open_alike, chain_alike}

-- ── the same invocations ──

makes-bare : (s : ℕ) (f : Frame) → makes s f ≡ makes s (bare f)
makes-bare s (Site i p) = refl
makes-bare s (Call i) = refl
makes-bare s (Spawn i) = refl
makes-bare s Sync = refl
makes-bare s Return = refl
makes-bare s (Cost v) = refl
makes-bare s (Instructions v) = refl
makes-bare s (Async i) = refl
makes-bare s Finish = refl

made_alike : (n : ℕ) (t u : List Frame) (s : ℕ) → ButCosts t u → made n t s ≡ made n u s
made_alike n [] [] s h = refl
made_alike n [] (f ∷ u) s h = absurd h
made_alike n (e ∷ t) [] s h = absurd h
made_alike n (e ∷ t) (f ∷ u) s h =
    ap (λ (b : Bool). cond b (suc n ∷ made (suc n) t s) (made (suc n) t s)) (makes-bare s e ∙ ap (makes s) h.0 ∙ sym (makes-bare s f))
    ∙ ap (λ (l : List ℕ). cond (makes s f) (suc n ∷ l) l) (made_alike (suc n) t u s h.1)

module _ (t u : List Frame) (h : ButCosts t u) where
  pub of_row_alike : (s : ℕ) → of_row t s ≡ of_row u s
  of_row_alike zero = refl
  of_row_alike (suc s) = made_alike 0 t u (suc s) h

  -- LAW: calls do not change
  pub calls_alike : (s : ℕ) → calls t s ≡ calls u s
  calls_alike s = ap length (of_row_alike s)

  has_of_alike : (s : ℕ) (o : List ℕ) → has_of t s o ≡ has_of u s o
  has_of_alike s [] = refl
  has_of_alike s (G ∷ o) = ap (λ (l : List ℕ). has G l || has_of t s o) (of_row_alike s) ∙ ap (λ (b : Bool). has G (of_row u s) || b) (has_of_alike s o)

  enclosed_alike : (s F : ℕ) → enclosed t s F ≡ enclosed u s F
  enclosed_alike s zero = refl
  enclosed_alike s (suc g) = has_of_alike s (open_at t g) ∙ ap (has_of u s) (open_alike t u h g)

  unenclosed_alike : (s : ℕ) (l : List ℕ) → unenclosed t s l ≡ unenclosed u s l
  unenclosed_alike s [] = refl
  unenclosed_alike s (F ∷ l) =
      ap (λ (b : Bool). cond b (unenclosed t s l) (F ∷ unenclosed t s l)) (enclosed_alike s F)
      ∙ ap (λ (k : List ℕ). cond (enclosed u s F) k (F ∷ k)) (unenclosed_alike s l)

  pub counted_alike : (s : ℕ) → counted t s ≡ counted u s
  counted_alike s = unenclosed_alike s (of_row t s) ∙ ap (unenclosed u s) (of_row_alike s)

-- ── the same finishes ──

finish-bare : (f : Frame) → is_finish f ≡ is_finish (bare f)
finish-bare (Site s p) = refl
finish-bare (Call s) = refl
finish-bare (Spawn s) = refl
finish-bare Sync = refl
finish-bare Return = refl
finish-bare (Cost v) = refl
finish-bare (Instructions v) = refl
finish-bare (Async s) = refl
finish-bare Finish = refl

finish-line : (t u : List Frame) → ButCosts t u → (k : ℕ) → finish_line t k ≡ finish_line u k
finish-line [] [] h k = refl
finish-line [] (f ∷ u) h k = absurd h
finish-line (e ∷ t) [] h k = absurd h
finish-line (e ∷ t) (f ∷ u) h zero = finish-bare e ∙ ap is_finish h.0 ∙ sym (finish-bare f)
finish-line (e ∷ t) (f ∷ u) h (suc k) = finish-line t u h.1 k

module _ (t u : List Frame) (h : ButCosts t u) where
  finish_alike : (x : ℕ) → finish t x ≡ finish u x
  finish_alike zero = refl
  finish_alike (suc g) = finish-line t u h g

  owner_alike : (F : ℕ) (o : List ℕ) → owner_is t F o ≡ owner_is u F o
  owner_alike F [] = refl
  owner_alike F (x ∷ o) = ap (λ (b : Bool). cond b (owner_is t F o) (eqb F x)) (finish_alike x) ∙ ap (λ (b : Bool). cond (finish u x) b (eqb F x)) (owner_alike F o)

-- ── the same instructions ──

carried-bare : (f : Frame) → if_instructions (λ v. v) 0 f ≡ if_instructions (λ v. v) 0 (bare f)
carried-bare (Site s p) = refl
carried-bare (Call s) = refl
carried-bare (Spawn s) = refl
carried-bare Sync = refl
carried-bare Return = refl
carried-bare (Cost v) = refl
carried-bare (Instructions v) = refl
carried-bare (Async s) = refl
carried-bare Finish = refl

carried_alike : (t u : List Frame) → ButCosts t u → carried t ≡ carried u
carried_alike [] [] h = refl
carried_alike [] (f ∷ u) h = absurd h
carried_alike (e ∷ t) [] h = absurd h
carried_alike (e ∷ t) (f ∷ u) h = carried-bare e ∙ ap (if_instructions (λ v. v) 0) h.0 ∙ sym (carried-bare f)

cost-bare : (x : ℕ) (f : Frame) → if_cost (λ v. x) 0 f ≡ if_cost (λ v. x) 0 (bare f)
cost-bare x (Site s p) = refl
cost-bare x (Call s) = refl
cost-bare x (Spawn s) = refl
cost-bare x Sync = refl
cost-bare x Return = refl
cost-bare x (Cost v) = refl
cost-bare x (Instructions v) = refl
cost-bare x (Async s) = refl
cost-bare x Finish = refl

instructions_alike : (e f : Frame) (t u : List Frame) → bare e ≡ bare f → ButCosts t u → instructions e t ≡ instructions f u
instructions_alike e f t u h k =
    cost-bare (carried t) e ∙ ap (if_cost (λ v. carried t) 0) h ∙ sym (cost-bare (carried t) f) ∙ ap (λ (x : ℕ). if_cost (λ v. x) 0 f) (carried_alike t u k)

sum-instructions : (p q : ℕ → List ℕ → Bool) → ((n : ℕ) (o : List ℕ) → p n o ≡ q n o) → (n : ℕ) (o : List ℕ) (t u : List Frame) → ButCosts t u → sum_of instructions p n o t ≡ sum_of instructions q n o u
sum-instructions p q e n o [] [] h = refl
sum-instructions p q e n o [] (f ∷ u) h = absurd h
sum-instructions p q e n o (x ∷ t) [] h = absurd h
sum-instructions p q e n o (x ∷ t) (y ∷ u) h =
    let picked = ap (λ (b : Bool). cond b (instructions x t) 0) (e n o) in
    let first = ap (λ (v : ℕ). cond (q n o) v 0) (instructions_alike x y t u h.0 h.1) in
    let same = ap (λ (k : List ℕ). sum_of instructions q (suc n) k u) (step_alike n x y o h.0) in
    omega (arith, picked, first, sum-instructions p q e (suc n) (step n x o) t u h.1, same)

-- LAW: instructions are those of the other, local and on whatever chain
pub ilocal_alike : (t u : List Frame) (h : ButCosts t u) (s : ℕ) → ilocal t s ≡ ilocal u s
ilocal_alike t u h s =
    sum_same (direct instructions t) (direct instructions u) (λ F. sum-instructions (λ k o. owner_is t F o) (λ k o. owner_is u F o) (λ k o. owner_alike t u h F o) 0 (root ∷ []) t u h) (of_row t s)
    ∙ ap (sum (direct instructions u)) (of_row_alike t u h s)

pub ion_span_alike : (t u : List Frame) (h : ButCosts t u) (c : List ℕ) (s : ℕ) → ion_span t c s ≡ ion_span u c s
ion_span_alike t u h c s =
    sum_same (direct_on instructions t c) (direct_on instructions u c) (λ F. sum-instructions (λ k o. owner_is t F o && has k c) (λ k o. owner_is u F o && has k c) (λ k o. ap (λ (b : Bool). b && has k c) (owner_alike t u h F o)) 0 (root ∷ []) t u h) (of_row t s)
    ∙ ap (sum (direct_on instructions u c)) (of_row_alike t u h s)

-- ── no number is above ──

-- each line of the second weighs at most what it weighs in the first
abbrev pub AtMost : List Frame → List Frame → Type 0
AtMost [] [] = Unit {0}
AtMost [] (f ∷ u) = ⊥
AtMost (e ∷ t) [] = ⊥
AtMost (e ∷ t) (f ∷ u) = (value f ≤ value e) × AtMost t u

pub value-most : (t u : List Frame) → AtMost t u → (k : ℕ) → value_at u k ≤ value_at t k
value-most [] [] m k = omega arith
value-most [] (f ∷ u) m k = absurd m
value-most (e ∷ t) [] m k = absurd m
value-most (e ∷ t) (f ∷ u) m zero = m.0
value-most (e ∷ t) (f ∷ u) m (suc k) = value-most t u m.1 k

picked : (b : Bool) (x y : ℕ) → x ≤ y → cond b x 0 ≤ cond b y 0
picked true x y l = l
picked false x y l = omega arith

sum-most : (p : ℕ → List ℕ → Bool) (n : ℕ) (o : List ℕ) (t u : List Frame) → ButCosts t u → AtMost t u → sum_of cycles p n o u ≤ sum_of cycles p n o t
sum-most p n o [] [] h m = omega arith
sum-most p n o [] (f ∷ u) h m = absurd h
sum-most p n o (e ∷ t) [] h m = absurd h
sum-most p n o (e ∷ t) (f ∷ u) h m =
    let same = ap (λ (k : List ℕ). sum_of cycles p (suc n) k u) (step_alike n e f o h.0) in
    omega (arith, picked (p n o) (value f) (value e) m.0, sum-most p (suc n) (step n e o) t u h.1 m.1, same)

weight-most : (f g : ℕ → ℕ) → ((k : ℕ) → f k ≤ g k) → (c : List ℕ) → Over.weight f c ≤ Over.weight g c
weight-most f g h [] = omega arith
weight-most f g h (k ∷ c) = omega (arith, h k, weight-most f g h c)

module _ (t u : List Frame) (h : ButCosts t u) (m : AtMost t u) where
  -- LAW: no more total work
  pub total-most : total u ≤ total t
  total-most = sum-most (λ k o. true) 0 (root ∷ []) t u h m

  -- LAW: no more work in any row
  pub work-most : (s : ℕ) → work u s ≤ work t s
  work-most s =
      let same = ap (sum (inside u)) (counted_alike t u h s) in
      omega (arith, sum_le (inside u) (inside t) (λ F. sum-most (λ k o. has F o) 0 (root ∷ []) t u h m) (counted t s), same)

  pub chain-most : (c : List ℕ) → weight u c ≤ weight t c
  chain-most c = weight-most (value_at u) (value_at t) (value-most t u m) c

  -- LAW: no more span of any invocation, the root's among them
  pub span-most : (F a b : ℕ) → Span t F a → Span u F b → b ≤ a
  span-most F a b x y = omega (arith, y.weighs, chain-most y.chain, x.greatest y.chain (chain_alike u t (alike_sym t u h) F y.chain y.is_chain))

  spans_of : (l : List ℕ) (a b : ℕ) → Sum (Span t) l a → Sum (Span u) l b → b ≤ a
  spans_of [] a b x y = omega (arith, x, y)
  spans_of (F ∷ l) a b x y =
      omega (arith, span-most F x.0 y.0 x.2 y.2, spans_of l x.1 y.1 x.3 y.3, x.4, y.4)

  -- LAW: no more span in any row
  pub spans_most : (s a b : ℕ) → Spans t s a → Spans u s b → b ≤ a
  spans_most s a b x y = spans_of (counted t s) a b x (subst (λ (l : List ℕ). Sum (Span u) l b) (sym (counted_alike t u h s)) y)

  -- LAW: the span loses at most what a heaviest chain loses
  pub span-loses : (c : List ℕ) (a b : ℕ) → Chain t root c → weight t c ≡ a → Span u root b → a ≤ b + (weight t c - weight u c)
  span-loses c a b x e y = omega (arith, y.greatest c (chain_alike t u h root c x), chain-most c)
