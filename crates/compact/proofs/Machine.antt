-- Line by line, what goes out is the compacted trace. Assumes nothing.
use mathlib.Core.Path.{◌≡◌, refl, sym, ◌∙◌, ap, subst}
use mathlib.Core.Logic.{◌⊎◌, inl, inr}
use mathlib.Core.Bool.{Bool, true, false, not, cond, ◌||◌, ◌&&◌}
use mathlib.Core.List.{List, [], ◌∷◌, ◌++◌}
use Prim.Native.Nat.{ℕ, zero, suc, ◌+◌, ◌*◌, ◌/◌, ◌%◌, ◌≤◌, ◌<◌}
use native.Mathlib.Omega.{arith}
use lib.Dec.{eqb}
use lib.ListN.{length}
use borrow.Author.Tests.{eq-eqb, ne_eqb, ltb-false}
use Rattle.line.specs.declared.Place.{Place}
use Rattle.line.specs.Family.{Base}
use Rattle.line.specs.declared.Frame.{Frame}
use Rattle.line.specs.declared.Frame.TheVariants.{Site, Call, Spawn, Sync, Return, Cost, Instructions, Async, Finish}
use Rattle.trace.specs.Shape.{closed, step}
use Rattle.trace.specs.Rows.{carried}
use Rattle.trace.specs.Refusals.{open_now, empty, too_deep}
use Rattle.trace.proofs.Basics.{clash}
use Rattle.trace.proofs.Scan.{InTable, Clean, Fine, faultless, now}
use Rattle.trace.proofs.Owned.{Owned, clean-owned}
use Rattle.compact.specs.Compact.{most_value, both_fit, summed, merged_from}
use Rattle.compact.specs.Fold.{innermost, since, only_syncs, kept_from, compact}
use Rattle.compact.specs.Machine.{bit, holding, nothing, start, silent, flushed, entered, left, waiting, alone, together, step as step_of, stepped, emitted, outs, Ready, Fitting, Room}
use Rattle.compact.specs.declared.step.State.{State}
use Rattle.compact.specs.declared.step.Given.{Given}
use Rattle.walk.specs.Measure.{cycles, instructions}
use Rattle.compact.proofs.Pairs.{Fit, Over, fit_either}
use Rattle.compact.proofs.Lines.{kept-carried}

-- ── an invocation is open at each line, at most 64 are, its value is in the table, and behind the last line none is ──

abbrev pub Inside : List Bool → List Frame → Type 0
Inside o [] = o ≡ []
Inside o (f ∷ t) = (1 ≤ length o) × (length o ≤ 64) × InTable Base f × Inside (since f o) t

no_bits : (o : List Bool) → length o ≡ 0 → o ≡ []
no_bits [] e = refl
no_bits (x ∷ o) e = absurd (omega arith)

none_open : (o : List ℕ) → empty o ≡ true → length o ≡ 0
none_open [] e = refl
none_open (c ∷ o) e = clash (cc)

some_open : (o : List ℕ) → empty o ≡ false → 1 ≤ length o
some_open [] e = clash (cc)
some_open (c ∷ o) e = omega arith

-- as many bits as open invocations, and within the depth
module _ (D : ℕ) (most : D ≤ 64) where
  record Level (o : List ℕ) (b : List Bool) : Type 0 where
    same : length b ≡ length o
    within : length o ≤ D

  -- the innermost bit changes and none is added
  inner : (x : Bool) (b : List Bool) → length (innermost x b) ≡ length b
  inner x [] = refl
  inner x (y ∷ b) = refl

  closing : (o : List ℕ) (b : List Bool) → Level o b → Level (closed o) (since Return b)
  closing [] [] l = l
  closing [] (x ∷ b) l = absurd (omega (arith, l.same))
  closing (c ∷ o) [] l = absurd (omega (arith, l.same))
  closing (c ∷ o) (x ∷ b) l = record { same = omega (arith, l.same); within = omega (arith, l.within) }

  level_next : (before : List Frame) (n : ℕ) (b : List Bool) (f : Frame) → too_deep D before f ≡ false → Level (open_now before) b → Level (step n f (open_now before)) (since f b)
  level_next before n b (Site s p) h l = l
  level_next before n b (Call s) h l = record { same = omega (arith, l.same); within = ltb-false D (suc (length (open_now before))) h }
  level_next before n b (Spawn s) h l = record { same = omega (arith, l.same, inner true b); within = ltb-false D (suc (length (open_now before))) h }
  level_next before n b (Cost v) h l = l
  level_next before n b (Instructions v) h l = l
  level_next before n b (Async s) h l = record { same = omega (arith, l.same); within = ltb-false D (suc (length (open_now before))) h }
  level_next before n b Finish h l = record { same = omega (arith, l.same); within = ltb-false D (suc (length (open_now before))) h }
  level_next before n b Sync h l = record { same = inner false b ∙ l.same; within = l.within }
  level_next before n b Return h l = closing (open_now before) b l

  clean-inside : (M : ℕ) (before t : List Frame) (b : List Bool) → Clean Base D M before t → Level (open_now before) b → Inside b t
  clean-inside M before [] b c l = no_bits b (l.same ∙ none_open (open_now before) c)
  clean-inside M before (f ∷ t) b c l =
      let w = faultless D M before f c.0 in (
        omega (arith, l.same, some_open (open_now before) w.not7),
        omega (arith, l.same, l.within),
        c.1,
        clean-inside M (before ++ f ∷ []) t (since f b) c.2
            (subst (λ (o : List ℕ). Level o (since f b)) (sym (now before f)) (level_next before (length before) b f w.not12 l)),
      )

pub fine-inside : (D M : ℕ) (t : List Frame) → Fine Base D M t → Inside (false ∷ []) t
fine-inside D M t f = clean-inside D f.most M [] t (false ∷ []) f.clean (record { same = refl; within = f.least })

pub fine-owned : (D M : ℕ) (t : List Frame) → Fine Base D M t → Owned false t
fine-owned D M t f = clean-owned Base D M [] t f.clean

carried-most : (o : List Bool) (t : List Frame) → Inside o t → carried t ≤ most_value
carried-most o [] i = omega arith
carried-most o (Site s p ∷ t) i = omega arith
carried-most o (Call s ∷ t) i = omega arith
carried-most o (Spawn s ∷ t) i = omega arith
carried-most o (Sync ∷ t) i = omega arith
carried-most o (Return ∷ t) i = omega arith
carried-most o (Cost v ∷ t) i = omega arith
carried-most o (Instructions v ∷ t) i = i.2.1
carried-most o (Async s ∷ t) i = omega arith
carried-most o (Finish ∷ t) i = omega arith

-- ── the state ──

abbrev state : ℕ → Bool → Bool → ℕ → ℕ → State
state a x y h j = holding a x y (cycles h) (instructions j)

-- the bits of the invocations around, the innermost lowest
abbrev number : List Bool → ℕ
number [] = 0
number (x ∷ o) = number o * 2 + bit x

-- behind the return of an invocation with a around it
abbrev back : ℕ → State
back a = nothing (a / 2) (eqb (a % 2) 1)

again : (a : ℕ) (x : Bool) → back (a * 2 + bit x) ≡ nothing a x
again a true =
    let p : (a * 2 + 1) / 2 ≡ a = omega arith in
    let q : (a * 2 + 1) % 2 ≡ 1 = omega arith in
    ap (λ (n : ℕ). nothing n (eqb ((a * 2 + 1) % 2) 1)) p ∙ ap (nothing a) (eq-eqb ((a * 2 + 1) % 2) 1 q)
again a false =
    let p : (a * 2 + 0) / 2 ≡ a = omega arith in
    let q : (a * 2 + 0) % 2 ≡ 0 = omega arith in
    ap (λ (n : ℕ). nothing n (eqb ((a * 2 + 0) % 2) 1)) p ∙ ap (nothing a) (ne_eqb ((a * 2 + 0) % 2) 1 (λ z. omega arith))

-- ── what goes out ──

-- a sync that is held stays where something else than syncs is before the return
abbrev pending : Bool → List Frame → List Frame → List Frame
pending y t k = cond (y && not (only_syncs t)) (Sync ∷ k) k

merged-zero : (v : ℕ) (k : List Frame) → merged_from 0 0 (Cost v ∷ k) ≡ merged_from v (carried k) k
merged-zero v k =
    let z : 0 + v ≡ v = omega arith in
    let y : 0 + carried k ≡ carried k = omega arith in
    ap (λ (n : ℕ). cond (both_fit n (0 + carried k)) (merged_from n (0 + carried k) k) (merged_from v (carried k) k)) z
    ∙ ap (λ (n : ℕ). cond (both_fit v n) (merged_from v n k) (merged_from v (carried k) k)) y
    ∙ go (both_fit v (carried k))
  where
    go : (e : Bool) → cond e (merged_from v (carried k) k) (merged_from v (carried k) k) ≡ merged_from v (carried k) k
    go true = refl
    go false = refl

-- where a sync is held there was none since, and the line before is no cost, which c says
abbrev Held : Bool → Bool → Bool → Type 0
Held c x y = y ≡ true → (x ≡ false) × (c ≡ false)

abbrev Out : List Frame → Type 0
Out t = (o : List Bool) (c x y : Bool) (h j : ℕ) → Inside (x ∷ o) t → Owned c t → Held c x y → outs (state (number o) x y h j) t ≡ merged_from h j (pending y t (kept_from (x ∷ o) t))

not_yet : (c x : Bool) → Held c x false
not_yet c x e = clash (cc)

-- a line that neither is held nor ends anything goes out behind all that is held
flush_out : (f : Frame) (h j : ℕ) (y : Bool) (a b : List Frame) → a ≡ b → summed h j (cond y (Sync ∷ f ∷ a) (f ∷ a)) ≡ summed h j (cond y (Sync ∷ f ∷ b) (f ∷ b))
flush_out f h j y a b e = ap (λ (l : List Frame). summed h j (cond y (Sync ∷ f ∷ l) (f ∷ l))) e

out-site : (s : ℕ) (p : Place) (t : List Frame) → Out t → Out (Site s p ∷ t)
out-site s p t r o c x true h j i n w = flush_out (Site s p) h j true _ _ (r o false x false 0 0 i.3 n.1 (not_yet false x))
out-site s p t r o c x false h j i n w = flush_out (Site s p) h j false _ _ (r o false x false 0 0 i.3 n.1 (not_yet false x))

out_call : (s : ℕ) (t : List Frame) → Out t → Out (Call s ∷ t)
out_call s t r o c x true h j i n w = flush_out (Call s) h j true _ _ (r (x ∷ o) false false false 0 0 i.3 n.1 (not_yet false false))
out_call s t r o c x false h j i n w = flush_out (Call s) h j false _ _ (r (x ∷ o) false false false 0 0 i.3 n.1 (not_yet false false))

out_spawn : (s : ℕ) (t : List Frame) → Out t → Out (Spawn s ∷ t)
out_spawn s t r o c x true h j i n w = flush_out (Spawn s) h j true _ _ (r (true ∷ o) false false false 0 0 i.3 n.1 (not_yet false false))
out_spawn s t r o c x false h j i n w = flush_out (Spawn s) h j false _ _ (r (true ∷ o) false false false 0 0 i.3 n.1 (not_yet false false))

out_return : (t : List Frame) → Out t → Out (Return ∷ t)
out_return t r o c x y h j i n w = go y (ap (λ (l : List Frame). summed h j (Return ∷ l)) (rest o t i.3 n.1 (λ p v. r p false v false 0 0)))
  where
    rest : (o : List Bool) (t : List Frame) → Inside o t → Owned false t
        → ((p : List Bool) (v : Bool) → Inside (v ∷ p) t → Owned false t → Held false v false → outs (nothing (number p) v) t ≡ merged_from 0 0 (kept_from (v ∷ p) t))
        → outs (back (number o)) t ≡ merged_from 0 0 (kept_from o t)
    rest [] [] i n r = refl
    rest [] (f ∷ t) i n r = absurd (omega (arith, i.0))
    rest (v ∷ p) t i n r = ap (λ (s : State). outs s t) (again (number p) v) ∙ r p v i n (not_yet false v)

    go : (y : Bool) → summed h j (Return ∷ outs (back (number o)) t) ≡ summed h j (Return ∷ merged_from 0 0 (kept_from o t))
        → summed h j (Return ∷ outs (back (number o)) t) ≡ merged_from h j (pending y (Return ∷ t) (Return ∷ kept_from o t))
    go true e = e
    go false e = e

out-sync : (t : List Frame) → Out t → Out (Sync ∷ t)
out-sync t r o c false y h j i n w = r o false false y h j i.3 n.1 (λ e. (refl, refl))
out-sync t r o c true true h j i n w = clash (let q = (w refl).0 in cc)
out-sync t r o c true false h j i n w = r o false false true h j i.3 n.1 (λ e. (refl, refl)) ∙ ap (merged_from h j) (go (only_syncs t))
  where
    k : List Frame
    k = kept_from (false ∷ o) t

    go : (e : Bool) → cond (not e) (Sync ∷ k) k ≡ cond e k (Sync ∷ k)
    go true = refl
    go false = refl

-- a cost of v with the instructions i, where no sync is held; e: both sums fit
abbrev cost_given : Bool → List Bool → Bool → ℕ → ℕ → ℕ → ℕ → Given
cost_given e o x h j v i = cond e (silent (state (number o) x false (h + v) (j + i))) (alone (cycles v) (instructions i) (state (number o) x false h j))

out-cost : (v : ℕ) (t : List Frame) → Out t → Out (Cost v ∷ t)
out-cost v t r o c x true h j i n w =
    let k = kept_from (x ∷ o) t in
    let e = kept-carried t true (x ∷ o) n.1 in
    ap (λ (l : List Frame). summed h j (Sync ∷ l))
    (r o true x false v (carried t) i.3 n.1 (not_yet true x) ∙ ap (λ (m : ℕ). merged_from v m k) (sym e) ∙ sym (merged-zero v k))
out-cost v t r o c x false h j i n w =
    go (both_fit (h + v) (j + carried t))
    ∙ ap (λ (m : ℕ). cond (both_fit (h + v) (j + m)) (merged_from (h + v) (j + m) k) (summed h j (merged_from v m k))) (sym (kept-carried t true (x ∷ o) n.1))
  where
    k : List Frame
    k = kept_from (x ∷ o) t

    given : Bool → Given
    given e = cost_given e o x h j v (carried t)

    go : (e : Bool) → emitted (given e) (Cost v) (outs (given e).next t) ≡ cond e (merged_from (h + v) (j + carried t) k) (summed h j (merged_from v (carried t) k))
    go true = r o true x false (h + v) (j + carried t) i.3 n.1 (not_yet true x)
    go false = ap (summed h j) (r o true x false v (carried t) i.3 n.1 (not_yet true x))

-- a 07 line stands behind a cost, and goes with it
out-carry : (v : ℕ) (t : List Frame) → Out t → Out (Instructions v ∷ t)
out-carry v t r o c x true h j i n w = clash (let z = (w refl).1 in let q = n.0 in cc)
out-carry v t r o c x false h j i n w = r o false x false h j i.3 n.1 (not_yet false x)

out-end : Out []
out-end o c x y h j i n w = absurd (let z = ap length i in omega arith)

out : (t : List Frame) → Out t
out [] = out-end
out (Site s p ∷ t) = out-site s p t (out t)
out (Call s ∷ t) = out_call s t (out t)
out (Spawn s ∷ t) = out_spawn s t (out t)
out (Sync ∷ t) = out-sync t (out t)
out (Return ∷ t) = out_return t (out t)
out (Cost v ∷ t) = out-cost v t (out t)
out (Instructions v ∷ t) = out-carry v t (out t)
out (Async s ∷ t) = λ o c x y h j i n w. absurd i.2
out (Finish ∷ t) = λ o c x y h j i n w. absurd i.2

-- LAW: line by line, what goes out is the compacted trace
pub outs-compact : (t : List Frame) → Inside (false ∷ []) t → Owned false t → outs start t ≡ compact t
outs-compact t i n = out t [] false false false 0 0 i n (not_yet false false)

-- ── the bits fit, and what is held fits a value ──

-- 2 ^ n, by doubling
abbrev top : ℕ → ℕ
top zero = 1
top (suc n) = 2 * top n

top_le : (n m : ℕ) → n ≤ m → top n ≤ top m
top_le n zero l = let e : n ≡ 0 = omega arith in omega (arith, ap top e)
top_le zero (suc m) l = omega (arith, top_le zero m (omega arith))
top_le (suc n) (suc m) l = omega (arith, top_le n m (omega arith))

below_top : (o : List Bool) → number o < top (length o)
below_top [] = omega arith
below_top (true ∷ o) = omega (arith, below_top o)
below_top (false ∷ o) = omega (arith, below_top o)

abbrev Roomy : List Frame → Type 0
Roomy t = (o : List Bool) (x y : Bool) (h j : ℕ) → Inside (x ∷ o) t → Fit h j → Room (state (number o) x y h j) t

none : Fit 0 0
none = (omega arith, omega arith)

ready : (o : List Bool) (x y : Bool) (h j : ℕ) → suc (length o) ≤ 64 → Fit h j → Ready (state (number o) x y h j)
ready o x y h j l f = (omega (arith, below_top o, top_le (length o) 63 (omega arith)), f)

room_return : (o : List Bool) (t : List Frame) → Inside o t → Roomy t → Room (back (number o)) t
room_return [] [] i r = tt
room_return [] (f ∷ t) i r = absurd (omega (arith, i.0))
room_return (v ∷ o) t i r = subst (λ (s : State). Room s t) (sym (again (number o) v)) (r o v false 0 0 i none)

room-cost : (v : ℕ) (t : List Frame) (o : List Bool) (x y : Bool) (h j : ℕ) → Fit v (carried t) → ((h j : ℕ) → Fit h j → Room (state (number o) x false h j) t)
    → Room (stepped (state (number o) x y h j) (Cost v) t).next t
room-cost v t o x true h j f r = r v (carried t) f
room-cost v t o x false h j f r = go (fit_either (h + v) (j + carried t))
  where
    given : Bool → Given
    given e = cost_given e o x h j v (carried t)

    fits : Bool
    fits = both_fit (h + v) (j + carried t)

    go : (Fit (h + v) (j + carried t) × (fits ≡ true)) ⊎ (Over (h + v) (j + carried t) × (fits ≡ false)) → Room (given fits).next t
    go (inl q) = subst (λ (e : Bool). Room (given e).next t) (sym q.1) (r (h + v) (j + carried t) q.0)
    go (inr q) = subst (λ (e : Bool). Room (given e).next t) (sym q.1) (r v (carried t) f)

room : (t : List Frame) → Roomy t
room [] o x y h j i f = tt
room (Site s p ∷ t) o x y h j i f = (ready o x y h j i.1 f, room t o x false 0 0 i.3 none)
room (Call s ∷ t) o x y h j i f = (ready o x y h j i.1 f, room t (x ∷ o) false false 0 0 i.3 none)
room (Spawn s ∷ t) o x y h j i f = (ready o x y h j i.1 f, room t (true ∷ o) false false 0 0 i.3 none)
room (Sync ∷ t) o x y h j i f = (ready o x y h j i.1 f, room t o false (x || y) h j i.3 f)
room (Return ∷ t) o x y h j i f = (ready o x y h j i.1 f, room_return o t i.3 (room t))
room (Cost v ∷ t) o x y h j i f =
    (ready o x y h j i.1 f, room-cost v t o x y h j (i.2.1, carried-most (x ∷ o) t i.3) (λ h j. room t o x false h j i.3))
room (Instructions v ∷ t) o x y h j i f = (ready o x y h j i.1 f, room t o x y h j i.3 f)
room (Async s ∷ t) o x y h j i f = absurd i.2
room (Finish ∷ t) o x y h j i f = absurd i.2

-- LAW: within the limits the bits fit, and what is held fits a value
pub room-trace : (t : List Frame) → Inside (false ∷ []) t → Room start t
room-trace t i = room t [] false false 0 0 i none

-- LAW: what goes out fits a value where what is held does
pub step-fitting : (kind v i : ℕ) (s : State) → Ready s → Fitting (step_of kind (cycles v) (instructions i) s)
step-fitting kind v i s r =
    go (eqb kind 7) (eqb kind 6) (eqb kind 5) (eqb kind 4) (eqb kind 3) (eqb kind 2) s.sync (both_fit (s.held.0 + v) (s.carried.0 + i))
  where
    go : (a b c d e f y z : Bool) → Fitting (cond a (silent s) (cond b (cond y (alone (cycles v) (instructions i) s) (cond z (together (cycles v) (instructions i) s) (alone (cycles v) (instructions i) s))) (cond c (left s) (cond d (waiting s) (cond e (entered true s) (cond f (entered false s) (flushed s.around s.spawned s.sync s)))))))
    go true b c d e f y z = none
    go false true c d e f true z = r.1
    go false true c d e f false true = none
    go false true c d e f false false = r.1
    go false false true d e f y z = r.1
    go false false false true e f y z = none
    go false false false false true f y z = r.1
    go false false false false false true y z = r.1
    go false false false false false false y z = r.1
