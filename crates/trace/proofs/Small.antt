-- Within the limits all seven columns of every row and both totals stay below 2 ^ 54, so that no sum of an engine wraps.
-- No number but calls exceeds the total work or all instructions, and these are at most 65,536 values below 2 ^ 32.
use mathlib.Core.Path.{◌≡◌, refl}
use mathlib.Core.Bool.{Bool, true, false, cond}
use mathlib.Core.List.{List, [], ◌∷◌, ◌++◌}
use Prim.Native.Nat.{ℕ, zero, suc, ◌*◌, ◌^◌, ◌≤◌, ◌<◌}
use native.Mathlib.Omega.{arith}
use lib.ListN.{length}
use Rattle.line.specs.Family.{Family, Base}
use Rattle.line.specs.declared.Frame.{Frame}
use Rattle.line.specs.declared.Frame.TheVariants.{Site, Call, Spawn, Sync, Return, Cost, Instructions, Async, Finish}
use Rattle.trace.specs.Shape.{if_cost, root, step}
use Rattle.trace.specs.Series.{value, SpanOf}
use Rattle.trace.specs.Rows.{makes, made, Measure, cycles, carried, instructions, sum_of, total, itotal, calls}
use Rattle.trace.specs.Refusals.{accepted, verdict_of, verdict}
use Rattle.trace.specs.Tree.{PartsOf}
use Rattle.trace.specs.Small.{Small, AllSmallOf, AllSmall}
use Rattle.trace.proofs.Scan.{InTable, Clean, Fine, accepted-fine-of}
use Rattle.trace.proofs.Parse.{parts}
use Rattle.trace.proofs.Columns.{local_le, ilocal_le}
use Rattle.trace.proofs.AtMost.{on_span_le, ion_span_le}
use Rattle.trace.proofs.Outermost.{work_le, spans_below}

-- "values below 2^32"
value_le : (g : Family) (f : Frame) → InTable g f → value f ≤ 4294967295
value_le g (Site s p) h = omega arith
value_le g (Call s) h = omega arith
value_le g (Spawn s) h = omega arith
value_le g Sync h = omega arith
value_le g Return h = omega arith
value_le g (Cost v) h = h.1
value_le g (Instructions v) h = omega arith
value_le g (Async s) h = omega arith
value_le g Finish h = omega arith

-- of the lines behind a line as well
abbrev FirstIn : Family → List Frame → Type 0
FirstIn g [] = Unit {0}
FirstIn g (f ∷ u) = InTable g f

first_in : (g : Family) (D M : ℕ) (before u : List Frame) → Clean g D M before u → FirstIn g u
first_in g D M before [] c = tt
first_in g D M before (f ∷ u) c = c.1

carried_le : (g : Family) (u : List Frame) → FirstIn g u → carried u ≤ 4294967295
carried_le g [] h = omega arith
carried_le g (Site s p ∷ u) h = omega arith
carried_le g (Call s ∷ u) h = omega arith
carried_le g (Spawn s ∷ u) h = omega arith
carried_le g (Sync ∷ u) h = omega arith
carried_le g (Return ∷ u) h = omega arith
carried_le g (Cost v ∷ u) h = omega arith
carried_le g (Instructions v ∷ u) h = h.1
carried_le g (Async s ∷ u) h = omega arith
carried_le g (Finish ∷ u) h = omega arith

instructions_le : (g : Family) (f : Frame) (u : List Frame) → FirstIn g u → instructions f u ≤ 4294967295
instructions_le g f u h = go f
  where
    go : (f : Frame) → if_cost (λ v. carried u) 0 f ≤ 4294967295
    go (Site s p) = omega arith
    go (Call s) = omega arith
    go (Spawn s) = omega arith
    go Sync = omega arith
    go Return = omega arith
    go (Cost v) = carried_le g u h
    go (Instructions v) = omega arith
    go (Async s) = omega arith
    go Finish = omega arith

-- so many of them as there are lines
module _ (g : Family) (m : Measure) (one : (f : Frame) (u : List Frame) → InTable g f → FirstIn g u → m f u ≤ 4294967295) where
  costs_le : (D M n : ℕ) (o : List ℕ) (before u : List Frame) → Clean g D M before u → sum_of m (λ k o. true) n o u ≤ length u * 4294967295
  costs_le D M n o before [] c = omega arith
  costs_le D M n o before (f ∷ u) c =
      omega (arith, one f u c.1 (first_in g D M (before ++ f ∷ []) u c.2), costs_le D M (suc n) (step n f o) (before ++ f ∷ []) u c.2)

-- no more invocations are made than there are lines
made_le : (n : ℕ) (u : List Frame) (s : ℕ) → length (made n u s) ≤ length u
made_le n [] s = omega arith
made_le n (e ∷ u) s = go (makes s e) (made_le (suc n) u s)
  where
    go : (b : Bool) → length (made (suc n) u s) ≤ length u → length (cond b (suc n ∷ made (suc n) u s) (made (suc n) u s)) ≤ suc (length u)
    go true h = omega arith
    go false h = omega arith

module _ {g : Family} (D M : ℕ) (t : List Frame) (f : Fine g D M t) where
  abbrev tree : PartsOf g D t
  tree = parts D M t f

  -- LAW: the total work is below 2 ^ 48, whatever the depth
  pub total-below : total t < 2 ^ 48
  total-below = omega (arith, costs_le g cycles (λ e u h k. value_le g e h) D M 0 (root ∷ []) [] t f.clean, f.lines_most)

  -- LAW: and so are all instructions
  pub itotal-below : itotal t < 2 ^ 48
  itotal-below = omega (arith, costs_le g instructions (λ e u h k. instructions_le g e u k) D M 0 (root ∷ []) [] t f.clean, f.lines_most)

  -- nothing that it bounds is larger
  as_total : (n : ℕ) → n ≤ total t → Small n
  as_total n l = omega (arith, total-below)

  as_itotal : (n : ℕ) → n ≤ itotal t → Small n
  as_itotal n l = omega (arith, itotal-below)

  calls-small : (s : ℕ) → Small (calls t s)
  calls-small zero = omega arith
  calls-small (suc s) = omega (arith, made_le 0 t (suc s), f.lines_most)

  -- the root's span is the span of row 0
  root_span_le : (n : ℕ) → SpanOf g t root n → n ≤ total t
  root_span_le n h = spans_below D t tree 0 n (n, 0, h, refl, omega arith)

  -- LAW
  pub fine-small : AllSmallOf g t
  fine-small =
      record {
        total_work = as_total (total t) (omega arith);
        total_span = λ n h. as_total n (root_span_le n h);
        calls_are = calls-small;
        work_is = λ s. as_total _ (work_le D t tree s);
        spans_are = λ s n h. as_total n (spans_below D t tree s n h);
        local_is = λ s. as_total _ (local_le D t tree s);
        on_span_is = λ c s. as_total _ (omega (arith, on_span_le t c s, local_le D t tree s));
        ilocal_is = λ s. as_itotal _ (ilocal_le D t tree s);
        ion_span_is = λ c s. as_itotal _ (omega (arith, ion_span_le t c s, ilocal_le D t tree s));
      }

-- LAW: "every column stays below 2^54", of every accepted trace, and so do both totals
pub all-small-of : (g : Family) (u : List ℕ) (D M : ℕ) (room : Bool) (t : List Frame) → verdict_of g u D M room ≡ accepted t → AllSmallOf g t
all-small-of g u D M room t e = fine-small D M t (accepted-fine-of g u D M room t e)

-- the same of document 01's traces
pub all_small : (u : List ℕ) (D M : ℕ) (room : Bool) (t : List Frame) → verdict u D M room ≡ accepted t → AllSmall t
all_small = all-small-of Base
