-- The promise of the report program determines its outcome, and no text is longer than its room. Assumes nothing.
use Prim.Native.Nat.{ℕ, ◌+◌, ◌*◌, ◌≤◌}
use mathlib.Core.Bool.{Bool, true, false, cond}
use mathlib.Core.List.{List, ◌++◌}
use mathlib.Core.Path.{◌≡◌, refl, ap, ◌∙◌, sym, subst}
use native.Mathlib.Omega.{arith}
use lib.Dec.{ltb}
use lib.ListN.{length, drop, get_or, length-append}
use lib.Seq.{ext_get_or}
use Rattle.line.specs.declared.Frame.{Frame}
use Rattle.trace.specs.Shape.{sites}
use Rattle.trace.specs.Rows.{columns}
use Rattle.trace.specs.Column.{Column, slot}
use Rattle.trace.specs.Refusals.{Verdict, accepted, refused, verdict}
use Rattle.trace.specs.Promise.{Row}
use Rattle.trace.proofs.Slots.{by-nth}
use Rattle.trace.proofs.Unique.{chosen_unique, spans_unique}
use Rattle.admit.proofs.Admitted.{accepted-sites}
use Rattle.report.specs.Rows.{numbers_of, width}
use Rattle.report.proofs.Lines.{row-length, column-at, lines-length, lines_same}
use Rattle.program.specs.Print.{ruling, Reported, Prints, Printed}

-- a trace's row has one list of numbers
module _ (t : List Frame) (c x y : List ℕ) (s : ℕ) (p : Row t c x s) (q : Row t c y s) where
  cell_same : (k : Column) → get_or x (slot s k) 0 ≡ get_or y (slot s k) 0
  cell_same Column.calls = p.calls_is ∙ sym q.calls_is
  cell_same Column.work = p.work_is ∙ sym q.work_is
  cell_same Column.span = spans_unique t s _ _ p.span_is q.span_is
  cell_same Column.local = p.local_is ∙ sym q.local_is
  cell_same Column.on_span = p.on_span_is ∙ sym q.on_span_is
  cell_same Column.ilocal = p.ilocal_is ∙ sym q.ilocal_is
  cell_same Column.ion_span = p.ion_span_is ∙ sym q.ion_span_is

  row_same : columns * (s + 1) ≤ length x → columns * (s + 1) ≤ length y → numbers_of x s ≡ numbers_of y s
  row_same l m =
      let a = row-length x s l in
      ext_get_or 0 (numbers_of x s) (numbers_of y s) (a ∙ sym (row-length y s m))
      (λ j h. by-nth (λ i. get_or (numbers_of x s) i 0 ≡ get_or (numbers_of y s) i 0) (λ k. column-at x s k ∙ cell_same k ∙ sym (column-at y s k)) j (omega arith))

-- LAW: a trace has one report
pub reported_unique : (t : List Frame) (a b : List ℕ) → Reported t a → Reported t b → a ≡ b
reported_unique t a b x y =
    let c = chosen_unique t x.chain y.chain x.chosen y.chosen in
    x.is
    ∙ lines_same x.rows y.rows (sites t + 1)
    (λ s l. row_same t y.chain x.rows y.rows s (subst (λ (d : List ℕ). Row t d x.rows s) c (x.rows_are s (omega arith))) (y.rows_are s (omega arith)) (omega (arith, x.enough)) (omega (arith, y.enough)))
    ∙ sym y.is

-- LAW: a verdict is printed in one way
pub prints_unique : (v : Verdict) (a b : List ℕ) → Prints v a → Prints v b → a ≡ b
prints_unique (accepted t) a b x y = reported_unique t a b x y
prints_unique (refused number line) a b x y = x ∙ sym y

-- LAW: two outcomes that meet the promise for the same input and output are equal
pub printed_unique : (s : List ℕ) (n m : ℕ) (before after other : List ℕ) → Printed s n before after → Printed s m before other → (n ≡ m) × (after ≡ other)
printed_unique s n m before after other x y =
    let e = prints_unique (ruling s) x.out y.out x.prints y.prints in (
      x.put.answered ∙ ap length e ∙ sym y.put.answered,
      x.put.left ∙ ap (λ (o : List ℕ). o ++ drop (length o) before) e ∙ sym y.put.left,
    )

-- the characters answered stand in the output
pub printed-within : {s : List ℕ} {n : ℕ} {before after : List ℕ} → Printed s n before after → n ≤ length after
printed-within {before = before} x = omega (arith, x.put.answered, ap length x.put.left, length-append x.out (drop (length x.out) before))

-- LAW: no text is longer than the room for 32 rows
pub prints-length : (s out : List ℕ) → Prints (ruling s) out → length out ≤ width * 32
prints-length s out h = go (ltb 65527 (length s)) h
  where
    judged : (v : Verdict) → verdict s 32 31 true ≡ v → Prints v out → length out ≤ width * 32
    judged (accepted t) e r =
        omega (arith, ap length r.is, lines-length r.rows (sites t + 1) r.enough, accepted-sites s 32 31 true t e)
    judged (refused number line) e r = omega (arith, ap length r)

    go : (b : Bool) → Prints (cond b (refused 3 0) (verdict s 32 31 true)) out → length out ≤ width * 32
    go true r = omega (arith, ap length r)
    go false r = judged (verdict s 32 31 true) refl r
