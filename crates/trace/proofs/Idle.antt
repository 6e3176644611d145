-- A row from which nothing was called has nothing in it. Assumes nothing.
use Prim.Native.Nat.{ℕ}
use mathlib.Core.List.{List, [], ◌∷◌}
use mathlib.Core.Path.{◌≡◌, refl, ap, ◌∙◌, sym, subst}
use native.Mathlib.Omega.{arith}
use lib.ListN.{length, get_or}
use Rattle.line.specs.declared.Frame.{Frame}
use Rattle.trace.specs.Rows.{of_row, unenclosed, cycles, instructions, inside, direct, direct_on, sum, Sum, calls, work, Spans, local, on_span, ilocal, ion_span}
use Rattle.trace.specs.Series.{Span}
use Rattle.trace.specs.Column.{Column, slot}
use Rattle.trace.specs.Promise.{Row}

no_length : (l : List ℕ) → length l ≡ 0 → l ≡ []
no_length [] e = refl
no_length (x ∷ l) e = absurd (omega arith)

module _ (t : List Frame) (s : ℕ) (idle : calls t s ≡ 0) where
  -- no invocation was made from it
  pub none_made : of_row t s ≡ []
  none_made = no_length (of_row t s) idle

  -- so columns 2 to 7 are sums of nothing
  pub no_work : work t s ≡ 0
  no_work = ap (λ (l : List ℕ). sum (inside t) (unenclosed t s l)) none_made

  pub no_spans : (n : ℕ) → Spans t s n → n ≡ 0
  no_spans n h = subst (λ (l : List ℕ). Sum (Span t) (unenclosed t s l) n) none_made h

  pub no_local : local t s ≡ 0
  no_local = ap (sum (direct cycles t)) none_made

  pub no_on_span : (c : List ℕ) → on_span t c s ≡ 0
  no_on_span c = ap (sum (direct_on cycles t c)) none_made

  pub no_ilocal : ilocal t s ≡ 0
  no_ilocal = ap (sum (direct instructions t)) none_made

  pub no_ion_span : (c : List ℕ) → ion_span t c s ≡ 0
  no_ion_span c = ap (sum (direct_on instructions t c)) none_made

-- and what an engine writes for it is zeros
pub idle-row : (t : List Frame) (c rows : List ℕ) (s : ℕ) → Row t c rows s → get_or rows (slot s Column.calls) 0 ≡ 0 → (k : Column) → get_or rows (slot s k) 0 ≡ 0
idle-row t c rows s r e = go
  where
    idle : calls t s ≡ 0
    idle = sym r.calls_is ∙ e

    go : (k : Column) → get_or rows (slot s k) 0 ≡ 0
    go Column.calls = e
    go Column.work = r.work_is ∙ no_work t s idle
    go Column.span = no_spans t s idle _ r.span_is
    go Column.local = r.local_is ∙ no_local t s idle
    go Column.on_span = r.on_span_is ∙ no_on_span t s idle c
    go Column.ilocal = r.ilocal_is ∙ no_ilocal t s idle
    go Column.ion_span = r.ion_span_is ∙ no_ion_span t s idle c
