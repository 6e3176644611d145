-- "Work, span and all rows are unchanged": what a profile says of two traces is the same, whatever their line numbers.
use Rattle.std.specs.Prelude.{ℕ, ◌≡◌, List}
use Rattle.line.specs.declared.Frame.{Frame}
use Rattle.trace.specs.Shape.{root, sites}
use Rattle.trace.specs.Series.{Span, Chosen}
use Rattle.trace.specs.Rows.{total, calls, work, Spans, local, on_span, ilocal, ion_span}

pub record Unchanged (t u : List Frame) : Type 0 where
  pub same_sites : sites u ≡ sites t
  pub same_total : total u ≡ total t
  pub same_span : (n : ℕ) → Span t root n → Span u root n
  -- the seven numbers of row s
  pub same_calls : (s : ℕ) → calls u s ≡ calls t s
  pub same_work : (s : ℕ) → work u s ≡ work t s
  pub same_spans : (s n : ℕ) → Spans t s n → Spans u s n
  pub same_local : (s : ℕ) → local u s ≡ local t s
  pub same_ilocal : (s : ℕ) → ilocal u s ≡ ilocal t s
  -- c and d: the chosen chains
  pub same_on_span : (c d : List ℕ) → Chosen t c → Chosen u d → (s : ℕ) → on_span u d s ≡ on_span t c s
  pub same_ion_span : (c d : List ℕ) → Chosen t c → Chosen u d → (s : ℕ) → ion_span u d s ≡ ion_span t c s
