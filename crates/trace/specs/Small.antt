-- How large the numbers of an accepted trace become. 02, request e: "With 65,536 lines, values below 2^32 and depth 64,
-- every column stays below 2^54."
use Rattle.std.specs.Prelude.{ℕ, ◌^◌, ◌<◌, List}
use Rattle.line.specs.Family.{Family, Base}
use Rattle.line.specs.declared.Frame.{Frame}
use Rattle.trace.specs.Shape.{root}
use Rattle.trace.specs.Series.{SpanOf}
use Rattle.trace.specs.Rows.{total, calls, work, SpansOf, local, on_span, ilocal, ion_span}

-- "below 2^54"
abbrev pub Small : ℕ → Type 0
Small n = n < 2 ^ 54

-- "every column stays below 2^54": all seven numbers of every row, columns 5 and 7 for whatever chain, and both totals
pub record AllSmallOf (f : Family) (t : List Frame) : Type 0 where
  pub total_work : Small (total t)
  pub total_span : (n : ℕ) → SpanOf f t root n → Small n
  pub calls_are : (s : ℕ) → Small (calls t s)
  pub work_is : (s : ℕ) → Small (work t s)
  pub spans_are : (s n : ℕ) → SpansOf f t s n → Small n
  pub local_is : (s : ℕ) → Small (local t s)
  pub on_span_is : (c : List ℕ) (s : ℕ) → Small (on_span t c s)
  pub ilocal_is : (s : ℕ) → Small (ilocal t s)
  pub ion_span_is : (c : List ℕ) (s : ℕ) → Small (ion_span t c s)

-- that of document 01's traces
abbrev pub AllSmall : List Frame → Type 0
AllSmall t = AllSmallOf Base t
