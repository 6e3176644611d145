-- What each engine promises: the answer, and what each lent slice holds afterwards.
use Rattle.std.specs.Prelude.{ℕ, ◌+◌, ◌*◌, ◌≤◌, ◌<◌, ◌≡◌, Bool, cond, ◌&&◌, List, leb, length, get_or, replicate, Err}
use Rattle.line.specs.Family.{Family, Base}
use Rattle.line.specs.declared.Frame.{Frame}
use Rattle.line.specs.Refusal.{refusal}
use Rattle.trace.specs.Answer.{Answer, profiled}
use Rattle.trace.specs.Shape.{root, has, sites}
use Rattle.trace.specs.Series.{SpanOf, ChosenOf}
use Rattle.trace.specs.Rows.{columns, total, calls, work, SpansOf, local, on_span, ilocal, ion_span}
use Rattle.trace.specs.Column.{Column, slot}
use Rattle.trace.specs.Refusals.{line_count, Verdict, accepted, refused, verdict_of}

pub data Engine : Type 0 where
  tables marks : Engine

-- the lent slices; the table engine is lent no marks, which are [] for it
pub record Lent : Type 0 where
  pub scratch : List ℕ
  pub rows : List ℕ
  pub marks : List ℕ

-- "The table engine needs ... scratch numbers of 64 bits", by 02, request l, 7·D·(M+3); "The marks engine needs 8·D"
abbrev pub scratch_room : Engine → ℕ → ℕ → ℕ
scratch_room tables D M = 7 * D * (M + 3)
scratch_room marks D M = 8 * D

-- "and one byte of marks a line"
abbrev pub marks_room : Engine → List ℕ → ℕ
marks_room tables s = 0
marks_room marks s = line_count s

-- "Both need 5·(M+1) row numbers." 02, request l: "every row room with five reads seven"
abbrev pub rows_room : ℕ → ℕ
rows_room M = columns * (M + 1)

-- no lent slice is "shorter than stated", by their lengths
abbrev pub roomy : Engine → List ℕ → ℕ → ℕ → ℕ → ℕ → ℕ → Bool
roomy e s D M scratch rows bytes = leb (scratch_room e D M) scratch && leb (rows_room M) rows && leb (marks_room e s) bytes

abbrev pub enough : Engine → List ℕ → ℕ → ℕ → Lent → Bool
enough e s D M lent = roomy e s D M (length lent.scratch) (length lent.rows) (length lent.marks)

-- "Accepted: total work, total span, number of sites, number of lines."
abbrev pub acceptance : List Frame → ℕ → Answer
acceptance t span = profiled (total t) span (sites t) (length t)

-- row s of the rows; c is the chosen chain
pub record RowOf (g : Family) (t : List Frame) (c : List ℕ) (rows : List ℕ) (s : ℕ) : Type 0 where
  pub calls_is : get_or rows (slot s Column.calls) 0 ≡ calls t s
  pub work_is : get_or rows (slot s Column.work) 0 ≡ work t s
  pub span_is : SpansOf g t s (get_or rows (slot s Column.span) 0)
  pub local_is : get_or rows (slot s Column.local) 0 ≡ local t s
  pub on_span_is : get_or rows (slot s Column.on_span) 0 ≡ on_span t c s
  pub ilocal_is : get_or rows (slot s Column.ilocal) 0 ≡ ilocal t s
  pub ion_span_is : get_or rows (slot s Column.ion_span) 0 ≡ ion_span t c s

-- "Row numbers 0 to 5·(sites+1)-1", with seven for five, "hold the rows and the rest are unchanged."
pub record RowsOf (g : Family) (t : List Frame) (c before after : List ℕ) : Type 0 where
  pub same_length : length after ≡ length before
  pub rows_are : (s : ℕ) → s ≤ sites t → RowOf g t c after s
  pub rest : (i : ℕ) → columns * (sites t + 1) ≤ i → get_or after i 0 ≡ get_or before i 0

-- "A mark is 1 for a line on the chosen chain, 0 for any other; marks past the last line are unchanged." n: the
-- number of lines
pub record Marks (n : ℕ) (c before after : List ℕ) : Type 0 where
  pub same_length : length after ≡ length before
  pub marks_are : (k : ℕ) → k < n → get_or after k 0 ≡ cond (has k c) 1 0
  pub rest : (k : ℕ) → n ≤ k → get_or after k 0 ≡ get_or before k 0

-- what becomes of the marks: the table engine leaves them alone
abbrev pub Marked : Engine → ℕ → List ℕ → List ℕ → List ℕ → Type 0
Marked tables n c before after = after ≡ before
Marked marks n c before after = Marks n c before after

-- what comes back of an accepted trace
pub record ProfileOf (g : Family) (e : Engine) (t : List Frame) (before : Lent) (r : Answer) (after : Lent) : Type 0 where
  pub chain : List ℕ
  pub chosen : ChosenOf g t chain
  pub span : ℕ
  pub is_span : SpanOf g t root span
  pub answer : r ≡ acceptance t span
  pub rows : RowsOf g t chain before.rows after.rows
  -- "The whole scratch is zero."
  pub scratch : after.scratch ≡ replicate (length before.scratch) 0
  pub marked : Marked e (length t) chain before.marks after.marks

-- The engine e, lent the room before, answers r and leaves after, where this is the verdict. "Every lent slice, scratch
-- included, is unchanged" where it refuses.
pub record KeptOf (g : Family) (e : Engine) (v : Verdict) (before : Lent) (r : Answer) (after : Lent) : Type 0 where
  pub when_accepted : (t : List Frame) → v ≡ accepted t → ProfileOf g e t before r after
  pub when_refused : (number line : ℕ) → v ≡ refused number line → (r ≡ Err (refusal number line)) × (after ≡ before)

-- the same of the text s with limits D and M
abbrev pub PromiseOf : Family → Engine → List ℕ → ℕ → ℕ → Lent → Answer → Lent → Type 0
PromiseOf g e s D M before r after = KeptOf g e (verdict_of g s D M (enough e s D M before)) before r after

-- those of document 01's traces
abbrev pub Row : List Frame → List ℕ → List ℕ → ℕ → Type 0
Row t c rows s = RowOf Base t c rows s

abbrev pub Rows : List Frame → List ℕ → List ℕ → List ℕ → Type 0
Rows t c before after = RowsOf Base t c before after

abbrev pub Profile : Engine → List Frame → Lent → Answer → Lent → Type 0
Profile e t before r after = ProfileOf Base e t before r after

abbrev pub Kept : Engine → Verdict → Lent → Answer → Lent → Type 0
Kept e v before r after = KeptOf Base e v before r after

abbrev pub Promise : Engine → List ℕ → ℕ → ℕ → Lent → Answer → Lent → Type 0
Promise e s D M before r after = PromiseOf Base e s D M before r after
