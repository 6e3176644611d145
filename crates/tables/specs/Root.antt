-- What the table engine is lent, as its promise says it; and for proofs, not for the reader of document 01, the root:
-- what the engine learns from acceptance, and its table moved to columns 5 and 7 of the rows.
use Rattle.std.specs.Prelude.{ℕ, ◌+◌, ◌*◌, ◌<◌, ◌≡◌, List, [], ◌++◌, length, get_or, drop, replicate}
use Rattle.line.specs.Family.{Family}
use Rattle.line.specs.declared.Frame.{Frame}
use Rattle.trace.specs.Shape.{sites}
use Rattle.trace.specs.Column.{Column, slot}
use Rattle.trace.specs.Refusals.{verdict_of, accepted}
use Rattle.trace.specs.Promise.{tables, Lent, enough}

-- what the table engine is lent
abbrev pub lent : List ℕ → List ℕ → Lent
lent scratch rows = record { scratch = scratch; rows = rows; marks = [] }

-- the trace is accepted, with count sites and lines lines
pub record Admitted (y : Family) (s : List ℕ) (D M : ℕ) (scratch rows : List ℕ) (count lines : ℕ) : Type 0 where
  pub t : List Frame
  pub is : verdict_of y s D M (enough tables s D M (lent scratch rows)) ≡ accepted t
  pub count_is : sites t ≡ count
  pub lines_is : length t ≡ lines

-- the first m rows of t are in columns 5 and 7
pub record Moved (m : ℕ) (t rows rows' : List ℕ) : Type 0 where
  pub on_span_is : (s : ℕ) → s < m → get_or rows' (slot s Column.on_span) 0 ≡ get_or t (2 * s) 0
  pub ion_span_is : (s : ℕ) → s < m → get_or rows' (slot s Column.ion_span) 0 ≡ get_or t (2 * s + 1) 0
  pub others : (i : ℕ) → ((s : ℕ) → s < m → (i ≡ slot s Column.on_span → ⊥) × (i ≡ slot s Column.ion_span → ⊥)) → get_or rows' i 0 ≡ get_or rows i 0

-- and t was cleared of them and of the word behind them
abbrev pub Settled : ℕ → List ℕ → List ℕ → List ℕ → List ℕ → Type 0
Settled m t rows t' rows' = Moved m t rows rows' × (t' ≡ replicate (2 * m + 1) 0 ++ drop (2 * m + 1) t)
