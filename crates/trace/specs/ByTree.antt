-- For proofs and engines, not for the reader of document 01: what comes back of an accepted trace, by its tree.
-- m is the number of its sites, and b the body of its root.
use Rattle.std.specs.Prelude.{ℕ, ◌+◌, ◌*◌, ◌≤◌, ◌≡◌, List, length, get_or, replicate}
use Rattle.chain.specs.Over.{lines_in}
use Rattle.trace.specs.Answer.{Answer, profiled}
use Rattle.trace.specs.Rows.{columns}
use Rattle.trace.specs.Column.{Column, slot}
use Rattle.trace.specs.Promise.{Engine, Lent, Marked}
use Rattle.trace.specs.Tree.{Body, size, work_of, span_of, calls_in, work_in, spans_in, local_in, ilocal_in}
use Rattle.trace.specs.Fold.{its_cycles, its_instructions, chain_of, on_row}

-- each column of row s
abbrev pub cell : Body → ℕ → Column → ℕ
cell b s Column.calls = calls_in s b
cell b s Column.work = work_in s b
cell b s Column.span = spans_in s b
cell b s Column.local = local_in s b
cell b s Column.on_span = on_row its_cycles s (chain_of 0 0 b)
cell b s Column.ilocal = ilocal_in s b
cell b s Column.ion_span = on_row its_instructions s (chain_of 0 0 b)

pub record RowsBy (m : ℕ) (b : Body) (before after : List ℕ) : Type 0 where
  pub same_length : length after ≡ length before
  pub cells : (s : ℕ) (k : Column) → s ≤ m → get_or after (slot s k) 0 ≡ cell b s k
  pub rest : (i : ℕ) → columns * (m + 1) ≤ i → get_or after i 0 ≡ get_or before i 0

pub record ProfileBy (e : Engine) (m : ℕ) (b : Body) (before : Lent) (r : Answer) (after : Lent) : Type 0 where
  pub answer : r ≡ profiled (work_of b) (span_of b) m (size b)
  pub rows : RowsBy m b before.rows after.rows
  pub scratch : after.scratch ≡ replicate (length before.scratch) 0
  pub marked : Marked e (size b) (lines_in (chain_of 0 0 b)) before.marks after.marks
