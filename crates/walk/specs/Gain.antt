-- For proofs and engines, not for the reader of document 01: by how much each row number grows while a body is read, in
-- columns 1 to 4 and 6.
use Rattle.std.specs.Prelude.{ℕ, ◌+◌, ◌^◌, ◌<◌, ◌≡◌, cond, List, eqb, length, get_or, set}
use Rattle.trace.specs.Column.{Column, slot}
use Rattle.trace.specs.Tree.{Way, leaf_work, leaf_instructions, Body, done, leaf, child, invokes, size, work_of, instructions_of, span_of}
use Rattle.walk.specs.declared.Credit.{Credit}
use Rattle.walk.specs.Measure.{cycles}

-- column k of row s is there, and has room for v more
abbrev pub ColumnFits : List ℕ → ℕ → Column → ℕ → Type 0
ColumnFits rows s k v = (slot s k < length rows) × (get_or rows (slot s k) 0 + v < 2 ^ 64)

-- what columns 2 and 3 of row s hold
abbrev pub credit_of : List ℕ → ℕ → Credit
credit_of rows s = record { work = cycles (get_or rows (slot s Column.work) 0); span = cycles (get_or rows (slot s Column.span) 0) }

-- the rows, where they are now these
abbrev pub credited : ℕ → ℕ → ℕ → List ℕ → List ℕ
credited s work span rows = set (set rows (slot s Column.work) work) (slot s Column.span) span

-- Columns 1 to 3 of row s are there and have room for an invocation with this work and this span; before is what columns 2
-- and 3 held before it was read.
abbrev pub ReturnFits : Credit → List ℕ → ℕ → ℕ → ℕ → Type 0
ReturnFits before rows s work span = ColumnFits rows s Column.calls 1 × (slot s Column.span < length rows)
    × (before.work.0 + work < 2 ^ 64) × (before.span.0 + span < 2 ^ 64)

-- v where row number i is number j, else nothing
abbrev pub one : ℕ → ℕ → ℕ → ℕ
one j v i = cond (eqb j i) v 0

-- column 1 of row s: an invocation was made from it
abbrev pub one_call : ℕ → ℕ → ℕ
one_call s i = one (slot s Column.calls) 1 i

-- What row number i, which holds x, comes to where an invocation of site s returns: one call more, and columns 2 and 3 of
-- the row are now these, whatever they held. So nothing stays of what invocations of the site inside it came to: "Columns 2
-- and 3 from now on count only invocations with no enclosing invocation from the same site."
abbrev pub returned : ℕ → ℕ → ℕ → ℕ → ℕ → ℕ
returned s work span x i = cond (eqb (slot s Column.span) i) span (cond (eqb (slot s Column.work) i) work (x + one_call s i))

-- an invocation of site s with this work and this span has returned; before is what its columns 2 and 3 held before it
abbrev pub Returned : Credit → ℕ → ℕ → ℕ → List ℕ → List ℕ → Type 0
Returned before s work span rows rows' = (i : ℕ) → i < length rows
    → get_or rows' i 0 ≡ returned s (before.work.0 + work) (before.span.0 + span) (get_or rows i 0) i

-- columns 4 and 6 of row s: a cost of v with j instructions directly in an invocation of it
abbrev pub cost_gain : ℕ → ℕ → ℕ → ℕ → ℕ
cost_gain s v j i = one (slot s Column.local) v i + one (slot s Column.ilocal) j i

-- s is the row of the invocation whose body is read; a finish is no invocation, and nothing is counted at its end
abbrev pub gain : ℕ → Body → ℕ → ℕ
gain s done i = 0
gain s (leaf l r) i = cost_gain s (leaf_work l) (leaf_instructions l r) i + gain s r i
gain s (child w j g r) i = cond (invokes w) (returned j (work_of g) (span_of g) (gain j g i) i) (gain j g i) + gain s r i

-- a whole invocation of row s with the body g
abbrev pub made : ℕ → Body → ℕ → ℕ
made s g i = returned s (work_of g) (span_of g) (gain s g i) i

-- a child of row s with the body g
abbrev pub child_gain : Way → ℕ → Body → ℕ → ℕ
child_gain w s g i = cond (invokes w) (made s g i) (gain s g i)

-- no row number grows by more: lines, costs and instructions are each counted once
abbrev pub most_gain : Body → ℕ
most_gain b = size b + (work_of b + instructions_of b)

-- the rows grew by g, number by number
abbrev pub Grown : List ℕ → (ℕ → ℕ) → List ℕ → Type 0
Grown rows g rows' = (i : ℕ) → i < length rows → get_or rows' i 0 ≡ get_or rows i 0 + g i
