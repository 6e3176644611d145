-- For proofs and engines, not for the reader of document 01: which body stands in a text, by what its cost lines weigh.
use Rattle.std.specs.Prelude.{ℕ, ◌+◌, ◌≡◌, List}
use Rattle.line.specs.Family.{Family}
use Rattle.line.specs.declared.Frame.TheVariants.{Sync, Return, Cost}
use Rattle.line.specs.Read.{read_at_of, says}
use Rattle.trace.specs.Tree.{opening, note_line, Leaf, spend, sync, note, Body, done, leaf, child, WayOf, size}
use Rattle.weigh.specs.Weighed.{Weigh}

-- line n, which is directly in an invocation of a row, is this leaf
abbrev pub LeafReads : Family → Weigh → List ℕ → ℕ → ℕ → Leaf → Type 0
LeafReads y w s n row (spend v) = (x : ℕ) × (read_at_of y s n ≡ says n (Cost x)) × (v ≡ w n row x)
LeafReads y w s n row sync = read_at_of y s n ≡ says n Sync
LeafReads y w s n row (note x) = read_at_of y s n ≡ says n (note_line x)

-- The lines from line n on are those of an invocation of a row in a trace of the family, and this is its body as weighed
-- by w.
abbrev pub Reads : Family → Weigh → List ℕ → ℕ → ℕ → Body → Type 0
Reads y w s n row done = read_at_of y s n ≡ says n Return
Reads y w s n row (leaf l r) = LeafReads y w s n row l × Reads y w s (n + 1) row r
Reads y w s n row (child v j g r) = (read_at_of y s n ≡ says n (opening v j)) × Reads y w s (n + 1) j g × Reads y w s (n + (1 + size g)) row r × WayOf y row v j
