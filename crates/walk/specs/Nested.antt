-- For proofs and engines, not for the reader of document 01: what a reader needs to know of a body's lines, however much
-- its cost lines weigh.
use Rattle.std.specs.Prelude.{ℕ, suc, ◌≤◌}
use Rattle.trace.specs.Tree.{Leaf, spend, sync, note, Body, done, leaf, child, Sited}

-- a cost is at least 1
abbrev pub Worth : Leaf → Type 0
Worth (spend v) = 1 ≤ v
Worth sync = Unit {0}
Worth (note x) = Unit {0}

-- costs are at least 1, sites are 1 to m, and with d things open at its lines there are never more than D
abbrev pub Nested : ℕ → ℕ → ℕ → Body → Type 0
Nested m D d done = Unit {0}
Nested m D d (leaf l r) = Worth l × Nested m D d r
Nested m D d (child w s g r) = Sited w s × (s ≤ m) × (suc d ≤ D) × Nested m D (suc d) g × Nested m D d r
