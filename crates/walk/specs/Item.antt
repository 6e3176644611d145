-- For proofs and engines, not for the reader of document 01: the first item of a body, its lines, what it does, and what
-- stands behind it.
use Rattle.std.specs.Prelude.{ℕ, ◌+◌}
use Rattle.trace.specs.Tree.{Leaf, leaf_work, leaf_cycles, leaf_instructions, Body, done, leaf, child, ahead, size, all_of}
use Rattle.trace.specs.Fold.{Chains, leaf_chains, child_chains, run}
use Rattle.walk.specs.Gain.{cost_gain, child_gain}

-- the body is not at its return
abbrev pub More : Body → Type 0
More done = ⊥
More (leaf l r) = Unit {0}
More (child w j g r) = Unit {0}

-- what stands behind the first item
abbrev pub rest : Body → Body
rest done = done
rest (leaf l r) = r
rest (child w j g r) = r

-- how many lines it has
abbrev pub item_size : Body → ℕ
item_size done = 0
item_size (leaf l r) = 1
item_size (child w j g r) = 1 + size g

-- what it comes to in a measure of leaves: its costs, and its instructions
abbrev pub item_of : (Leaf → Body → ℕ) → Body → ℕ
item_of m done = 0
item_of m (leaf l r) = m l r
item_of m (child w j g r) = all_of m g

abbrev pub item_work : Body → ℕ
item_work b = item_of leaf_cycles b

abbrev pub item_instructions : Body → ℕ
item_instructions b = item_of leaf_instructions b

-- by how much row number i grows
abbrev pub item_gain : ℕ → Body → ℕ → ℕ
item_gain s done i = 0
item_gain s (leaf l r) i = cost_gain s (leaf_work l) (leaf_instructions l r) i
item_gain s (child w j g r) i = child_gain w j g i

-- the chains behind it; n is its first line
abbrev pub item_chains : ℕ → ℕ → Body → Chains → Chains
item_chains n s done k = k
item_chains n s (leaf l r) k = leaf_chains n s l (ahead r) k
item_chains n s (child w j g r) k = child_chains w (run (n + 1) j g) k
