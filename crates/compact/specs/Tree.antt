-- For proofs, not for the reader of document 02: compacting on the tree.
use Rattle.std.specs.Prelude.{ℕ, zero, suc, ◌+◌, Bool, true, false, not, cond, ◌||◌}
use Rattle.trace.specs.Tree.{Way, call, spawn, async, pass, finish, site, carry, spend, sync, note, Body, done, leaf, child, ahead}
use Rattle.compact.specs.Compact.{both_fit}

-- only syncs stand before the return
abbrev pub ends : Body → Bool
ends done = true
ends (leaf (spend v) r) = false
ends (leaf sync r) = ends r
ends (leaf (note n) r) = false
ends (child w s g r) = false

-- a spawn has stood since, behind a child that was made so
abbrev pub later : Way → Bool → Bool
later call x = x
later spawn x = true
later async x = x
later pass x = x
later finish x = x

-- the instructions j before the body, none where they are 0
abbrev pub carrying_b : ℕ → Body → Body
carrying_b zero b = b
carrying_b (suc j) b = leaf (note (carry (suc j))) b

-- a cost of h with the instructions j before the body, none where h is 0
abbrev pub summed_b : ℕ → ℕ → Body → Body
summed_b zero j b = b
summed_b (suc h) j b = leaf (spend (suc h)) (carrying_b j b)

-- x: a spawn has stood directly in the body since its start or last sync; h: the sum of the costs directly before, j: that
-- of their instructions
abbrev pub packed : Bool → ℕ → ℕ → Body → Body
packed x h j done = summed_b h j done
packed x h j (leaf (spend v) r) = cond (both_fit (h + v) (j + ahead r)) (packed x (h + v) (j + ahead r) r) (summed_b h j (packed x v (ahead r) r))
packed x h j (leaf sync r) = cond (not x || ends r) (packed false h j r) (summed_b h j (leaf sync (packed false 0 0 r)))
packed x h j (leaf (note (site s p)) r) = summed_b h j (leaf (note (site s p)) (packed x 0 0 r))
packed x h j (leaf (note (carry v)) r) = packed x h j r
packed x h j (child w s g r) = summed_b h j (child w s (packed false 0 0 g) (packed (later w x) 0 0 r))

abbrev pub compact_b : Body → Body
compact_b b = packed false 0 0 b
