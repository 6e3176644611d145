-- For proofs and engines, not for the reader of documents 01 and 02: traces and bodies whose cost lines weigh otherwise.
use Rattle.std.specs.Prelude.{ℕ, suc, ◌+◌, ◌≤◌, List, [], ◌∷◌}
use Rattle.line.specs.declared.Frame.{Frame}
use Rattle.line.specs.declared.Frame.TheVariants.{Site, Call, Spawn, Sync, Return, Cost, Instructions, Async, Finish}
use Rattle.trace.specs.Shape.{closed}
use Rattle.trace.specs.Tree.{Leaf, spend, sync, note, Body, done, leaf, child, size}
use Rattle.weigh.specs.Cost.{costing}

-- what a cost line weighs: by its number, the row of the invocation that it is directly in, and its value
abbrev pub Weigh : Type 0
Weigh = ℕ → ℕ → ℕ → ℕ

-- as it stands
abbrev pub plainly : Weigh
plainly n s v = v

-- a value of the table stays one
abbrev pub Tabled : Weigh → Type 0
Tabled w = (n s v : ℕ) → 1 ≤ v → v ≤ 4294967295 → (1 ≤ w n s v) × (w n s v ≤ 4294967295)

-- line n, which is directly in an invocation of row s
abbrev pub weighed_leaf : Weigh → ℕ → ℕ → Leaf → Leaf
weighed_leaf w n s (spend v) = spend (w n s v)
weighed_leaf w n s sync = sync
weighed_leaf w n s (note x) = note x

-- the body b of an invocation of row s, whose first line is line n
abbrev pub weighed : Weigh → ℕ → ℕ → Body → Body
weighed w n s done = done
weighed w n s (leaf l r) = leaf (weighed_leaf w n s l) (weighed w (suc n) s r)
weighed w n s (child y i g r) = child y i (weighed w (suc n) i g) (weighed w (suc n + size g) s r)

-- the row of the innermost open thing; o: the rows of those that are open, innermost first
abbrev pub innermost : List ℕ → ℕ
innermost [] = 0
innermost (s ∷ o) = s

-- what a line does to the rows of what is open: the lines of a finish are of the row around it
abbrev pub row_step : Frame → List ℕ → List ℕ
row_step (Site s p) o = o
row_step (Call s) o = s ∷ o
row_step (Spawn s) o = s ∷ o
row_step Sync o = o
row_step Return o = closed o
row_step (Cost v) o = o
row_step (Instructions v) o = o
row_step (Async s) o = s ∷ o
row_step Finish o = innermost o ∷ o

-- The trace so weighed, over its lines: t begins at line n, where things of the rows o are open, innermost first.
abbrev pub reweighed : Weigh → ℕ → List ℕ → List Frame → List Frame
reweighed w n o [] = []
reweighed w n o (e ∷ t) = costing (w n (innermost o)) e ∷ reweighed w (suc n) (row_step e o) t
