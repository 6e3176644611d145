-- For proofs and engines, not for the reader of document 02: what the readers of the finish family leave beside what
-- those of document 01's traces leave: how far an async reaches that begins in the call that is read.
use Rattle.std.specs.Prelude.{ℕ, ◌≡◌, List, []}
use Rattle.chain.specs.Plan.{CostLine}
use Rattle.line.specs.Family.{Finishes}
use Rattle.trace.specs.Tree.{Body}
use Rattle.trace.specs.Fold.{Chains}
use Rattle.weigh.specs.Weighed.{Weigh}
use Rattle.walk.specs.Reads.{Reads}
use Rattle.walk.specs.Numbers.{numbers}
use Rattle.walk.specs.Item.{More}
use Rattle.walk.specs.Own.{own, own_item, reaching}
use Rattle.tables.specs.declared.Reach.{Reach}
use Rattle.tables.specs.Blocks.{Holds, behind}

-- what holds of the row that the lines are directly in, and of whatever row
abbrev pub OfARow : (ℕ → Type 0) → Type 0
OfARow P = (row : ℕ) × P row

abbrev pub OfEachRow : (ℕ → Type 0) → Type 0
OfEachRow P = (row : ℕ) → P row

-- whatever body stands here: behind its first item,
abbrev pub ItemReaches : (how : Weigh) (s : List ℕ) (row : ℕ) (f : Reach) (t : List ℕ) (n w : ℕ) (r : Reach) → Type 0
ItemReaches how s row f t n w r = (b : Body) (q : List CostLine) (k : Chains) → More b → Reads Finishes how s f.around.at row b → f.around ≡ numbers f.around.at f.around.work.0 k → Holds n w t (behind q k) []
    → r.far.0 ≡ (own_item (reaching f.around f.far.0) b).far

-- and at its return
abbrev pub ItemsReach : (how : Weigh) (s : List ℕ) (row : ℕ) (f : Reach) (t : List ℕ) (n w : ℕ) (r : Reach) → Type 0
ItemsReach how s row f t n w r = (b : Body) (q : List CostLine) (k : Chains) → Reads Finishes how s f.around.at row b → f.around ≡ numbers f.around.at f.around.work.0 k → Holds n w t (behind q k) []
    → r.far.0 ≡ (own (reaching f.around f.far.0) b).far
