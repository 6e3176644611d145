-- Series, chain, weight, span, and the chosen chain, over line numbers: those of `chain/specs/Over`, by the rule of
-- these traces.
use Rattle.std.specs.Prelude.{ℕ, zero, suc, List, [], ◌∷◌}
use Rattle.line.specs.Family.{Family, Base, Finishes}
use Rattle.line.specs.declared.Frame.{Frame}
use Rattle.line.specs.declared.Frame.TheVariants.{Site, Call, Spawn, Sync, Return, Cost, Instructions, Async, Finish}
use Rattle.chain.specs.Over.{Rule}
use Rattle.chain.specs.Over as Over
use Rattle.trace.specs.Shape.{Is, root, Contains, Parallel}
use Rattle.trace.specs.Async.{Parallel as AsyncParallel}

-- what a line weighs: a cost line its value, any other nothing
abbrev pub value : Frame → ℕ
value (Site s p) = 0
value (Call s) = 0
value (Spawn s) = 0
value Sync = 0
value Return = 0
value (Cost v) = v
value (Instructions v) = 0
value (Async s) = 0
value Finish = 0

-- what line k weighs
abbrev pub value_at : List Frame → ℕ → ℕ
value_at [] k = 0
value_at (e ∷ t) zero = value e
value_at (e ∷ t) (suc k) = value_at t k

-- line k is a cost line inside invocation F
pub record CostIn (t : List Frame) (F k : ℕ) : Type 0 where
  pub is : Is t k (Cost (value_at t k))
  pub inside : Contains t F k

-- which two lines are parallel, by the family
abbrev pub ParallelOf : Family → List Frame → ℕ → ℕ → Type 0
ParallelOf Base t i j = Parallel t i j
ParallelOf Finishes t i j = AsyncParallel t i j

-- the rule: the cost lines inside invocation F, their values, and which two lines are parallel
abbrev pub rule_of : Family → List Frame → ℕ → Rule
rule_of g t F = record { Cost = CostIn t F; value = value_at t; Parallel = ParallelOf g t }

-- "Take cost lines i < j ... Otherwise i comes before j in series."
abbrev pub SeriesOf : Family → List Frame → ℕ → ℕ → Type 0
SeriesOf g t i j = Over.Series (ParallelOf g t) i j

-- "A chain is a set of cost lines, each two of them in series; the empty set is one." The set is its ascending list
-- of line numbers, and all of its lines are inside invocation F.
abbrev pub ChainOf : Family → List Frame → ℕ → List ℕ → Type 0
ChainOf g t F c = Over.Chain (rule_of g t F) c

-- "Its weight is the sum of its values."
abbrev pub weight : List Frame → List ℕ → ℕ
weight t c = Over.weight (value_at t) c

-- "The span of an invocation is the greatest weight of a chain of lines inside it, its children's included."
abbrev pub SpanOf : Family → List Frame → ℕ → ℕ → Type 0
SpanOf g t F n = Over.Span (rule_of g t F) n

-- "The chosen chain is, among the root's heaviest, the one whose ascending list of line numbers comes first"
abbrev pub ChosenOf : Family → List Frame → List ℕ → Type 0
ChosenOf g t c = Over.Chosen (rule_of g t root) c

-- those of document 01's traces
abbrev pub rule : List Frame → ℕ → Rule
rule t F = rule_of Base t F

abbrev pub Series : List Frame → ℕ → ℕ → Type 0
Series t i j = SeriesOf Base t i j

abbrev pub Chain : List Frame → ℕ → List ℕ → Type 0
Chain t F c = ChainOf Base t F c

abbrev pub Span : List Frame → ℕ → ℕ → Type 0
Span t F n = SpanOf Base t F n

abbrev pub Chosen : List Frame → List ℕ → Type 0
Chosen t c = ChosenOf Base t c
