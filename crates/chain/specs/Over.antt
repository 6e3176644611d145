-- Series, chain, weight, span and the chosen chain over line numbers, for any rule that says which two lines are
-- parallel.
use Rattle.std.specs.Prelude.{ℕ, ◌+◌, ◌≤◌, ◌<◌, ◌≡◌, ◌⊎◌, List, [], ◌∷◌}
use Rattle.chain.specs.Plan.{CostLine}

-- which lines are the cost lines in question, what a line weighs, and which two lines are parallel
pub record Rule : Type 1 where
  pub Cost : ℕ → Type 0
  pub value : ℕ → ℕ
  pub Parallel : ℕ → ℕ → Type 0

-- p holds of each element
abbrev pub Each : (ℕ → Type 0) → List ℕ → Type 0
Each p [] = Unit {0}
Each p (x ∷ l) = p x × Each p l

-- r holds of each two elements, the earlier one first
abbrev pub EachTwo : (ℕ → ℕ → Type 0) → List ℕ → Type 0
EachTwo r [] = Unit {0}
EachTwo r (x ∷ l) = Each (r x) l × EachTwo r l

-- "Take cost lines i < j ... Otherwise i comes before j in series."
abbrev pub Series : (ℕ → ℕ → Type 0) → ℕ → ℕ → Type 0
Series Parallel i j = (i < j) × (¬ Parallel i j)

-- "A chain is a set of cost lines, each two of them in series; the empty set is one." The set is its ascending list of
-- line numbers.
pub record Chain (r : Rule) (c : List ℕ) : Type 0 where
  pub costs : Each r.Cost c
  pub series : EachTwo (Series r.Parallel) c

-- "Its weight is the sum of its values."
abbrev pub weight : (ℕ → ℕ) → List ℕ → ℕ
weight value [] = 0
weight value (k ∷ c) = value k + weight value c

-- "the greatest weight of a chain"
pub record Span (r : Rule) (n : ℕ) : Type 0 where
  pub chain : List ℕ
  pub is_chain : Chain r chain
  pub weighs : weight r.value chain ≡ n
  pub greatest : (c : List ℕ) → Chain r c → weight r.value c ≤ n

-- "at the first place of difference the smaller number wins"
abbrev pub Before : List ℕ → List ℕ → Type 0
Before [] d = ⊥
Before (x ∷ c) [] = ⊥
Before (x ∷ c) (y ∷ d) = (x < y) ⊎ ((x ≡ y) × Before c d)

-- "among the ... heaviest, the one whose ascending list of line numbers comes first"
pub record Chosen (r : Rule) (c : List ℕ) : Type 0 where
  pub chain : Chain r c
  pub heaviest : (d : List ℕ) → Chain r d → weight r.value d ≤ weight r.value c
  pub first : (d : List ℕ) → Chain r d → weight r.value d ≡ weight r.value c → (d ≡ c) ⊎ Before c d

-- the line numbers of a chain of a plan
abbrev pub lines_in : List CostLine → List ℕ
lines_in [] = []
lines_in (x ∷ c) = x.line ∷ lines_in c
