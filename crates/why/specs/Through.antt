-- Request m: the chains through one line.
use Rattle.std.specs.Prelude.{ℕ, ◌≤◌, ◌≡◌, ◌⊎◌, List}
use Rattle.line.specs.declared.Frame.{Frame}
use Rattle.chain.specs.Over.{Before}
use Rattle.trace.specs.Shape.{root}
use Rattle.trace.specs.Series.{Chain, weight}
use Rattle.moves.specs.Moves.{On}

-- "the first of the heaviest chains through the asked line": q is that line
pub record Through (t : List Frame) (q : ℕ) (c : List ℕ) : Type 0 where
  -- a chain of the root's lines, with the line in it
  pub chain : Chain t root c
  pub on : On q c
  -- none with the line in it is heavier
  pub heaviest : (d : List ℕ) → Chain t root d → On q d → weight t d ≤ weight t c
  -- and among equals it is the first
  pub first : (d : List ℕ) → Chain t root d → On q d → weight t d ≡ weight t c → (d ≡ c) ⊎ Before c d
