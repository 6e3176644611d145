-- For proofs and engines, not for the reader of document 01: what the marks of an open invocation's lines show: three
-- zones of lines, each with the marks of its chain.
use Rattle.std.specs.Prelude.{ℕ, ◌≤◌, ◌<◌, ◌≡◌, cond, List, get_or}
use Rattle.chain.specs.Plan.{CostLine, All}
use Rattle.chain.specs.Over.{lines_in}
use Rattle.trace.specs.Shape.{has}
use Rattle.trace.specs.Fold.{Chains}
use Rattle.walk.specs.declared.Open.{Open}
use Rattle.marks.specs.declared.Zones.{Zones}

-- an invocation all of whose lines so far are the prefix's zone
abbrev pub all_prefix : Open → ℕ → Zones
all_prefix own row = record { own = own; row = row; child = own.at; after = own.at }

-- the cost line is from line a on and before line e
abbrev pub Between : ℕ → ℕ → CostLine → Type 0
Between a e x = (a ≤ x.line) × (x.line < e)

-- of the lines from a on and before e, "A mark is 1 for a line on the chosen chain, 0 for any other", and the chain
-- has no lines elsewhere
pub record Zone (m : List ℕ) (a e : ℕ) (c : List CostLine) : Type 0 where
  pub marks_are : (i : ℕ) → a ≤ i → i < e → get_or m i 0 ≡ cond (has i (lines_in c)) 1 0
  pub inside : All (Between a e) c

-- the zones of an invocation whose first line is n, and its chains
pub record Shows (n : ℕ) (m : List ℕ) (z : Zones) (k : Chains) : Type 0 where
  pub begins : n ≤ z.child
  pub then : z.child ≤ z.after
  pub ends : z.after ≤ z.own.at
  pub P : Zone m n z.child k.p
  pub L : Zone m z.child z.after k.l
  pub C : Zone m z.after z.own.at k.c

-- marks before line a, and from line e on, are as they were
abbrev pub Kept : ℕ → ℕ → List ℕ → List ℕ → Type 0
Kept a e m m' = (j : ℕ) → (a ≤ j → j < e → ⊥) → get_or m' j 0 ≡ get_or m j 0

-- the marks from line a on and before line e were cleared
pub record Wiped (a e : ℕ) (m m' : List ℕ) : Type 0 where
  pub gone : (i : ℕ) → a ≤ i → i < e → get_or m' i 0 ≡ 0
  pub rest : Kept a e m m'
