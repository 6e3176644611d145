-- For proofs and engines, not for the reader of document 01: what each step of an open invocation asks for, and what it
-- leaves, whatever chains the invocation has come to and wherever it began.
use Rattle.std.specs.Prelude.{ℕ, ◌+◌, ◌^◌, ◌≤◌, ◌<◌, ◌≡◌, List, length}
use Rattle.chain.specs.Plan.{CostLine, weight}
use Rattle.trace.specs.Fold.{cost_at, Chains, spent, joined, called, spawned}
use Rattle.walk.specs.declared.Open.{Open}
use Rattle.walk.specs.Numbers.{numbers}
use Rattle.marks.specs.declared.Zones.{Zones}
use Rattle.marks.specs.Shown.{Zone, Shows, Kept}

-- the zones are in order, the next line has a mark, and with v more no number is too large
pub record Fits (m : List ℕ) (z : Zones) (v : ℕ) : Type 0 where
  pub order : (z.child ≤ z.after) × (z.after ≤ z.own.at)
  pub room : z.own.at < length m
  pub load : z.own.prefix.0 + (z.own.longest.0 + z.own.since.0) + v < 2 ^ 64

-- the chains k at line e with work w, of an invocation that began at line n; other marks are as they were
pub record At (n e w : ℕ) (k : Chains) (m : List ℕ) (z r : Zones) (m' : List ℕ) : Type 0 where
  pub numbers_are : r.own ≡ numbers e w k
  pub same_row : r.row ≡ z.row
  pub shows : Shows n m' r k
  pub kept : Kept n e m m'

-- behind a cost of v, whatever its instructions
abbrev pub Spent : (v : ℕ) (m : List ℕ) (z r : Zones) (m' : List ℕ) → Type 0
Spent v m z r m' = (i n : ℕ) (k : Chains) → z.own ≡ numbers z.own.at z.own.work.0 k → Shows n m z k
    → At n (z.own.at + 1) (z.own.work.0 + v) (spent (cost_at z.own.at z.row v i) k) m z r m'

-- behind a line that weighs nothing and joins nothing
abbrev pub Passed : (m : List ℕ) (z r : Zones) (m' : List ℕ) → Type 0
Passed m z r m' = (n : ℕ) (k : Chains) → z.own ≡ numbers z.own.at z.own.work.0 k → Shows n m z k
    → At n (z.own.at + 1) z.own.work.0 k m z r m'

-- behind a sync or the return
abbrev pub Joined : (m : List ℕ) (z r : Zones) (m' : List ℕ) → Type 0
Joined m z r m' = (n : ℕ) (k : Chains) → z.own ≡ numbers z.own.at z.own.work.0 k → Shows n m z k
    → At n (z.own.at + 1) z.own.work.0 (joined k) m z r m'

-- behind a called child with the numbers c, whose zone shows its chain g
abbrev pub Called : (m : List ℕ) (z : Zones) (c : Open) (r : Zones) (m' : List ℕ) → Type 0
Called m z c r m' = (n : ℕ) (k : Chains) (g : List CostLine) → z.own ≡ numbers z.own.at z.own.work.0 k → weight g ≡ c.prefix.0 → Shows n m z k
    → z.own.at < c.at → Zone m (z.own.at + 1) c.at g → At n c.at (z.own.work.0 + c.work.0) (called g k) m z r m'

-- behind a spawned child with the numbers c, whose zone shows its chain g
abbrev pub Spawned : (m : List ℕ) (z : Zones) (c : Open) (r : Zones) (m' : List ℕ) → Type 0
Spawned m z c r m' = (n : ℕ) (k : Chains) (g : List CostLine) → z.own ≡ numbers z.own.at z.own.work.0 k → weight g ≡ c.prefix.0 → Shows n m z k
    → z.own.at < c.at → Zone m (z.own.at + 1) c.at g → At n c.at (z.own.work.0 + c.work.0) (spawned g k) m z r m'
