-- For proofs and engines, not for the reader of document 01: what the three readers of the table engine ask for and
-- leave. t is what their invocation was lent of the scratch, and how is what a cost line weighs.
use Rattle.std.specs.Prelude.{ℕ, ◌+◌, ◌*◌, ◌%◌, ◌^◌, ◌≤◌, ◌<◌, ◌≡◌, List, [], ◌++◌, length}
use Rattle.chain.specs.Plan.{CostLine, weight}
use Rattle.line.specs.Family.{Family}
use Rattle.trace.specs.Tree.{Body, work_of, instructions_of}
use Rattle.trace.specs.Fold.{its_instructions, Chains, nothing, chain_of, run, on_all}
use Rattle.weigh.specs.Weighed.{Weigh}
use Rattle.walk.specs.declared.Open.{Open}
use Rattle.walk.specs.Reads.{Reads}
use Rattle.walk.specs.Stands.{kind_by}
use Rattle.walk.specs.Numbers.{numbers, load, iload}
use Rattle.walk.specs.Item.{More, item_chains}
use Rattle.walk.specs.Reader.{Ready, ItemDone, ItemsDone, alone, BodyDone}
use Rattle.tables.specs.Blocks.{Shows, Holds, behind}

-- The scratch holds the chains that the numbers f weigh, behind some chain, and has rooms for what works in a part of
-- its own: three blocks for each, in which a child can become the longest, and one for the last. There are as many as
-- may still open, or more, for a call of the finish family takes none. Whatever number a table comes to fits.
pub record Lent (y : Family) (how : Weigh) (s : List ℕ) (row deep : ℕ) (f : Open) (t rows : List ℕ) (n w : ℕ) : Type 0 where
  pub m : ℕ
  pub ready : Ready y how s row m deep f rows
  pub blocks : n ≡ w + 1
  pub even : w % 2 ≡ 0
  pub wide : 2 * (m + 1) ≤ w
  pub few : w ≤ 512
  pub rooms : ℕ
  pub for_deep : deep ≤ rooms
  pub room : n + rooms * (3 * n) ≤ length t
  pub opened : (f.longest.0 ≡ 0 → ⊥) → 1 ≤ rooms
  pub q : List CostLine
  pub k : Chains
  pub weighs : f ≡ numbers f.at f.work.0 k
  pub holds : Holds n w t (behind q k) []
  pub fits : weight q + load k + work_of ready.body < 2 ^ 64
  pub ifits : on_all its_instructions q + iload k + instructions_of ready.body < 2 ^ 64

-- the item reader: there is an item, whose first line is of this kind
pub record ItemAsks (y : Family) (how : Weigh) (s : List ℕ) (kind row deep : ℕ) (f : Open) (t rows : List ℕ) (n w : ℕ) : Type 0 where
  pub lent : Lent y how s row deep f t rows n w
  pub kind_is : kind ≡ kind_by y s f.at
  pub more : More lent.ready.body

-- whatever body stands here, and whatever chains its invocation has come to, behind whatever chain
abbrev pub ItemLeaves : (y : Family) (how : Weigh) (s : List ℕ) (row : ℕ) (f : Open) (t rows : List ℕ) (n w : ℕ) (r : Open) (t' rows' : List ℕ) → Type 0
ItemLeaves y how s row f t rows n w r t' rows' = (b : Body) (q : List CostLine) (k : Chains) → More b → Reads y how s f.at row b → f ≡ numbers f.at f.work.0 k → Holds n w t (behind q k) []
    → ItemDone row f rows b k r rows' × Holds n w t' (behind q (item_chains f.at row b k)) []

-- The reader of an invocation's items up to its return: whatever body stands here, and whatever chains its invocation has
-- come to, behind whatever chain. At the return the scratch holds what they come to, and a join may follow.
pub record ItemsLeave (y : Family) (how : Weigh) (s : List ℕ) (row deep : ℕ) (f : Open) (t rows : List ℕ) (n w : ℕ) (r : Open) (t' rows' : List ℕ) : Type 0 where
  pub lent : Lent y how s row deep r t' rows' n w
  pub leaves : (b : Body) (q : List CostLine) (k : Chains) → Reads y how s f.at row b → f ≡ numbers f.at f.work.0 k → Holds n w t (behind q k) []
      → ItemsDone row f rows b k r rows' × Holds n w t' (behind q (run f.at row b k)) []

-- the body reader
abbrev pub BodyAsks : (y : Family) (how : Weigh) (s : List ℕ) (from row deep : ℕ) (t rows : List ℕ) (n w : ℕ) → Type 0
BodyAsks y how s from row deep t rows n w = Lent y how s row deep (numbers from 0 nothing) t rows n w

-- its chain's table is added to what stood at the front of its part
abbrev pub BodyLeaves : (y : Family) (how : Weigh) (s : List ℕ) (from row : ℕ) (t rows : List ℕ) (n w : ℕ) (r : Open) (t' rows' : List ℕ) → Type 0
BodyLeaves y how s from row t rows n w r t' rows' = (b : Body) (q : List CostLine) → Reads y how s from row b → Shows n w t (alone q) []
    → BodyDone from row rows b r rows' × Shows n w t' (alone (q ++ chain_of from row b)) []
