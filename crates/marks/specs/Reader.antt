-- For proofs and engines, not for the reader of document 01: what the three readers of the marks engine ask for and
-- leave. t is the scratch from their invocation's part on, m the marks, and how is what a cost line weighs.
use Rattle.std.specs.Prelude.{ℕ, ◌+◌, ◌*◌, ◌≤◌, ◌≡◌, List, length}
use Rattle.line.specs.Family.{Family}
use Rattle.line.specs.Read.{width}
use Rattle.trace.specs.Tree.{Body}
use Rattle.trace.specs.Fold.{Chains, nothing, chain_of, run}
use Rattle.weigh.specs.Weighed.{Weigh}
use Rattle.walk.specs.declared.Open.{Open}
use Rattle.walk.specs.Reads.{Reads}
use Rattle.walk.specs.Stands.{kind_by}
use Rattle.walk.specs.Numbers.{numbers}
use Rattle.walk.specs.Item.{More, item_chains}
use Rattle.walk.specs.Reader.{Ready, ItemDone, ItemsDone, BodyDone}
use Rattle.marks.specs.declared.Zones.{Zones}
use Rattle.marks.specs.Shown.{all_prefix, Zone, Shows, Kept}
use Rattle.marks.specs.Park.{Zero}

-- The marks show the chains that the invocation's numbers weigh, and each line of the text has one; the scratch is
-- zero, and has room for deep invocations more.
pub record Lent (y : Family) (how : Weigh) (s : List ℕ) (deep : ℕ) (z : Zones) (t m rows : List ℕ) : Type 0 where
  pub sites : ℕ
  pub ready : Ready y how s z.row sites deep z.own rows
  pub lines : length s ≤ width * length m
  pub zero : Zero t
  pub room : 8 + deep * 8 ≤ length t
  pub n : ℕ
  pub k : Chains
  pub weighs : z.own ≡ numbers z.own.at z.own.work.0 k
  pub shows : Shows n m z k

-- the item reader: there is an item, whose first line is of this kind
pub record ItemAsks (y : Family) (how : Weigh) (s : List ℕ) (kind deep : ℕ) (z : Zones) (t m rows : List ℕ) : Type 0 where
  pub lent : Lent y how s deep z t m rows
  pub kind_is : kind ≡ kind_by y s z.own.at
  pub more : More lent.ready.body

-- behind the first item of b, of an invocation that began at line n and has come to the chains k
pub record ItemLeft (n : ℕ) (b : Body) (k : Chains) (z : Zones) (m rows : List ℕ) (r : Zones) (m' rows' : List ℕ) : Type 0 where
  pub done : ItemDone z.row z.own rows b k r.own rows'
  pub same_row : r.row ≡ z.row
  pub shows : Shows n m' r (item_chains z.own.at z.row b k)
  pub kept : Kept n r.own.at m m'

-- whatever body stands here, wherever its invocation began and whatever chains it has come to
abbrev pub ItemLeaves : (y : Family) (how : Weigh) (s : List ℕ) (z : Zones) (m rows : List ℕ) (r : Zones) (m' rows' : List ℕ) → Type 0
ItemLeaves y how s z m rows r m' rows' = (b : Body) (n : ℕ) (k : Chains) → More b → Reads y how s z.own.at z.row b → z.own ≡ numbers z.own.at z.own.work.0 k → Shows n m z k
    → ItemLeft n b k z m rows r m' rows'

-- at the return of b, of an invocation that began at line n and had come to the chains k
pub record ItemsLeft (n : ℕ) (b : Body) (k : Chains) (z : Zones) (m rows : List ℕ) (r : Zones) (m' rows' : List ℕ) : Type 0 where
  pub done : ItemsDone z.row z.own rows b k r.own rows'
  pub shows : Shows n m' r (run z.own.at z.row b k)
  pub kept : Kept n r.own.at m m'

-- The reader of an invocation's items up to its return: whatever body stands here, wherever its invocation began and
-- whatever chains it has come to. At the return a join may follow.
pub record ItemsLeave (y : Family) (how : Weigh) (s : List ℕ) (deep : ℕ) (z : Zones) (t m rows : List ℕ) (r : Zones) (m' rows' : List ℕ) : Type 0 where
  pub lent : Lent y how s deep r t m' rows'
  pub same_row : r.row ≡ z.row
  pub leaves : (b : Body) (n : ℕ) (k : Chains) → Reads y how s z.own.at z.row b → z.own ≡ numbers z.own.at z.own.work.0 k → Shows n m z k → ItemsLeft n b k z m rows r m' rows'

-- an invocation of a row whose body begins at a line
abbrev pub begun : ℕ → ℕ → Zones
begun from row = all_prefix (numbers from 0 nothing) row

-- the body reader
abbrev pub BodyAsks : (y : Family) (how : Weigh) (s : List ℕ) (from row deep : ℕ) (t m rows : List ℕ) → Type 0
BodyAsks y how s from row deep t m rows = Lent y how s deep (begun from row) t m rows

-- behind the whole body b: its zone shows its chain
pub record BodyLeft (from row : ℕ) (b : Body) (m rows : List ℕ) (r : Open) (m' rows' : List ℕ) : Type 0 where
  pub done : BodyDone from row rows b r rows'
  pub zone : Zone m' from r.at (chain_of from row b)
  pub kept : Kept from r.at m m'

abbrev pub BodyLeaves : (y : Family) (how : Weigh) (s : List ℕ) (from row : ℕ) (m rows : List ℕ) (r : Open) (m' rows' : List ℕ) → Type 0
BodyLeaves y how s from row m rows r m' rows' = (b : Body) → Reads y how s from row b → BodyLeft from row b m rows r m' rows'
