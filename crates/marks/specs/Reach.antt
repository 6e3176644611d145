-- For proofs and engines, not for the reader of documents 01 and 02: what the readers of the finish family keep of a
-- call's own span, beside the zones, which are those of the finish or async around it.
use Rattle.std.specs.Prelude.{ℕ, ◌≡◌, cond, List, eqb}
use Rattle.line.specs.Family.{Finishes}
use Rattle.line.specs.At.{site_at}
use Rattle.trace.specs.Tree.{Body}
use Rattle.weigh.specs.Weighed.{Weigh}
use Rattle.walk.specs.Reads.{Reads}
use Rattle.walk.specs.Item.{More}
use Rattle.walk.specs.Own.{Own, own, own_item, reaching}
use Rattle.marks.specs.declared.Zones.{Zones}
use Rattle.marks.specs.declared.Reach.{Reach}

-- the row of what line n, which is of this kind and directly in an invocation of a row, opens: a finish's is that row
abbrev pub row_of : List ℕ → ℕ → ℕ → ℕ → ℕ
row_of s n kind row = cond (eqb kind 0x13) row (site_at s n)

-- the zones of an invocation, for one of a row that goes on in them
abbrev pub of_row : ℕ → Zones → Zones
of_row row z = record { own = z.own; row = row; child = z.child; after = z.after }

-- its two numbers
abbrev pub own_of : Reach → Own
own_of a = reaching a.zones.own a.far.0

-- behind the first item of whatever body stands here
abbrev pub ItemReach : (how : Weigh) (s : List ℕ) (a r : Reach) → Type 0
ItemReach how s a r = (b : Body) → More b → Reads Finishes how s a.zones.own.at a.zones.row b → r.far.0 ≡ (own_item (own_of a) b).far

-- behind all its items
abbrev pub ItemsReach : (how : Weigh) (s : List ℕ) (a r : Reach) → Type 0
ItemsReach how s a r = (b : Body) → Reads Finishes how s a.zones.own.at a.zones.row b → r.far.0 ≡ (own (own_of a) b).far
