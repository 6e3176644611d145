-- `nyolifuwe::nyo_compact` meets its contract: the compactor, with its count told, or no room for the count. Assumes
-- nothing.
use Rattle.nyolifuwe.proofs.Shelf.{shelf_line, shelf_unroomy, shelf_told}
use Rattle.nyolifuwe.proofs.nyo_compact.Goals as goal

pub returns-then-written-lt1 : goal.returns-then-written-lt1
returns-then-written-lt1 c =
    let a = c.args in
    rw c.refuse_room.ensures (shelf_unroomy a.trace.now a.depth a.sites a.out.now a.written.now c.if-written-lt1.true)

pub tell-requires : goal.tell-requires
tell-requires c = (shelf_line c.compact-wrote.ensures, c.if-written-lt1.false)

pub returns : goal.returns
returns c =
    let a = c.args in
    shelf_told a.trace.now a.depth a.sites a.out.now a.written.now c.if-written-lt1.false c.compact-wrote.ensures c.tell.ensures.0 c.tell.ensures.1
