-- `nyolifuwe::nyo_folded` meets its contract: the writer, with its count told, or no room for the count. Assumes nothing.
use lib.ListN.{length}
use Rattle.nyolifuwe.proofs.Stacks.{stacks_line, stacks_unroomy, stacks_told}
use Rattle.nyolifuwe.proofs.nyo_folded.Goals as goal

pub returns-then-written-lt1 : goal.returns-then-written-lt1
returns-then-written-lt1 c =
    let a = c.args in
    rw c.refuse_room.ensures
    (stacks_unroomy a.trace.now a.depth a.sites a.project.now a.stock.now a.out.now a.written.now a.scratch.now c.if-written-lt1.true)

pub tell-requires : goal.tell-requires
tell-requires c =
    let a = c.args in
    (stacks_line a.project.now a.stock.now (length a.out.now) a.trace.now a.depth a.sites (length a.scratch.now) c.write_folded-wrote.ensures.writes.answered, c.if-written-lt1.false)

pub returns : goal.returns
returns c =
    let a = c.args in
    stacks_told a.trace.now a.depth a.sites a.project.now a.stock.now a.out.now a.written.now a.scratch.now c.if-written-lt1.false c.write_folded-wrote.ensures c.tell.ensures.0 c.tell.ensures.1
