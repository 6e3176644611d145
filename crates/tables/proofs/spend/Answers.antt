-- `tables::spend` meets its contract: the cost is put into the continuation's table, its numbers and its bit.
use Rattle.tables.proofs.Steps.{load_fits, row_fits, since-room, spent-done}
use native.Mathlib.Omega.{arith}
use Rattle.tables.proofs.spend.Goals as goal

pub overflow_add-o : goal.overflow_add-o
overflow_add-o c =
    let r = since-room c.requires.asks in
    record { fits = rw c.since-o.ensures (omega (arith, c.requires.s_bound.0)) }

pub add-requires : goal.add-requires
add-requires c =
    let r = c.requires.asks in
    rw c.since-o.ensures (omega (arith, since-room r, c.requires.s_bound.0), row_fits r c.args.s c.requires.s_bound.0)

pub overflow_add-o-2 : goal.overflow_add-o-2
overflow_add-o-2 c =
    let r = since-room c.requires.asks in
    record { fits = rw c.since-o.ensures (omega arith) }

pub put_row-requires : goal.put_row-requires
put_row-requires c =
    (rw c.since-o.ensures (omega (arith, since-room c.requires.asks, c.add.auto.t)), omega (arith, c.requires.s_bound.0, c.requires.s_bound.1.0))

pub spent-requires : goal.spent-requires
spent-requires c =
    let p = c.requires.s_bound.1.1.1 in
    (p.0, (p.1, omega (arith, load_fits c.requires.asks)))

pub returns : goal.returns
returns c =
    let r = c.requires.asks in
    spent-done c.args.n c.args.w r.blocks c.args.t.now c.args.f c.args.s c.args.cycles.0 c.args.instructions.0 c.requires.s_bound.0 c.requires.s_bound.1.1.0 r.room r.wide c.since-o.result c.since-o.ensures c.add.new.t c.add.ensures c.put_row.new.t c.put_row.ensures c.spent.result c.spent.ensures
