-- `tables::spawned` meets its contract: where the child is longer its table comes to the longest child's place, else it is
-- cleared.
use Prim.Native.Nat.{◌+◌, ◌^◌, ◌<◌}
use native.Mathlib.Omega.{arith}
use Rattle.tables.specs.Blocks.{Shows, behind}
use Rattle.tables.proofs.Held.{some_longest}
use Rattle.tables.proofs.Steps.{load_fits, prefix_fits, iprefix_fits, spawned-first, spawned_longer, spawned-shorter, since_takes}
use Rattle.tables.proofs.spawned.Goals as goal

pub child_longer-requires : goal.child_longer-requires
child_longer-requires c = omega (arith, load_fits c.requires.asks)

pub spawned-requires : goal.spawned-requires
spawned-requires c =
    let both-fit : (c.args.f.work.0 + c.args.c.work.0 < 2 ^ 64) × (c.args.f.prefix.0 + c.args.f.since.0 < 2 ^ 64) = (c.requires.work_bound, omega (arith, load_fits c.requires.asks)) in
    both-fit

pub returns-then-f-eq0 : goal.returns-then-f-eq0
returns-then-f-eq0 c =
    rw c.spawned.ensures (spawned-first c.args.n c.args.w c.requires.asks.blocks c.args.t.now c.args.f c.args.c c.if-f-eq0.true c.child_longer.result c.child_longer.ensures)

pub child_longer-longer-requires : goal.child_longer-longer-requires
child_longer-longer-requires c = omega (arith, load_fits c.requires.asks)

pub take_in-requires : goal.take_in-requires
take_in-requires c =
    let shows : (let r = c.requires.asks in Shows c.args.n c.args.w c.args.t.now (behind r.q r.k) r.g) = let r = c.requires.asks in r.holds.later (some_longest c.args.f r.k r.weighs c.if-f-eq0.false) in
    let r = c.requires.asks in
    since_takes c.args.n c.args.w r.blocks c.args.t.now (r.wide c.if-f-eq0.false) (behind r.q r.k) r.g (shows) r.even (omega (arith, prefix_fits r)) (omega (arith, iprefix_fits r))

pub spawned-requires-then-longer : goal.spawned-requires-then-longer
spawned-requires-then-longer c =
    let both-fit : (c.args.f.work.0 + c.args.c.work.0 < 2 ^ 64) × (c.args.f.prefix.0 + c.args.f.since.0 < 2 ^ 64) = (c.requires.work_bound, omega (arith, load_fits c.requires.asks)) in
    both-fit

pub returns-then-longer : goal.returns-then-longer
returns-then-longer c =
    rw c.spawned-then-longer.ensures (spawned_longer c.args.n c.args.w c.requires.asks.blocks c.args.t.now c.args.f c.args.c c.take_in.new.t c.take_in.ensures c.if-f-eq0.false c.child_longer-longer.result c.child_longer-longer.ensures c.if-longer.true)

pub clear-requires : goal.clear-requires
clear-requires c =
    let shows : (let r = c.requires.asks in Shows c.args.n c.args.w c.args.t.now (behind r.q r.k) r.g) = let r = c.requires.asks in r.holds.later (some_longest c.args.f r.k r.weighs c.if-f-eq0.false) in
    let r = c.requires.asks in
    (omega (arith, r.blocks, r.wide c.if-f-eq0.false), (r.g, (shows).G))

pub spawned-requires-2 : goal.spawned-requires-2
spawned-requires-2 c =
    let both-fit : (c.args.f.work.0 + c.args.c.work.0 < 2 ^ 64) × (c.args.f.prefix.0 + c.args.f.since.0 < 2 ^ 64) = (c.requires.work_bound, omega (arith, load_fits c.requires.asks)) in
    both-fit

pub returns : goal.returns
returns c =
    rw c.spawned-2.ensures (spawned-shorter c.args.n c.args.w c.requires.asks.blocks c.args.t.now c.args.f c.args.c c.clear.new.t c.clear.ensures c.if-f-eq0.false c.child_longer-longer.result c.child_longer-longer.ensures c.if-longer.false)
