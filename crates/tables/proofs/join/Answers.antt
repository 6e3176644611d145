-- `tables::join` meets its contract: the prefix takes in the table of the chain that wins, and that of the loser goes.
use Prim.Native.Nat.{◌+◌, ◌^◌, ◌<◌}
use native.Mathlib.Omega.{arith}
use Rattle.tables.specs.Blocks.{Shows, behind}
use Rattle.tables.proofs.Held.{some_longest}
use Rattle.tables.proofs.Steps.{load_fits, prefix_fits, iprefix_fits, join_none, join_since, join_longest, since_takes, longest_takes}
use Rattle.tables.proofs.join.Goals as goal

pub joined-requires : goal.joined-requires
joined-requires c =
    let own-fits : (c.args.f.at + 1 < 2 ^ 64) × (c.args.f.prefix.0 + (c.args.f.longest.0 + c.args.f.since.0) < 2 ^ 64) = (c.requires.at_bound, omega (arith, load_fits c.requires.asks)) in
    own-fits

pub returns-then-f-eq0 : goal.returns-then-f-eq0
returns-then-f-eq0 c =
    rw c.joined.ensures (join_none c.args.n c.args.w c.requires.asks.blocks c.args.t.now c.args.f c.if-f-eq0.true c.later_heavier.result c.later_heavier.ensures)

pub take_in-requires : goal.take_in-requires
take_in-requires c =
    let shows : (let r = c.requires.asks in Shows c.args.n c.args.w c.args.t.now (behind r.q r.k) r.g) = let r = c.requires.asks in r.holds.later (some_longest c.args.f r.k r.weighs c.if-f-eq0.false) in
    let r = c.requires.asks in
    since_takes c.args.n c.args.w r.blocks c.args.t.now (r.wide c.if-f-eq0.false) (behind r.q r.k) r.g (shows) r.even (omega (arith, prefix_fits r)) (omega (arith, iprefix_fits r))

pub joined-requires-then-later : goal.joined-requires-then-later
joined-requires-then-later c =
    let own-fits : (c.args.f.at + 1 < 2 ^ 64) × (c.args.f.prefix.0 + (c.args.f.longest.0 + c.args.f.since.0) < 2 ^ 64) = (c.requires.at_bound, omega (arith, load_fits c.requires.asks)) in
    own-fits

pub returns-then-later : goal.returns-then-later
returns-then-later c =
    rw c.joined-then-later.ensures (join_since c.args.n c.args.w c.requires.asks.blocks c.args.t.now c.args.f c.take_in.new.t c.take_in.ensures c.if-f-eq0.false c.later_heavier-later.result c.later_heavier-later.ensures c.if-later.true)

pub take_in-requires-2 : goal.take_in-requires-2
take_in-requires-2 c =
    let shows : (let r = c.requires.asks in Shows c.args.n c.args.w c.args.t.now (behind r.q r.k) r.g) = let r = c.requires.asks in r.holds.later (some_longest c.args.f r.k r.weighs c.if-f-eq0.false) in
    let r = c.requires.asks in
    longest_takes c.args.n c.args.w r.blocks c.args.t.now (r.wide c.if-f-eq0.false) (behind r.q r.k) r.g (shows) r.even (omega (arith, prefix_fits r)) (omega (arith, iprefix_fits r))

pub joined-requires-2 : goal.joined-requires-2
joined-requires-2 c =
    let own-fits : (c.args.f.at + 1 < 2 ^ 64) × (c.args.f.prefix.0 + (c.args.f.longest.0 + c.args.f.since.0) < 2 ^ 64) = (c.requires.at_bound, omega (arith, load_fits c.requires.asks)) in
    own-fits

pub returns : goal.returns
returns c =
    rw c.joined-2.ensures (join_longest c.args.n c.args.w c.requires.asks.blocks c.args.t.now c.args.f c.take_in-2.new.t c.take_in-2.ensures c.if-f-eq0.false c.later_heavier-later.result c.later_heavier-later.ensures c.if-later.false)
