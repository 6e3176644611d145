use mathlib.Core.Path.{refl}
use native.Mathlib.Omega.{arith}
use Rattle.tables.proofs.Bodies.{untold, begins, loop-start, loop-asks, Next, loop-less, loop_again, loop-done, body-leaves}
use Rattle.tables.proofs.Items.{join_asks, sync-leaves, note-leaves, costs, rows-asks, spend-asks, cost-leaves, calls, at_part, parted, deeper, room, credit_asks, body-asks, came_back, count-asks, called-asks, spawned-asks, call_leaves, spawn_leaves}
use Rattle.tables.proofs.+readers.Goals as goal

pub body-read_items-f-requires : goal.body-read_items-f-requires
body-read_items-f-requires t c =
    (omega (arith, c.decreases), begins c.new.result c.new.ensures c.requires)

pub body-overflow_add-w : goal.body-overflow_add-w
body-overflow_add-w t c = record { fits = omega (arith, c.read_items-f.ensures.lent.few) }

pub body-join-requires : goal.body-join-requires
body-join-requires t c = let asked = join_asks c.read_items-f.ensures.lent in record { asks = asked.0; at_bound = asked.1 }

pub body-returns : goal.body-returns
body-returns t c =
    body-leaves c.new.result c.new.ensures c.read_items-f.ensures c.join.result c.join.new.t c.join.ensures

pub read_items-loop-kind-init : goal.read_items-loop-kind-init
read_items-loop-kind-init t c = loop-start c.requires c.kind_at-kind.result c.kind_at-kind.ensures untold

pub read_items-item-g-requires : goal.read_items-item-g-requires
read_items-item-g-requires t c =
    (omega (arith, c.decreases), loop-asks c.loop-kind.invariant c.loop-kind-test.true)

pub read_items-loop-kind-smaller : goal.read_items-loop-kind-smaller
read_items-loop-kind-smaller t c =
    let next : Next c.loop-kind.invariant c.item-g.result (c.item-g.new.t) (c.item-g.new.rows) untold = record { more_lines = c.loop-kind-test.true; scratch_long = c.item-g.auto.t; rows_long = c.item-g.auto.rows; leaves = c.item-g.ensures; keeps = λ b q k m h e sh d. refl } in
    loop-less _ (next)

pub read_items-loop-kind-preserved : goal.read_items-loop-kind-preserved
read_items-loop-kind-preserved t c =
    let next : Next c.loop-kind.invariant c.item-g.result (c.item-g.new.t) (c.item-g.new.rows) untold = record { more_lines = c.loop-kind-test.true; scratch_long = c.item-g.auto.t; rows_long = c.item-g.auto.rows; leaves = c.item-g.ensures; keeps = λ b q k m h e sh d. refl } in
    loop_again _ (next) c.kind_at-kind-in-loop-kind.result c.kind_at-kind-in-loop-kind.ensures

pub read_items-returns : goal.read_items-returns
read_items-returns t c = loop-done c.loop-kind.invariant c.loop-kind-test.false

pub item-spend-requires : goal.item-spend-requires
item-spend-requires t c = rows-asks (costs c.requires c.weight_at-v.ensures c.instructions_at-i.ensures c.in-6.is)

pub item-spend-requires-in-6 : goal.item-spend-requires-in-6
item-spend-requires-in-6 t c = let a = spend-asks (costs c.requires c.weight_at-v.ensures c.instructions_at-i.ensures c.in-6.is) in record { asks = a.0; s_bound = a.1 }

pub item-returns-in-6 : goal.item-returns-in-6
item-returns-in-6 t c =
    cost-leaves (costs c.requires c.weight_at-v.ensures c.instructions_at-i.ensures c.in-6.is) c.spend-in-6.result c.spend-in-6.new.t c.spend.new.rows c.spend.ensures c.spend-in-6.ensures

pub item-join-requires : goal.item-join-requires
item-join-requires t c = let a = join_asks c.requires.lent in record { asks = a.0; at_bound = a.1 }

pub item-returns-in-4 : goal.item-returns-in-4
item-returns-in-4 t c = sync-leaves c.requires.lent c.args.kind c.requires.kind_is c.in-4.is c.join.result c.join.new.t c.join.ensures

pub item-returns-in-1 : goal.item-returns-in-1
item-returns-in-1 t c = note-leaves c.requires.lent c.args.kind c.requires.kind_is c.in-1.is c.passed.result c.passed.ensures

pub item-credit_of-before-requires : goal.item-credit_of-before-requires
item-credit_of-before-requires t c =
    let h = calls c.requires c.site_at-site.ensures (λ e. grind arith) (λ e. grind arith) (λ e. grind arith) (λ e. grind arith) c.child_part-o.ensures in
    credit_asks (parted h)

pub item-overflow_sub-deep : goal.item-overflow_sub-deep
item-overflow_sub-deep t c =
    let h = calls c.requires c.site_at-site.ensures (λ e. grind arith) (λ e. grind arith) (λ e. grind arith) (λ e. grind arith) c.child_part-o.ensures in
    deeper (parted h)

pub item-slice_bounds-body-count : goal.item-slice_bounds-body-count
item-slice_bounds-body-count t c =
    let h = calls c.requires c.site_at-site.ensures (λ e. grind arith) (λ e. grind arith) (λ e. grind arith) (λ e. grind arith) c.child_part-o.ensures in
    room (parted h)

pub item-slice_bounds-body-start : goal.item-slice_bounds-body-start
item-slice_bounds-body-start t c =
    let h = calls c.requires c.site_at-site.ensures (λ e. grind arith) (λ e. grind arith) (λ e. grind arith) (λ e. grind arith) c.child_part-o.ensures in
    omega (arith, room (parted h))

pub item-body-c-requires : goal.item-body-c-requires
item-body-c-requires t c =
    let h = calls c.requires c.site_at-site.ensures (λ e. grind arith) (λ e. grind arith) (λ e. grind arith) (λ e. grind arith) c.child_part-o.ensures in
    (omega (arith, c.decreases, deeper (parted h)), body-asks (parted h))

pub item-returned-requires : goal.item-returned-requires
item-returned-requires t c =
    let h = calls c.requires c.site_at-site.ensures (λ e. grind arith) (λ e. grind arith) (λ e. grind arith) (λ e. grind arith) c.child_part-o.ensures in
    let u = came_back (parted h) c.body-c.auto.t c.body-c.auto.rows c.body-c.ensures in
    count-asks _ u c.credit_of-before.ensures

pub item-called-requires : goal.item-called-requires
item-called-requires t c =
    let h = calls c.requires c.site_at-site.ensures (λ e. grind arith) (λ e. grind arith) (λ e. grind arith) (λ e. grind arith) c.child_part-o.ensures in
    let u = came_back (parted h) c.body-c.auto.t c.body-c.auto.rows c.body-c.ensures in
    called-asks _ u

pub item-returns-then-kind-eq2 : goal.item-returns-then-kind-eq2
item-returns-then-kind-eq2 t c =
    let h = calls c.requires c.site_at-site.ensures (λ e. grind arith) (λ e. grind arith) (λ e. grind arith) (λ e. grind arith) c.child_part-o.ensures in
    let u = came_back (parted h) c.body-c.auto.t c.body-c.auto.rows c.body-c.ensures in
    call_leaves h u c.credit_of-before.ensures c.returned.ensures c.called.result c.if-kind-eq2.true c.called.ensures

pub item-spawned-requires : goal.item-spawned-requires
item-spawned-requires t c =
    let h = calls c.requires c.site_at-site.ensures (λ e. grind arith) (λ e. grind arith) (λ e. grind arith) (λ e. grind arith) c.child_part-o.ensures in
    let u = came_back (parted h) c.body-c.auto.t c.body-c.auto.rows c.body-c.ensures in
    let a = spawned-asks _ u (at_part h c.if-kind-eq2.false) in
    record { asks = a.0; work_bound = a.1 }

pub item-returns-else-kind-eq2 : goal.item-returns-else-kind-eq2
item-returns-else-kind-eq2 t c =
    let h = calls c.requires c.site_at-site.ensures (λ e. grind arith) (λ e. grind arith) (λ e. grind arith) (λ e. grind arith) c.child_part-o.ensures in
    let u = came_back (parted h) c.body-c.auto.t c.body-c.auto.rows c.body-c.ensures in
    spawn_leaves h u c.credit_of-before.ensures c.returned.ensures c.spawned.result c.if-kind-eq2.false c.spawned.new.t c.spawned.ensures
