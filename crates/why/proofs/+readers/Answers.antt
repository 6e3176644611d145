use native.Mathlib.Omega.{arith}
use Rattle.why.proofs.Second.{sync-leaves, note-leaves, cost-asks, cost-leaves, calls, deeper, body-asks, called-asks, spawned-asks, call_leaves, spawn_leaves, loop-asks, loop-less, loop_again, loop-done}
use Rattle.why.proofs.+readers.Goals as goal

pub item-called-requires : goal.item-called-requires
item-called-requires t c = cost-asks c.requires.asks c.args.kind c.requires.kind_is c.in-6.is c.cost.result c.cost.ensures

pub item-returns-in-6 : goal.item-returns-in-6
item-returns-in-6 t c = cost-leaves c.requires.asks c.args.kind c.requires.kind_is c.in-6.is c.cost.result c.cost.ensures c.called.result c.called.ensures

pub item-returns-in-4 : goal.item-returns-in-4
item-returns-in-4 t c = sync-leaves c.requires.asks c.args.kind c.requires.kind_is c.in-4.is c.joined.result c.joined.ensures

pub item-returns-in-1 : goal.item-returns-in-1
item-returns-in-1 t c = note-leaves c.requires.asks c.args.kind c.requires.kind_is c.in-1.is

pub item-overflow_sub-deep : goal.item-overflow_sub-deep
item-overflow_sub-deep t c = deeper (calls c.requires (λ e. grind (arith, e)))

pub item-body-c-requires : goal.item-body-c-requires
item-body-c-requires t c =
    let h = calls c.requires (λ e. grind (arith, e)) in
    (omega (arith, c.decreases, deeper h), body-asks h)

pub item-called-requires-then-kind-eq2 : goal.item-called-requires-then-kind-eq2
item-called-requires-then-kind-eq2 t c = called-asks (calls c.requires (λ e. grind (arith, e))) c.body-c.result c.body-c.ensures

pub item-returns-then-kind-eq2 : goal.item-returns-then-kind-eq2
item-returns-then-kind-eq2 t c =
    call_leaves (calls c.requires (λ e. grind (arith, e))) c.body-c.result c.body-c.ensures c.if-kind-eq2.true c.called-then-kind-eq2.result c.called-then-kind-eq2.ensures

pub item-spawned-requires : goal.item-spawned-requires
item-spawned-requires t c = spawned-asks (calls c.requires (λ e. grind (arith, e))) c.body-c.result c.body-c.ensures

pub item-returns-else-kind-eq2 : goal.item-returns-else-kind-eq2
item-returns-else-kind-eq2 t c =
    spawn_leaves (calls c.requires (λ e. grind (arith, e))) c.body-c.result c.body-c.ensures c.if-kind-eq2.false c.spawned.result c.spawned.ensures

pub read_items-item-g-requires : goal.read_items-item-g-requires
read_items-item-g-requires t c = (omega (arith, c.decreases), loop-asks c.loop-kind.invariant c.loop-kind-test.true)

pub read_items-loop-kind-smaller : goal.read_items-loop-kind-smaller
read_items-loop-kind-smaller t c = loop-less c.loop-kind.invariant c.loop-kind-test.true c.item-g.result c.item-g.ensures

pub read_items-loop-kind-preserved : goal.read_items-loop-kind-preserved
read_items-loop-kind-preserved t c =
    loop_again c.loop-kind.invariant c.loop-kind-test.true c.item-g.result c.item-g.ensures c.kind_at-kind-in-loop-kind.result c.kind_at-kind-in-loop-kind.ensures

pub read_items-returns : goal.read_items-returns
read_items-returns t c = loop-done c.loop-kind.invariant c.loop-kind-test.false
