use Prim.Native.Nat.{◌-◌}
use mathlib.Core.Path.{◌≡◌, ◌∙◌, ap, subst}
use native.Mathlib.Omega.{arith}
use lib.ListN.{length, take, drop}
use Rattle.walk.specs.declared.Open.{Open}
use Rattle.marks.specs.declared.Zones.{Zones}
use Rattle.marks.specs.Shown.{all_prefix}
use Rattle.marks.specs.Reader.{begun}
use Rattle.marks.specs.Steps.{Called, Spawned}
use Rattle.marks.proofs.Park.{part-zero, part_length, load_is, load-clear}
use Rattle.marks.proofs.Bodies.{loop-asks, Next, loop-less, loop_again, loop-done, body-leaves}
use Rattle.marks.proofs.Items.{join_asks, sync-leaves, note-leaves, costs, rows-asks, spend-asks, cost-leaves, deeper, stored, credit_asks, body-asks, back, count-asks, called-asks, spawned-asks, calls_site, opens, call_leaves, spawn_leaves}
use Rattle.marks.proofs.+readers.Goals as goal

pub body-join-requires : goal.body-join-requires
body-join-requires t c = join_asks c.read_items-z.ensures.items_leave.lent

pub body-returns-clause-body_leaves : goal.body-returns-clause-body_leaves
body-returns-clause-body_leaves t c =
    let first : (let a = c.args in c.prefix.result ≡ begun a.from a.row) = c.prefix.ensures ∙ ap (λ (x : Open). all_prefix x c.args.row) c.new.ensures in
    body-leaves c.prefix.result first c.read_items-z.ensures.items_leave c.join.result c.join.new.marks c.join.ensures

pub item-spend-requires : goal.item-spend-requires
item-spend-requires t c = rows-asks (costs c.requires c.weight_at-v.ensures c.instructions_at.ensures c.in-6.is)

pub item-spend-requires-in-6 : goal.item-spend-requires-in-6
item-spend-requires-in-6 t c =
    let asked = spend-asks (costs c.requires c.weight_at-v.ensures c.instructions_at.ensures c.in-6.is) in
    record { fits = asked.0; v_bound = asked.1 }

pub item-returns-in-6-clause-item_leaves : goal.item-returns-in-6-clause-item_leaves
item-returns-in-6-clause-item_leaves t c =
    cost-leaves (costs c.requires c.weight_at-v.ensures c.instructions_at.ensures c.in-6.is) c.spend-in-6.result c.spend-in-6.new.marks c.spend.new.rows c.spend.ensures c.spend-in-6.ensures

pub item-returns-in-4-clause-item_leaves : goal.item-returns-in-4-clause-item_leaves
item-returns-in-4-clause-item_leaves t c = sync-leaves c.requires.lent c.args.kind c.requires.kind_is c.in-4.is c.join.result c.join.new.marks c.join.ensures

pub item-returns-in-1-clause-item_leaves : goal.item-returns-in-1-clause-item_leaves
item-returns-in-1-clause-item_leaves t c = note-leaves c.requires.lent c.args.kind c.requires.kind_is c.in-1.is c.pass.result c.pass.new.marks c.pass.ensures

pub item-credit_of-before-requires : goal.item-credit_of-before-requires
item-credit_of-before-requires t c = credit_asks (opens (calls_site c.requires c.site_at-site.ensures (λ e. grind (arith, e))))

pub item-overflow_sub-deep : goal.item-overflow_sub-deep
item-overflow_sub-deep t c = deeper (opens (calls_site c.requires c.site_at-site.ensures (λ e. grind (arith, e))))

pub item-body-c-requires : goal.item-body-c-requires
item-body-c-requires t c =
    let h = opens (calls_site c.requires c.site_at-site.ensures (λ e. grind (arith, e))) in
    let s = c.store.new.t in
    let at_store = stored h c.store.ensures in
    (omega (arith, c.decreases, deeper h), body-asks h (take (length s - 8) (drop 8 s)) (part-zero at_store) (part_length at_store))

pub item-returned-requires : goal.item-returned-requires
item-returned-requires t c =
    let h = opens (calls_site c.requires c.site_at-site.ensures (λ e. grind (arith, e))) in
    count-asks h (back h c.credit_of-before.ensures c.body-c.auto.marks c.body-c.auto.rows c.body-c.ensures.body_leaves)

pub item-called-requires : goal.item-called-requires
item-called-requires t c =
    let h = opens (calls_site c.requires c.site_at-site.ensures (λ e. grind (arith, e))) in
    let loaded = load_is (stored h c.store.ensures) c.body-c.new.t c.body-c.ensures.t_unchanged c.load-back.result c.load-back.ensures.value in
    let asked = called-asks h (back h c.credit_of-before.ensures c.body-c.auto.marks c.body-c.auto.rows c.body-c.ensures.body_leaves) in
    record { fits = rw loaded asked.0; work_bound = rw loaded asked.1 }

pub item-returns-then-kind-eq2 : goal.item-returns-then-kind-eq2
item-returns-then-kind-eq2 t c =
    let at-site = calls_site c.requires c.site_at-site.ensures (λ e. grind (arith, e)) in
    let h = opens at-site in
    let at_store = stored h c.store.ensures in
    let loaded = load_is at_store c.body-c.new.t c.body-c.ensures.t_unchanged c.load-back.result c.load-back.ensures.value in
    let at_body = back h c.credit_of-before.ensures c.body-c.auto.marks c.body-c.auto.rows c.body-c.ensures.body_leaves in
    record {
      item_leaves = call_leaves at-site at_body c.returned.ensures c.called.result c.called.new.marks c.if-kind-eq2.true (subst (λ (x : Zones). Called c.body-c.new.marks x c.body-c.result c.called.result c.called.new.marks) loaded c.called.ensures);
      t_unchanged = load-clear at_store c.body-c.new.t c.body-c.ensures.t_unchanged c.load-back.new.t c.load-back.ensures.t_after;
    }

pub item-spawned-requires : goal.item-spawned-requires
item-spawned-requires t c =
    let h = opens (calls_site c.requires c.site_at-site.ensures (λ e. grind (arith, e))) in
    let loaded = load_is (stored h c.store.ensures) c.body-c.new.t c.body-c.ensures.t_unchanged c.load-back.result c.load-back.ensures.value in
    let asked = spawned-asks h (back h c.credit_of-before.ensures c.body-c.auto.marks c.body-c.auto.rows c.body-c.ensures.body_leaves) in
    record { fits = rw loaded asked.0; work_bound = rw loaded asked.1 }

pub item-returns-else-kind-eq2 : goal.item-returns-else-kind-eq2
item-returns-else-kind-eq2 t c =
    let at-site = calls_site c.requires c.site_at-site.ensures (λ e. grind (arith, e)) in
    let h = opens at-site in
    let at_store = stored h c.store.ensures in
    let loaded = load_is at_store c.body-c.new.t c.body-c.ensures.t_unchanged c.load-back.result c.load-back.ensures.value in
    let at_body = back h c.credit_of-before.ensures c.body-c.auto.marks c.body-c.auto.rows c.body-c.ensures.body_leaves in
    record {
      item_leaves = spawn_leaves at-site at_body c.returned.ensures c.spawned.result c.spawned.new.marks c.if-kind-eq2.false (subst (λ (x : Zones). Spawned c.body-c.new.marks x c.body-c.result c.spawned.result c.spawned.new.marks) loaded c.spawned.ensures);
      t_unchanged = load-clear at_store c.body-c.new.t c.body-c.ensures.t_unchanged c.load-back.new.t c.load-back.ensures.t_after;
    }

pub read_items-item-a-requires : goal.read_items-item-a-requires
read_items-item-a-requires t c = (omega (arith, c.decreases), loop-asks c.loop-kind.invariant c.loop-kind-test.true)

pub read_items-loop-kind-smaller : goal.read_items-loop-kind-smaller
read_items-loop-kind-smaller t c =
    let next : Next c.loop-kind.invariant c.item-a.result c.item-a.new.t c.item-a.new.marks c.item-a.new.rows = record { more_lines = c.loop-kind-test.true; same_scratch = c.item-a.ensures.t_unchanged; marks_long = c.item-a.auto.marks; rows_long = c.item-a.auto.rows; leaves = c.item-a.ensures.item_leaves } in
    loop-less _ next

pub read_items-loop-kind-preserved : goal.read_items-loop-kind-preserved
read_items-loop-kind-preserved t c =
    let next : Next c.loop-kind.invariant c.item-a.result c.item-a.new.t c.item-a.new.marks c.item-a.new.rows = record { more_lines = c.loop-kind-test.true; same_scratch = c.item-a.ensures.t_unchanged; marks_long = c.item-a.auto.marks; rows_long = c.item-a.auto.rows; leaves = c.item-a.ensures.item_leaves } in
    loop_again _ next c.kind_at-kind-in-loop-kind.result c.kind_at-kind-in-loop-kind.ensures

pub read_items-returns-clause-items_leave : goal.read_items-returns-clause-items_leave
read_items-returns-clause-items_leave t c = (loop-done c.loop-kind.invariant c.loop-kind-test.false).0
