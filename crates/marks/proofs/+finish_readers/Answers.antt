use Prim.Native.Nat.{ℕ, ◌+◌, ◌-◌}
use mathlib.Core.List.{[]}
use mathlib.Core.Path.{◌≡◌, refl, ◌∙◌, ap, subst}
use native.Mathlib.Omega.{arith}
use lib.ListN.{length, take, drop}
use Rattle.trace.specs.Tree.{larger}
use Rattle.walk.specs.Weight.{by_asking}
use Rattle.walk.specs.declared.Cycles.{Cycles}
use Rattle.walk.specs.declared.Open.{Open}
use Rattle.walk.proofs.Numbers.{larger-max}
use Rattle.marks.specs.declared.Zones.{Zones}
use Rattle.marks.specs.Shown.{all_prefix}
use Rattle.marks.specs.Reach.{of_row}
use Rattle.marks.specs.Reader.{begun}
use Rattle.marks.specs.Steps.{Called, Spawned}
use Rattle.marks.proofs.Park.{part-zero, part_length, load_is, load-clear}
use Rattle.marks.proofs.Bodies.{loop-asks, Next, loop-less, loop-done, body-leaves}
use Rattle.marks.proofs.Items.{join_asks, note-leaves, costs, rows-asks, spend-asks, cost-leaves, deeper, stored, credit_asks, body-asks, back, count-asks, called-asks, spawned-asks}
use Rattle.marks.proofs.Finish.{cost-reach, note-reach, enters_row, enters, fork_fits, async-leaves, async-reach, finish-leaves, finish-reach, Passes, calls, items_asks, Ended, work-less, start-less, call_counts, call_leaves, call_reach, reach_again, reach-done}
use Rattle.marks.proofs.+finish_readers.Goals as goal

pub finish_body-join-requires : goal.finish_body-join-requires
finish_body-join-requires t c = join_asks c.finish_items-a.ensures.items_leave.lent

pub finish_body-returns-clause-body_leaves : goal.finish_body-returns-clause-body_leaves
finish_body-returns-clause-body_leaves t c =
    let first : (let a = c.args in c.prefix.result ≡ begun a.from a.row) = c.prefix.ensures ∙ ap (λ (x : Open). all_prefix x c.args.row) c.new.ensures in
    body-leaves c.prefix.result first c.finish_items-a.ensures.items_leave c.join.result c.join.new.marks c.join.ensures

pub finish_call-credit_of-credit-requires : goal.finish_call-credit_of-credit-requires
finish_call-credit_of-credit-requires t c =
    let at_call : (let a = c.args in Passes (by_asking []) a.trace.now a.deep a.a a.t.now a.marks.now a.rows.now c.site_at-site.result) = record { asks = c.requires; site_is = c.site_at-site.ensures } in
    credit_asks (calls at_call)

pub finish_call-overflow_sub-deep : goal.finish_call-overflow_sub-deep
finish_call-overflow_sub-deep t c =
    let at_call : (let a = c.args in Passes (by_asking []) a.trace.now a.deep a.a a.t.now a.marks.now a.rows.now c.site_at-site.result) = record { asks = c.requires; site_is = c.site_at-site.ensures } in
    deeper (calls at_call)

pub finish_call-finish_items-r-requires : goal.finish_call-finish_items-r-requires
finish_call-finish_items-r-requires t c =
    let at_call : (let a = c.args in Passes (by_asking []) a.trace.now a.deep a.a a.t.now a.marks.now a.rows.now c.site_at-site.result) = record { asks = c.requires; site_is = c.site_at-site.ensures } in
    (omega (arith, c.decreases, deeper (calls at_call)), items_asks at_call c.pass-first.ensures c.pass-first.auto.marks)

pub finish_call-minus-requires : goal.finish_call-minus-requires
finish_call-minus-requires t c =
    let at_call : (let a = c.args in Passes (by_asking []) a.trace.now a.deep a.a a.t.now a.marks.now a.rows.now c.site_at-site.result) = record { asks = c.requires; site_is = c.site_at-site.ensures } in
    let at-items : Ended at_call c.pass-first.ensures c.pass-first.auto.marks (record { zones = of_row c.site_at-site.result c.pass-first.result; far = c.series-start.result }) c.finish_items-r.result c.finish_items-r.new.marks c.finish_items-r.new.rows = record { from_is = refl; start_is = ap (λ (x : Cycles). x.0) c.series-start.ensures; rows_long = c.finish_items-r.auto.rows; left = c.finish_items-r.ensures.items_leave; reach = c.finish_items-r.ensures.items_reach } in
    work-less _ _ _ at-items

pub finish_call-minus-requires-2 : goal.finish_call-minus-requires-2
finish_call-minus-requires-2 t c =
    let at_call : (let a = c.args in Passes (by_asking []) a.trace.now a.deep a.a a.t.now a.marks.now a.rows.now c.site_at-site.result) = record { asks = c.requires; site_is = c.site_at-site.ensures } in
    let at-items : Ended at_call c.pass-first.ensures c.pass-first.auto.marks (record { zones = of_row c.site_at-site.result c.pass-first.result; far = c.series-start.result }) c.finish_items-r.result c.finish_items-r.new.marks c.finish_items-r.new.rows = record { from_is = refl; start_is = ap (λ (x : Cycles). x.0) c.series-start.ensures; rows_long = c.finish_items-r.auto.rows; left = c.finish_items-r.ensures.items_leave; reach = c.finish_items-r.ensures.items_reach } in
    let reached : (let q = c.finish_items-r.result in c.max-reach.result.0 ≡ larger q.far.0 (q.zones.own.prefix.0 + q.zones.own.since.0)) = ap (λ (x : Cycles). x.0) (c.max-reach.ensures ∙ larger-max c.finish_items-r.result.far c.series.result) ∙ ap (λ (x : Cycles). larger c.finish_items-r.result.far.0 x.0) c.series.ensures in
    omega (arith, reached, start-less _ _ _ at-items)

pub finish_call-returned-requires : goal.finish_call-returned-requires
finish_call-returned-requires t c =
    let at_call : (let a = c.args in Passes (by_asking []) a.trace.now a.deep a.a a.t.now a.marks.now a.rows.now c.site_at-site.result) = record { asks = c.requires; site_is = c.site_at-site.ensures } in
    let at-items : Ended at_call c.pass-first.ensures c.pass-first.auto.marks (record { zones = of_row c.site_at-site.result c.pass-first.result; far = c.series-start.result }) c.finish_items-r.result c.finish_items-r.new.marks c.finish_items-r.new.rows = record { from_is = refl; start_is = ap (λ (x : Cycles). x.0) c.series-start.ensures; rows_long = c.finish_items-r.auto.rows; left = c.finish_items-r.ensures.items_leave; reach = c.finish_items-r.ensures.items_reach } in
    let reached : (let q = c.finish_items-r.result in c.max-reach.result.0 ≡ larger q.far.0 (q.zones.own.prefix.0 + q.zones.own.since.0)) = ap (λ (x : Cycles). x.0) (c.max-reach.ensures ∙ larger-max c.finish_items-r.result.far c.series.result) ∙ ap (λ (x : Cycles). larger c.finish_items-r.result.far.0 x.0) c.series.ensures in
    let work_is : c.minus.result.0 ≡ c.finish_items-r.result.zones.own.work.0 - c.args.a.zones.own.work.0 = ap (λ (x : Cycles). x.0) c.minus.ensures in
    let span_is : (let q = c.finish_items-r.result in c.minus-2.result.0 ≡ larger q.far.0 (q.zones.own.prefix.0 + q.zones.own.since.0) - c.series-start.result.0) = ap (λ (x : Cycles). x.0) c.minus-2.ensures ∙ ap (λ (x : ℕ). x - c.series-start.result.0) reached in
    call_counts _ _ _ at-items c.credit_of-credit.ensures work_is span_is

pub finish_call-pass-end-requires-clause-fits : goal.finish_call-pass-end-requires-clause-fits
finish_call-pass-end-requires-clause-fits t c = join_asks c.finish_items-r.ensures.items_leave.lent

pub finish_call-returns-clause-item_leaves : goal.finish_call-returns-clause-item_leaves
finish_call-returns-clause-item_leaves t c =
    let at_call : (let a = c.args in Passes (by_asking []) a.trace.now a.deep a.a a.t.now a.marks.now a.rows.now c.site_at-site.result) = record { asks = c.requires; site_is = c.site_at-site.ensures } in
    let at-items : Ended at_call c.pass-first.ensures c.pass-first.auto.marks (record { zones = of_row c.site_at-site.result c.pass-first.result; far = c.series-start.result }) c.finish_items-r.result c.finish_items-r.new.marks c.finish_items-r.new.rows = record { from_is = refl; start_is = ap (λ (x : Cycles). x.0) c.series-start.ensures; rows_long = c.finish_items-r.auto.rows; left = c.finish_items-r.ensures.items_leave; reach = c.finish_items-r.ensures.items_reach } in
    let reached : (let q = c.finish_items-r.result in c.max-reach.result.0 ≡ larger q.far.0 (q.zones.own.prefix.0 + q.zones.own.since.0)) = ap (λ (x : Cycles). x.0) (c.max-reach.ensures ∙ larger-max c.finish_items-r.result.far c.series.result) ∙ ap (λ (x : Cycles). larger c.finish_items-r.result.far.0 x.0) c.series.ensures in
    let work_is : c.minus.result.0 ≡ c.finish_items-r.result.zones.own.work.0 - c.args.a.zones.own.work.0 = ap (λ (x : Cycles). x.0) c.minus.ensures in
    let span_is : (let q = c.finish_items-r.result in c.minus-2.result.0 ≡ larger q.far.0 (q.zones.own.prefix.0 + q.zones.own.since.0) - c.series-start.result.0) = ap (λ (x : Cycles). x.0) c.minus-2.ensures ∙ ap (λ (x : ℕ). x - c.series-start.result.0) reached in
    call_leaves _ _ _ at-items c.credit_of-credit.ensures work_is span_is c.returned.ensures c.pass-end.ensures _ refl

pub finish_call-returns-clause-item_reach : goal.finish_call-returns-clause-item_reach
finish_call-returns-clause-item_reach t c =
    let at_call : (let a = c.args in Passes (by_asking []) a.trace.now a.deep a.a a.t.now a.marks.now a.rows.now c.site_at-site.result) = record { asks = c.requires; site_is = c.site_at-site.ensures } in
    let at-items : Ended at_call c.pass-first.ensures c.pass-first.auto.marks (record { zones = of_row c.site_at-site.result c.pass-first.result; far = c.series-start.result }) c.finish_items-r.result c.finish_items-r.new.marks c.finish_items-r.new.rows = record { from_is = refl; start_is = ap (λ (x : Cycles). x.0) c.series-start.ensures; rows_long = c.finish_items-r.auto.rows; left = c.finish_items-r.ensures.items_leave; reach = c.finish_items-r.ensures.items_reach } in
    call_reach _ _ _ at-items (record { zones = of_row c.args.a.zones.row c.pass-end.result; far = c.max.result }) (ap (λ (x : Cycles). x.0) (c.max.ensures ∙ larger-max c.args.a.far c.finish_items-r.result.far))

pub finish_item-spend-requires : goal.finish_item-spend-requires
finish_item-spend-requires t c = rows-asks (costs c.requires c.weight_at-v.ensures c.instructions_at.ensures c.in-6.is)

pub finish_item-spend-requires-in-6 : goal.finish_item-spend-requires-in-6
finish_item-spend-requires-in-6 t c =
    let asked = spend-asks (costs c.requires c.weight_at-v.ensures c.instructions_at.ensures c.in-6.is) in
    record { fits = asked.0; v_bound = asked.1 }

pub finish_item-returns-in-6-clause-item_leaves : goal.finish_item-returns-in-6-clause-item_leaves
finish_item-returns-in-6-clause-item_leaves t c =
    cost-leaves (costs c.requires c.weight_at-v.ensures c.instructions_at.ensures c.in-6.is) c.spend-in-6.result c.spend-in-6.new.marks c.spend.new.rows c.spend.ensures c.spend-in-6.ensures

pub finish_item-returns-in-6-clause-item_reach : goal.finish_item-returns-in-6-clause-item_reach
finish_item-returns-in-6-clause-item_reach t c =
    let a = c.args in
    cost-reach (by_asking []) a.trace.now a.a (costs c.requires c.weight_at-v.ensures c.instructions_at.ensures c.in-6.is) (record { zones = c.spend-in-6.result; far = a.a.far }) refl

pub finish_item-returns-in-1-clause-item_leaves : goal.finish_item-returns-in-1-clause-item_leaves
finish_item-returns-in-1-clause-item_leaves t c =
    note-leaves c.requires.lent c.args.kind c.requires.kind_is c.in-1.is c.pass.result c.pass.new.marks c.pass.ensures

pub finish_item-returns-in-1-clause-item_reach : goal.finish_item-returns-in-1-clause-item_reach
finish_item-returns-in-1-clause-item_reach t c =
    let a = c.args in
    note-reach (by_asking []) a.trace.now a.a a.kind c.requires.kind_is c.in-1.is (record { zones = c.pass.result; far = a.a.far }) refl

pub finish_item-credit_of-credit-requires : goal.finish_item-credit_of-credit-requires
finish_item-credit_of-credit-requires t c =
    let h = enters_row {a = c.args.a} c.requires c.row_of-row.ensures (λ e. grind (arith, e)) in
    credit_asks (enters h)

pub finish_item-overflow_sub-deep : goal.finish_item-overflow_sub-deep
finish_item-overflow_sub-deep t c =
    let h = enters_row {a = c.args.a} c.requires c.row_of-row.ensures (λ e. grind (arith, e)) in
    deeper (enters h)

pub finish_item-finish_body-c-requires : goal.finish_item-finish_body-c-requires
finish_item-finish_body-c-requires t c =
    let h = enters_row {a = c.args.a} c.requires c.row_of-row.ensures (λ e. grind (arith, e)) in
    let at_store = stored (enters h) c.store.ensures in
    let s = c.store.new.t in
    (omega (arith, c.decreases, deeper (enters h)), body-asks (enters h) (take (length s - 8) (drop 8 s)) (part-zero at_store) (part_length at_store))

pub finish_item-returned-requires : goal.finish_item-returned-requires
finish_item-returned-requires t c =
    let h = enters_row {a = c.args.a} c.requires c.row_of-row.ensures (λ e. grind (arith, e)) in
    let at_body = back (enters h) c.credit_of-credit.ensures c.finish_body-c.auto.marks c.finish_body-c.auto.rows c.finish_body-c.ensures.body_leaves in
    count-asks (enters h) at_body

pub finish_item-spawned-requires : goal.finish_item-spawned-requires
finish_item-spawned-requires t c =
    let h = enters_row {a = c.args.a} c.requires c.row_of-row.ensures (λ e. grind (arith, e)) in
    let at_store = stored (enters h) c.store.ensures in
    let loaded = load_is at_store c.finish_body-c.new.t c.finish_body-c.ensures.t_unchanged c.load-back.result c.load-back.ensures.value in
    let at_body = back (enters h) c.credit_of-credit.ensures c.finish_body-c.auto.marks c.finish_body-c.auto.rows c.finish_body-c.ensures.body_leaves in
    let asked = spawned-asks _ at_body in
    record { fits = rw loaded asked.0; work_bound = rw loaded asked.1 }

pub finish_item-plus-requires : goal.finish_item-plus-requires
finish_item-plus-requires t c =
    let h = enters_row {a = c.args.a} c.requires c.row_of-row.ensures (λ e. grind (arith, e)) in
    let at_body = back (enters h) c.credit_of-credit.ensures c.finish_body-c.auto.marks c.finish_body-c.auto.rows c.finish_body-c.ensures.body_leaves in
    rw c.series-series.ensures (fork_fits h at_body c.if-kind-eq18.true)

pub finish_item-returns-then-kind-eq18 : goal.finish_item-returns-then-kind-eq18
finish_item-returns-then-kind-eq18 t c =
    let h = enters_row {a = c.args.a} c.requires c.row_of-row.ensures (λ e. grind (arith, e)) in
    let at_store = stored (enters h) c.store.ensures in
    let loaded = load_is at_store c.finish_body-c.new.t c.finish_body-c.ensures.t_unchanged c.load-back.result c.load-back.ensures.value in
    let at_body = back (enters h) c.credit_of-credit.ensures c.finish_body-c.auto.marks c.finish_body-c.auto.rows c.finish_body-c.ensures.body_leaves in
    let far : c.max.result.0 ≡ larger c.args.a.far.0 (c.args.a.zones.own.prefix.0 + c.args.a.zones.own.since.0 + c.finish_body-c.result.prefix.0) =
    ap (λ (x : Cycles). x.0) (c.max.ensures ∙ larger-max c.args.a.far c.plus.result) ∙ ap (λ (x : Cycles). larger c.args.a.far.0 x.0) c.plus.ensures ∙ ap (λ (x : Cycles). larger c.args.a.far.0 (x.0 + c.finish_body-c.result.prefix.0)) c.series-series.ensures in
    record {
      item_leaves = async-leaves h at_body c.if-kind-eq18.true c.returned.new.rows c.returned.ensures c.spawned.result c.spawned.new.marks (subst (λ (x : Zones). Spawned c.finish_body-c.new.marks x c.finish_body-c.result c.spawned.result c.spawned.new.marks) loaded c.spawned.ensures);
      item_reach = async-reach h at_body c.if-kind-eq18.true (record { zones = c.spawned.result; far = c.max.result }) far;
      t_unchanged = load-clear at_store c.finish_body-c.new.t c.finish_body-c.ensures.t_unchanged c.load-back.new.t c.load-back.ensures.t_after;
    }

pub finish_item-called-requires : goal.finish_item-called-requires
finish_item-called-requires t c =
    let h = enters_row {a = c.args.a} c.requires c.row_of-row.ensures (λ e. grind (arith, e)) in
    let at_store = stored (enters h) c.store.ensures in
    let loaded = load_is at_store c.finish_body-c.new.t c.finish_body-c.ensures.t_unchanged c.load-back.result c.load-back.ensures.value in
    let at_body = back (enters h) c.credit_of-credit.ensures c.finish_body-c.auto.marks c.finish_body-c.auto.rows c.finish_body-c.ensures.body_leaves in
    let asked = called-asks _ at_body in
    record { fits = rw loaded asked.0; work_bound = rw loaded asked.1 }

pub finish_item-returns-else-kind-eq18 : goal.finish_item-returns-else-kind-eq18
finish_item-returns-else-kind-eq18 t c =
    let h = enters_row {a = c.args.a} c.requires c.row_of-row.ensures (λ e. grind (arith, e)) in
    let at_store = stored (enters h) c.store.ensures in
    let loaded = load_is at_store c.finish_body-c.new.t c.finish_body-c.ensures.t_unchanged c.load-back.result c.load-back.ensures.value in
    let at_body = back (enters h) c.credit_of-credit.ensures c.finish_body-c.auto.marks c.finish_body-c.auto.rows c.finish_body-c.ensures.body_leaves in
    record {
      item_leaves = finish-leaves h at_body c.if-kind-eq18.false c.called.result c.called.new.marks (subst (λ (x : Zones). Called c.finish_body-c.new.marks x c.finish_body-c.result c.called.result c.called.new.marks) loaded c.called.ensures);
      item_reach = finish-reach h at_body c.if-kind-eq18.false (record { zones = c.called.result; far = c.args.a.far }) refl;
      t_unchanged = load-clear at_store c.finish_body-c.new.t c.finish_body-c.ensures.t_unchanged c.load-back.new.t c.load-back.ensures.t_after;
    }

pub finish_items-finish_item-a-requires : goal.finish_items-finish_item-a-requires
finish_items-finish_item-a-requires t c = (omega (arith, c.decreases), loop-asks c.loop-kind.invariant.loop c.loop-kind-test.true)

pub finish_items-loop-kind-smaller : goal.finish_items-loop-kind-smaller
finish_items-loop-kind-smaller t c =
    let next : Next c.loop-kind.invariant.loop c.finish_item-a.result.zones c.finish_item-a.new.t c.finish_item-a.new.marks c.finish_item-a.new.rows = record { more_lines = c.loop-kind-test.true; same_scratch = c.finish_item-a.ensures.t_unchanged; marks_long = c.finish_item-a.auto.marks; rows_long = c.finish_item-a.auto.rows; leaves = c.finish_item-a.ensures.item_leaves } in
    loop-less _ next

pub finish_items-loop-kind-preserved : goal.finish_items-loop-kind-preserved
finish_items-loop-kind-preserved t c =
    let next : Next c.loop-kind.invariant.loop c.finish_item-a.result.zones c.finish_item-a.new.t c.finish_item-a.new.marks c.finish_item-a.new.rows = record { more_lines = c.loop-kind-test.true; same_scratch = c.finish_item-a.ensures.t_unchanged; marks_long = c.finish_item-a.auto.marks; rows_long = c.finish_item-a.auto.rows; leaves = c.finish_item-a.ensures.item_leaves } in
    reach_again c.loop-kind.invariant next c.finish_item-a.ensures.item_reach c.kind_at-kind-in-loop-kind.result c.kind_at-kind-in-loop-kind.ensures

pub finish_items-returns-clause-items_leave : goal.finish_items-returns-clause-items_leave
finish_items-returns-clause-items_leave t c = (loop-done c.loop-kind.invariant.loop c.loop-kind-test.false).0

pub finish_items-returns-clause-items_reach : goal.finish_items-returns-clause-items_reach
finish_items-returns-clause-items_reach t c = reach-done c.loop-kind.invariant c.loop-kind-test.false
