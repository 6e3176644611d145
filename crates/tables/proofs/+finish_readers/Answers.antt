use Prim.Native.Nat.{ℕ, ◌+◌, ◌-◌}
use mathlib.Core.Path.{◌≡◌, ap, ◌∙◌}
use native.Mathlib.Omega.{arith}
use Rattle.trace.specs.Tree.{larger}
use Rattle.walk.proofs.Numbers.{larger-max}
use Rattle.walk.specs.declared.Cycles.{Cycles}
use Rattle.walk.specs.Measure.{cycles}
use Rattle.tables.proofs.Bodies.{begins, loop-start, loop-asks, Next, loop-less, loop_again, loop-done, loop-reaches, body-leaves}
use Rattle.tables.proofs.Items.{join_asks, note-leaves, costs, rows-asks, spend-asks, cost-leaves, deeper, room, credit_asks, body-asks, came_back, count-asks, called-asks, spawned-asks}
use Rattle.tables.proofs.Finish.{reach_of, item-keeps, asks-kind, asks-finish, cost-reaches, note-reaches, finish-reaches, passes, start_fits, call_deeper, call_credit, callee-is, callee-asks, has_passed, stop-fits, work-before, span-before, call_counts, pass_leaves, pass_reaches, forks, forked, reached-fits, async-leaves, async-reaches, nests, nested, finish-leaves}
use Rattle.tables.proofs.+finish_readers.Goals as goal

pub finish_async-credit_of-credit-requires : goal.finish_async-credit_of-credit-requires
finish_async-credit_of-credit-requires t c =
    let h = forks c.requires.1 c.site_at-site.ensures c.part-o.ensures in
    credit_asks (forked h)

pub finish_async-overflow_sub-deep : goal.finish_async-overflow_sub-deep
finish_async-overflow_sub-deep t c =
    let h = forks c.requires.1 c.site_at-site.ensures c.part-o.ensures in
    deeper (forked h)

pub finish_async-slice_bounds-finish_body-count : goal.finish_async-slice_bounds-finish_body-count
finish_async-slice_bounds-finish_body-count t c =
    let h = forks c.requires.1 c.site_at-site.ensures c.part-o.ensures in
    room (forked h)

pub finish_async-slice_bounds-finish_body-start : goal.finish_async-slice_bounds-finish_body-start
finish_async-slice_bounds-finish_body-start t c =
    let h = forks c.requires.1 c.site_at-site.ensures c.part-o.ensures in
    omega (arith, room (forked h))

pub finish_async-finish_body-c-requires : goal.finish_async-finish_body-c-requires
finish_async-finish_body-c-requires t c =
    let h = forks c.requires.1 c.site_at-site.ensures c.part-o.ensures in
    (omega (arith, c.decreases, deeper (forked h)), body-asks (forked h))

pub finish_async-returned-requires : goal.finish_async-returned-requires
finish_async-returned-requires t c =
    let h = forks c.requires.1 c.site_at-site.ensures c.part-o.ensures in
    let u = came_back (forked h) c.finish_body-c.auto.t c.finish_body-c.auto.rows c.finish_body-c.ensures in
    count-asks _ u c.credit_of-credit.ensures

pub finish_async-series-requires : goal.finish_async-series-requires
finish_async-series-requires t c =
    let h = forks c.requires.1 c.site_at-site.ensures c.part-o.ensures in
    let u = came_back (forked h) c.finish_body-c.auto.t c.finish_body-c.auto.rows c.finish_body-c.ensures in
    omega (arith, reached-fits _ u)

pub finish_async-plus-reached-requires : goal.finish_async-plus-reached-requires
finish_async-plus-reached-requires t c =
    let h = forks c.requires.1 c.site_at-site.ensures c.part-o.ensures in
    let u = came_back (forked h) c.finish_body-c.auto.t c.finish_body-c.auto.rows c.finish_body-c.ensures in
    omega (arith, reached-fits _ u, ap (λ (x : Cycles). x.0) c.series.ensures)

pub finish_async-spawned-behind-requires : goal.finish_async-spawned-behind-requires
finish_async-spawned-behind-requires t c =
    let h = forks c.requires.1 c.site_at-site.ensures c.part-o.ensures in
    let u = came_back (forked h) c.finish_body-c.auto.t c.finish_body-c.auto.rows c.finish_body-c.ensures in
    let asked = spawned-asks _ u c.part-o.ensures in record { asks = asked.0; work_bound = asked.1 }

pub finish_async-returns : goal.finish_async-returns
finish_async-returns t c =
    let h = forks c.requires.1 c.site_at-site.ensures c.part-o.ensures in
    let u = came_back (forked h) c.finish_body-c.auto.t c.finish_body-c.auto.rows c.finish_body-c.ensures in
    let begun = ap (λ (x : Cycles). x.0 + c.finish_body-c.result.prefix.0) c.series.ensures in
    let reached = ap (λ (x : Cycles). x.0) c.plus-reached.ensures ∙ begun in
    let f = c.args.f in record { item_leaves = async-leaves _ u c.credit_of-credit.ensures c.returned.ensures c.spawned-behind.result c.spawned-behind.new.t c.spawned-behind.ensures; item_reaches = async-reaches _ u f.far (record { around = c.spawned-behind.result; far = c.max.result }) (c.max.ensures ∙ larger-max f.far c.plus-reached.result ∙ ap (λ (x : ℕ). cycles (larger f.far.0 x)) reached) }

pub finish_body-finish_items-f-requires : goal.finish_body-finish_items-f-requires
finish_body-finish_items-f-requires t c =
    (omega (arith, c.decreases), begins c.new.result c.new.ensures c.requires)

pub finish_body-join-requires : goal.finish_body-join-requires
finish_body-join-requires t c = let asked = join_asks c.finish_items-f.ensures.items_leave.lent in record { asks = asked.0; at_bound = asked.1 }

pub finish_body-returns : goal.finish_body-returns
finish_body-returns t c =
    body-leaves c.new.result c.new.ensures c.finish_items-f.ensures.items_leave c.join.result c.join.new.t c.join.ensures

pub finish_call-credit_of-credit-requires : goal.finish_call-credit_of-credit-requires
finish_call-credit_of-credit-requires t c =
    let h = passes c.requires.1 c.site_at-site.ensures in
    call_credit h

pub finish_call-series-begins-requires : goal.finish_call-series-begins-requires
finish_call-series-begins-requires t c =
    let h = passes c.requires.1 c.site_at-site.ensures in
    start_fits h

pub finish_call-overflow_sub-deep : goal.finish_call-overflow_sub-deep
finish_call-overflow_sub-deep t c =
    let h = passes c.requires.1 c.site_at-site.ensures in
    call_deeper h

pub finish_call-finish_items-r-requires : goal.finish_call-finish_items-r-requires
finish_call-finish_items-r-requires t c =
    let h = passes c.requires.1 c.site_at-site.ensures in
    (omega (arith, c.decreases, call_deeper h), callee-asks h c.passed.result c.passed.ensures)

pub finish_call-series-requires : goal.finish_call-series-requires
finish_call-series-requires t c =
    let h = passes c.requires.1 c.site_at-site.ensures in
    let u = has_passed h (callee-is h c.passed.result c.series-begins.result c.passed.ensures c.series-begins.ensures) c.finish_items-r.auto.rows c.finish_items-r.ensures.items_leave c.finish_items-r.ensures.items_reach in
    stop-fits _ u

pub finish_call-minus-requires : goal.finish_call-minus-requires
finish_call-minus-requires t c =
    let h = passes c.requires.1 c.site_at-site.ensures in
    let u = has_passed h (callee-is h c.passed.result c.series-begins.result c.passed.ensures c.series-begins.ensures) c.finish_items-r.auto.rows c.finish_items-r.ensures.items_leave c.finish_items-r.ensures.items_reach in
    work-before _ u

pub finish_call-minus-requires-2 : goal.finish_call-minus-requires-2
finish_call-minus-requires-2 t c =
    let most_is : (let r = c.finish_items-r.result in c.max-most.result.0 ≡ larger r.far.0 (r.around.prefix.0 + r.around.since.0)) = let r = c.finish_items-r.result in ap (λ (x : Cycles). x.0) (c.max-most.ensures ∙ larger-max c.finish_items-r.result.far c.series.result) ∙ ap (λ (x : Cycles). larger r.far.0 x.0) c.series.ensures in
    let h = passes c.requires.1 c.site_at-site.ensures in
    let u = has_passed h (callee-is h c.passed.result c.series-begins.result c.passed.ensures c.series-begins.ensures) c.finish_items-r.auto.rows c.finish_items-r.ensures.items_leave c.finish_items-r.ensures.items_reach in
    let begins-is : (let a = c.args.f.around in c.series-begins.result.0 ≡ a.prefix.0 + a.since.0) = ap (λ (x : Cycles). x.0) c.series-begins.ensures in
    omega (arith, span-before _ u, most_is, begins-is)

pub finish_call-returned-requires : goal.finish_call-returned-requires
finish_call-returned-requires t c =
    let h = passes c.requires.1 c.site_at-site.ensures in
    let u = has_passed h (callee-is h c.passed.result c.series-begins.result c.passed.ensures c.series-begins.ensures) c.finish_items-r.auto.rows c.finish_items-r.ensures.items_leave c.finish_items-r.ensures.items_reach in
    let work_is : (c.minus.result.0 ≡ c.finish_items-r.result.around.work.0 - c.args.f.around.work.0) = ap (λ (x : Cycles). x.0) c.minus.ensures in
    let most_is : (let r = c.finish_items-r.result in c.max-most.result.0 ≡ larger r.far.0 (r.around.prefix.0 + r.around.since.0)) = let r = c.finish_items-r.result in ap (λ (x : Cycles). x.0) (c.max-most.ensures ∙ larger-max c.finish_items-r.result.far c.series.result) ∙ ap (λ (x : Cycles). larger r.far.0 x.0) c.series.ensures in
    let begins-is : (let a = c.args.f.around in c.series-begins.result.0 ≡ a.prefix.0 + a.since.0) = ap (λ (x : Cycles). x.0) c.series-begins.ensures in
    let span_is : (let r = c.finish_items-r.result in let a = c.args.f.around in c.minus-2.result.0 ≡ larger r.far.0 (r.around.prefix.0 + r.around.since.0) - (a.prefix.0 + a.since.0)) = omega (arith, ap (λ (x : Cycles). x.0) c.minus-2.ensures, most_is, begins-is) in
    call_counts _ u c.credit_of-credit.ensures (work_is) (span_is)

pub finish_call-returns : goal.finish_call-returns
finish_call-returns t c =
    let work_is : (c.minus.result.0 ≡ c.finish_items-r.result.around.work.0 - c.args.f.around.work.0) = ap (λ (x : Cycles). x.0) c.minus.ensures in
    let most_is : (let r = c.finish_items-r.result in c.max-most.result.0 ≡ larger r.far.0 (r.around.prefix.0 + r.around.since.0)) = let r = c.finish_items-r.result in ap (λ (x : Cycles). x.0) (c.max-most.ensures ∙ larger-max c.finish_items-r.result.far c.series.result) ∙ ap (λ (x : Cycles). larger r.far.0 x.0) c.series.ensures in
    let begins-is : (let a = c.args.f.around in c.series-begins.result.0 ≡ a.prefix.0 + a.since.0) = ap (λ (x : Cycles). x.0) c.series-begins.ensures in
    let span_is : (let r = c.finish_items-r.result in let a = c.args.f.around in c.minus-2.result.0 ≡ larger r.far.0 (r.around.prefix.0 + r.around.since.0) - (a.prefix.0 + a.since.0)) = omega (arith, ap (λ (x : Cycles). x.0) c.minus-2.ensures, most_is, begins-is) in
    let h = passes c.requires.1 c.site_at-site.ensures in
    let u = has_passed h (callee-is h c.passed.result c.series-begins.result c.passed.ensures c.series-begins.ensures) c.finish_items-r.auto.rows c.finish_items-r.ensures.items_leave c.finish_items-r.ensures.items_reach in
    record { item_leaves = pass_leaves _ u c.credit_of-credit.ensures (work_is) (span_is) c.returned.ensures c.passed-2.result c.passed-2.ensures; item_reaches = pass_reaches _ u c.args.f.far (record { around = c.passed-2.result; far = c.max.result }) (c.max.ensures ∙ larger-max c.args.f.far c.finish_items-r.result.far) }

pub finish_finish-overflow_sub-deep : goal.finish_finish-overflow_sub-deep
finish_finish-overflow_sub-deep t c =
    let h = nests c.requires c.since-o.ensures in
    deeper (nested h)

pub finish_finish-slice_bounds-finish_body-count : goal.finish_finish-slice_bounds-finish_body-count
finish_finish-slice_bounds-finish_body-count t c =
    let h = nests c.requires c.since-o.ensures in
    room (nested h)

pub finish_finish-slice_bounds-finish_body-start : goal.finish_finish-slice_bounds-finish_body-start
finish_finish-slice_bounds-finish_body-start t c =
    let h = nests c.requires c.since-o.ensures in
    omega (arith, room (nested h))

pub finish_finish-finish_body-c-requires : goal.finish_finish-finish_body-c-requires
finish_finish-finish_body-c-requires t c =
    let h = nests c.requires c.since-o.ensures in
    (omega (arith, c.decreases, deeper (nested h)), body-asks (nested h))

pub finish_finish-called-requires : goal.finish_finish-called-requires
finish_finish-called-requires t c =
    let h = nests c.requires c.since-o.ensures in
    let u = came_back (nested h) c.finish_body-c.auto.t c.finish_body-c.auto.rows c.finish_body-c.ensures in
    called-asks _ u

pub finish_finish-returns : goal.finish_finish-returns
finish_finish-returns t c =
    let h = nests c.requires c.since-o.ensures in
    let u = came_back (nested h) c.finish_body-c.auto.t c.finish_body-c.auto.rows c.finish_body-c.ensures in
    finish-leaves _ u c.called.result c.called.ensures

pub finish_item-spend-requires : goal.finish_item-spend-requires
finish_item-spend-requires t c = rows-asks (costs c.requires c.weight_at-v.ensures c.instructions_at-i.ensures c.in-6.is)

pub finish_item-spend-spent-requires : goal.finish_item-spend-spent-requires
finish_item-spend-spent-requires t c = let a = spend-asks (costs c.requires c.weight_at-v.ensures c.instructions_at-i.ensures c.in-6.is) in record { asks = a.0; s_bound = a.1 }

pub finish_item-returns-in-6 : goal.finish_item-returns-in-6
finish_item-returns-in-6 t c =
    let h = costs c.requires c.weight_at-v.ensures c.instructions_at-i.ensures c.in-6.is in
    record { item_leaves = cost-leaves h c.spend-spent.result c.spend-spent.new.t c.spend.new.rows c.spend.ensures c.spend-spent.ensures; item_reaches = cost-reaches _ _ _ c.args.f _ _ _ _ c.requires.kind_is c.spend-spent.result c.in-6.is }

pub finish_item-returns-in-1 : goal.finish_item-returns-in-1
finish_item-returns-in-1 t c =
    record { item_leaves = note-leaves c.requires.lent c.args.next c.requires.kind_is c.in-1.is c.passed.result c.passed.ensures; item_reaches = note-reaches _ _ _ c.args.f _ _ _ _ c.requires.kind_is c.passed.result c.in-1.is }

pub finish_item-finish_call-requires : goal.finish_item-finish_call-requires
finish_item-finish_call-requires t c = (omega (arith, c.decreases), (c.args.row, asks-kind c.requires 2 c.in-2.is))

pub finish_item-returns-in-2 : goal.finish_item-returns-in-2
finish_item-returns-in-2 t c =
    let row = c.args.row in
    record { item_leaves = c.finish_call.ensures.item_leaves row; item_reaches = c.finish_call.ensures.item_reaches row }

pub finish_item-finish_async-requires : goal.finish_item-finish_async-requires
finish_item-finish_async-requires t c = (omega (arith, c.decreases), (c.args.row, asks-kind c.requires 0x12 c.in-18.is))

pub finish_item-returns-in-18 : goal.finish_item-returns-in-18
finish_item-returns-in-18 t c =
    let row = c.args.row in
    record { item_leaves = c.finish_async.ensures.item_leaves row; item_reaches = c.finish_async.ensures.item_reaches row }

pub finish_item-finish_finish-within-requires : goal.finish_item-finish_finish-within-requires
finish_item-finish_finish-within-requires t c =
    let is-nest = asks-finish c.requires (λ e. grind arith) (λ e. grind arith) (λ e. grind arith) (λ e. grind arith) (λ e. grind arith) in
    (omega (arith, c.decreases), asks-kind c.requires 0x13 is-nest)

pub finish_item-returns-in_default : goal.finish_item-returns-in_default
finish_item-returns-in_default t c =
    let is-nest = asks-finish c.requires (λ e. grind arith) (λ e. grind arith) (λ e. grind arith) (λ e. grind arith) (λ e. grind arith) in
    record { item_leaves = c.finish_finish-within.ensures; item_reaches = finish-reaches _ _ _ c.args.f _ _ _ _ c.requires.kind_is c.finish_finish-within.result is-nest }

pub finish_items-loop-next-init : goal.finish_items-loop-next-init
finish_items-loop-next-init t c = loop-start c.requires c.kind_at-next.result c.kind_at-next.ensures (reach_of c.args.f)

pub finish_items-finish_item-g-requires : goal.finish_items-finish_item-g-requires
finish_items-finish_item-g-requires t c =
    (omega (arith, c.decreases), loop-asks c.loop-next.invariant c.loop-next-test.true)

pub finish_items-loop-next-smaller : goal.finish_items-loop-next-smaller
finish_items-loop-next-smaller t c =
    let next : Next c.loop-next.invariant c.finish_item-g.result.around (c.finish_item-g.new.t) (c.finish_item-g.new.rows) (reach_of c.finish_item-g.result) = record { more_lines = c.loop-next-test.true; scratch_long = c.finish_item-g.auto.t; rows_long = c.finish_item-g.auto.rows; leaves = c.finish_item-g.ensures.item_leaves; keeps = item-keeps _ _ _ _ _ _ _ _ _ _ c.finish_item-g.ensures.item_reaches } in
    loop-less _ (next)

pub finish_items-loop-next-preserved : goal.finish_items-loop-next-preserved
finish_items-loop-next-preserved t c =
    let next : Next c.loop-next.invariant c.finish_item-g.result.around (c.finish_item-g.new.t) (c.finish_item-g.new.rows) (reach_of c.finish_item-g.result) = record { more_lines = c.loop-next-test.true; scratch_long = c.finish_item-g.auto.t; rows_long = c.finish_item-g.auto.rows; leaves = c.finish_item-g.ensures.item_leaves; keeps = item-keeps _ _ _ _ _ _ _ _ _ _ c.finish_item-g.ensures.item_reaches } in
    loop_again _ (next) c.kind_at-next-in-loop-next.result c.kind_at-next-in-loop-next.ensures

pub finish_items-returns : goal.finish_items-returns
finish_items-returns t c = record { items_leave = loop-done c.loop-next.invariant c.loop-next-test.false; items_reach = loop-reaches c.loop-next.invariant c.loop-next-test.false }
