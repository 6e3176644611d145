-- `folded::write::put_line` meets its contract, kind by kind. Assumes nothing.
use Rattle.std.proofs.Common.{◌-◌, arith}
use Rattle.folded.proofs.Writing.{some_open, row-known, stack-asked, cost-fits, cost-from, cost-left, return_left, passed-left, made-room, made-left}
use Rattle.folded.proofs.write.put_line.Goals as goal

pub put_stack-end-requires : goal.put_stack-end-requires
put_stack-end-requires c = stack-asked c.requires c.kind_at.result c.kind_at.ensures c.in-6.is c.cost_at-v.result c.cost_at-v.ensures

pub put_cost-next-requires : goal.put_cost-next-requires
unfolding stack-asked
put_cost-next-requires c =
    let q = c.requires in
    let asked = stack-asked q c.kind_at.result c.kind_at.ensures c.in-6.is c.cost_at-v.result c.cost_at-v.ensures in
    cost-fits q c.kind_at.result c.kind_at.ensures c.in-6.is c.cost_at-v.result c.cost_at-v.ensures (c.put_stack-end.ensures asked) c.put_stack-end.auto.out

pub overflow_sub-this : goal.overflow_sub-this
unfolding stack-asked
overflow_sub-this c =
    let q = c.requires in
    let asked = stack-asked q c.kind_at.result c.kind_at.ensures c.in-6.is c.cost_at-v.result c.cost_at-v.ensures in
    cost-from q c.kind_at.result c.kind_at.ensures c.in-6.is c.cost_at-v.result c.cost_at-v.ensures (c.put_stack-end.ensures asked) c.put_stack-end.auto.out

pub returns-in-6 : goal.returns-in-6
unfolding stack-asked
returns-in-6 c = λ q.
    let asked = stack-asked q c.kind_at.result c.kind_at.ensures c.in-6.is c.cost_at-v.result c.cost_at-v.ensures in
    cost-left q c.kind_at.result c.kind_at.ensures c.in-6.is c.cost_at-v.result c.cost_at-v.ensures (c.put_stack-end.ensures asked) c.put_stack-end.auto.out c.put_cost-next.ensures

pub offset_bounds-names-t : goal.offset_bounds-names-t
offset_bounds-names-t c = omega (arith, (row-known c.requires (c.args.a.depth - 1) (omega (arith, some_open c.requires))).inside)

pub bounds-names-t : goal.bounds-names-t
bounds-names-t c = (row-known c.requires (c.args.a.depth - 1) (omega (arith, some_open c.requires))).inside

pub returns-in-5 : goal.returns-in-5
returns-in-5 c = λ q. return_left q c.kind_at.result c.kind_at.ensures c.in-5.is _ c.close.result c.close.ensures

pub bounds-t-depth-in-2 : goal.bounds-t-depth-in-2
bounds-t-depth-in-2 c = made-room c.requires c.kind_at.result c.kind_at.ensures (omega arith) (omega arith) c.site_at.result c.site_at.ensures

pub returns-in-2 : goal.returns-in-2
returns-in-2 c = λ q. made-left q c.kind_at.result c.kind_at.ensures (omega arith) (omega arith) c.site_at.result c.site_at.ensures

pub returns-in_default : goal.returns-in_default
returns-in_default c = λ q. passed-left q c.kind_at.result c.kind_at.ensures (λ e. omega arith) (λ e. omega arith) (λ e. omega arith) (λ e. omega arith)

pub returns-in_default-2 : goal.returns-in_default-2
returns-in_default-2 c = λ q. passed-left q c.kind_at.result c.kind_at.ensures (λ e. omega arith) (λ e. omega arith) (λ e. omega arith) (λ e. omega arith)
