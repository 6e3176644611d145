use native.Mathlib.Omega.{arith}
use Rattle.compact.proofs.Passes.{given_is, counting_ready, counting_on, counting_end}
use Rattle.compact.proofs.count.Goals as goal

pub step-g-requires : goal.step-g-requires
step-g-requires c = let q = c.requires in counting_ready q (c.loop-n.invariant q) c.loop-n-test.true

pub overflow_add-total : goal.overflow_add-total
overflow_add-total c =
    let q = c.requires in
    let g = given_is c.args.trace.now c.loop-n.n c.loop-n.s c.item.result c.step-g.result c.item.ensures c.step-g.ensures in
    omega (arith, (counting_on q c.size-total.result c.step-g.result g c.size-total.ensures (c.loop-n.invariant q) c.loop-n-test.true).0)

pub loop-n-preserved : goal.loop-n-preserved
loop-n-preserved c =
    let g = given_is c.args.trace.now c.loop-n.n c.loop-n.s c.item.result c.step-g.result c.item.ensures c.step-g.ensures in
    λ q. (counting_on q c.size-total.result c.step-g.result g c.size-total.ensures (c.loop-n.invariant q) c.loop-n-test.true).1

pub returns : goal.returns
returns c = λ q. counting_end q (c.loop-n.invariant q) c.loop-n-test.false
