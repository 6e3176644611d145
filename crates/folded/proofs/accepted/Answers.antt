-- `folded::accepted` meets its contract. Assumes nothing.
use native.Mathlib.Omega.{arith}
use Rattle.folded.proofs.Whole.{few, bad_17, good_names}
use Rattle.folded.proofs.accepted.Goals as goal

pub overflow_add-count : goal.overflow_add-count
overflow_add-count c = omega (arith, few c.requires)

pub returns-then-bad-count : goal.returns-then-bad-count
returns-then-bad-count c =
    let a = c.args in
    λ q. bad_17 q a.lists.project.now a.lists.stock.now c.first_bad-bad.result c.first_bad-bad.ensures a.out.now c.if-bad-count.true a.scratch.now

pub named-requires-2 : goal.named-requires-2
named-requires-2 c = (c.requires, omega (arith, few c.requires))

pub returns : goal.returns
returns c =
    let a = c.args in
    λ q. good_names q a.lists.project.now a.lists.stock.now c.first_bad-bad.result c.first_bad-bad.ensures a.out.now c.if-bad-count.false a.scratch.now c.named-2.ensures
