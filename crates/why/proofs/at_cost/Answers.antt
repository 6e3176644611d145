-- `why::at_cost` meets its contract: two readings of the root, and what they come to.
use Rattle.why.proofs.Whole.{depth-some, second_reads, span-above, line-leaves}
use Rattle.why.proofs.at_cost.Goals as goal

pub overflow_sub-depth : goal.overflow_sub-depth
overflow_sub-depth c = depth-some c.requires

pub body-requires : goal.body-requires
body-requires c = second_reads c.requires c.with_heavier-through.ensures.heavier_leaves

pub overflow_sub-through : goal.overflow_sub-through
overflow_sub-through c = span-above c.requires c.with_heavier-through.ensures.heavier_leaves

pub returns : goal.returns
returns c =
    record { line_leaves = line-leaves c.requires c.with_heavier-through.ensures.heavier_leaves c.body.result c.body.ensures c.decide.result c.decide.ensures; scratch_after = c.with_heavier-through.ensures.scratch_after }
