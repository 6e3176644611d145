-- `why::accepted` meets its contract: a line past the end, one that is no cost, or a cost line.
use mathlib.Core.Path.{◌∙◌}
use Rattle.why.proofs.Whole.{ends-past, ends-other, ends_there}
use Rattle.why.proofs.accepted.Goals as goal

pub returns-then-lines-line : goal.returns-then-lines-line
returns-then-lines-line c = ends-past c.requires c.args.line c.if-lines-line.true

pub returns-then-kind_at-ne6 : goal.returns-then-kind_at-ne6
returns-then-kind_at-ne6 c =
    ends-other c.requires c.args.line c.if-lines-line.false (λ e. c.if-kind_at-ne6.true (c.kind_at.ensures ∙ e)) c.at_other.new.scratch c.at_other.new.marks
    c.at_other.ensures.scratch_after c.at_other.auto.marks c.at_other.ensures.wiped

pub returns : goal.returns
returns c =
    ends_there c.requires c.args.line c.if-lines-line.false c.at_cost.result c.at_cost.new.scratch c.at_cost.new.marks c.at_cost.ensures.scratch_after c.at_cost.ensures.line_leaves
