use Rattle.std.proofs.Common.{ap, ◌∙◌, arith}
use Rattle.sheetin.specs.Seen.{past}
use Rattle.sheetin.proofs.Front.{rest-is}
use Rattle.sheetin.proofs.Head.{heading_none, heading_no, heading_more, heading_end}
use Rattle.sheetin.proofs.check.names_end.Goals as goal

pub loop-left-init : goal.loop-left-init
loop-left-init c = heading_none c.args.s.now c.args.table.now c.requires

pub returns-in_err-rest : goal.returns-in_err-rest
returns-in_err-rest c =
    ap past c.from_residual.ensures ∙ heading_no c.loop-left.invariant (omega arith) (rest-is c.loop-left.left.now) c.to_end.ensures.0 c.split_at.ensures.front c.in_err-rest.ensures

pub loop-left-preserved : goal.loop-left-preserved
loop-left-preserved c = heading_more c.loop-left.invariant (omega arith) (rest-is c.loop-left.left.now) c.to_end.ensures.0 c.split_at.ensures.front c.in_ok-rest.ensures c.split_at.ensures.back

pub returns : goal.returns
returns c = c.line_end.ensures ∙ heading_end c.loop-left.invariant (omega arith)
