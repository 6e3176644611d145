-- `sheetin::fields::line_end` meets its contract. Assumes nothing.
use Rattle.sheetin.proofs.Front.{line_end-empty, line_end_is}
use Rattle.sheetin.proofs.fields.line_end.Goals as goal

pub returns-then-is_empty : goal.returns-then-is_empty
returns-then-is_empty c = line_end-empty c.args.s.now c.if-is_empty.ensures

pub returns : goal.returns
returns c = line_end_is c.args.s.now _ c.if-is_empty.ensures c.strip_prefix.ensures.cases
