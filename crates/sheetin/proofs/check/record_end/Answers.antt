-- `sheetin::check::record_end` meets its contract. Assumes nothing.
use Rattle.std.proofs.Common.{ap, ◌∙◌}
use Rattle.sheetin.specs.Seen.{past}
use Rattle.sheetin.proofs.Rows.{record_no, record_other, record_yes}
use Rattle.sheetin.proofs.check.record_end.Goals as goal

pub returns-in_err-value : goal.returns-in_err-value
returns-in_err-value c = ap past c.from_residual.ensures ∙ record_no c.args.row c.args.s.now c.in_err-value.ensures

pub returns-then-value-row : goal.returns-then-value-row
returns-then-value-row c = record_other c.args.row c.args.s.now c.in_ok-value.ensures c.if-value-row.true

pub returns : goal.returns
returns c = c.numerals_end.ensures ∙ record_yes c.args.row c.args.s.now c.in_ok-value.ensures c.if-value-row.false
