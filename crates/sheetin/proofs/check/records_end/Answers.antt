use Rattle.std.proofs.Common.{◌≡◌, ◌+◌, Err, ap, sym, ◌∙◌, rules}
use Rattle.sheetin.specs.Seen.{past}
use Rattle.sheetin.proofs.Rows.{records_end, records-full, records-wrong, records-more}
use Rattle.sheetin.proofs.check.records_end.Goals as goal

pub returns-then-row-eq256 : goal.returns-then-row-eq256
returns-then-row-eq256 c = records-full c.loop-rest.invariant c.loop-rest-test.ensures c.if-row-eq256.true

pub returns-in_err-rest : goal.returns-in_err-rest
returns-in_err-rest c =
    let e : c.from_residual.result ≡ Err (c.loop-rest.row + 1) = search rules in
    e ∙ records-wrong c.loop-rest.invariant c.loop-rest-test.ensures c.if-row-eq256.false (sym (ap past c.in_err-rest.ensures.ok_part) ∙ c.record_end.ensures)

pub loop-rest-preserved : goal.loop-rest-preserved
loop-rest-preserved c = records-more c.loop-rest.invariant c.loop-rest-test.ensures c.if-row-eq256.false (sym (ap past c.in_ok-rest.ensures.ok_part) ∙ c.record_end.ensures)

pub returns : goal.returns
returns c = records_end c.loop-rest.invariant c.loop-rest-test.ensures
