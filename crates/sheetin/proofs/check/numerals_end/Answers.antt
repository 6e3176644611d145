use Rattle.sheetin.proofs.Rows.{numerals_more}
use Rattle.sheetin.proofs.check.numerals_end.Goals as goal

pub loop-preserved : goal.loop-preserved
loop-preserved c = numerals_more c.args.s.now c.loop.rest.now c.loop.counter c.loop.invariant c.loop-test.true c.in_ok-rest.ensures
