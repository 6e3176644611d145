-- `sheetin::check::records_end` meets its contract. The invariant: the records so far are good. The measure is how
-- many more may come. Assumes nothing.
use Rattle.std.proofs.Common.{◌-◌}
use Rattle.sheetin.proofs.Rows.{Records}
use Rattle.sheetin.proofs.check.records_end.Given as goal

abbrev pub invariant-loop-rest : goal.invariant-loop-rest
invariant-loop-rest l = Records l.s l.rest l.row

abbrev pub decreases-loop-rest : goal.decreases-loop-rest
decreases-loop-rest l = 256 - l.row
