-- `compact::put::lines` meets its contract: a cost with its instructions, a sync, the line itself. Assumes nothing.
use lib.ListN.{length}
use Rattle.digits.specs.Digits.{small_form}
use Rattle.line.specs.Read.{line_at}
use Rattle.compact.proofs.Passes.{pieces-fit, pieces-laid}
use Rattle.compact.proofs.put.lines.Goals as goal

pub returns : goal.returns
returns c =
    let a = c.args in
    let p = pieces-fit a.g (small_form (line_at a.trace.now a.n)) a.at (length a.out.now) c.requires.1.1 in
    pieces-laid a.g (small_form (line_at a.trace.now a.n)) a.at p c.cost-a.ensures c.cost-a.auto.out c.sync-b.ensures c.itself.ensures
