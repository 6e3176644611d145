-- `report::lay::again` meets its contract: the room from the place on is filled from the room before it. Assumes
-- nothing.
use Rattle.report.proofs.Laying.{lays_again}
use Rattle.report.proofs.lay.again.Goals as goal

pub returns : goal.returns
returns c =
    let a = c.args in
    lays_again a.at a.from a.n a.out.now c.requires.0 c.requires.1 c.split_at_mut-before.ensures.front c.split_at_mut-before.ensures.back c.copy.ensures
