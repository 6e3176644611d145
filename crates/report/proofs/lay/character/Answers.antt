-- `report::lay::character` meets its contract. Assumes nothing.
use Rattle.report.proofs.Laying.{lays_one}
use Rattle.report.proofs.lay.character.Goals as goal

pub returns : goal.returns
returns c = lays_one c.args.at c.args.c c.args.out.now c.requires
