-- `tables::sum` meets its contract: each measure has its own sum.
use Rattle.tables.proofs.sum.Goals as goal

pub returns : goal.returns
returns c = rw (c.plus.ensures, c.plus-2.ensures)
