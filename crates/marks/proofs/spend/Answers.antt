-- `marks::spend` meets its contract: one mark is set.
use Rattle.marks.proofs.Steps.{spent-done}
use Rattle.marks.proofs.spend.Goals as goal

pub returns : goal.returns
returns c =
    rw c.spent.ensures (spent-done c.args.marks.now c.args.z c.requires.fits.room c.args.v.0)
