-- `marks::pass` meets its contract: one mark is cleared.
use Rattle.marks.proofs.Steps.{passed-done}
use Rattle.marks.proofs.pass.Goals as goal

pub returns : goal.returns
returns c =
    rw c.passed.ensures (passed-done c.args.marks.now c.args.z c.requires.fits.room)
