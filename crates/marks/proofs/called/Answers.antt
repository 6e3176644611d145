-- `marks::called` meets its contract: the child's zone lies where the continuation's ends.
use Rattle.marks.proofs.Steps.{called-done}
use Rattle.marks.proofs.called.Goals as goal

pub returns : goal.returns
returns c =
    rw c.called.ensures (called-done c.args.marks.now c.args.z c.requires.fits.room c.args.c)
