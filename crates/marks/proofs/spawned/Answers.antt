-- `marks::spawned` meets its contract: of the child and the longest before it, the one that loses is cleared.
use Rattle.marks.proofs.Steps.{spawned_longer, spawned-shorter}
use Rattle.marks.proofs.spawned.Goals as goal

pub returns-then-longer : goal.returns-then-longer
returns-then-longer c =
    rw c.spawned.ensures (spawned_longer c.args.marks.now c.args.z c.requires.fits.room c.args.c c.wipe_lines.new.marks c.wipe_lines.ensures c.child_longer-longer.result c.child_longer-longer.ensures c.if-longer.true)

pub returns : goal.returns
returns c =
    rw c.spawned-2.ensures (spawned-shorter c.args.marks.now c.args.z c.requires.fits.room c.args.c c.wipe_lines-2.new.marks c.wipe_lines-2.ensures c.child_longer-longer.result c.child_longer-longer.ensures c.if-longer.false)
