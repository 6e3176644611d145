-- `marks::join` meets its contract: the zone that loses is cleared, whichever it is.
use Rattle.marks.proofs.Steps.{join_since, join_longest}
use Rattle.marks.proofs.join.Goals as goal

pub returns-then-later : goal.returns-then-later
returns-then-later c =
    rw (c.prefix.ensures, c.joined.ensures) (join_since c.args.marks.now c.args.z c.requires.room c.wipe_lines.new.marks c.wipe_lines.ensures c.later_heavier-later.result c.later_heavier-later.ensures c.if-later.true)

pub returns : goal.returns
returns c =
    rw (c.prefix-2.ensures, c.joined-2.ensures) (join_longest c.args.marks.now c.args.z c.requires.room c.wipe_lines-2.new.marks c.wipe_lines-2.ensures c.later_heavier-later.result c.later_heavier-later.ensures c.if-later.false)
