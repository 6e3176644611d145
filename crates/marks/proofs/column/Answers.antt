use Rattle.marks.proofs.Columns.{turn-asks, turn_again, turn-zero, turn-done}
use Rattle.marks.proofs.column.Goals as goal

pub on_line-a-requires : goal.on_line-a-requires
on_line-a-requires g c = turn-asks c.loop-at.invariant c.loop-at-test.true c.requires

pub loop-at-preserved : goal.loop-at-preserved
loop-at-preserved g c =
    turn_again c.loop-at.invariant c.loop-at-test.true c.on_line-a.result c.on_line-a.new.t c.on_line-a.new.rows c.on_line-a.auto.rows c.on_line-a.ensures

pub returns-clause-column_leaves : goal.returns-clause-column_leaves
returns-clause-column_leaves g c = turn-done c.loop-at.invariant c.loop-at-test.false

pub returns-clause-t_unchanged : goal.returns-clause-t_unchanged
returns-clause-t_unchanged g c = turn-zero c.loop-at.invariant c.loop-at-test.false c.requires
