-- `marks::on_line` meets its contract: what a line asks for and leaves, by its kind.
use native.Mathlib.Omega.{arith}
use Rattle.marks.proofs.Columns.{leave-asks, enter_asks, silent-leaves, return_leaves, add-asks, cost-leaves, opened-leaves}
use Rattle.marks.proofs.on_line.Goals as goal

pub add_marked-requires-clause-cycles_fit : goal.add_marked-requires-clause-cycles_fit
add_marked-requires-clause-cycles_fit g c = (add-asks c.requires c.kind_at-kind.result c.kind_at-kind.ensures c.in-6.is).1

pub add_marked-requires-clause-instructions_fit : goal.add_marked-requires-clause-instructions_fit
add_marked-requires-clause-instructions_fit g c = (add-asks c.requires c.kind_at-kind.result c.kind_at-kind.ensures c.in-6.is).2

pub leave-requires : goal.leave-requires
leave-requires g c = leave-asks c.requires

pub enter-requires : goal.enter-requires
enter-requires g c = enter_asks c.requires

pub returns-in-6 : goal.returns-in-6
returns-in-6 g c = cost-leaves c.requires c.kind_at-kind.result c.kind_at-kind.ensures c.in-6.is c.add_marked.new.rows c.add_marked.ensures

pub returns-in-5 : goal.returns-in-5
returns-in-5 g c = return_leaves c.requires c.kind_at-kind.result c.kind_at-kind.ensures c.in-5.is c.leave.result c.leave.new.t c.leave.ensures

pub returns-in-1 : goal.returns-in-1
returns-in-1 g c = silent-leaves c.requires c.kind_at-kind.result c.kind_at-kind.ensures c.in-1.is

pub returns-in_default : goal.returns-in_default
returns-in_default g c =
    opened-leaves _ c.requires c.kind_at-kind.result c.kind_at-kind.ensures c.row_of.result c.row_of.ensures (λ e. grind (arith, e)) c.enter.result c.enter.new.t c.enter.ensures.value c.enter.ensures.t_after
