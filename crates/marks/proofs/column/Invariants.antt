-- `marks::column` meets its contract: line by line, what is marked of a row is in its columns 5 and 7.
use Rattle.walk.specs.Weight.{by_asking}
use Rattle.marks.proofs.Columns.{Loop}
use Rattle.marks.proofs.column.Given as goal

abbrev pub invariant-loop-at : goal.invariant-loop-at
invariant-loop-at g l = Loop g.F.Family.family (by_asking l.asking) l.trace l.lines l.initial.t l.marks l.initial.rows l.at l.a l.t l.rows
