-- `names::Lists::first_bad` meets its contract. The invariant: a line of either list begins for this row, and no row
-- before it is bad. Assumes nothing.
use Rattle.std.proofs.Common.{◌-◌, ◌≡◌}
use Rattle.names.specs.Names.{bad_from, first_bad}
use Rattle.names.proofs.Lines.{Begins}
use Rattle.names.proofs.Lists.first_bad.Given as goal

abbrev pub invariant-loop-row : goal.invariant-loop-row
invariant-loop-row l = record {
  own : Begins l.self.project.now l.row l.from.project;
  other : Begins l.self.stock.now l.row l.from.stock;
  good : bad_from l.self.project.now l.self.stock.now l.row (l.count - l.row) ≡ first_bad l.self.project.now l.self.stock.now l.count;
}
