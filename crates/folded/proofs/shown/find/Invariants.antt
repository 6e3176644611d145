-- `folded::shown::find` meets its contract. The invariant: a line of either list begins for this row, and the names of
-- those before it are found. The table keeps its length. Assumes nothing.
use Rattle.std.proofs.Common.{◌≤◌, length}
use Rattle.names.specs.Names.{shown}
use Rattle.names.proofs.Lines.{Begins}
use Rattle.folded.specs.Shows.{Found}
use Rattle.folded.proofs.shown.find.Given as goal

abbrev pub invariant-loop-row : goal.invariant-loop-row
invariant-loop-row l = record {
  long : l.count ≤ length l.names;
  own : Begins l.lists.project.now l.row l.from.project;
  other : Begins l.lists.stock.now l.row l.from.stock;
  found : Found (shown l.lists.project.now l.lists.stock.now) l.row l.names;
}
