use Rattle.std.proofs.Common.{◌∙◌, length-set, arith}
use Rattle.names.specs.Names.{shown}
use Rattle.names.proofs.Lines.{begins-next, shown-parts}
use Rattle.folded.proofs.Found.{found-more}
use Rattle.folded.proofs.shown.find.Goals as goal

pub loop-row-preserved : goal.loop-row-preserved
loop-row-preserved c =
    let p = c.args.lists.project.now in
    let q = c.args.lists.stock.now in
    let row = c.loop-row.row in
    let i = c.loop-row.invariant in
    let from = c.loop-row.from in
    let ends = c.ends-ends.result in
    let e = c.ends-ends.ensures in
    let is = shown-parts p q row from.project ends.project from.stock ends.stock i.own e.project i.other e.stock in
    record {
      long = omega (arith, i.long, length-set c.loop-row.names row c.either.result);
      own = begins-next p row from.project ends.project i.own e.project _ c.nexts-from.ensures.project;
      other = begins-next q row from.stock ends.stock i.other e.stock _ c.nexts-from.ensures.stock;
      found = found-more (shown p q) c.loop-row.names row c.either.result (omega (arith, i.long)) (c.either.ensures ∙ is) i.found;
    }
