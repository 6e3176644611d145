use Rattle.std.proofs.Common.{◌∙◌, ap, sym}
use Rattle.names.specs.Names.{is_name}
use Rattle.names.proofs.Lines.{begins-next, shown-parts}
use Rattle.names.proofs.Names.{bad-here, bad-on}
use Rattle.names.proofs.Lists.first_bad.Goals as goal

pub returns-then-not-is_name : goal.returns-then-not-is_name
returns-then-not-is_name c =
    let p = c.args.self.project.now in
    let q = c.args.self.stock.now in
    let i = c.loop-row.invariant in
    let shows = shown-parts p q c.loop-row.row _ _ _ _ i.own c.ends-ends.ensures.project i.other c.ends-ends.ensures.stock in
    let says = c.is_name.ensures ∙ ap is_name (c.either.ensures ∙ shows) in
    sym (bad-here p q c.loop-row.row c.args.count c.loop-row-test.true (sym says ∙ c.if-not-is_name.true)) ∙ i.good

pub loop-row-preserved : goal.loop-row-preserved
loop-row-preserved c =
    let p = c.args.self.project.now in
    let q = c.args.self.stock.now in
    let i = c.loop-row.invariant in
    let e = c.ends-ends.ensures in
    let shows = shown-parts p q c.loop-row.row _ _ _ _ i.own e.project i.other e.stock in
    let says = c.is_name.ensures ∙ ap is_name (c.either.ensures ∙ shows) in
    record {
      own = begins-next p c.loop-row.row c.loop-row.from.project c.ends-ends.result.project i.own e.project _ c.nexts-from.ensures.project;
      other = begins-next q c.loop-row.row c.loop-row.from.stock c.ends-ends.result.stock i.other e.stock _ c.nexts-from.ensures.stock;
      good = sym (bad-on p q c.loop-row.row c.args.count c.loop-row-test.true (sym says ∙ c.if-not-is_name.false)) ∙ i.good;
    }
