-- `tables::child_part` meets its contract, by its two cases.
use mathlib.Core.Path.{◌∙◌, sym}
use Rattle.tables.proofs.Held.{child-called, child-spawned}
use Rattle.tables.proofs.child_part.Goals as goal

pub returns-then-kind-ne2 : goal.returns-then-kind-ne2
returns-then-kind-ne2 c =
    c.part.ensures ∙ sym (child-spawned c.args.kind c.args.n c.args.f.longest.0 c.if-kind-ne2.true)

pub returns : goal.returns
returns c =
    c.since.ensures ∙ sym (child-called c.args.kind c.args.n c.args.f.longest.0 c.if-kind-ne2.false)
