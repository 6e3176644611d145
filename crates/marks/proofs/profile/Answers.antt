-- `marks::profile` meets its contract: what is accepted is profiled, and a refusal leaves all as it was.
use mathlib.Core.Path.{◌∙◌, sym}
use Rattle.marks.specs.Root.{lent}
use Rattle.marks.proofs.Whole.{admitted, plain}
use Rattle.marks.proofs.profile.Goals as goal

pub returns : goal.returns
returns g c =
    let a = c.args in
    plain (admitted _ a.text.now a.depth a.sites (lent a.scratch.now a.marks.now a.rows.now) c.in_ok-found.found (sym c.in_ok-found.was ∙ c.for_marks.ensures)) c.accepted.result (lent c.accepted.new.scratch c.accepted.new.marks c.accepted.new.rows) c.accepted.ensures
