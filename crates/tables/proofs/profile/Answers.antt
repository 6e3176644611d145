-- `tables::profile` meets its contract: what is accepted is profiled, and a refusal leaves all as it was.
use mathlib.Core.Path.{◌∙◌, sym}
use Rattle.tables.proofs.Whole.{admitted, plain}
use Rattle.tables.proofs.profile.Goals as goal

pub returns : goal.returns
returns g c =
    let a = c.args in
    let y = g.F.Family.family in
    plain (admitted y a.text.now a.depth a.sites a.scratch.now a.rows.now c.in_ok-found.found (sym c.in_ok-found.was ∙ c.for_tables.ensures)) c.accepted.result c.accepted.new.scratch c.accepted.new.rows c.accepted.ensures
