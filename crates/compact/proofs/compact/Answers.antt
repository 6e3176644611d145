-- `compact::compact` meets its contract: acceptance first, then the room. Assumes nothing.
use mathlib.Core.Path.{◌∙◌, sym}
use Rattle.compact.proofs.Whole.{admitted, accepted_compacts}
use Rattle.compact.proofs.compact.Goals as goal

pub accepted-requires : goal.accepted-requires
accepted-requires c =
    let a = c.args in
    admitted a.trace.now a.depth a.sites a.out.now c.in_ok-admitted.admitted (sym c.in_ok-admitted.was ∙ c.with_room.ensures)

pub returns : goal.returns
returns c =
    let a = c.args in
    accepted_compacts a.trace.now a.depth a.sites a.out.now c.in_ok-admitted.admitted c.accepted.result _ (sym c.in_ok-admitted.was ∙ c.with_room.ensures) c.accepted.ensures
