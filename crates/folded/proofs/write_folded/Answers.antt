-- `folded::write_folded` meets its contract: acceptance first, then the names and the room. Assumes nothing.
use mathlib.Core.Path.{◌∙◌, sym}
use lib.ListN.{length}
use Rattle.folded.proofs.Whole.{admitted, accepted_folds}
use Rattle.folded.proofs.write_folded.Goals as goal

pub accepted-requires : goal.accepted-requires
accepted-requires c =
    let a = c.args in
    admitted a.trace.now a.depth a.sites (length a.scratch.now) c.in_ok-admitted.admitted (sym c.in_ok-admitted.was ∙ c.with_room.ensures)

pub returns : goal.returns
returns c =
    let a = c.args in
    accepted_folds a.trace.now a.depth a.sites a.lists.project.now a.lists.stock.now a.out.now a.scratch.now c.in_ok-admitted.admitted c.accepted.result _ _ (sym c.in_ok-admitted.was ∙ c.with_room.ensures) c.accepted.ensures
