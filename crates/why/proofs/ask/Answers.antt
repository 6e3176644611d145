-- `why::ask` meets its contract: acceptance first, then the line. Assumes nothing.
use mathlib.Core.Path.{◌∙◌, sym}
use Rattle.why.proofs.Whole.{admitted-is, asked-accepted}
use Rattle.why.proofs.ask.Goals as goal

pub accepted-requires : goal.accepted-requires
accepted-requires c =
    let a = c.args in
    admitted-is a.text.now a.depth a.sites a.scratch.now a.marks.now c.room-enough.result c.room-enough.ensures c.in_ok-found.found (sym c.in_ok-found.was ∙ c.with_room.ensures)

pub returns : goal.returns
returns c =
    let a = c.args in
    asked-accepted a.text.now a.depth a.sites a.scratch.now a.marks.now c.room-enough.result c.room-enough.ensures c.in_ok-found.found (sym c.in_ok-found.was ∙ c.with_room.ensures)
    a.line c.accepted.result c.accepted.new.scratch c.accepted.new.marks c.accepted.ensures
