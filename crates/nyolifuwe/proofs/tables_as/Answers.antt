-- `nyolifuwe::tables_as` meets its contract: the engine's promise with its answer handed over, or no room for the
-- answer. Assumes nothing.
use mathlib.Core.List.{[]}
use Rattle.trace.specs.Promise.{Engine, Lent}
use Rattle.nyolifuwe.proofs.Profiled.{plain, answer-line, without-room, with-room}
use Rattle.nyolifuwe.proofs.tables_as.Goals as goal

pub returns-then-answer-lt4 : goal.returns-then-answer-lt4
returns-then-answer-lt4 g c =
    let a = c.args in
    let before : Lent = record { scratch = a.scratch.now; rows = a.rows.now; marks = [] } in
    rw c.refuse_room.ensures (without-room g.F.Family.family plain Engine.tables a.trace.now a.depth a.sites before a.answer.now c.if-answer-lt4.true)

pub hand_over-requires : goal.hand_over-requires
hand_over-requires g c =
    let a = c.args in
    let before : Lent = record { scratch = a.scratch.now; rows = a.rows.now; marks = [] } in
    (answer-line g.F.Family.family plain Engine.tables a.trace.now a.depth a.sites before _ c.profile-found.result c.profile-found.ensures, c.if-answer-lt4.false)

pub returns : goal.returns
returns g c =
    let a = c.args in
    let before : Lent = record { scratch = a.scratch.now; rows = a.rows.now; marks = [] } in
    with-room g.F.Family.family plain Engine.tables a.trace.now a.depth a.sites before a.answer.now c.profile-found.result _ _ _ c.if-answer-lt4.false c.profile-found.ensures c.hand_over.ensures
