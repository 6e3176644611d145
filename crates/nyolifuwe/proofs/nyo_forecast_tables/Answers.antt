-- `nyolifuwe::nyo_forecast_tables` meets its contract: the promise of a forecast with its answer handed over, or no room for the
-- answer. Assumes nothing.
use mathlib.Core.List.{[]}
use Rattle.line.specs.Family.{Base}
use Rattle.trace.specs.Promise.{Engine, Lent}
use Rattle.nyolifuwe.proofs.Profiled.{forecasting, answer-line, without-room, with-room}
use Rattle.nyolifuwe.proofs.nyo_forecast_tables.Goals as goal

pub returns-then-answer-lt4 : goal.returns-then-answer-lt4
returns-then-answer-lt4 c =
    let a = c.args in
    let before : Lent = record { scratch = a.scratch.now; rows = a.rows.now; marks = [] } in
    rw c.refuse_room.ensures (without-room Base (forecasting a.entries.now) Engine.tables a.trace.now a.depth a.sites before a.answer.now c.if-answer-lt4.true)

pub hand_over-requires : goal.hand_over-requires
hand_over-requires c =
    let a = c.args in
    let before : Lent = record { scratch = a.scratch.now; rows = a.rows.now; marks = [] } in
    (answer-line Base (forecasting a.entries.now) Engine.tables a.trace.now a.depth a.sites before _ c.forecast-found.result c.forecast-found.ensures, c.if-answer-lt4.false)

pub returns : goal.returns
returns c =
    let a = c.args in
    let before : Lent = record { scratch = a.scratch.now; rows = a.rows.now; marks = [] } in
    with-room Base (forecasting a.entries.now) Engine.tables a.trace.now a.depth a.sites before a.answer.now c.forecast-found.result _ _ _ c.if-answer-lt4.false c.forecast-found.ensures c.hand_over.ensures
