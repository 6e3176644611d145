-- `nyolifuwe::nyo_why` meets its contract: asking why, with the answer handed over, or no room for the answer. Assumes
-- nothing.
use native.Mathlib.Omega.{arith}
use Rattle.nyolifuwe.proofs.Asking.{asked-line, why_unroomy, why_given}
use Rattle.nyolifuwe.proofs.nyo_why.Goals as goal

pub returns-then-answer-lt2 : goal.returns-then-answer-lt2
returns-then-answer-lt2 c =
    let a = c.args in
    rw c.refuse_room.ensures (why_unroomy a.trace.now a.depth a.sites a.line a.scratch.now a.marks.now a.answer.now c.if-answer-lt2.true)

pub hand_why-requires : goal.hand_why-requires
hand_why-requires c =
    let a = c.args in
    (asked-line a.trace.now a.depth a.sites a.line a.scratch.now a.marks.now c.ask-found.result _ _ (omega (arith, c.ranges.line)) c.ask-found.ensures, c.if-answer-lt2.false)

pub returns : goal.returns
returns c =
    let a = c.args in
    why_given a.trace.now a.depth a.sites a.line a.scratch.now a.marks.now a.answer.now c.ask-found.result _ _ _ _ c.if-answer-lt2.false c.ask-found.ensures c.hand_why.ensures
