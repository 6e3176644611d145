-- `nyolifuwe::hand_over` meets its contract: a case for each answer. Assumes nothing.
use mathlib.Core.List.{[], ◌∷◌}
use mathlib.Core.Path.{ap, sym}
use native.Mathlib.Omega.{arith}
use Rattle.nyolifuwe.specs.Inside.{line_of}
use Rattle.nyolifuwe.specs.Engines.{numbered}
use Rattle.nyolifuwe.proofs.Decided.{refused, given}
use Rattle.nyolifuwe.proofs.hand_over.Goals as goal

pub code-requires : goal.code-requires
code-requires c = omega (arith, sym (ap line_of c.in-Err.is))

pub returns-in-Ok : goal.returns-in-Ok
returns-in-Ok c =
    let p = c.in-Ok.field-0 in
    given (p.work ∷ p.span ∷ p.sites ∷ p.lines ∷ []) c.args.answer.now _ (ap numbered c.in-Ok.is) c.put.ensures

pub returns-in-Err : goal.returns-in-Err
returns-in-Err c = rw c.code.ensures (refused _ _ c.args.answer.now (ap numbered c.in-Err.is))
