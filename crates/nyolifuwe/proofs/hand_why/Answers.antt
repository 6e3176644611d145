-- `nyolifuwe::hand_why` meets its contract: a case for each answer. Assumes nothing.
use Prim.Native.Nat.{ℕ}
use mathlib.Core.List.{List, ◌++◌}
use mathlib.Core.Path.{ap, sym, ◌∙◌}
use native.Mathlib.Omega.{arith}
use lib.ListN.{length, drop}
use Rattle.nyolifuwe.specs.Inside.{line_of}
use Rattle.nyolifuwe.specs.Asking.{numbers_of, why_numbered}
use Rattle.nyolifuwe.proofs.Decided.{refused, given}
use Rattle.nyolifuwe.proofs.hand_why.Goals as goal

pub code-requires : goal.code-requires
code-requires c = omega (arith, sym (ap line_of c.in-Err.is))

pub returns-in-Ok : goal.returns-in-Ok
returns-in-Ok c =
    let room = c.args.answer.now in
    given (numbers_of c.in-Ok.why) room _ (ap why_numbered c.in-Ok.is) (c.put.ensures ∙ ap (λ (l : List ℕ). l ++ drop (length l) room) c.numbers_of-numbers.ensures)

pub returns-in-Err : goal.returns-in-Err
returns-in-Err c = rw c.code.ensures (refused _ _ c.args.answer.now (ap why_numbered c.in-Err.is))
