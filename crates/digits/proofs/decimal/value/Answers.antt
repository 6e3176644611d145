use Rattle.std.proofs.Common.{◌∙◌, arith}
use Rattle.digits.proofs.FiguresRead.{reads_large}
use Rattle.digits.proofs.decimal.value.Goals as goal

pub returns-in_err-checked_mul : goal.returns-in_err-checked_mul
returns-in_err-checked_mul c =
    let f = c.in_err-checked_mul.ensures in
    c.from_residual.ensures ∙ reads_large c.loop-c.invariant c.loop-c-test.true (omega arith)

pub returns-in_err-value : goal.returns-in_err-value
returns-in_err-value c =
    let f = c.in_err-value.ensures in
    let g = c.in_ok-checked_mul.ensures in
    c.from_residual-in_err-value.ensures ∙ reads_large c.loop-c.invariant c.loop-c-test.true (omega arith)
