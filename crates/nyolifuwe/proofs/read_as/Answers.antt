-- `nyolifuwe::read_as` meets its contract: each answer is what is decided by the tests that led to it. Assumes
-- nothing.
use Prim.Native.Nat.{ℕ}
use mathlib.Core.List.{List, ◌++◌}
use mathlib.Core.Path.{ap, ◌∙◌, sym}
use lib.ListN.{length, drop}
use Rattle.line.specs.Table.{fields_of}
use Rattle.nyolifuwe.specs.Lines.{numbers}
use Rattle.nyolifuwe.proofs.Decided.{refused, given, read_2, read_4, read_as, read_at_0}
use Rattle.nyolifuwe.proofs.read_as.Goals as goal

pub returns-then-line-ne-LINE : goal.returns-then-line-ne-LINE
returns-then-line-ne-LINE g c =
    let a = c.args in
    refused 2 0 a.frame.now (read_2 g.F.Family.family a.line.now (length a.frame.now) c.if-line-ne-LINE.true)

pub returns-then-frame-lt-FIELDS : goal.returns-then-frame-lt-FIELDS
returns-then-frame-lt-FIELDS g c =
    let a = c.args in
    refused 4 0 a.frame.now (read_4 g.F.Family.family a.line.now (length a.frame.now) c.if-line-ne-LINE.false c.if-frame-lt-FIELDS.true)

pub code-requires : goal.code-requires
code-requires g c = read_at_0 g.F.Family.family c.args.line.now c.in-Err.refusal (sym c.read_line.ensures ∙ c.in-Err.is)

pub returns-in-Ok : goal.returns-in-Ok
returns-in-Ok g c =
    let a = c.args in
    let decided = read_as g.F.Family.family a.line.now (length a.frame.now) c.if-line-ne-LINE.false c.if-frame-lt-FIELDS.false (sym c.read_line.ensures ∙ c.in-Ok.is) in
    given (numbers (fields_of c.in-Ok.read.frame)) a.frame.now _ decided (c.put.ensures ∙ ap (λ (l : List ℕ). l ++ drop (length l) a.frame.now) c.numbers.ensures)

pub returns-in-Err : goal.returns-in-Err
returns-in-Err g c =
    let a = c.args in
    let decided = read_as g.F.Family.family a.line.now (length a.frame.now) c.if-line-ne-LINE.false c.if-frame-lt-FIELDS.false (sym c.read_line.ensures ∙ c.in-Err.is) in
    rw c.code.ensures (refused _ _ a.frame.now decided)
