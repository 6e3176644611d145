-- `compact::put::itself` meets its contract: the 23 characters are those of the line. Assumes nothing.
use lib.ListN.{length}
use Rattle.digits.specs.Digits.{small_form}
use Rattle.line.specs.Read.{line_at}
use Rattle.compact.proofs.Passes.{not_going, cut_fits, cut-laid}
use Rattle.compact.proofs.put.itself.Goals as goal

pub returns-then-not-goes : goal.returns-then-not-goes
returns-then-not-goes c = let a = c.args in not_going a.goes (small_form (line_at a.trace.now a.n)) c.if-not-goes.true a.at a.out.now

pub small_text-requires : goal.small_text-requires
small_text-requires c =
    let a = c.args in
    cut_fits a.trace.now a.n c.requires.0 a.goes c.if-not-goes.false a.at (length a.out.now) c.requires.1

pub returns : goal.returns
returns c =
    let a = c.args in
    cut-laid a.trace.now a.n c.requires.0 a.goes c.if-not-goes.false c.small_text.ensures
