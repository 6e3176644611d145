-- `compact::put::carrying` meets its contract: no instructions are no line. Assumes nothing.
use lib.ListN.{length}
use Rattle.compact.proofs.Passes.{no_carry, carry-fits, a-carry}
use Rattle.compact.proofs.put.carrying.Goals as goal

pub returns-then-i-eq0 : goal.returns-then-i-eq0
returns-then-i-eq0 c = let a = c.args in no_carry a.i.0 a.at a.out.now c.if-i-eq0.true

pub frame-requires : goal.frame-requires
frame-requires c = let a = c.args in carry-fits a.i.0 c.if-i-eq0.false c.requires.0 a.at (length a.out.now) c.requires.1

pub returns : goal.returns
returns c = a-carry c.args.i.0 c.if-i-eq0.false c.frame.ensures
