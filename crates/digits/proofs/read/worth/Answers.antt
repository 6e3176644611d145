-- `digits::read::worth` meets its contract. Assumes nothing.
use Rattle.digits.proofs.Reading.{worth_letter, worth_neither}
use Rattle.digits.proofs.read.worth.Goals as goal

pub returns-then-letter-lt6 : goal.returns-then-letter-lt6
returns-then-letter-lt6 c = worth_letter c.args.c c.ranges.c.fits c.if-figure-lt10.false c.if-letter-lt6.true

pub returns : goal.returns
returns c = worth_neither c.args.c c.ranges.c.fits c.if-figure-lt10.false c.if-letter-lt6.false
