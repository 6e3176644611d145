-- `digits::word::plainly` meets its contract. Each mask bounds what it keeps, so nothing overflows. Assumes nothing.
use Rattle.digits.proofs.Joined.{word_plainly}
use Rattle.digits.proofs.word.plainly.Goals as goal

pub returns : goal.returns
returns c = word_plainly c.args.w c.ranges.w.fits
