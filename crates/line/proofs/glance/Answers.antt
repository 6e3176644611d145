-- `line::glance` meets its contract: what is seen of line n is what reading it gives, whole or not (`At`).
use Rattle.line.proofs.At.{at_read}
use Rattle.line.proofs.glance.Goals as goal

pub returns : goal.returns
returns g c = cc (c.glance_whole.ensures c.args.n, c.in_ok-line_at.ensures, at_read c.args.text.now c.args.n g.F.Family.family)
