-- `sheetin::fields::comma_at` meets its contract. Assumes nothing.
use Rattle.sheetin.proofs.Front.{comma_is}
use Rattle.sheetin.proofs.fields.comma_at.Goals as goal

pub returns : goal.returns
returns c = comma_is c.args.s.now _ c.strip_prefix.ensures.cases
