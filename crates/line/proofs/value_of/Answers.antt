-- `line::value_of` meets its contract: the number in the word is that of the eight characters (`Packs`).
use mathlib.Core.Path.{◌∙◌}
use native.Mathlib.Omega.{arith}
use Rattle.line.proofs.Packs.{plain_at}
use Rattle.line.proofs.value_of.Goals as goal

pub returns : goal.returns
returns c = c.plainly.ensures ∙ plain_at c.args.s.now (omega arith) c.fits-s 6 (omega arith) _ c.eight.ensures
