-- `digits::word::eight` meets its contract. Assumes nothing.
use Rattle.std.proofs.Common.{◌∙◌, arith}
use Rattle.digits.proofs.Packing.{eight_are}
use Rattle.digits.proofs.word.eight.Goals as goal

pub returns-in-len8 : goal.returns-in-len8
returns-in-len8 c = c.from_le_bytes.ensures ∙ eight_are c.args.s.now (omega arith)
