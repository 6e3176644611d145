use Rattle.std.proofs.Common.{arith}
use Rattle.compact.proofs.Letters.{small-more}
use Rattle.compact.proofs.put.small_letters.Goals as goal

pub loop-i-preserved : goal.loop-i-preserved
loop-i-preserved c =
    small-more c.loop-i.to c.args.from.now c.loop-i.i c.small.result (omega arith) (omega arith) c.small.ensures c.loop-i.invariant
