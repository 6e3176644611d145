-- `forecast::share` meets its contract: the library's quotient, rounded up; a factor of 0 gives 0. Assumes nothing.
use Rattle.std.proofs.Common.{◌∙◌, sym, arith}
use Rattle.forecast.proofs.Divided.{divided-ceil}
use Rattle.forecast.proofs.share.Goals as goal

pub returns : goal.returns
returns c = c.div_ceil-2.ensures ∙ sym (divided-ceil c.args.v c.args.factor (omega arith))
