-- `sheetout::record_size` meets its contract. Assumes nothing.
use Rattle.std.proofs.Common.{rules}
use native.Mathlib.Omega.{arith}
use Rattle.digits.proofs.Figures.{decimal-length, decimal-few}
use Rattle.sheetout.proofs.Counting.{record_size_is}
use Rattle.sheetout.proofs.record_size.Goals as goal

pub returns : goal.returns
returns c =
    let a = c.args in
    (omega (arith, record_size_is a.row a.numbers.now, c.size-front.ensures, c.numbers_size.ensures.0), omega (arith, c.size-front.ensures, decimal-few a.row (search rules), decimal-length a.row, c.numbers_size.ensures.1))
