-- `sheetout::put_record` meets its contract: three pieces, one behind the other. Assumes nothing.
use native.Mathlib.Omega.{arith}
use Rattle.digits.proofs.Figures.{decimal-length}
use Rattle.sheetout.proofs.Counting.{record_size_is, lays_record}
use Rattle.sheetout.proofs.put_record.Goals as goal

pub decimal-one-requires : goal.decimal-one-requires
decimal-one-requires c =
    let a = c.args in
    omega (arith, c.requires, record_size_is a.row a.numbers.now, decimal-length a.row)

pub put_numbers-two-requires : goal.put_numbers-two-requires
put_numbers-two-requires c =
    let a = c.args in
    omega
    (arith, c.requires, record_size_is a.row a.numbers.now, decimal-length a.row, c.decimal-one.ensures.ends, c.decimal-one.auto.out)

pub text-requires : goal.text-requires
text-requires c =
    let a = c.args in
    omega
    (arith, c.requires, record_size_is a.row a.numbers.now, decimal-length a.row, c.decimal-one.ensures.ends, c.decimal-one.auto.out, c.put_numbers-two.ensures.ends, c.put_numbers-two.auto.out)

pub returns : goal.returns
returns c =
    let a = c.args in
    lays_record a.at a.row a.numbers.now a.out.now
    c.requires c.decimal-one.ensures c.decimal-one.auto.out
    c.put_numbers-two.ensures
    c.text.ensures
