-- `sheetout::put_header` meets its contract: two pieces, one behind the other. Assumes nothing.
use native.Mathlib.Omega.{arith}
use Rattle.sheetout.proofs.Counting.{header-length, lays_header}
use Rattle.sheetout.proofs.put_header.Goals as goal

pub text-end-requires : goal.text-end-requires
text-end-requires c = omega (arith, header-length, c.requires)

pub text-requires : goal.text-requires
text-requires c =
    omega
    (arith, header-length, c.requires, c.text-end.ensures.ends, c.text-end.auto.out)

pub returns : goal.returns
returns c =
    let a = c.args in
    lays_header a.at a.out.now
    c.requires
    c.text-end.ensures c.text.ensures
