-- `sheetout::put_number` meets its contract. Assumes nothing.
use mathlib.Core.List.{[], ◌∷◌}
use native.Mathlib.Omega.{arith}
use Rattle.report.proofs.Laying.{lays_next}
use Rattle.digits.specs.Decimal.{decimal}
use Rattle.sheetout.proofs.put_number.Goals as goal

pub returns : goal.returns
returns c =
    let a = c.args in
    let pre = c.requires in
    lays_next a.at (44 ∷ []) (decimal a.x) a.out.now (omega (arith, pre)) c.character-end.ensures
    c.decimal.ensures
