-- `tables::put_row` meets its contract: 1 shifted is the row's bit.
use Prim.Native.Nat.{◌/◌}
use native.Mathlib.Omega.{arith}
use Rattle.tables.proofs.Bits.{shifted_one}
use Rattle.tables.proofs.put_row.Goals as goal

pub returns : goal.returns
returns c =
    rw (shifted_one (c.args.s / 4) (omega arith))
