-- `line::around` meets its contract: the eight characters behind the value are tested as one word (`Packs`).
use mathlib.Core.Path.{◌≡◌}
use native.Mathlib.Omega.{arith}
use lib.ListN.{length}
use Rattle.line.proofs.Packs.{zero_at}
use Rattle.line.proofs.around.Goals as goal

pub returns : goal.returns
returns c =
    let s = c.args.s.now in
    let h : length s ≡ 23 = omega arith in
    cc (zero_at s h c.fits-s 14 (omega arith) _ c.eight-rest.ensures)
