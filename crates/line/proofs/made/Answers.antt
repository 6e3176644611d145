-- `line::made` meets its contract: what is around, a site of digits, and no value (`Packs`).
use mathlib.Core.Path.{◌≡◌}
use native.Mathlib.Omega.{arith}
use lib.ListN.{length}
use Rattle.line.proofs.Packs.{site_good, zero_at}
use Rattle.line.proofs.made.Goals as goal

pub returns : goal.returns
returns c =
    let s = c.args.s.now in
    let h : length s ≡ 23 = omega arith in
    cc (c.around.ensures, c.all_digits-site.ensures, site_good s h c.fits-s _ c.four.ensures, zero_at s h c.fits-s 6 (omega arith) _ c.eight-value.ensures)
