-- `compact::accepted` meets its contract. Assumes nothing.
use Rattle.compact.proofs.Whole.{short_21, fits, all-written}
use Rattle.compact.proofs.accepted.Goals as goal

pub returns-then-not-fits : goal.returns-then-not-fits
returns-then-not-fits c = let a = c.args in λ q. rw c.refused.ensures (short_21 q a.out.now c.fits.result (c.fits.ensures q) c.if-not-fits.true)

pub write-requires : goal.write-requires
write-requires c = let a = c.args in let q = c.requires in fits q a.out.now c.fits.result (c.fits.ensures q) c.if-not-fits.false

pub returns : goal.returns
returns c =
    let a = c.args in
    λ q. (let h = c.if-not-fits.false in all-written q a.out.now c.fits.result (c.fits.ensures q) h c.write.result _ (c.write.ensures (fits q a.out.now c.fits.result (c.fits.ensures q) h)))
