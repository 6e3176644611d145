-- `folded::named` meets its contract. Assumes nothing.
use mathlib.Core.Path.{refl}
use native.Mathlib.Omega.{arith}
use Rattle.folded.proofs.Whole.{few, measure_asks, short_18, write_asks, all-written, all-zero}
use Rattle.folded.proofs.named.Goals as goal

pub overflow_add-count : goal.overflow_add-count
overflow_add-count c = omega (arith, few c.requires.0)

pub find-requires : goal.find-requires
find-requires c = omega (arith, few c.requires.0)

pub fits-requires : goal.fits-requires
fits-requires c = measure_asks c.requires.0 c.args.lists.project.now c.args.lists.stock.now _ c.find.ensures

pub returns-then-not-fits : goal.returns-then-not-fits
returns-then-not-fits c =
    let a = c.args in
    let found = c.find.ensures in
    λ q. rw c.refused.ensures
    (short_18 q a.lists.project.now a.lists.stock.now _ found a.out.now c.fits.result (c.fits.ensures (measure_asks q a.lists.project.now a.lists.stock.now _ found)) c.if-not-fits.true a.scratch.now)

pub text-n-requires : goal.text-n-requires
text-n-requires c =
    let a = c.args in
    let q = c.requires.0 in
    let found = c.find.ensures in
    write_asks q a.lists.project.now a.lists.stock.now _ found a.out.now c.fits.result (c.fits.ensures (measure_asks q a.lists.project.now a.lists.stock.now _ found)) c.if-not-fits.false a.scratch.now refl

pub returns : goal.returns
returns c =
    let a = c.args in
    let found = c.find.ensures in
    let yes = c.if-not-fits.false in
    λ q. (
    let is = c.fits.ensures (measure_asks q a.lists.project.now a.lists.stock.now _ found) in
    all-written q a.lists.project.now a.lists.stock.now _ found a.out.now c.fits.result is yes c.text-n.result _ a.scratch.now _
    (c.text-n.ensures (write_asks q a.lists.project.now a.lists.stock.now _ found a.out.now c.fits.result is yes a.scratch.now refl))
    (all-zero a.scratch.now c.text-n.new.t _ c.text-n.auto.t c.zero.ensures)
    )
