use mathlib.Core.List.{flat_map}
use mathlib.Core.Path.{refl, ◌∙◌, sym}
use native.Mathlib.Omega.{arith}
use lib.ListN.{take, get_or}
use Rattle.report.proofs.Laying.{lays_nothing, lays_next, lays_as}
use Rattle.sheetout.specs.Pieces.{number_text}
use Rattle.report.proofs.Lines.{flat_map_none}
use Rattle.sheetout.proofs.Counting.{next_of, fits-of}
use Rattle.sheetout.proofs.put_numbers.Goals as goal

pub loop-x-init : goal.loop-x-init
loop-x-init c =
    let a = c.args in
    (refl, lays_as a.at (sym (flat_map_none number_text)) (lays_nothing a.at a.out.now))

pub put_number-end-requires : goal.put_number-end-requires
put_number-end-requires c =
    let a = c.args in
    let pre = c.requires in
    omega
    (arith, c.loop-x.invariant.1.ends, pre, c.loop-x.invariant.0, fits-of number_text a.numbers.now c.loop-x.x-index c.loop-x-test.true)

pub loop-x-preserved : goal.loop-x-preserved
loop-x-preserved c =
    let a = c.args in
    let pre = c.requires in
    let numbers = a.numbers.now in
    let fits = fits-of number_text numbers c.loop-x.x-index c.loop-x-test.true in
    let next =
    lays_next a.at (flat_map number_text (take c.loop-x.x-index numbers)) (number_text (get_or numbers c.loop-x.x-index 0)) a.out.now
    (omega (arith, pre, fits))
    c.loop-x.invariant.1
    c.put_number-end.ensures
    in
    let all = lays_as a.at (sym (next_of number_text numbers c.loop-x.x-index c.loop-x-test.true)) next in
    (c.put_number-end.auto.out ∙ c.loop-x.invariant.0, all)
