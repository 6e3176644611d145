use mathlib.Core.Path.{refl, ◌∙◌, sym}
use native.Mathlib.Omega.{arith}
use Rattle.report.specs.Pieces.{piece, pieces}
use Rattle.report.proofs.Laying.{lays_nothing, lays_next, lays_as}
use Rattle.report.proofs.Lines.{flat_map_none, next_row, fits-row}
use Rattle.report.proofs.put_rows.Goals as goal

pub loop-row-init : goal.loop-row-init
loop-row-init c =
    let a = c.args in
    (refl, lays_as 0 (sym (flat_map_none (piece a.idle a.rows.now))) (lays_nothing 0 a.out.now))

pub put_row-end-requires : goal.put_row-end-requires
put_row-end-requires c =
    let a = c.args in
    let fits = fits-row (piece a.idle a.rows.now) c.loop-row.row a.n c.loop-row-test.true in
    record { row_bound = (omega (arith, c.requires.n_bound), omega (arith, c.requires.n_bound)); room = omega (arith, c.loop-row.invariant.1.ends, c.requires.room, c.loop-row.invariant.0, fits) }

pub loop-row-preserved : goal.loop-row-preserved
loop-row-preserved c =
    let a = c.args in
    let one = piece a.idle a.rows.now in
    let fits = fits-row one c.loop-row.row a.n c.loop-row-test.true in
    let next = lays_next 0 (pieces a.idle a.rows.now c.loop-row.row) (one c.loop-row.row) a.out.now (omega (arith, c.requires.room, fits)) c.loop-row.invariant.1 c.put_row-end.ensures in
    (c.put_row-end.auto.out ∙ c.loop-row.invariant.0, lays_as 0 (sym (next_row one c.loop-row.row)) next)
