use Prim.Native.Nat.{ℕ, ◌*◌}
use mathlib.Core.List.{flat_map}
use mathlib.Core.Path.{refl, ap, ◌∙◌, sym}
use native.Mathlib.Nat.{add-sub_cancel_left}
use native.Mathlib.Omega.{arith}
use borrow.Rule.Slice.PartMut.{mid_of}
use lib.ListN.{length}
use Rattle.trace.specs.Rows.{columns}
use Rattle.report.specs.Report.{first}
use Rattle.report.proofs.Laying.{lays_nothing, lays_next, lays_as}
use Rattle.sheetout.specs.Pieces.{record_text, row_text}
use Rattle.report.proofs.Lines.{flat_map_none, next_row, fits-row}
use Rattle.sheetout.proofs.put_records.Goals as goal

pub loop-row-init : goal.loop-row-init
loop-row-init c =
    let a = c.args in
    (refl, lays_as a.at (sym (flat_map_none (row_text a.rows.now))) (lays_nothing a.at a.out.now))

pub put_record-end-requires : goal.put_record-end-requires
put_record-end-requires c =
    let a = c.args in
    let pre = c.requires in
    let fits = fits-row (row_text a.rows.now) c.loop-row.row a.n c.loop-row-test.true in
    let part = add-sub_cancel_left (columns * c.loop-row.row) columns in
    let long = ap (λ (k : ℕ). length (record_text c.loop-row.row (mid_of (columns * c.loop-row.row) k a.rows.now))) part in
    omega (arith, c.loop-row.invariant.1.ends, pre.1, c.loop-row.invariant.0, fits, long)

pub loop-row-preserved : goal.loop-row-preserved
loop-row-preserved c =
    let a = c.args in
    let pre = c.requires in
    let text = row_text a.rows.now in
    let fits = fits-row text c.loop-row.row a.n c.loop-row-test.true in
    let part = add-sub_cancel_left (columns * c.loop-row.row) columns in
    let this = lays_as _ (ap (λ (k : ℕ). record_text c.loop-row.row (mid_of (columns * c.loop-row.row) k a.rows.now)) part) c.put_record-end.ensures in
    let next = lays_next a.at (flat_map text (first c.loop-row.row)) (text c.loop-row.row) a.out.now (omega (arith, pre.1, fits)) c.loop-row.invariant.1 this in
    (c.put_record-end.auto.out ∙ c.loop-row.invariant.0, lays_as a.at (sym (next_row text c.loop-row.row)) next)
