-- `report::put_row` meets its contract. Assumes nothing.
use Prim.Native.Nat.{ℕ, ◌*◌}
use mathlib.Core.Path.{◌∙◌, ap}
use native.Mathlib.Nat.{add-sub_cancel_left}
use borrow.Rule.Slice.PartMut.{mid_of}
use Rattle.trace.specs.Rows.{columns}
use Rattle.report.specs.Rows.{line_of}
use Rattle.report.proofs.Choice.{lays_none, lays_line}
use Rattle.report.proofs.put_row.Goals as goal

pub returns-then-not-is_printed : goal.returns-then-not-is_printed
returns-then-not-is_printed c = let a = c.args in lays_none a.idle a.rows.now a.row a.at a.out.now c.if-not-is_printed.ensures

pub returns : goal.returns
returns c =
    let a = c.args in
    let rows = a.rows.now in
    lays_line a.idle rows a.row a.at a.out.now c.copy_from_slice.new.self c.requires.row_bound.1 c.requires.room c.if-not-is_printed.ensures
    (c.copy_from_slice.ensures.after ∙ c.report_line-line.ensures.1 ∙ ap (λ (k : ℕ). line_of a.row (mid_of (columns * a.row) k rows)) (add-sub_cancel_left (columns * a.row) columns))
