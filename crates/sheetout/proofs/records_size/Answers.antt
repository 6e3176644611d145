use Prim.Native.Nat.{ℕ, ◌*◌}
use mathlib.Core.Path.{ap, ◌∙◌}
use native.Mathlib.Nat.{add-sub_cancel_left}
use borrow.Rule.Slice.PartMut.{mid_of}
use lib.ListN.{length}
use Rattle.trace.specs.Rows.{columns}
use Rattle.sheetout.specs.Pieces.{record_text}
use Rattle.sheetout.proofs.Counting.{counted_none, counted-more}
use Rattle.sheetout.proofs.records_size.Goals as goal

pub loop-row-init : goal.loop-row-init
loop-row-init c = counted_none c.args.rows.now

pub loop-row-preserved : goal.loop-row-preserved
loop-row-preserved c =
    let a = c.args in
    counted-more a.rows.now _ c.loop-row.invariant (c.record_size-size.ensures.0 ∙ ap (λ (k : ℕ). length (record_text c.loop-row.row (mid_of (columns * c.loop-row.row) k a.rows.now))) (add-sub_cancel_left (columns * c.loop-row.row) columns)) c.record_size-size.ensures.1
