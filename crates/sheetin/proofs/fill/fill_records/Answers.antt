use Rattle.std.proofs.Common.{◌∙◌, arith, ◌*◌, ◌+◌}
use native.Mathlib.Nat.{add-sub_cancel_left}
use borrow.Rule.Slice.PartMut.{mid_len}
use Rattle.trace.specs.Rows.{columns}
use Rattle.sheetin.proofs.Stores.{storing_none, stored-some, storing_more, storing_end}
use Rattle.sheetin.proofs.fill.fill_records.Goals as goal

pub loop-row-init : goal.loop-row-init
loop-row-init c = storing_none c.args.s.now c.args.room.now

pub unwrap-rest-requires : goal.unwrap-rest-requires
unwrap-rest-requires c =
    stored-some c.args.s.now c.loop-row.rest.now c.args.room.now c.loop-row.room c.loop-row.row c.args.n c.loop-row.invariant c.requires.0 c.loop-row-test.true _
    (mid_len (columns * c.loop-row.row) (columns * c.loop-row.row + columns) c.loop-row.room (let pre = c.requires in omega (arith, pre.1, c.loop-row.invariant.long)) ∙ add-sub_cancel_left (columns * c.loop-row.row) columns)
    _ _ c.fill_record.ensures

pub loop-row-preserved : goal.loop-row-preserved
loop-row-preserved c =
    storing_more c.args.s.now c.loop-row.rest.now c.args.room.now c.loop-row.room c.loop-row.row c.args.n c.loop-row.invariant c.requires.0 c.loop-row-test.true _
    (mid_len (columns * c.loop-row.row) (columns * c.loop-row.row + columns) c.loop-row.room (let pre = c.requires in omega (arith, pre.1, c.loop-row.invariant.long)) ∙ add-sub_cancel_left (columns * c.loop-row.row) columns)
    _ _ c.fill_record.ensures _ c.unwrap-rest.ensures c.requires.1

pub returns : goal.returns
returns c = storing_end c.args.s.now c.loop-row.rest.now c.args.room.now c.loop-row.room c.loop-row.row c.args.n c.loop-row.invariant c.requires.0 (omega arith)
