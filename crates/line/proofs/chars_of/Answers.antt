-- `line::chars_of` meets its contract: the fields are filled in one after the other. Assumes nothing.
use mathlib.Core.Path.{◌∙◌}
use native.Mathlib.Omega.{arith}
use borrow.Rule.Slice.PartMut.{put_mid}
use lib.ListN.{replicate}
use Rattle.line.proofs.Filled.{Filled, empty, fill, filled_length, sites, values, files, all-fields}
use Rattle.line.proofs.chars_of.Goals as goal
use Rattle.line.proofs.chars_of.Goals.{After-put_digits-2, After-put_digits-3, After-put_digits-4}

site-put : (c : After-put_digits-2) → Filled ((put_mid 2 4 ((put_mid 0 2 (replicate 23 10) c.put_digits.new.part)) c.put_digits-2.new.part)) (sites c.args.x) 6 17
site-put c = fill 4 17 c.args.x.site c.put_digits-2.new.part (fill 2 21 c.args.x.kind c.put_digits.new.part (empty 23) c.from.ensures c.put_digits.ensures) c.from-2.ensures c.put_digits-2.ensures

value-put : (c : After-put_digits-3) → Filled ((put_mid 6 8 ((put_mid 2 4 ((put_mid 0 2 (replicate 23 10) c.put_digits.new.part)) c.put_digits-2.new.part)) c.put_digits-3.new.part)) (values c.args.x) 14 9
value-put c = fill 8 9 c.args.x.value c.put_digits-3.new.part ((fill 4 17 c.args.x.site c.put_digits-2.new.part (fill 2 21 c.args.x.kind c.put_digits.new.part (empty 23) c.from.ensures c.put_digits.ensures) c.from-2.ensures c.put_digits-2.ensures)) c.from-3.ensures c.put_digits-3.ensures

file-put : (c : After-put_digits-4) → Filled ((put_mid 14 4 ((put_mid 6 8 ((put_mid 2 4 ((put_mid 0 2 (replicate 23 10) c.put_digits.new.part)) c.put_digits-2.new.part)) c.put_digits-3.new.part)) c.put_digits-4.new.part)) (files c.args.x) 18 5
file-put c = fill 4 5 c.args.x.file c.put_digits-4.new.part ((fill 8 9 c.args.x.value c.put_digits-3.new.part ((fill 4 17 c.args.x.site c.put_digits-2.new.part (fill 2 21 c.args.x.kind c.put_digits.new.part (empty 23) c.from.ensures c.put_digits.ensures) c.from-2.ensures c.put_digits-2.ensures)) c.from-3.ensures c.put_digits-3.ensures)) c.from-4.ensures c.put_digits-4.ensures

pub slice_bounds-chars-end-2 : goal.slice_bounds-chars-end-2
slice_bounds-chars-end-2 c = omega (arith, filled_length (fill 2 21 c.args.x.kind c.put_digits.new.part (empty 23) c.from.ensures c.put_digits.ensures))

pub slice_bounds-chars-end-3 : goal.slice_bounds-chars-end-3
slice_bounds-chars-end-3 c = omega (arith, filled_length (site-put (goal.at.slice_bounds-chars-end-3 c).After-put_digits-2))

pub slice_bounds-chars-end-4 : goal.slice_bounds-chars-end-4
slice_bounds-chars-end-4 c = omega (arith, filled_length (value-put (goal.at.slice_bounds-chars-end-4 c).After-put_digits-3))

pub slice_bounds-chars-end-5 : goal.slice_bounds-chars-end-5
slice_bounds-chars-end-5 c = omega (arith, filled_length (file-put (goal.at.slice_bounds-chars-end-5 c).After-put_digits-4))

pub returns : goal.returns
returns c = (fill 4 1 c.args.x.column c.put_digits-5.new.part (file-put (goal.at.returns c).After-put_digits-4) c.from-5.ensures c.put_digits-5.ensures).is ∙ all-fields c.args.x
