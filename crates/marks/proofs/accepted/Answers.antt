-- `marks::accepted` meets its contract: what is cleared, read, counted and read once more comes to the promise.
use mathlib.Core.Path.{◌∙◌}
use native.Mathlib.Omega.{arith}
use Rattle.walk.specs.Weight.{by_asking}
use Rattle.walk.proofs.Weight.{factors_tabled}
use Rattle.marks.proofs.Whole.{bounds, rows_in, blanked, credit_asks, body-asks, was_read, count-asks, on-asks, promised}
use Rattle.marks.proofs.accepted.Goals as goal

pub overflow_add-count : goal.overflow_add-count
overflow_add-count g c = let l = bounds c.requires.admitted in omega (arith, l.2, l.3)

pub overflow_mul-count : goal.overflow_mul-count
overflow_mul-count g c = let l = bounds c.requires.admitted in omega (arith, l.2, l.3)

pub zero-requires : goal.zero-requires
zero-requires g c = rows_in c.requires.admitted

pub credit_of-before-requires : goal.credit_of-before-requires
credit_of-before-requires g c = credit_asks c.requires.admitted (blanked c.requires.admitted (c.fill.ensures.after (λ y e. e)) c.zero.ensures)

pub overflow_sub-depth : goal.overflow_sub-depth
overflow_sub-depth g c = (bounds c.requires.admitted).0

pub root-f-requires-clause-body_asks : goal.root-f-requires-clause-body_asks
root-f-requires-clause-body_asks g c =
    let blank = blanked c.requires.admitted (c.fill.ensures.after (λ y e. e)) c.zero.ensures in
    let tabled = factors_tabled c.args.asking.now c.requires.factors in
    body-asks c.requires.admitted (by_asking c.args.asking.now) tabled blank

pub returned-requires : goal.returned-requires
returned-requires g c =
    let blank = blanked c.requires.admitted (c.fill.ensures.after (λ y e. e)) c.zero.ensures in
    let tabled = factors_tabled c.args.asking.now c.requires.factors in
    let read = was_read c.requires.admitted (by_asking c.args.asking.now) tabled blank c.credit_of-before.ensures c.root-f.ensures.t_unchanged c.root-f.auto.marks c.root-f.auto.rows c.zero.auto.a c.root-f.ensures.body_leaves in
    count-asks _ _ _ read

pub column-requires : goal.column-requires
column-requires g c =
    let blank = blanked c.requires.admitted (c.fill.ensures.after (λ y e. e)) c.zero.ensures in
    let tabled = factors_tabled c.args.asking.now c.requires.factors in
    let read = was_read c.requires.admitted (by_asking c.args.asking.now) tabled blank c.credit_of-before.ensures c.root-f.ensures.t_unchanged c.root-f.auto.marks c.root-f.auto.rows c.zero.auto.a c.root-f.ensures.body_leaves in
    on-asks _ _ _ read c.returned.new.rows c.returned.ensures (c.returned.auto.rows ∙ read.rows_same)

pub returns : goal.returns
returns g c =
    let blank = blanked c.requires.admitted (c.fill.ensures.after (λ y e. e)) c.zero.ensures in
    let tabled = factors_tabled c.args.asking.now c.requires.factors in
    let read = was_read c.requires.admitted (by_asking c.args.asking.now) tabled blank c.credit_of-before.ensures c.root-f.ensures.t_unchanged c.root-f.auto.marks c.root-f.auto.rows c.zero.auto.a c.root-f.ensures.body_leaves in
    let counted = c.returned.auto.rows ∙ read.rows_same in
    promised _ _ _ read c.returned.new.rows c.returned.ensures counted c.column.new.t c.column.new.rows c.column.ensures.column_leaves c.column.ensures.t_unchanged (c.column.auto.rows ∙ counted)
