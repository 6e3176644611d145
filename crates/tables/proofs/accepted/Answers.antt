-- `tables::accepted` meets its contract: what is cleared, read, counted and moved comes to the promise.
use mathlib.Core.Path.{◌≡◌, ◌∙◌}
use lib.ListN.{length}
use native.Mathlib.Omega.{arith}
use Rattle.weigh.specs.Weighed.{Tabled}
use Rattle.walk.specs.Weight.{by_asking}
use Rattle.walk.proofs.Weight.{factors_tabled}
use Rattle.walk.proofs.Zeros.{cleared-all}
use Rattle.tables.proofs.Whole.{limits, rows-room, table-room, Blank, credit_asks, root-asks, Read, root_counts, promised}
use Rattle.tables.proofs.accepted.Goals as goal

pub overflow_add-count : goal.overflow_add-count
overflow_add-count g c = let l = limits c.requires.admitted in omega (arith, l.2, l.3)

pub overflow_mul-count : goal.overflow_mul-count
overflow_mul-count g c = let l = limits c.requires.admitted in omega (arith, l.2, l.3)

pub zero-requires-2 : goal.zero-requires-2
zero-requires-2 g c = rows-room c.requires.admitted

pub credit_of-before-requires : goal.credit_of-before-requires
credit_of-before-requires g c =
    let blank : Blank c.requires.admitted c.zero.new.a c.zero-2.new.a = record { scratch_is = c.zero.ensures ∙ cleared-all c.args.scratch.now; rows_are = c.zero-2.ensures } in
    credit_asks c.requires.admitted (blank)

pub overflow_sub-depth : goal.overflow_sub-depth
overflow_sub-depth g c = (limits c.requires.admitted).0

pub overflow_add-count-2 : goal.overflow_add-count-2
overflow_add-count-2 g c = let l = limits c.requires.admitted in omega (arith, l.2, l.3)

pub overflow_mul-count-2 : goal.overflow_mul-count-2
overflow_mul-count-2 g c = let l = limits c.requires.admitted in omega (arith, l.2, l.3)

pub body-f-requires-clause-body : goal.body-f-requires-clause-body
body-f-requires-clause-body g c =
    let tabled : Tabled (by_asking c.args.asking.now) = factors_tabled c.args.asking.now c.requires.factors in
    let blank : Blank c.requires.admitted c.zero.new.a c.zero-2.new.a = record { scratch_is = c.zero.ensures ∙ cleared-all c.args.scratch.now; rows_are = c.zero-2.ensures } in
    root-asks c.requires.admitted (by_asking c.args.asking.now) (tabled) (blank)

pub returned-requires : goal.returned-requires
returned-requires g c =
    let tabled : Tabled (by_asking c.args.asking.now) = factors_tabled c.args.asking.now c.requires.factors in
    let blank : Blank c.requires.admitted c.zero.new.a c.zero-2.new.a = record { scratch_is = c.zero.ensures ∙ cleared-all c.args.scratch.now; rows_are = c.zero-2.ensures } in
    let read : Read c.requires.admitted (by_asking c.args.asking.now) (tabled) c.credit_of-before.result c.body-f.result (c.body-f.new.t) (c.body-f.new.rows) = record { t₁ = c.zero.new.a; r₁ = c.zero-2.new.a; blank = blank; taken = c.credit_of-before.ensures; scratch_same = c.body-f.auto.t ∙ c.zero.auto.a; rows_same = c.body-f.auto.rows ∙ c.zero-2.auto.a; leaves = c.body-f.ensures } in
    root_counts _ _ _ (read)

pub overflow_add-count-3 : goal.overflow_add-count-3
overflow_add-count-3 g c = let l = limits c.requires.admitted in omega (arith, l.2, l.3)

pub settle-requires : goal.settle-requires
settle-requires g c =
    let tabled : Tabled (by_asking c.args.asking.now) = factors_tabled c.args.asking.now c.requires.factors in
    let blank : Blank c.requires.admitted c.zero.new.a c.zero-2.new.a = record { scratch_is = c.zero.ensures ∙ cleared-all c.args.scratch.now; rows_are = c.zero-2.ensures } in
    let read : Read c.requires.admitted (by_asking c.args.asking.now) (tabled) c.credit_of-before.result c.body-f.result (c.body-f.new.t) (c.body-f.new.rows) = record { t₁ = c.zero.new.a; r₁ = c.zero-2.new.a; blank = blank; taken = c.credit_of-before.ensures; scratch_same = c.body-f.auto.t ∙ c.zero.auto.a; rows_same = c.body-f.auto.rows ∙ c.zero-2.auto.a; leaves = c.body-f.ensures } in
    let counts-long : length c.returned.new.rows ≡ length c.args.rows.now = c.returned.auto.rows ∙ (read).rows_same in
    let h = c.requires.admitted in
    (omega (arith, (read).scratch_same, table-room h), omega (arith, counts-long, rows-room h))

pub returns : goal.returns
returns g c =
    let tabled : Tabled (by_asking c.args.asking.now) = factors_tabled c.args.asking.now c.requires.factors in
    let blank : Blank c.requires.admitted c.zero.new.a c.zero-2.new.a = record { scratch_is = c.zero.ensures ∙ cleared-all c.args.scratch.now; rows_are = c.zero-2.ensures } in
    let read : Read c.requires.admitted (by_asking c.args.asking.now) (tabled) c.credit_of-before.result c.body-f.result (c.body-f.new.t) (c.body-f.new.rows) = record { t₁ = c.zero.new.a; r₁ = c.zero-2.new.a; blank = blank; taken = c.credit_of-before.ensures; scratch_same = c.body-f.auto.t ∙ c.zero.auto.a; rows_same = c.body-f.auto.rows ∙ c.zero-2.auto.a; leaves = c.body-f.ensures } in
    let scratch_long : length c.settle.new.t ≡ length c.args.scratch.now = c.settle.auto.t ∙ (read).scratch_same in
    let counts-long : length c.returned.new.rows ≡ length c.args.rows.now = c.returned.auto.rows ∙ (read).rows_same in
    let rows_long : length c.settle.new.rows ≡ length c.args.rows.now = c.settle.auto.rows ∙ counts-long in
    promised _ _ _ (read) c.returned.ensures c.settle.ensures (scratch_long) (rows_long)
