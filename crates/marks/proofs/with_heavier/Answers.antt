-- `marks::with_heavier` meets its contract: the scratch is cleared, the line is asked, and the root is read over rows of its
-- own.
use mathlib.Core.Path.{◌≡◌, ◌∙◌}
use lib.ListN.{length, replicate}
use Rattle.marks.proofs.Heavier.{depth-some, heavier-asks, heavier-leaves}
use Rattle.marks.proofs.with_heavier.Goals as goal

pub overflow_sub-depth : goal.overflow_sub-depth
overflow_sub-depth c = depth-some c.requires

pub body-f-requires : goal.body-f-requires
body-f-requires c =
    let blank : c.fill.new.self ≡ replicate (length c.args.scratch.now) 0 = c.fill.ensures.after (λ y e. e) in
    heavier-asks c.requires c.ask_heavier-asking.result c.args.line c.ask_heavier-asking.ensures.0 c.ask_heavier-asking.ensures.1 (blank) c.no_rows-rows.ensures

pub returns : goal.returns
returns c =
    let blank : c.fill.new.self ≡ replicate (length c.args.scratch.now) 0 = c.fill.ensures.after (λ y e. e) in
    record { heavier_leaves = heavier-leaves c.requires c.ask_heavier-asking.result c.args.line c.ask_heavier-asking.ensures.0 c.ask_heavier-asking.ensures.1 c.body-f.auto.marks c.body-f.ensures.body_leaves; scratch_after = c.body-f.ensures.t_unchanged ∙ blank }
