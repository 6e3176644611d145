-- `admit::lines` meets its contract: what is reached is kept, and the first refusal is the answer.
use mathlib.Core.Path.{sym, ap, ◌∙◌}
use native.Mathlib.Omega.{arith}
use Rattle.std.proofs.Common.{rules, length}
use Rattle.admit.proofs.Reach.{reached-start, reached-within, reached-end, reached-refused, reached-next}
use Rattle.admit.proofs.lines.Goals as goal

pub loop-tally-init : goal.loop-tally-init
loop-tally-init g c = reached-start c.new-places.result.keys c.requires (ap length c.new-places.ensures)

pub judge-requires : goal.judge-requires
judge-requires g c = reached-within c.requires c.loop-tally.invariant c.loop-tally-test.true

pub returns-in_err-tally : goal.returns-in_err-tally
returns-in_err-tally g c =
    let e = reached-refused c.requires c.loop-tally.invariant c.loop-tally-test.true c.in_err-tally.field-0.0 (sym c.in_err-tally.was ∙ c.judge.ensures.0) in
    rw e (search rules)

pub loop-tally-smaller : goal.loop-tally-smaller
loop-tally-smaller g c =
    let m = (reached-next c.requires c.loop-tally.invariant c.loop-tally-test.true c.in_ok-tally.tally (sym c.in_ok-tally.was ∙ c.judge.ensures.0)).0 in
    omega (arith, c.loop-tally-test.true)

pub loop-tally-preserved : goal.loop-tally-preserved
loop-tally-preserved g c =
    rw c.judge.ensures.1 (reached-next c.requires c.loop-tally.invariant c.loop-tally-test.true c.in_ok-tally.tally (sym c.in_ok-tally.was ∙ c.judge.ensures.0)).1

pub returns : goal.returns
returns g c = c.ended.ensures ∙ sym (reached-end c.requires c.loop-tally.invariant c.loop-tally-test.false)
