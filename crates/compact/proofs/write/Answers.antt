use mathlib.Core.Path.{refl, sym, ◌∙◌, subst}
use Rattle.compact.specs.declared.step.State.{State}
use Rattle.compact.proofs.Passes.{given_is, Writing, writing_start, writing-ready, writing-asks, writing-on, writing-end}
use Rattle.compact.proofs.write.Goals as goal

pub loop-n-init : goal.loop-n-init
loop-n-init c =
    let out = c.args.out.now in
    (refl, λ q. subst (λ (a : State). Writing q.trace out a out 0 0) (sym c.new-s.ensures) (writing_start q.trace out))

pub step-g-requires : goal.step-g-requires
step-g-requires c = let q = c.requires in writing-ready q.trace (c.loop-n.invariant.1 q) c.loop-n-test.true

pub lines-at-requires : goal.lines-at-requires
lines-at-requires c =
    let q = c.requires in
    let g = given_is c.args.trace.now c.loop-n.n c.loop-n.s c.item.result c.step-g.result c.item.ensures c.step-g.ensures in
    writing-asks q.trace c.step-g.result g q.fits (c.loop-n.invariant.1 q) c.loop-n-test.true c.loop-n.invariant.0

pub loop-n-preserved : goal.loop-n-preserved
loop-n-preserved c =
    let g = given_is c.args.trace.now c.loop-n.n c.loop-n.s c.item.result c.step-g.result c.item.ensures c.step-g.ensures in
    (c.lines-at.auto.out ∙ c.loop-n.invariant.0, λ q. writing-on q.trace c.step-g.result g q.fits (c.loop-n.invariant.1 q) c.loop-n-test.true c.lines-at.ensures)

pub returns : goal.returns
returns c = λ q. writing-end q.trace (c.loop-n.invariant.1 q) c.loop-n-test.false
