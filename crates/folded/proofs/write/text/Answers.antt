use Rattle.std.proofs.Common.{refl, ◌∙◌, length-set}
use Rattle.folded.proofs.Writing.{writing_start, writing-asks, writing-on, writing-end}
use Rattle.folded.proofs.write.text.Goals as goal

pub loop-n-init : goal.loop-n-init
loop-n-init c = (length-set c.args.t.now 0 0, refl, λ q. writing_start q _ refl)

pub put_line-a-requires : goal.put_line-a-requires
put_line-a-requires c =
    let i = c.loop-n.invariant in
    writing-asks c.requires (i.2 c.requires) c.loop-n-test.true i.0 i.1

pub loop-n-preserved : goal.loop-n-preserved
loop-n-preserved c =
    let i = c.loop-n.invariant in
    (c.put_line-a.auto.t ∙ i.0, c.put_line-a.auto.out ∙ i.1, λ q. writing-on q (i.2 q) c.loop-n-test.true i.0 i.1 c.put_line-a.result _ _ c.put_line-a.ensures)

pub returns : goal.returns
returns c = λ q. writing-end q (c.loop-n.invariant.2 q) c.loop-n-test.false
