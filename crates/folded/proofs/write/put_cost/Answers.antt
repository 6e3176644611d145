-- `folded::write::put_cost` meets its contract. Assumes nothing.
use Rattle.folded.proofs.Writing.{lays_cost}
use Rattle.folded.proofs.write.put_cost.Goals as goal

pub returns : goal.returns
returns c =
    let a = c.args in
    lays_cost a.at a.v a.out.now c.requires c.character-one.ensures c.character-one.auto.out c.decimal-two.ensures c.character.ensures
