-- `compact::put::cost` meets its contract: no cost is no line, and its instructions stand behind it. Assumes nothing.
use Rattle.compact.proofs.Passes.{no_cost, cost-fits, a-cost}
use Rattle.compact.proofs.put.cost.Goals as goal

pub returns-then-v-eq0 : goal.returns-then-v-eq0
returns-then-v-eq0 c = let a = c.args in no_cost a.v.0 a.i.0 a.at a.out.now c.if-v-eq0.true

pub frame-end-requires : goal.frame-end-requires
frame-end-requires c = let a = c.args in cost-fits a.v.0 a.i.0 c.if-v-eq0.false a.at a.out.now c.requires.1.1 c.requires.0

pub returns : goal.returns
returns c = let a = c.args in a-cost a.v.0 a.i.0 c.if-v-eq0.false a.at a.out.now c.requires.1.1 c.frame-end.ensures c.carrying.ensures
