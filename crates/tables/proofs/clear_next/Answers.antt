-- `tables::clear_next` meets its contract: four rows, or those that are left.
use Prim.Native.Nat.{◌+◌}
use Rattle.std.proofs.Common.{rules}
use native.Mathlib.Omega.{arith}
use Rattle.tables.proofs.Loops.{cleared-fill, cleared-same}
use Rattle.tables.proofs.clear_next.Goals as goal

pub returns-then-from-w : goal.returns-then-from-w
returns-then-from-w c = cleared-fill c.args.a c.args.w c.args.t.now c.args.from (c.args.from + 8) _ _ (omega arith) (omega arith) c.if-from-w.true (omega arith) (search rules)

pub returns-then-from-w-2 : goal.returns-then-from-w-2
returns-then-from-w-2 c = cleared-same c.args.w (c.args.from + 8) (λ i f s w. (w, w)) (λ i f s w. (omega arith, w)) (cleared-fill c.args.a c.args.w c.args.t.now c.args.from c.args.w _ _ (omega arith) (omega arith) (omega arith) (omega arith) (search rules))
