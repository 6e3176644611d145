-- `tables::take_next` meets its contract: four rows, or those that are left.
use Prim.Native.Nat.{◌+◌}
use native.Mathlib.Omega.{arith}
use Rattle.tables.proofs.Loops.{fewer, taken-same}
use Rattle.tables.proofs.take_next.Goals as goal

pub take-requires : goal.take-requires
take-requires c =
    record { apart = fewer (c.args.from + 8) c.if-from-w.true c.requires.apart; sums_fit = λ k l. c.requires.sums_fit k (omega arith) }

pub returns-then-from-w : goal.returns-then-from-w
returns-then-from-w c =
    taken-same c.args.w (c.args.from + 8) (λ i f s w. (s, s)) (λ i f s w. (w, omega arith)) c.take.ensures

pub returns : goal.returns
returns c =
    taken-same c.args.w (c.args.from + 8) (λ i f s w. (w, w)) (λ i f s w. (omega arith, w)) c.take_rows.ensures
