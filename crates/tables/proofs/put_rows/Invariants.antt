-- `tables::put_rows` meets its contract. The invariant: the first `k` rows are stored.
use Prim.Native.Nat.{◌*◌}
use Rattle.tables.specs.Walks.{numbers, Laid}
use Rattle.tables.proofs.put_rows.Given as goal

abbrev pub invariant-loop-k : goal.invariant-loop-k
invariant-loop-k g l = Laid (2 * l.k) l.i (numbers l.x) l.initial.t l.t
