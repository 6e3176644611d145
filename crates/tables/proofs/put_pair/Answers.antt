-- `tables::put_pair` meets its contract, store by store.
use lib.ListN.{length-set}
use native.Mathlib.Omega.{arith}
use Rattle.tables.proofs.put_pair.Goals as goal

pub bounds-t-i-2 : goal.bounds-t-i-2
bounds-t-i-2 c = simp length-set (omega (arith, c.requires))
