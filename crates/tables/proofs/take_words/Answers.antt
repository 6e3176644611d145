-- `tables::take_words` meets its contract, store by store.
use native.Mathlib.Omega.{arith}
use lib.ListN.{length-set}
use Rattle.tables.proofs.take_words.Goals as goal

pub bounds-t-b-2 : goal.bounds-t-b-2
bounds-t-b-2 c =
    let a = c.requires in
    simp length-set (omega (arith, a.b_g, a.room))

pub bounds-t-e-2 : goal.bounds-t-e-2
bounds-t-e-2 c =
    let a = c.requires in
    simp length-set (omega (arith, a.e_g, a.room))

pub bounds-t-g-2 : goal.bounds-t-g-2
bounds-t-g-2 c =
    let a = c.requires in
    simp length-set (omega (arith, a.room))
