-- `tables::take` meets its contract: what is read of the rows is what is stored.
use Rattle.tables.proofs.Fours.{took}
use Rattle.tables.proofs.take.Goals as goal

pub returns : goal.returns
returns g c =
    let a = c.args in
    took g.row.N a.b a.e a.g a.from a.t.now c.requires.apart _ _ _ _ _ c.rows_at.ensures c.rows_at-x.ensures c.rows_at-y.ensures c.sums-all.ensures c.no_pair-none.ensures c.put_rows.ensures c.put_rows-2.ensures c.put_rows-3.ensures c.put_rows-4.ensures
