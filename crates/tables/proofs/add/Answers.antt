-- `tables::add` meets its contract: what is read is put back with the row added to it.
use Rattle.tables.proofs.add.Goals as goal

pub sum-all-requires : goal.sum-all-requires
sum-all-requires c = rw c.pair_at.ensures c.requires.1

pub returns : goal.returns
returns c =
    rw (c.put_pair.ensures, c.sum-all.ensures, c.pair_at.ensures)
