-- `tables::clear` meets its contract: the word says which rows are in use, and the walk clears these.
use Rattle.tables.proofs.TakeIn.{clear-asks, cleared-table}
use Rattle.tables.proofs.clear.Goals as goal

pub clear_fours-requires : goal.clear_fours-requires
clear_fours-requires c =
    clear-asks c.args.a c.args.w c.args.t.now c.requires.0 c.requires.1

pub returns : goal.returns
returns c =
    cleared-table c.args.a c.args.w c.args.t.now c.requires.0 c.clear_fours.ensures
