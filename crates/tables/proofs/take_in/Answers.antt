-- `tables::take_in` meets its contract: the words say which rows are in use, and the walk takes these.
use Rattle.tables.proofs.TakeIn.{walk-asks, took_in}
use Rattle.tables.proofs.take_in.Goals as goal

pub take_fours-requires : goal.take_fours-requires
take_fours-requires c = let asked = walk-asks c.args.b c.args.e c.args.g c.args.w c.args.t.now c.requires.apart c.requires c.take_words-word.result c.take_words-word.ensures.0 c.take_words-word.new.t c.take_words-word.ensures.1 in record { apart = asked.0; sums_fit = asked.1.0; idles = asked.1.1 }

pub returns : goal.returns
returns c =
    took_in c.args.b c.args.e c.args.g c.args.w c.args.t.now c.requires.apart (rw c.take_words-word.ensures.1 at c.take_fours.ensures)
