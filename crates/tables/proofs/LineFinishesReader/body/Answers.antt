-- `tables::Reader::body` of the finish family meets its contract: nothing is asked.
use Rattle.tables.proofs.LineFinishesReader.body.Goals as goal

pub returns : goal.returns
returns c = rw c.requires.asked c.finish_body.ensures
