-- `line::line_at` meets its contract: the chunk at n is line n, and there is none where it is not whole (`At`).
use Rattle.line.proofs.At.{chunk_is}
use Rattle.line.proofs.line_at.Goals as goal

pub returns : goal.returns
returns c =
    let f = c.as_chunks.ensures in
    chunk_is c.args.text.now c.args.n c.as_chunks.result.0.now f.front f.front_len c.get.result c.get.ensures.lookup
