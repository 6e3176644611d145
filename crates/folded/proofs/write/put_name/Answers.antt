-- `folded::write::put_name` meets its contract. Assumes nothing.
use Rattle.std.proofs.Common.{[], ◌∷◌, arith}
use Rattle.report.proofs.Laying.{lays_next, lays_as}
use Rattle.folded.proofs.Stacks.{piece-length, piece-some}
use Rattle.folded.proofs.write.put_name.Goals as goal

pub returns : goal.returns
returns c =
    let a = c.args in
    let n = piece-length a.k a.name.now in
    lays_as a.at (piece-some a.k a.name.now c.if-k-eq0.false)
    (lays_next a.at (59 ∷ []) a.name.now a.out.now (omega (arith, c.requires, n (omega (arith, c.if-k-eq0.false)))) c.character-end.ensures c.text-2.ensures)
