-- `tables::part` meets its contract, by its two cases.
use mathlib.Core.Path.{sym}
use Rattle.tables.proofs.Held.{part-first, part-later}
use Rattle.tables.proofs.part.Goals as goal

pub returns-then-f-eq0 : goal.returns-then-f-eq0
returns-then-f-eq0 c =
    sym (part-first c.args.n c.args.f.longest.0 c.if-f-eq0.true)

pub returns : goal.returns
returns c =
    sym (part-later c.args.n c.args.f.longest.0 c.if-f-eq0.false)
