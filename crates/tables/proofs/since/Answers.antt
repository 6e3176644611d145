-- `tables::since` meets its contract, by its two cases.
use mathlib.Core.Path.{sym}
use Rattle.tables.proofs.Held.{since-first, since-later}
use Rattle.tables.proofs.since.Goals as goal

pub returns-then-f-eq0 : goal.returns-then-f-eq0
returns-then-f-eq0 c =
    sym (since-first c.args.n c.args.f.longest.0 c.if-f-eq0.true)

pub returns : goal.returns
returns c =
    sym (since-later c.args.n c.args.f.longest.0 c.if-f-eq0.false)
