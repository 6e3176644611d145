-- `admit::judge` meets its contract: a line is judged by what a glance sees, or by how it reads.
use mathlib.Core.Path.{sym, ◌∙◌}
use Rattle.line.specs.Read.{read_at_of}
use Rattle.admit.proofs.Judged.{judged-seen}
use Rattle.admit.proofs.judge.Goals as goal

pub judge_whole-requires : goal.judge_whole-requires
judge_whole-requires g c = (c.requires, sym c.glance.ensures ∙ c.in-None.is)

pub returns-in-Some : goal.returns-in-Some
returns-in-Some g c =
    let a = c.args in
    judged-seen a.depth a.sites a.trace.now a.places.now.keys a.t c.in-Some.frame c.stray-against.result c.updated.result c.updated.ensures (read_at_of g.F.Family.family a.trace.now a.t.lines) (sym c.glance.ensures ∙ c.in-Some.is) c.stray-against.ensures
