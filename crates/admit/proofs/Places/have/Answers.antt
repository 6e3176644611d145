-- `admit::Places::have` meets its contract: a key whose tag is not among the tags is not among the keys.
use mathlib.Core.Path.{sym, ◌∙◌}
use lib.ListN.{take}
use Rattle.admit.proofs.Keys.{has-any, tags_first, tag_missing}
use Rattle.admit.proofs.Places.have.Goals as goal

pub returns-else-contains : goal.returns-else-contains
returns-else-contains c =
    let a = c.args in
    let p = a.self.now in
    c.if-contains.false
    ∙ sym (tag_missing (take a.count p.keys) (take a.count p.tags) (tags_first p.keys p.tags p.tagged a.count) a.key c.tag.result c.tag.ensures
    (sym (has-any c.tag.result (take a.count p.tags)) ∙ sym c.contains.ensures.value ∙ c.if-contains.false))
