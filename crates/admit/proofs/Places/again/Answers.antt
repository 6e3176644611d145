-- `admit::Places::again` meets its contract: with a key kept and its tag, the tags are still those of the keys.
use Rattle.admit.proofs.Keys.{tags_kept}
use Rattle.admit.proofs.Places.again.Goals as goal

pub invariant_of-self : goal.invariant_of-self
invariant_of-self c =
    let p = c.args.self.now in
    record { tagged = tags_kept p.keys p.tags p.tagged c.args.count c.key-k.result c.tag.result c.tag.ensures }
