-- `names::is_name` meets its contract: some characters, each of which may stand in a name. Assumes nothing.
use Rattle.std.proofs.Common.{◌∙◌, sym, rules, tests}
use Rattle.std.proofs.lemmas.Iterator.{YieldsList-from_slice}
use Rattle.std.proofs.lemmas.Iterator.Search.{all_from_yields_List}
use Rattle.names.specs.Names.{name_char}
use Rattle.names.proofs.Names.{chars-all, name-start}
use Rattle.names.proofs.is_name.Goals as goal

pub returns-then-not-is_empty : goal.returns-then-not-is_empty
returns-then-not-is_empty c =
    let s = c.args.text.now in
    all_from_yields_List name_char _ _ c.all.result c.all.ensures.ran (YieldsList-from_slice s cc) (λ x b q k. search (rules, tests))
    ∙ sym (chars-all s)
    ∙ sym (name-start s (search (rules, tests)))
