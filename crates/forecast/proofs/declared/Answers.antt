-- `forecast::declared` meets its contract. Assumes nothing.
use Rattle.std.proofs.Common.{◌∙◌, leb, rules, tests}
use Rattle.std.proofs.lemmas.Iterator.{YieldsList-from_slice}
use Rattle.std.proofs.lemmas.Iterator.Search.{all_from_yields_List}
use Rattle.forecast.proofs.Tests.{declared-asked}
use Rattle.forecast.proofs.declared.Goals as goal

pub returns : goal.returns
returns c =
    let es = c.args.entries.now in
    all_from_yields_List (λ e. leb e.row c.args.sites) _ _ c.all.result c.all.ensures.ran (YieldsList-from_slice es cc) (λ x b q k. search (rules, tests))
    ∙ declared-asked c.args.sites es
