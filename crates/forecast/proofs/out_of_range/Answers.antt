-- `forecast::out_of_range` meets its contract. Assumes nothing.
use Rattle.std.proofs.Common.{◌∙◌, ltb, ◌||◌, rules, tests}
use Rattle.std.proofs.lemmas.Iterator.{YieldsList-from_slice}
use Rattle.std.proofs.lemmas.Iterator.Search.{any_from_yields_List}
use Rattle.forecast.proofs.Tests.{range-asked}
use Rattle.forecast.proofs.out_of_range.Goals as goal

pub returns : goal.returns
returns c =
    let es = c.args.entries.now in
    any_from_yields_List (λ e. ltb e.factor 2 || ltb 1000 e.factor) _ _ c.any.result c.any.ensures.ran (YieldsList-from_slice es cc) (λ x b q k. search (rules, tests))
    ∙ range-asked es
