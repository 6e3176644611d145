-- `forecast::ascending` meets its contract. Assumes nothing.
use Rattle.std.proofs.Common.{rules, tests}
use Rattle.std.proofs.lemmas.List.Sorted.{answers_always}
use Rattle.forecast.proofs.Tests.{below, ascending-asked}
use Rattle.forecast.proofs.ascending.Goals as goal

pub returns : goal.returns
returns c =
    ascending-asked c.args.entries.now c.is_sorted_by.result
    (c.is_sorted_by.ensures.cases below (answers_always _ _ _ (λ f a r g k. search (rules, tests))))
