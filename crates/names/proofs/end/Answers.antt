-- `names::end` meets its contract: the first line feed from the place on ends the line. Assumes nothing.
use Rattle.std.proofs.Common.{◌≡◌, ◌≢◌, ◌∙◌, drop, length-drop, arith, rules, tests}
use Rattle.std.proofs.lemmas.List.{take_all}
use Rattle.std.proofs.lemmas.Iterator.{IsFirst-from_position, YieldsList-from_slice}
use Rattle.names.proofs.Lines.{line-length}
use Rattle.names.proofs.end.Goals as goal

pub returns-in-Some : goal.returns-in-Some
returns-in-Some c =
    let s = c.args.text.now in
    let a = c.args.from in
    let rest : c.in-Some.rest.now ≡ drop a s = c.in-Some.ensures.lookup.0.2 ∙ take_all _ (drop a s) (omega (arith, length-drop a s)) in
    let first = IsFirst-from_position _ _ c.position.result (λ x. x ≡ 10) (λ x. x ≢ 10) c.position.ensures.ran (YieldsList-from_slice c.in-Some.rest.now cc) (λ x q k. search (rules, tests)) (λ x q k. search (rules, tests)) in
    rw (← rest) (omega (arith, line-length c.in-Some.rest.now c.position.result first))
