-- `tables::forecast` meets its contract: what is accepted is asked, and a refusal leaves all as it was.
use mathlib.Core.Path.{◌∙◌, sym, ◌≡◌}
use Rattle.std.proofs.Common.{rules, Err}
use Rattle.line.specs.Family.{Base}
use Rattle.trace.specs.Promise.{tables}
use Rattle.walk.proofs.Profiled.{list_refused, list_factors, forecast_promise}
use Rattle.tables.specs.Root.{lent}
use Rattle.tables.proofs.Whole.{admitted}
use Rattle.tables.proofs.forecast.Goals as goal

pub accepted-requires-clause-factors : goal.accepted-requires-clause-factors
accepted-requires-clause-factors c =
    let a = c.args in
    let h = admitted Base a.text.now a.depth a.sites a.scratch.now a.rows.now c.in_ok-admitted.admitted (sym c.in_ok-admitted.was ∙ c.for_tables.ensures) in
    list_factors tables a.text.now a.depth a.sites (lent a.scratch.now a.rows.now) h.t h.is c.in_ok-admitted.admitted.sites h.count_is a.entries.now c.in_ok-check.field-0 (sym c.in_ok-check.was ∙ c.check.ensures) c.factors-factors.result c.factors-factors.ensures

pub returns-in_err-check : goal.returns-in_err-check
returns-in_err-check c =
    let a = c.args in
    let h = admitted Base a.text.now a.depth a.sites a.scratch.now a.rows.now c.in_ok-admitted.admitted (sym c.in_ok-admitted.was ∙ c.for_tables.ensures) in
    let e : c.from_residual-in_err-check.result ≡ Err c.in_err-check.field-0.0 = search rules in
    rw e (list_refused tables a.text.now a.depth a.sites (lent a.scratch.now a.rows.now) h.t h.is c.in_ok-admitted.admitted.sites h.count_is a.entries.now c.in_err-check.field-0.0 (sym c.in_err-check.was ∙ c.check.ensures))

pub returns : goal.returns
returns c =
    let a = c.args in
    let h = admitted Base a.text.now a.depth a.sites a.scratch.now a.rows.now c.in_ok-admitted.admitted (sym c.in_ok-admitted.was ∙ c.for_tables.ensures) in
    forecast_promise tables a.text.now a.depth a.sites (lent a.scratch.now a.rows.now) h.t h.is c.in_ok-admitted.admitted.sites h.count_is a.entries.now c.in_ok-check.field-0 (sym c.in_ok-check.was ∙ c.check.ensures) c.factors-factors.result c.factors-factors.ensures
    c.accepted.result (lent c.accepted.new.scratch c.accepted.new.rows) c.accepted.ensures
