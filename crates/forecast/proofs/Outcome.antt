-- The forecast's promise determines its outcome, and some outcome always meets it.
use mathlib.Core.Path.{◌≡◌, sym, ◌∙◌, ap, subst}
use mathlib.Core.List.{List, [], ◌∷◌}
use Prim.Native.Nat.{ℕ}
use native.Mathlib.Omega.{arith}
use lib.ListN.{length}
use Rattle.line.specs.declared.Frame.{Frame}
use Rattle.trace.specs.Answer.{Answer}
use Rattle.trace.specs.Shape.{sites}
use Rattle.trace.specs.Refusals.{Verdict, accepted, verdict}
use Rattle.trace.specs.Promise.{Engine, Lent, enough}
use Rattle.trace.specs.Tree.{Parts}
use Rattle.trace.proofs.Outcome.{kept_unique, kept-met, Housed, accepted_housed}
use Rattle.weigh.specs.Weighed.{reweighed}
use Rattle.weigh.proofs.Alike.{alike_length}
use Rattle.weigh.proofs.Accepted.{reweighed_alike, reweighed-sites, reweighed_parts}
use Rattle.forecast.specs.declared.Entry.{Entry}
use Rattle.forecast.specs.Rewritten.{rewritten}
use Rattle.forecast.specs.Asked.{asked, asking}
use Rattle.forecast.specs.Promise.{Forecast}
use Rattle.forecast.specs.ByRow.{by_entries}
use Rattle.forecast.proofs.ByRow.{rewritten-weighed}
use Rattle.forecast.proofs.Asked.{entries-tabled, asked_good, forecast_of}

module _ (es : List Entry) (t : List Frame) (D : ℕ) (p : Parts D t) where
  same : reweighed (by_entries es) 0 (0 ∷ []) t ≡ rewritten es t
  same = sym (rewritten-weighed es t D p)

  -- LAW: the rewritten trace has as many lines and as many sites
  pub rewritten-length : length (rewritten es t) ≡ length t
  rewritten-length = ap length (sym same) ∙ sym (alike_length t (reweighed (by_entries es) 0 (0 ∷ []) t) (reweighed_alike (by_entries es) t 0 (0 ∷ [])))

  pub rewritten-sites : sites (rewritten es t) ≡ sites t
  rewritten-sites = ap sites (sym same) ∙ reweighed-sites (by_entries es) t 0 (0 ∷ [])

  -- and it is a trace, where the entries may be asked
  pub rewritten-parts : asked (sites t) es ≡ 0 → Parts D (rewritten es t)
  rewritten-parts may = subst (Parts D) same (reweighed_parts (by_entries es) (entries-tabled es (asked_good (sites t) es may).1) D 0 t p)

-- its room is there where that of the trace is
housed : (e : Engine) (es : List Entry) (v : Verdict) (before : Lent) → ((t : List Frame) → v ≡ accepted t → Housed e before t) → (u : List Frame) → asking es v ≡ accepted u → Housed e before u
housed e es v before h u a =
    let o = forecast_of es v u a in
    let t = o.trace in
    let x = h t o.accepts in
    subst (Housed e before) (sym o.is)
    (record {
      D = x.D;
      parts = rewritten-parts es t x.D x.parts o.may;
      rows_there = omega (arith, x.rows_there, rewritten-sites es t x.D x.parts);
      marks_there = λ q. omega (arith, x.marks_there q, rewritten-length es t x.D x.parts);
    })

module _ (e : Engine) (es : List Entry) (s : List ℕ) (D M : ℕ) (before : Lent) where
  here : (u : List Frame) → asking es (verdict s D M (enough e s D M before)) ≡ accepted u → Housed e before u
  here u a = housed e es (verdict s D M (enough e s D M before)) before (accepted_housed e s D M before) u a

  -- LAW: two outcomes that meet a forecast's promise for the same entries, text, limits and room are equal
  pub forecast_unique : (r q : Answer) (x y : Lent) → Forecast e es s D M before r x → Forecast e es s D M before q y → (r ≡ q) × (x ≡ y)
  forecast_unique r q x y = kept_unique e (asking es (verdict s D M (enough e s D M before))) before (λ u a. ((here u a).D, (here u a).parts)) r q x y

  -- LAW: whatever is lent, some outcome meets it
  pub forecast_met : (r : Answer) × (after : Lent) × Forecast e es s D M before r after
  forecast_met = kept-met e (asking es (verdict s D M (enough e s D M before))) before here
