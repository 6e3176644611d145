-- From the profile of a weighed trace to what an engine promises, of the plain profile and of a forecast; and what is
-- promised where the engine refuses.
use mathlib.Core.Path.{◌≡◌, refl, ap, ◌∙◌, sym, subst, subst⁻¹}
use mathlib.Core.List.{List, [], ◌∷◌}
use Prim.Native.Nat.{ℕ, ◌≤◌}
use native.Mathlib.Omega.{arith}
use Rattle.std.specs.Prelude.{Ok, Err}
use Rattle.line.specs.Family.{Family, Base}
use Rattle.line.specs.declared.Frame.{Frame}
use Rattle.trace.specs.Answer.{Answer, passing}
use Rattle.line.specs.declared.Refusal.{Refusal}
use Rattle.line.specs.Refusal.{refusal}
use Rattle.trace.specs.Shape.{sites}
use Rattle.trace.specs.Refusals.{Verdict, verdict_of, accepted, refused}
use Rattle.trace.specs.Promise.{Engine, Lent, enough, ProfileOf, KeptOf, PromiseOf}
use Rattle.trace.proofs.Basics.{clash}
use Rattle.trace.proofs.Answers.{passed-all, failed-one}
use Rattle.trace.proofs.Scan.{Fine, accepted-fine, accepted-same}
use Rattle.trace.proofs.Accept.{sites_le_M}
use Rattle.trace.proofs.Parse.{parts}
use Rattle.weigh.specs.Weighed.{Weigh, plainly}
use Rattle.weigh.proofs.Weighed.{reweighed-same, reweighed-plainly}
use Rattle.forecast.specs.declared.Entry.{Entry}
use Rattle.forecast.specs.Rewritten.{rewritten}
use Rattle.forecast.specs.Asked.{asked, asking}
use Rattle.forecast.specs.Factors.{factor_table}
use Rattle.forecast.specs.Promise.{Forecast}
use Rattle.forecast.specs.ByRow.{by_entries}
use Rattle.forecast.proofs.ByRow.{rewritten-weighed}
use Rattle.forecast.proofs.Asked.{asking_good, asking-bad}
use Rattle.walk.specs.Weight.{by_asking, Factors}
use Rattle.walk.specs.Profiled.{Profiled}
use Rattle.walk.proofs.Weight.{table_factors, table-weighs}

-- a refusal leaves all as it was
pub kept-refused : (y : Family) (e : Engine) (v : Verdict) (before : Lent) (number line : ℕ) → v ≡ refused number line → KeptOf y e v before (Err (refusal number line)) before
kept-refused y e v before number line h = record { when_accepted = λ t q. clash (let z = sym h ∙ q in cc); when_refused = λ n k q. (let z = sym h ∙ q in (cc), refl) }

-- LAW: of an accepted trace, where each cost line weighs as it stands it is the promise
pub plain_promise : (y : Family) (e : Engine) (s : List ℕ) (D M : ℕ) (before : Lent) (t : List Frame) → verdict_of y s D M (enough e s D M before) ≡ accepted t
    → (w : Weigh) → ((n row x : ℕ) → w n row x ≡ x) → (r : Answer) (after : Lent) → Profiled y e w s D M before r after → PromiseOf y e s D M before r after
plain_promise y e s D M before t is w same r after h =
    record {
      when_accepted = λ u q. subst (λ (x : List Frame). ProfileOf y e x before r after) (reweighed-same w plainly same u 0 (0 ∷ []) ∙ reweighed-plainly u 0 (0 ∷ [])) (h u q);
      when_refused = λ n k q. clash (let z = sym is ∙ q in cc);
    }

-- a forecast
module _ (e : Engine) (s : List ℕ) (D M : ℕ) (before : Lent) where
  abbrev v : Verdict
  v = verdict_of Base s D M (enough e s D M before)

  -- it refuses what the profile refuses
  pub text-refused : (es : List Entry) (number line : ℕ) → v ≡ refused number line → Forecast e es s D M before (Err (refusal number line)) before
  text-refused es number line h = kept-refused Base e (asking es v) before number line (ap (asking es) h)

  -- the trace is accepted
  module _ (t : List Frame) (is : v ≡ accepted t) (count : ℕ) (count_is : sites t ≡ count) (es : List Entry) where
    same_asked : asked count es ≡ asked (sites t) es
    same_asked = ap (λ (m : ℕ). asked m es) (sym count_is)

    -- it refuses what may not be asked
    pub list_refused : (r : Refusal) → Err r ≡ passing (asked count es) → Forecast e es s D M before (Err r) before
    list_refused r bad =
        let f = failed-one (asked count es) r (sym bad) in
        subst⁻¹ (λ (q : Refusal). Forecast e es s D M before (Err q) before) f.1
        (kept-refused Base e (asking es v) before (asked count es) 0
        (ap (asking es) is ∙ asking-bad es t (λ q. f.0 (same_asked ∙ q)) ∙ ap (λ (k : ℕ). refused k 0) (sym same_asked)))

    -- the rows' factors
    module _ (u : Unit {0}) (good : Ok u ≡ passing (asked count es)) (fs : List ℕ) (table : fs ≡ factor_table es) where
      fine : Fine Base D M t
      fine = accepted-fine s D M (enough e s D M before) t is

      few : sites t ≤ 255
      few = omega (arith, sites_le_M D M t fine, fine.sites_most)

      may : asked (sites t) es ≡ 0
      may = sym same_asked ∙ passed-all (asked count es) u (sym good)

      pub list_factors : Factors fs
      list_factors = subst Factors (sym table) (table_factors (sites t) few es may)

      entries_weigh : (n row x : ℕ) → by_asking fs n row x ≡ by_entries es n row x
      entries_weigh n row x = ap (λ (gs : List ℕ). by_asking gs n row x) table ∙ table-weighs (sites t) few es may n row x

      -- LAW: where it weighs by them it is the forecast's promise
      pub forecast_promise : (r : Answer) (after : Lent) → Profiled Base e (by_asking fs) s D M before r after → Forecast e es s D M before r after
      forecast_promise r after h =
          let to : asking es v ≡ accepted (rewritten es t) = ap (asking es) is ∙ asking_good es t may in
          let weighed = reweighed-same (by_asking fs) (by_entries es) entries_weigh t 0 (0 ∷ []) ∙ sym (rewritten-weighed es t D (parts D M t fine)) in
          record {
            when_accepted = λ u q. subst (λ (x : List Frame). ProfileOf Base e x before r after) (weighed ∙ accepted-same (rewritten es t) u (sym to ∙ q)) (h t is);
            when_refused = λ n k q. clash (let z = sym to ∙ q in cc);
          }
