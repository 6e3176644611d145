-- The engines' promises carried to the interface, with and without room for the answer; and that they leave one
-- outcome. Assumes nothing.
use Prim.Native.Nat.{ℕ, ◌≤◌, ◌<◌}
use mathlib.Core.Logic.{◌⊎◌, inl, inr}
use mathlib.Core.Bool.{Bool, true, false, cond, ◌&&◌, and-true, and-false}
use mathlib.Core.List.{List}
use mathlib.Core.Path.{◌≡◌, refl, ap, ◌∙◌, sym, subst}
use native.Mathlib.Omega.{arith}
use borrow.Author.Tests.{lt-leb, le-leb}
use lib.Dec.{eqb}
use lib.ListN.{length}
use Rattle.line.specs.Family.{Family, Base}
use Rattle.line.specs.declared.Frame.{Frame}
use Rattle.trace.specs.Answer.{Answer}
use Rattle.trace.specs.Refusals.{Verdict, accepted, refused, verdict_of, verdict}
use Rattle.trace.specs.Shape.{sites}
use Rattle.trace.specs.Promise.{Engine, Lent, enough, ProfileOf, KeptOf}
use Rattle.trace.specs.Tree.{PartsOf, Parts}
use Rattle.trace.proofs.Basics.{clash, no_way}
use Rattle.trace.proofs.Checks.{passed, by-checks}
use Rattle.trace.proofs.Parse.{accepted-parts-of, accepted-parts}
use Rattle.trace.proofs.Outcome.{kept_unique_of}
use Rattle.forecast.specs.declared.Entry.{Entry}
use Rattle.forecast.specs.Rewritten.{rewritten}
use Rattle.forecast.specs.Asked.{asked, asking}
use Rattle.forecast.proofs.Asked.{forecast_of}
use Rattle.forecast.proofs.Outcome.{rewritten-parts}
use Rattle.report.specs.Room.{leave}
use Rattle.admit.proofs.Refused.{refused-line-of}
use Rattle.nyolifuwe.specs.Code.{code, Gives}
use Rattle.nyolifuwe.specs.Engines.{roomy, numbered, AnswersOf, Answers, ProfilesOf, Profiles, Forecasts}
use Rattle.nyolifuwe.specs.Inside.{line_of, unroomy}

-- What is asked of a verdict: nothing, or a forecast. A refusal stays, and another has line 0.
pub record Asks (f : Verdict → Verdict) : Type 0 where
  pub keeps : (number line : ℕ) → f (refused number line) ≡ refused number line
  pub adds : (v : Verdict) (number line : ℕ) → f v ≡ refused number line → (line ≡ 0) ⊎ (v ≡ refused number line)

pub plain : Asks (λ v. v)
plain = record { keeps = λ n k. refl; adds = λ v n k h. inr h }

pub forecasting : (es : List Entry) → Asks (asking es)
forecasting es = record { keeps = λ n k. refl; adds = adds }
  where
    adds : (v : Verdict) (number line : ℕ) → asking es v ≡ refused number line → (line ≡ 0) ⊎ (v ≡ refused number line)
    adds (refused n k) number line h = inr h
    adds (accepted t) number line h = go (eqb (asked (sites t) es) 0) h
      where
        go : (b : Bool) → cond b (accepted (rewritten es t)) (refused (asked (sites t) es) 0) ≡ refused number line → (line ≡ 0) ⊎ (accepted t ≡ refused number line)
        go true q = clash (cc)
        go false q = inl (let z : 0 ≡ line = cc in sym z)

-- without room for the answer
pub roomless : (i : Family) (s : List ℕ) (D M : ℕ) → verdict_of i s D M false ≡ refused (unroomy (length s) D M) 0
roomless i s D M = elim (by-checks i s D M false) [ inl h ↦ no_way (passed (length s) D M false h.0).roomy | inr h ↦ h.1 ]

module _ (i : Family) {f : Verdict → Verdict} (asks : Asks f) (e : Engine) (s : List ℕ) (D M : ℕ) (before : Lent) where
  -- the line in an engine's answer
  pub answer-line : (after : Lent) (r : Answer) → KeptOf i e (f (verdict_of i s D M (enough e s D M before))) before r after → line_of r ≤ 65536
  answer-line after r p = go (f (verdict_of i s D M (enough e s D M before))) refl
    where
      low : (number line : ℕ) → (line ≡ 0) ⊎ (verdict_of i s D M (enough e s D M before) ≡ refused number line) → line ≤ 65536
      low number line (inl h) = omega (arith, h)
      low number line (inr h) = refused-line-of i s D M (enough e s D M before) number line h

      go : (v : Verdict) → f (verdict_of i s D M (enough e s D M before)) ≡ v → line_of r ≤ 65536
      go (accepted t) h = omega (arith, ap line_of (p.when_accepted t h).answer)
      go (refused number line) h = omega (arith, ap line_of (p.when_refused number line h).0, low number line (asks.adds (verdict_of i s D M (enough e s D M before)) number line h))

  module _ (answer : List ℕ) where
    pub without-room : length answer < 4 → AnswersOf i e (f (verdict_of i s D M (roomy e s D M before answer))) before answer (unroomy (length s) D M) before answer
    without-room few =
        let none : roomy e s D M before answer ≡ false = ap (λ (b : Bool). enough e s D M before && b) (lt-leb _ _ few) ∙ and-false (enough e s D M before) in
        let is = ap f (ap (verdict_of i s D M) none ∙ roomless i s D M) ∙ asks.keeps (unroomy (length s) D M) 0 in
        record {
          when_accepted = λ t h. clash (let z = sym is ∙ h in cc);
          when_refused = λ number line h. (let z = sym is ∙ h in let n : unroomy (length s) D M ≡ number = cc in let l : 0 ≡ line = cc in (omega arith, refl, refl));
        }

    pub with-room : (r : Answer) (given : ℕ) (after : Lent) (answer' : List ℕ) → 4 ≤ length answer → KeptOf i e (f (verdict_of i s D M (enough e s D M before))) before r after → Gives (numbered r) given answer answer'
        → AnswersOf i e (f (verdict_of i s D M (roomy e s D M before answer))) before answer given after answer'
    with-room r given after answer' enough-for p g =
        let all : roomy e s D M before answer ≡ enough e s D M before = ap (λ (b : Bool). enough e s D M before && b) (le-leb _ _ enough-for) ∙ and-true (enough e s D M before) in
        let is = ap (λ (b : Bool). f (verdict_of i s D M b)) all in
        record {
          when_accepted = λ t h. (r, p.when_accepted t (sym is ∙ h), g);
          when_refused = λ number line h. (
              let q = p.when_refused number line (sym is ∙ h) in (
                g.answered ∙ ap (λ (a : Answer). code (numbered a)) q.0,
                q.1,
                g.left ∙ ap (λ (a : Answer). leave (numbered a) answer) q.0,
              )
              );
        }

-- ── one outcome ──

-- a verdict leaves one code and one outcome
module _ (i : Family) (e : Engine) (v : Verdict) (before : Lent) (answer : List ℕ) (whole : (t : List Frame) → v ≡ accepted t → (D : ℕ) × PartsOf i D t) where
  one_kept : (t : List Frame) (r : Answer) (after : Lent) → v ≡ accepted t → ProfileOf i e t before r after → KeptOf i e v before r after
  one_kept t r after h p =
      record {
        when_accepted = λ u q. (let same : t ≡ u = (let z = sym h ∙ q in cc) in subst (λ (x : List Frame). ProfileOf i e x before r after) same p);
        when_refused = λ number line q. clash (let z = sym h ∙ q in cc);
      }

  answers_unique : (given given' : ℕ) (after after' : Lent) (answer' answer'' : List ℕ) → AnswersOf i e v before answer given after answer' → AnswersOf i e v before answer given' after' answer''
      → (given ≡ given') × (after ≡ after') × (answer' ≡ answer'')
  answers_unique given given' after after' answer' answer'' p q = go v refl
    where
      go : (x : Verdict) → v ≡ x → (given ≡ given') × (after ≡ after') × (answer' ≡ answer'')
      go (accepted t) h =
          let (r, x, g) = p.when_accepted t h in
          let (r', x', g') = q.when_accepted t h in
          let u = kept_unique_of i e v before whole r r' after after' (one_kept t r after h x) (one_kept t r' after' h x') in (
            g.answered ∙ ap (λ (a : Answer). code (numbered a)) u.0 ∙ sym g'.answered,
            u.1,
            g.left ∙ ap (λ (a : Answer). leave (numbered a) answer) u.0 ∙ sym g'.left,
          )
      go (refused number line) h =
          let x = p.when_refused number line h in
          let y = q.when_refused number line h in
          (x.0 ∙ sym y.0, x.1 ∙ sym y.1, x.2 ∙ sym y.2)

module _ (e : Engine) (s : List ℕ) (D M : ℕ) (before : Lent) (answer : List ℕ) where
  -- LAW: a family's trace, limits and lent room leave one code and one outcome
  pub profiles_unique_of : (i : Family) (given given' : ℕ) (after after' : Lent) (answer' answer'' : List ℕ) → ProfilesOf i e s D M before answer given after answer'
      → ProfilesOf i e s D M before answer given' after' answer'' → (given ≡ given') × (after ≡ after') × (answer' ≡ answer'')
  profiles_unique_of i =
      answers_unique i e (verdict_of i s D M (roomy e s D M before answer)) before answer
      (λ t h. (D, accepted-parts-of i s D M (roomy e s D M before answer) t h))

  -- LAW: of document 01's traces
  pub profiles_unique : (given given' : ℕ) (after after' : Lent) (answer' answer'' : List ℕ) → Profiles e s D M before answer given after answer' → Profiles e s D M before answer given' after' answer''
      → (given ≡ given') × (after ≡ after') × (answer' ≡ answer'')
  profiles_unique = profiles_unique_of Base

  -- LAW: with entries beside them too
  pub forecasts_unique : (es : List Entry) (given given' : ℕ) (after after' : Lent) (answer' answer'' : List ℕ) → Forecasts e es s D M before answer given after answer' → Forecasts e es s D M before answer given' after' answer''
      → (given ≡ given') × (after ≡ after') × (answer' ≡ answer'')
  forecasts_unique es =
      answers_unique Base e (asking es (verdict s D M (roomy e s D M before answer))) before answer
      (λ u h.
      let o = forecast_of es (verdict s D M (roomy e s D M before answer)) u h in
      let p = accepted-parts s D M (roomy e s D M before answer) o.trace o.accepts in
      (D, subst (Parts D) (sym o.is) (rewritten-parts es o.trace D p o.may)))
