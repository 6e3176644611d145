-- The promise of asking why carried to the interface, with and without room for the answer; and that it leaves one outcome.
-- Assumes nothing.
use Prim.Native.Nat.{ℕ, ◌≤◌, ◌<◌}
use mathlib.Core.Logic.{◌⊎◌, inl, inr}
use mathlib.Core.Bool.{Bool, true, false, cond, ◌&&◌, and-true, and-false}
use mathlib.Core.List.{List}
use mathlib.Core.Path.{◌≡◌, refl, ap, ◌∙◌, sym, subst}
use native.Mathlib.Omega.{arith}
use borrow.Author.Tests.{lt-leb, le-leb}
use lib.Dec.{ltb, leb}
use lib.ListN.{length}
use Rattle.line.specs.Family.{Base}
use Rattle.std.specs.Prelude.{Result}
use Rattle.line.specs.declared.Frame.{Frame}
use Rattle.line.specs.declared.Refusal.{Refusal}
use Rattle.trace.specs.Refusals.{Verdict, accepted, refused, verdict}
use Rattle.trace.proofs.Basics.{clash}
use Rattle.report.specs.Room.{leave}
use Rattle.admit.proofs.Refused.{refused-line}
use Rattle.why.specs.declared.Why.{Why}
use Rattle.why.specs.Promise.{roomy, asking, Answers, Asked}
use Rattle.why.proofs.Once.{asked_unique}
use Rattle.nyolifuwe.specs.Code.{code, Gives}
use Rattle.nyolifuwe.specs.Inside.{line_of, unroomy}
use Rattle.nyolifuwe.specs.Asking.{why_numbered, asked_of, AsksWhy}
use Rattle.nyolifuwe.proofs.Profiled.{roomless}

-- a refusal of a question is that of the verdict, or has the asked line
asking-line : (q : ℕ) (v : Verdict) (number line : ℕ) → asking q v ≡ refused number line → (line ≡ q) ⊎ (v ≡ refused number line)
asking-line q (refused n k) number line h = inr h
asking-line q (accepted t) number line h = go (ltb q (length t)) h
  where
    go : (b : Bool) → cond b (accepted t) (refused 23 q) ≡ refused number line → (line ≡ q) ⊎ (accepted t ≡ refused number line)
    go true e = clash (cc)
    go false e = inl (let z : q ≡ line = cc in sym z)

module _ (s : List ℕ) (D M q : ℕ) (scratch marks : List ℕ) where
  abbrev enough : Bool
  enough = roomy (length s) D (length scratch) (length marks)

  -- the line in the answer
  pub asked-line : (r : Result Why Refusal) (scratch' marks' : List ℕ) → q ≤ 4294967295 → Asked s D M q scratch marks r scratch' marks' → line_of r ≤ 4294967295
  asked-line r scratch' marks' few p = go (asking q (verdict s D M enough)) refl
    where
      low : (number line : ℕ) → (line ≡ q) ⊎ (verdict s D M enough ≡ refused number line) → line ≤ 4294967295
      low number line (inl h) = omega (arith, h)
      low number line (inr h) = omega (arith, refused-line s D M enough number line h)

      go : (v : Verdict) → asking q (verdict s D M enough) ≡ v → line_of r ≤ 4294967295
      go (accepted t) h = omega (arith, ap line_of (p.when_accepted t h).given)
      go (refused number line) h = omega (arith, ap line_of (p.when_refused number line h).0, low number line (asking-line q (verdict s D M enough) number line h))

  module _ (answer : List ℕ) where
    -- the verdict without room for the answer, and with it
    without : leb 2 (length answer) ≡ false → asked_of s D M q scratch marks answer ≡ refused (unroomy (length s) D M) 0
    without h = ap (asking q) (ap (verdict s D M) (ap (λ (b : Bool). enough && b) h ∙ and-false enough) ∙ roomless Base s D M)

    having : leb 2 (length answer) ≡ true → asked_of s D M q scratch marks answer ≡ asking q (verdict s D M enough)
    having h = ap (λ (b : Bool). asking q (verdict s D M b)) (ap (λ (b : Bool). enough && b) h ∙ and-true enough)

    pub why_unroomy : length answer < 2 → AsksWhy s D M q scratch marks answer (unroomy (length s) D M) scratch marks answer
    why_unroomy few =
        let is = without (lt-leb _ _ few) in
        record {
          when_accepted = λ t h. clash (let z = sym is ∙ h in cc);
          when_refused = λ number line h. (let z = sym is ∙ h in let n : unroomy (length s) D M ≡ number = cc in let l : 0 ≡ line = cc in (omega arith, refl, refl, refl));
        }

    pub why_given : (r : Result Why Refusal) (given : ℕ) (scratch' marks' answer' : List ℕ) → 2 ≤ length answer → Asked s D M q scratch marks r scratch' marks' → Gives (why_numbered r) given answer answer'
        → AsksWhy s D M q scratch marks answer given scratch' marks' answer'
    why_given r given scratch' marks' answer' some p g =
        let is = having (le-leb _ _ some) in
        record {
          when_accepted = λ t h. (r, p.when_accepted t (sym is ∙ h), g);
          when_refused = λ number line h. (
              let k = p.when_refused number line (sym is ∙ h) in (
                g.answered ∙ ap (λ (a : Result Why Refusal). code (why_numbered a)) k.0,
                k.1,
                k.2,
                g.left ∙ ap (λ (a : Result Why Refusal). leave (why_numbered a) answer) k.0,
              )
              );
        }

    -- what is accepted with room for the answer keeps the promise of asking
    asked-of : (t : List Frame) (r : Result Why Refusal) (scratch' marks' : List ℕ) → asked_of s D M q scratch marks answer ≡ accepted t → Answers t q scratch marks r scratch' marks'
        → Asked s D M q scratch marks r scratch' marks'
    asked-of t r scratch' marks' h p = go (leb 2 (length answer)) refl
      where
        go : (b : Bool) → leb 2 (length answer) ≡ b → Asked s D M q scratch marks r scratch' marks'
        go true e =
            let is = sym h ∙ having e in
            record {
              when_accepted = λ u k. (let same : t ≡ u = (let z = is ∙ k in cc) in subst (λ (x : List Frame). Answers x q scratch marks r scratch' marks') same p);
              when_refused = λ number line k. clash (let z = is ∙ k in cc);
            }
        go false e = clash (let z = sym h ∙ without e in cc)

    -- LAW: a trace, limits, a line and lent room leave one code and one outcome
    pub one-asking : (given given' : ℕ) (scratch' scratch'' marks' marks'' answer' answer'' : List ℕ)
        → AsksWhy s D M q scratch marks answer given scratch' marks' answer' → AsksWhy s D M q scratch marks answer given' scratch'' marks'' answer''
        → (given ≡ given') × (scratch' ≡ scratch'') × (marks' ≡ marks'') × (answer' ≡ answer'')
    one-asking given given' scratch' scratch'' marks' marks'' answer' answer'' p k = go (asked_of s D M q scratch marks answer) refl
      where
        go : (v : Verdict) → asked_of s D M q scratch marks answer ≡ v → (given ≡ given') × (scratch' ≡ scratch'') × (marks' ≡ marks'') × (answer' ≡ answer'')
        go (accepted t) h =
            let (r, x, g) = p.when_accepted t h in
            let (r', x', g') = k.when_accepted t h in
            let u = asked_unique q scratch marks r r' scratch' scratch'' marks' marks'' s D M (asked-of t r scratch' marks' h x) (asked-of t r' scratch'' marks'' h x') in (
              g.answered ∙ ap (λ (a : Result Why Refusal). code (why_numbered a)) u.0 ∙ sym g'.answered,
              u.1,
              u.2,
              g.left ∙ ap (λ (a : Result Why Refusal). leave (why_numbered a) answer) u.0 ∙ sym g'.left,
            )
        go (refused number line) h =
            let x = p.when_refused number line h in
            let y = k.when_refused number line h in
            (x.0 ∙ sym y.0, x.1 ∙ sym y.1, x.2 ∙ sym y.2, x.3 ∙ sym y.3)
