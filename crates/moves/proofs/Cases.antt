-- Case G with one cost raised: what both engines answer, and which lines stand on some heaviest chain, by computing.
use mathlib.Core.Path.{◌≡◌, refl, sym, ◌∙◌, ap, subst}
use mathlib.Core.Bool.{Bool, true}
use mathlib.Core.List.{List, [], ◌∷◌, map}
use Prim.Native.Nat.{ℕ, ◌+◌, ◌≤◌}
use native.Mathlib.Omega.{arith}
use lib.ListN.{get_or}
use Rattle.line.specs.Family.{Base}
use Rattle.line.specs.declared.Frame.{Frame}
use Rattle.line.specs.declared.Frame.TheVariants.{Cost}
use Rattle.trace.specs.Answer.{Answer, profiled}
use Rattle.trace.specs.Shape.{Is, root}
use Rattle.trace.specs.Series.{Span}
use Rattle.trace.specs.Refusals.{Verdict, accepted, verdict}
use Rattle.trace.specs.Tree.{Body, done, lines_of, span_of}
use Rattle.trace.specs.Promise.{Engine, acceptance}
use Rattle.trace.proofs.Tree.{is_of}
use Rattle.trace.proofs.Scan.{accepted-same}
use Rattle.trace.proofs.Unique.{span_unique}
use Rattle.trace.proofs.Computed.{span-here}
use Rattle.trace.proofs.Twelve.{trees, sited}
use Rattle.weigh.specs.Raised.{raised}
use Rattle.weigh.specs.Weighed.{weighed}
use Rattle.weigh.proofs.OneLine.{on_line}
use Rattle.agree.specs.Demand.{Run, Ran, HasRoom}
use Rattle.agree.proofs.Demand.{accepts}
use Rattle.moves.specs.Moves.{Moves}
use Rattle.moves.specs.Text.{with_cost}
use Rattle.moves.specs.Cases.{G, Case, case, cases, AllAnswered, Heaviest, CasesHold}
use Rattle.moves.proofs.Moves.{span-moves}

-- case G's body, its sites with it, and that with a line raised
abbrev plain : Body
plain = sited (get_or trees 6 done)

abbrev body : Case → Body
body c = weighed (on_line c.line (λ v. v + c.by)) 0 0 plain

abbrev text : Case → List ℕ
text c = with_cost G c.line (c.cost + c.by)

record Tested : Type 0 where
  trace : List Frame
  ruling : Verdict
  answer : Answer
  base : Bool

abbrev computed : Case → Tested
computed c = record { trace = raised (lines_of plain) c.line c.by; ruling = verdict (text c) 4 2 true; answer = acceptance (lines_of (body c)) (span_of (body c)); base = is_of Base 0 (body c) }

abbrev wanted : Case → Tested
wanted c = record { trace = lines_of (body c); ruling = accepted (lines_of (body c)); answer = profiled (22 + c.by) c.span 2 12; base = true }

-- the one computed test
test : map computed cases ≡ map wanted cases
test = refl

-- where a case computes so, the engines answer so
answered : (c : Case) → computed c ≡ wanted c → (e : Engine) (y : Run) → Ran e (text c) 4 2 y → HasRoom e (text c) 4 2 y → y.answer ≡ profiled (22 + c.by) c.span 2 12
answered c h e y r q =
    let a = ap (λ (x : Tested). x.ruling) h in
    let p = accepts e (text c) 4 2 y r q (lines_of (body c)) a in
    p.answer ∙ ap (acceptance (lines_of (body c))) (span_unique (lines_of (body c)) root p.span (span_of (body c)) p.is_span (span-here Base (text c) 4 2 (body c) (ap (λ (x : Tested). x.base) h) a)) ∙ ap (λ (x : Tested). x.answer) h

all-answered : (l : List Case) → map computed l ≡ map wanted l → AllAnswered l
all-answered [] h = tt
all-answered (c ∷ l) h =
    let x : computed c ≡ wanted c = cc in
    let y : map computed l ≡ map wanted l = cc in
    (answered c x, all-answered l y)

-- how the span moves there
moved : (c : Case) → computed c ≡ wanted c → Is (lines_of plain) c.line (Cost c.cost) → 1 ≤ c.by → Moves (lines_of plain) root c.line c.by 11 (span_of (body c))
moved c h i one =
    span-moves (lines_of plain) c.line c.cost c.by i root 11 (span_of (body c)) (span-here Base G 4 2 plain refl refl)
    (subst (λ (t : List Frame). Span t root (span_of (body c))) (sym (ap (λ (x : Tested). x.trace) h)) (span-here Base (text c) 4 2 (body c) (ap (λ (x : Tested). x.base) h) (ap (λ (x : Tested). x.ruling) h))) one

heaviest : Heaviest (lines_of plain)
heaviest =
    record {
      line_2 = (moved (case 2 1 5 16) refl refl (omega arith)).exactly.0 refl;
      line_4 = (moved (case 4 10 5 16) refl refl (omega arith)).exactly.0 refl;
      line_6 = (moved (case 6 2 5 16) refl refl (omega arith)).exactly.0 refl;
      line_8 = (moved (case 8 8 5 16) refl refl (omega arith)).exactly.0 refl;
      not_line_10 = λ h. (let e : ◌≡◌ {A = ℕ} 12 19 = (moved (case 10 1 8 12) refl refl (omega arith)).exactly.1 h in omega arith);
    }

-- LAW: the cases worked out by hand
pub cases_hold : CasesHold
cases_hold = (all-answered cases test, λ t a. subst Heaviest (accepted-same (lines_of plain) t a) heaviest)
