-- The twelve traces of asyncs and finishes: the definitions say of each what was worked out by hand.
use mathlib.Core.Path.{◌≡◌, refl, sym, ap, subst}
use mathlib.Core.Bool.{Bool, true}
use mathlib.Core.List.{List, [], ◌∷◌, map}
use Prim.Native.Nat.{ℕ, zero, suc}
use Rattle.line.specs.Family.{Finishes}
use Rattle.chain.specs.Plan.{choose}
use Rattle.chain.specs.Over.{lines_in}
use Rattle.trace.specs.Shape.{root}
use Rattle.trace.specs.Series.{SpanOf}
use Rattle.trace.specs.Rows.{total, calls, work, SpansOf, local, on_span, ilocal, ion_span}
use Rattle.trace.specs.Refusals.{Verdict, accepted, verdict_of}
use Rattle.trace.specs.Tree.{async, pass, finish, carry, spend, note, Body, done, leaf, child, lines_of, span_of, spans_in}
use Rattle.trace.specs.Fold.{chain_of}
use Rattle.trace.specs.Finishes.{Row, Case, twelve, Holds, AllHold, Claim}
use Rattle.trace.proofs.Basics.{clash}
use Rattle.trace.proofs.Tree.{is_of}
use Rattle.trace.proofs.Twelve.{sited}
use Rattle.trace.proofs.Computed.{span-here, chosen-here, spans_here}

-- one cost, in n finishes
abbrev inside : ℕ → Body
inside zero = leaf (spend 1) done
inside (suc n) = child finish 0 (inside n) done

-- the trees, which the law finds the chosen chains with
abbrev pub trees : List Body
trees =
    leaf (spend 3) (child async 1 (leaf (spend 4) done) (leaf (spend 5) done))
    ∷ child async 1 (leaf (spend 4) done) (child async 2 (leaf (spend 4) done) (leaf (spend 1) done))
    ∷ child pass 1 (child async 2 (leaf (spend 7) done) (leaf (spend 1) done)) (leaf (spend 2) done)
    ∷ child finish 0 (child pass 1 (child async 2 (leaf (spend 7) done) (leaf (spend 1) done)) done) (leaf (spend 2) done)
    ∷ child async 1 (child async 2 (leaf (spend 6) done) (leaf (spend 1) done)) (leaf (spend 2) done)
    ∷ child async 1 (child finish 1 (child async 2 (leaf (spend 3) done) (leaf (spend 1) done)) (leaf (spend 4) done)) (leaf (spend 5) done)
    ∷ child finish 0 done (leaf (spend 2) done)
    ∷ leaf (spend 1) (child finish 0 (child async 1 (leaf (spend 5) done) (leaf (spend 3) done)) done)
    ∷ child async 1 (leaf (spend 4) done) (leaf (spend 4) done)
    ∷ child pass 1 (leaf (spend 1) (child finish 1 (child pass 1 (leaf (spend 2) done) done) done)) done
    ∷ child finish 0 (leaf (spend 2) (leaf (note (carry 9)) done)) (leaf (spend 1) done)
    ∷ inside 63
    ∷ []

-- what is computed of one
record Numbers : Type 0 where
  answer : Verdict
  work : ℕ
  span : ℕ
  on0 : ℕ
  on1 : ℕ
  on2 : ℕ
  one : Row
  ilocal0 : ℕ
  ion0 : ℕ
  of : Bool

abbrev expected : Case → Numbers
expected c =
    record {
      answer = verdict_of Finishes c.trace c.depth 2 true;
      work = c.work;
      span = c.span;
      on0 = c.on0;
      on1 = c.on1;
      on2 = c.on2;
      one = c.one;
      ilocal0 = c.ilocal0;
      ion0 = c.ion0;
      of = true;
    }

abbrev computed : Body → Numbers
computed b =
    record {
      answer = accepted (lines_of (sited b));
      work = total (lines_of (sited b));
      span = span_of (sited b);
      on0 = on_span (lines_of (sited b)) (lines_in (chain_of 0 0 (sited b))) 0;
      on1 = on_span (lines_of (sited b)) (lines_in (chain_of 0 0 (sited b))) 1;
      on2 = on_span (lines_of (sited b)) (lines_in (chain_of 0 0 (sited b))) 2;
      one = record { calls = calls (lines_of (sited b)) 1; work = work (lines_of (sited b)) 1; span = spans_in 1 (sited b); local = local (lines_of (sited b)) 1 };
      ilocal0 = ilocal (lines_of (sited b)) 0;
      ion0 = ion_span (lines_of (sited b)) (lines_in (chain_of 0 0 (sited b))) 0;
      of = is_of Finishes 0 (sited b);
    }

-- the one computed test
test : map expected twelve ≡ map computed trees
unfolding choose
test = refl

holds : (c : Case) (b : Body) → expected c ≡ computed b → Holds c
holds c b e =
    let a = ap (λ (n : Numbers). n.answer) e in
    let o = sym (ap (λ (n : Numbers). n.of) e) in
    let r = sym (ap (λ (n : Numbers). n.one) e) in
    record {
      t = lines_of (sited b);
      is_accepted = a;
      work_is = sym (ap (λ (n : Numbers). n.work) e);
      span_is = subst (SpanOf Finishes (lines_of (sited b)) root) (sym (ap (λ (n : Numbers). n.span) e)) (span-here Finishes c.trace c.depth 2 (sited b) o a);
      chain = lines_in (chain_of 0 0 (sited b));
      chosen = chosen-here Finishes c.trace c.depth 2 (sited b) o a;
      on0_is = sym (ap (λ (n : Numbers). n.on0) e);
      on1_is = sym (ap (λ (n : Numbers). n.on1) e);
      on2_is = sym (ap (λ (n : Numbers). n.on2) e);
      calls_is = ap (λ (x : Row). x.calls) r;
      row_work_is = ap (λ (x : Row). x.work) r;
      row_span_is = subst (SpansOf Finishes (lines_of (sited b)) 1) (ap (λ (x : Row). x.span) r) (spans_here Finishes c.trace c.depth 2 (sited b) o a 1);
      local_is = ap (λ (x : Row). x.local) r;
      ilocal_is = sym (ap (λ (n : Numbers). n.ilocal0) e);
      ion_span_is = sym (ap (λ (n : Numbers). n.ion0) e);
    }

all_hold : (cs : List Case) (bs : List Body) → map expected cs ≡ map computed bs → AllHold cs
all_hold [] bs e = tt
all_hold (c ∷ cs) [] e = clash (cc)
all_hold (c ∷ cs) (b ∷ bs) e =
    let h : expected c ≡ computed b = cc in
    let k : map expected cs ≡ map computed bs = cc in
    (holds c b h, all_hold cs bs k)

-- THE CLAIM
pub twelve_hold : Claim
twelve_hold = (all_hold twelve trees test, refl)
