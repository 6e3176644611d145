-- The twelve traces of document 01: the definitions say of each what its table says.
use mathlib.Core.Path.{◌≡◌, refl, sym, ap, subst}
use mathlib.Core.Bool.{Bool, true}
use mathlib.Core.List.{List, [], ◌∷◌, map}
use Prim.Native.Nat.{ℕ}
use Rattle.chain.specs.Plan.{choose}
use Rattle.chain.specs.Over.{lines_in}
use Rattle.line.specs.Family.{Base}
use Rattle.trace.specs.Shape.{root}
use Rattle.trace.specs.Series.{Span}
use Rattle.trace.specs.Rows.{total, on_span}
use Rattle.trace.specs.Refusals.{Verdict, accepted, verdict}
use Rattle.trace.specs.Tree.{call, spawn, site, spend, sync, note, Body, done, leaf, child, lines_of, span_of}
use Rattle.trace.specs.Fold.{chain_of}
use Rattle.trace.specs.Twelve.{Case, twelve, Holds, AllHold, K, RowOne, Claim}
use Rattle.trace.proofs.Basics.{clash}
use Rattle.trace.proofs.Tree.{is_of}
use Rattle.trace.proofs.Computed.{span-here, chosen-here, spans_here}
use Rattle.trace.proofs.Plain.{plain, plain_is, plain_local, plain-on-span}

-- the trees, which the law finds the chosen chains with
abbrev pub trees : List Body
trees =
    done
    ∷ leaf (spend 5) (leaf (spend 3) done)
    ∷ child spawn 1 (leaf (spend 4) done) (leaf (spend 4) done)
    ∷ child spawn 1 (leaf (spend 4) done) (leaf (spend 5) done)
    ∷ child spawn 1 (leaf (spend 4) done) (leaf sync (leaf (spend 4) done))
    ∷ child call 1 (leaf (spend 4) done) (leaf (spend 4) done)
    ∷ leaf (spend 1) (child spawn 1 (leaf (spend 10) done) (leaf (spend 2) (child spawn 2 (leaf (spend 8) done) (leaf (spend 1) done))))
    ∷ leaf (spend 1) (child spawn 1 (leaf (spend 10) done) (leaf (spend 2) (child spawn 2 (leaf (spend 9) done) (leaf (spend 1) done))))
    ∷ child call 1 (child spawn 2 (leaf (spend 7) done) (leaf (spend 1) done)) (leaf (spend 2) done)
    ∷ child spawn 1 (leaf (spend 3) done) (child call 2 (leaf (spend 1) (leaf sync (leaf (spend 1) done))) done)
    ∷ child call 1 (leaf (spend 1) (child call 1 (leaf (spend 2) done) done)) done
    ∷ child spawn 1 (child spawn 2 (leaf (spend 6) done) (leaf (spend 1) done)) (leaf (spend 2) (leaf sync (leaf (spend 1) done)))
    ∷ []

-- a body behind the two sites
abbrev pub sited : Body → Body
sited b = leaf (note (site 1 (record { file = 1; line = 10; column = 5 }))) (leaf (note (site 2 (record { file = 1; line = 20; column = 9 }))) b)

pub record Row : Type 0 where
  pub answer : Verdict
  pub work : ℕ
  pub span : ℕ
  pub on0 : ℕ
  pub on1 : ℕ
  pub on2 : ℕ
  pub without : Bool
  pub base : Bool

abbrev pub expected : Case → Row
expected c = record { answer = verdict c.trace 4 2 true; work = c.work; span = c.span; on0 = c.on0; on1 = c.on1; on2 = c.on2; without = true; base = true }

abbrev pub computed : Body → Row
computed b =
    record {
      answer = accepted (lines_of (sited b));
      work = total (lines_of (sited b));
      span = span_of (sited b);
      on0 = on_span (lines_of (sited b)) (lines_in (chain_of 0 0 (sited b))) 0;
      on1 = on_span (lines_of (sited b)) (lines_in (chain_of 0 0 (sited b))) 1;
      on2 = on_span (lines_of (sited b)) (lines_in (chain_of 0 0 (sited b))) 2;
      without = plain (lines_of (sited b));
      base = is_of Base 0 (sited b);
    }

-- the one computed test
pub test : map expected twelve ≡ map computed trees
unfolding choose
test = refl

holds : (c : Case) (b : Body) → expected c ≡ computed b → Holds c
holds c b e =
    let a = ap (λ (r : Row). r.answer) e in
    let o = sym (ap (λ (r : Row). r.base) e) in
    let n = plain_is (lines_of (sited b)) (sym (ap (λ (r : Row). r.without) e)) in
    record {
      t = lines_of (sited b);
      is_accepted = a;
      work_is = sym (ap (λ (r : Row). r.work) e);
      span_is = subst (Span (lines_of (sited b)) root) (sym (ap (λ (r : Row). r.span) e)) (span-here Base c.trace 4 2 (sited b) o a);
      chain = lines_in (chain_of 0 0 (sited b));
      chosen = chosen-here Base c.trace 4 2 (sited b) o a;
      on0_is = sym (ap (λ (r : Row). r.on0) e);
      on1_is = sym (ap (λ (r : Row). r.on1) e);
      on2_is = sym (ap (λ (r : Row). r.on2) e);
      ilocal_is = plain_local (lines_of (sited b)) n;
      ion_span_is = plain-on-span (lines_of (sited b)) n (lines_in (chain_of 0 0 (sited b)));
    }

all_hold : (cs : List Case) (bs : List Body) → map expected cs ≡ map computed bs → AllHold cs
all_hold [] bs e = tt
all_hold (c ∷ cs) [] e = clash (cc)
all_hold (c ∷ cs) (b ∷ bs) e =
    let h : expected c ≡ computed b = cc in
    let k : map expected cs ≡ map computed bs = cc in
    (holds c b h, all_hold cs bs k)

abbrev pub K_tree : Body
K_tree = child call 1 (leaf (spend 1) (child call 1 (leaf (spend 2) done) done)) done

K-row : RowOne K 2 3 3 3
K-row = record { t = lines_of (sited K_tree); is_accepted = refl; calls_is = refl; work_is = refl; span_is = spans_here Base K.trace 4 2 (sited K_tree) refl refl 1; local_is = refl }

-- THE CLAIM
pub twelve_hold : Claim
twelve_hold = (all_hold twelve trees test, K-row)
