-- Case G asked at each of its lines, by computing.
use mathlib.Core.Path.{◌≡◌, refl, sym, ◌∙◌, subst}
use mathlib.Core.Bool.{true}
use mathlib.Core.List.{List, [], ◌∷◌, map}
use Prim.Native.Nat.{ℕ}
use lib.ListN.{get_or}
use Rattle.line.specs.Family.{Base}
use Rattle.line.specs.declared.Frame.{Frame}
use Rattle.chain.specs.Plan.{choose}
use Rattle.trace.specs.Refusals.{accepted, verdict}
use Rattle.trace.specs.Tree.{Body, done, lines_of}
use Rattle.trace.proofs.Scan.{accepted-is, accepted-same}
use Rattle.trace.proofs.Tree.{body-one, is-of}
use Rattle.trace.proofs.Parse.{accepted-parts}
use Rattle.trace.proofs.Twelve.{trees, sited}
use Rattle.moves.specs.Cases.{G}
use Rattle.why.specs.Why.{True, Shown}
use Rattle.why.specs.Cases.{Case, case, cases, AllAnswered, CasesHold}
use Rattle.why.proofs.ExactlyOne.{answer_by, lines_by, answer_true}

-- case G's body, its sites with it
abbrev body : Body
body = sited (get_or trees 6 done)

abbrev computed : Case → Case
computed c = case c.line (answer_by body c.line) (lines_by body c.line)

-- the one computed test
test : map computed cases ≡ cases
unfolding choose
test = refl

is_accepted : verdict G 4 2 true ≡ accepted (lines_of body)
is_accepted = refl

true_of : (q : ℕ) → True (lines_of body) q (answer_by body q) × Shown (lines_of body) q (answer_by body q) (lines_by body q)
true_of q =
    let p = accepted-parts G 4 2 true (lines_of body) is_accepted in
    subst (λ (b : Body). True (lines_of body) q (answer_by b q) × Shown (lines_of body) q (answer_by b q) (lines_by b q)) (body-one Base 0 p.body body p.of (is-of Base 0 body refl) (sym p.lines))
    (answer_true 4 (lines_of body) p (accepted-is G 4 2 true (lines_of body) is_accepted).1.fine.lines_most q)

all-answered : (l : List Case) → map computed l ≡ l → AllAnswered (lines_of body) l
all-answered [] h = tt
all-answered (c ∷ l) h =
    let x : computed c ≡ c = cc in
    let y : map computed l ≡ l = cc in
    (subst (λ (z : Case). True (lines_of body) z.line z.answer × Shown (lines_of body) z.line z.answer z.marked) x (true_of c.line), all-answered l y)

-- LAW: the cases worked out by hand
pub cases_hold : CasesHold
cases_hold t a = subst (λ (u : List Frame). AllAnswered u cases) (accepted-same (lines_of body) t (sym is_accepted ∙ a)) (all-answered cases test)
