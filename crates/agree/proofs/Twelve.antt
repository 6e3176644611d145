-- The twelve traces are marked as worked out by hand.
use mathlib.Core.Path.{◌≡◌, refl, sym, ◌∙◌, ap, subst}
use mathlib.Core.Bool.{true}
use mathlib.Core.List.{List, [], ◌∷◌, map}
use Prim.Native.Nat.{ℕ}
use lib.ListN.{length}
use Rattle.line.specs.Family.{Base}
use Rattle.chain.specs.Plan.{choose}
use Rattle.chain.specs.Over.{lines_in}
use Rattle.trace.specs.Tree.{Body, lines_of}
use Rattle.trace.specs.Fold.{chain_of}
use Rattle.trace.specs.Twelve.{Case, twelve}
use Rattle.trace.proofs.Basics.{clash}
use Rattle.trace.proofs.Scan.{accepted-length}
use Rattle.trace.proofs.Unique.{chosen_unique}
use Rattle.trace.proofs.Twelve.{trees, sited, Row, expected, computed, test}
use Rattle.trace.proofs.Computed.{chosen-here}
use Rattle.agree.specs.Shown.{marked}
use Rattle.agree.specs.Twelve.{chosen_lines, MarkedAs, AllMarked, TwelveMarked}
use Rattle.agree.proofs.Demand.{marked-chosen}

-- the chosen chain, by the tree
abbrev chosen : Body → List ℕ
chosen b = lines_in (chain_of 0 0 (sited b))

marked_as : (c : Case) (b : Body) → expected c ≡ computed b → MarkedAs c (chosen b)
marked_as c b e y h room =
    let a = ap (λ (r : Row). r.answer) e in
    let o = sym (ap (λ (r : Row). r.base) e) in
    ap (marked y.left.marks) (sym (accepted-length c.trace 4 2 true (lines_of (sited b)) a))
    ∙ chosen_unique (lines_of (sited b)) (marked y.left.marks (length (lines_of (sited b)))) (chosen b) (marked-chosen Base c.trace 4 2 y h room (lines_of (sited b)) a) (chosen-here Base c.trace 4 2 (sited b) o a)

all-marked : (cs : List Case) (bs : List Body) → map expected cs ≡ map computed bs → AllMarked cs (map chosen bs)
all-marked [] [] e = tt
all-marked [] (b ∷ bs) e = clash (cc)
all-marked (c ∷ cs) [] e = clash (cc)
all-marked (c ∷ cs) (b ∷ bs) e =
    let h : expected c ≡ computed b = cc in
    let k : map expected cs ≡ map computed bs = cc in
    (marked_as c b h, all-marked cs bs k)

by_hand : map chosen trees ≡ chosen_lines
unfolding choose
by_hand = refl

-- LAW: the lines worked out by hand
pub twelve-marked : TwelveMarked
twelve-marked = subst (AllMarked twelve) by_hand (all-marked twelve trees test)
