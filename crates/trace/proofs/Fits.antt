-- The plan of an invocation's body fits the rule of its cost lines, in each family.
use mathlib.Core.List.{List, ◌∷◌, ◌++◌}
use Prim.Native.Nat.{ℕ}
use Rattle.line.specs.Family.{Family, Base, Finishes}
use Rattle.line.specs.declared.Frame.{Frame}
use Rattle.chain.proofs.Over.{Fits}
use Rattle.trace.specs.Series.{rule_of}
use Rattle.trace.specs.Tree.{Body, Of, lines_of}
use Rattle.trace.specs.Fold.{plan}
use Rattle.trace.proofs.Context.{Ctx}
use Rattle.trace.proofs.Chains.{fits, apart-is-parallel, parallel-is-apart}
use Rattle.trace.proofs.Asyncs as A

-- The invocation F, in row s, has the body g, whose first line is line F.
module _ (t : List Frame) (s F : ℕ) (o : List ℕ) (g : Body) (post : List Frame) (x : Ctx t F (F ∷ o) (lines_of g ++ post)) where
  -- LAW
  pub fits-of : (f : Family) → Of f s g → Fits (rule_of f t F) (plan F s g)
  fits-of Base h = fits t s F o g post x Base (apart-is-parallel t s F o g post x h) (parallel-is-apart t s F o g post x h)
  fits-of Finishes h = fits t s F o g post x Finishes (A.apart-is-parallel t F s F o g post x h) (A.parallel-is-apart t F s F o g post x h)
