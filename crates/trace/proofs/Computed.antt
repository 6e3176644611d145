-- What the laws say of a text that is accepted, in either family, as the lines of a body that was written out.
use mathlib.Core.Path.{◌≡◌, sym, subst}
use mathlib.Core.Bool.{true}
use mathlib.Core.List.{List}
use Prim.Native.Nat.{ℕ}
use Rattle.line.specs.Family.{Family}
use Rattle.chain.specs.Over.{lines_in}
use Rattle.trace.specs.Shape.{root}
use Rattle.trace.specs.Series.{SpanOf, ChosenOf}
use Rattle.trace.specs.Rows.{SpansOf}
use Rattle.trace.specs.Refusals.{accepted, verdict_of}
use Rattle.trace.specs.Tree.{Body, lines_of, PartsOf, span_of, spans_in}
use Rattle.trace.specs.Fold.{chain_of}
use Rattle.trace.proofs.Tree.{body-one, is_of, is-of}
use Rattle.trace.proofs.Parse.{accepted-parts-of}
use Rattle.trace.proofs.Root.{root-span, root-chosen}
use Rattle.trace.proofs.Outermost.{spans_tree}

module _ (f : Family) (s : List ℕ) (D M : ℕ) (b : Body) (o : is_of f 0 b ≡ true) (e : verdict_of f s D M true ≡ accepted (lines_of b)) where
  p : PartsOf f D (lines_of b)
  p = accepted-parts-of f s D M true (lines_of b) e

  same : p.body ≡ b
  same = body-one f 0 p.body b p.of (is-of f 0 b o) (sym p.lines)

  pub span-here : SpanOf f (lines_of b) root (span_of b)
  span-here = subst (λ (c : Body). SpanOf f (lines_of b) root (span_of c)) same (root-span D (lines_of b) p)

  pub chosen-here : ChosenOf f (lines_of b) (lines_in (chain_of 0 0 b))
  chosen-here = subst (λ (c : Body). ChosenOf f (lines_of b) (lines_in (chain_of 0 0 c))) same (root-chosen D (lines_of b) p)

  pub spans_here : (i : ℕ) → SpansOf f (lines_of b) i (spans_in i b)
  spans_here i = subst (λ (c : Body). SpansOf f (lines_of b) i (spans_in i c)) same (spans_tree D (lines_of b) p i)
