-- A trace whose cost lines weigh otherwise, however much, has the span and the chosen chain of the weighed body. The
-- weight of a line may go past the table, so that the trace need not be an accepted one.
use mathlib.Core.Path.{◌≡◌, refl, sym, ◌∙◌, ap, subst}
use mathlib.Core.Bool.{Bool, true, false, cond}
use mathlib.Core.List.{List, [], ◌∷◌, ◌++◌, append-nil}
use Prim.Native.Nat.{ℕ, suc, ◌+◌, ◌≤◌}
use native.Mathlib.Omega.{arith}
use lib.Dec.{eqb}
use Rattle.line.specs.Family.{Family}
use Rattle.line.specs.declared.Frame.{Frame}
use Rattle.chain.specs.Over.{lines_in}
use Rattle.trace.specs.Shape.{root, step}
use Rattle.trace.specs.Series.{SpanOf, ChosenOf}
use Rattle.trace.specs.Tree.{spend, sync, note, Body, done, leaf, child, Of, lines_of, size, PartsOf, span_of}
use Rattle.trace.specs.Fold.{chain_of}
use Rattle.trace.proofs.Recurrence.{Paid}
use Rattle.trace.proofs.Parallels.{Alive}
use Rattle.trace.proofs.Context.{Ctx}
use Rattle.trace.proofs.Chains.{chosen_of}
use Rattle.trace.proofs.Fits.{fits-of}
use Rattle.trace.proofs.Invocations.{Inv, whole, root-ctx, root-paid}
use Rattle.trace.proofs.Stretches.{span_is}
use Rattle.weigh.specs.Weighed.{Weigh, weighed, reweighed}
use Rattle.weigh.specs.Raised.{raised}
use Rattle.weigh.proofs.Alike.{ButCosts, step_alike}
use Rattle.weigh.proofs.Weighed.{weighed-of, reweighed-trace}
use Rattle.weigh.proofs.Accepted.{reweighed_alike}
use Rattle.weigh.proofs.OneLine.{on_line, one-weighed}

-- a cost stays at least 1
abbrev pub AtLeastOne : Weigh → Type 0
AtLeastOne w = (n s v : ℕ) → 1 ≤ v → 1 ≤ w n s v

pub weighed-paid : (w : Weigh) → AtLeastOne w → (b : Body) (n s : ℕ) → Paid b → Paid (weighed w n s b)
weighed-paid w one done n s h = tt
weighed-paid w one (leaf (spend v) r) n s h = (one n s v h.0, weighed-paid w one r (suc n) s h.1)
weighed-paid w one (leaf sync r) n s h = (tt, weighed-paid w one r (suc n) s h.1)
weighed-paid w one (leaf (note x) r) n s h = (tt, weighed-paid w one r (suc n) s h.1)
weighed-paid w one (child y i g r) n s h = (weighed-paid w one g (suc n) i h.0, weighed-paid w one r (suc n + size g) s h.1)

-- some invocation is open at each line of the one as of the other
alive_alike : (n : ℕ) (o : List ℕ) (t u : List Frame) → ButCosts t u → Alive n o t → Alive n o u
alive_alike n o [] [] h a = tt
alive_alike n o [] (f ∷ u) h a = absurd h
alive_alike n o (e ∷ t) [] h a = absurd h
alive_alike n [] (e ∷ t) (f ∷ u) h a = absurd a
alive_alike n (c ∷ o) (e ∷ t) (f ∷ u) h a =
    alive_alike (suc n) (step n f (c ∷ o)) t u h.1 (subst (λ (k : List ℕ). Alive (suc n) k t) (step_alike n e f (c ∷ o) h.0) a)

module _ {f : Family} (w : Weigh) (one : AtLeastOne w) (D : ℕ) (t : List Frame) (p : PartsOf f D t) where
  abbrev other : List Frame
  other = reweighed w 0 (0 ∷ []) t

  abbrev body : Body
  body = weighed w 0 0 p.body

  of : Of f 0 body
  of = weighed-of f w p.body 0 0 p.of

  lines : other ≡ lines_of body ++ []
  lines = ap (reweighed w 0 (0 ∷ [])) p.lines ∙ reweighed-trace f w p.body p.of ∙ sym (append-nil (lines_of body))

  ctx : Ctx other root (root ∷ []) (lines_of body ++ [])
  ctx =
      record {
        pre = [];
        whole = lines;
        count = refl;
        opened = refl;
        low = (root-ctx D t p).low;
        rooted = (root-ctx D t p).rooted;
        alive = subst (Alive root (root ∷ [])) lines (alive_alike root (root ∷ []) t other (reweighed_alike w t 0 (0 ∷ [])) (subst (Alive root (root ∷ [])) (sym (whole D t p)) (root-ctx D t p).alive));
      }

  paid : Paid body
  paid = weighed-paid w one p.body 0 0 (root-paid D t p)

  -- LAW: the root is an invocation with the weighed body
  pub weighed_inv : Inv f (reweighed w 0 (0 ∷ []) t) root (weighed w 0 0 p.body)
  weighed_inv = record { row = 0; of = of; around = []; post = []; ctx = ctx; paid = paid }

  -- LAW
  pub weighed-span : SpanOf f (reweighed w 0 (0 ∷ []) t) root (span_of (weighed w 0 0 p.body))
  weighed-span = span_is other root body weighed_inv

  -- LAW
  pub weighed-chosen : ChosenOf f (reweighed w 0 (0 ∷ []) t) (lines_in (chain_of 0 0 (weighed w 0 0 p.body)))
  weighed-chosen = chosen_of f other 0 root body (fits-of other 0 root [] body [] ctx f of) paid refl

-- ── one line heavier, by whatever d ──

-- line q weighs d more
abbrev pub heavier : ℕ → ℕ → Weigh
heavier q d = on_line q (λ v. v + d)

heavier-one : (q d : ℕ) → AtLeastOne (heavier q d)
heavier-one q d n s v h = go (eqb n q)
  where
    go : (b : Bool) → 1 ≤ cond b (v + d) v
    go true = omega arith
    go false = h

module _ {f : Family} (D : ℕ) (t : List Frame) (p : PartsOf f D t) (q d : ℕ) where
  -- the root's body with that line heavier
  abbrev pub heavy_body : Body
  heavy_body = weighed (heavier q d) 0 0 p.body

  -- LAW
  pub raised_span : SpanOf f (raised t q d) root (span_of heavy_body)
  raised_span = subst (λ (u : List Frame). SpanOf f u root (span_of heavy_body)) (one-weighed (λ v. v + d) t q) (weighed-span (heavier q d) (heavier-one q d) D t p)

  -- LAW
  pub raised-chosen : ChosenOf f (raised t q d) (lines_in (chain_of 0 0 heavy_body))
  raised-chosen = subst (λ (u : List Frame). ChosenOf f u (lines_in (chain_of 0 0 heavy_body))) (one-weighed (λ v. v + d) t q) (weighed-chosen (heavier q d) (heavier-one q d) D t p)
