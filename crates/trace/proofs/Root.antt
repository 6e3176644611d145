-- The trace's plan has its cost lines and its parallel pairs; the root's span and chosen chain are what the
-- recurrence gives, and nothing else.
use mathlib.Core.Path.{◌≡◌, refl}
use mathlib.Core.Logic.{◌↔◌}
use mathlib.Core.List.{List, []}
use Prim.Native.Nat.{ℕ, ◌<◌}
use Rattle.line.specs.Family.{Family}
use Rattle.line.specs.declared.Frame.{Frame}
use Rattle.chain.specs.Plan.{CostLine, Plan, costs, On, Apart}
use Rattle.chain.specs.Over.{lines_in}
use Rattle.chain.proofs.Over.{Found, Fits}
use Rattle.trace.specs.Shape.{root}
use Rattle.trace.specs.Series.{value_at, CostIn, ParallelOf, rule_of, SpanOf, ChosenOf}
use Rattle.trace.specs.Tree.{PartsOf, span_of}
use Rattle.trace.specs.Fold.{plan, chain_of}
use Rattle.trace.proofs.Unique.{span_unique_of, chosen_unique_of}
use Rattle.trace.proofs.Chains.{cost-on, on-cost, chosen_of}
use Rattle.trace.proofs.Fits.{fits-of}
use Rattle.trace.proofs.Invocations.{root-ctx, root-paid, root_inv}
use Rattle.trace.proofs.Stretches.{span_is}

module _ {f : Family} (D : ℕ) (t : List Frame) (p : PartsOf f D t) where
  abbrev pub root_chain : List CostLine
  root_chain = chain_of 0 0 p.body

  abbrev pub root_plan : Plan
  root_plan = plan 0 0 p.body

  -- the plan fits the rule of the root's cost lines
  root-fits : Fits (rule_of f t root) root_plan
  root-fits = fits-of t 0 root [] p.body [] (root-ctx D t p) f p.of

  -- LAW: two cost lines are parallel exactly where they are apart in the plan
  pub parallel_iff : (y z : CostLine) → On root_plan y → On root_plan z → y.line < z.line → ParallelOf f t y.line z.line ↔ Apart root_plan y z
  parallel_iff y z my mz l = (root-fits.parallel y z my mz l, root-fits.apart y z my mz l)

  -- LAW: the costs of the plan are the cost lines of the trace
  pub plan-cost : (y : CostLine) → On root_plan y → CostIn t root y.line × (value_at t y.line ≡ y.value)
  plan-cost = on-cost t 0 root [] p.body [] (root-ctx D t p)

  pub cost-plan : (k : ℕ) → CostIn t root k → Found (costs root_plan) k (value_at t k)
  cost-plan = cost-on t 0 root [] p.body [] (root-ctx D t p)

  -- LAW
  pub root-span : SpanOf f t root (span_of p.body)
  root-span = span_is t root p.body (root_inv D t p)

  -- LAW
  pub root-chosen : ChosenOf f t (lines_in root_chain)
  root-chosen = chosen_of f t 0 root p.body root-fits (root-paid D t p) refl

  pub root-span-only : (n : ℕ) → SpanOf f t root n → n ≡ span_of p.body
  root-span-only n s = span_unique_of f t root n (span_of p.body) s root-span

  pub root-chosen-only : (c : List ℕ) → ChosenOf f t c → c ≡ lines_in root_chain
  root-chosen-only c h = chosen_unique_of f t c (lines_in root_chain) h root-chosen
