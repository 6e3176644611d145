-- For proofs and engines, not for the reader of document 01: the plan of a body, and Cilkprof's recurrence with
-- chains for numbers. A body is taken with the number n of its first line and the row s of its invocation.
use Rattle.std.specs.Prelude.{ℕ, suc, ◌+◌, cond, List, [], ◌∷◌, ◌++◌, eqb, ltb}
use Rattle.chain.specs.Plan.{CostLine, Plan, none, cost, seq, par, weight, choose}
use Rattle.trace.specs.Tree.{Way, call, spawn, async, pass, finish, Leaf, spend, sync, note, Body, done, leaf, child, ahead, size}

abbrev pub cost_at : ℕ → ℕ → ℕ → ℕ → CostLine
cost_at n s v i = record { line = n; row = s; value = v; instructions = i }

-- what a cost line comes to in either measure
abbrev pub its_cycles : CostLine → ℕ
its_cycles x = x.value

abbrev pub its_instructions : CostLine → ℕ
its_instructions x = x.instructions

-- what follows in the block, up to the next sync of the thing that joins it, and what follows behind that
pub record Rest : Type 0 where
  pub now : Plan
  pub later : Plan

abbrev pub nil : Rest
nil = record { now = none; later = none }

abbrev pub all : Rest → Plan
all k = seq k.now k.later

-- What a child's body makes of what follows the child. A called child or a finish is in series with what follows it in its
-- block, a spawned child parallel to all of that, and a call that joins nothing hands it on into its own items.
abbrev pub together : Way → (Rest → Rest) → Rest → Rest
together call f k = record { now = seq (all (f nil)) k.now; later = k.later }
together spawn f k = record { now = par (all (f nil)) k.now; later = k.later }
together async f k = record { now = par (all (f nil)) k.now; later = k.later }
together pass f k = f k
together finish f k = record { now = seq (all (f nil)) k.now; later = k.later }

-- the plan of a body's items with what follows the body
abbrev pub plan_to : ℕ → ℕ → Body → Rest → Rest
plan_to n s done k = k
plan_to n s (leaf (spend v) r) k = record { now = seq (cost (cost_at n s v (ahead r))) (plan_to (suc n) s r k).now; later = (plan_to (suc n) s r k).later }
plan_to n s (leaf sync r) k = record { now = none; later = all (plan_to (suc n) s r k) }
plan_to n s (leaf (note x) r) k = plan_to (suc n) s r k
plan_to n s (child w i g r) k = together w (plan_to (suc n) i g) (plan_to (suc n + size g) s r k)

-- what stands before the next sync directly in the body, and what stands behind that sync
abbrev pub block : ℕ → ℕ → Body → Plan
block n s b = (plan_to n s b nil).now

abbrev pub after : ℕ → ℕ → Body → Plan
after n s b = (plan_to n s b nil).later

abbrev pub plan : ℕ → ℕ → Body → Plan
plan n s b = seq (block n s b) (after n s b)

-- the chains of an open invocation: p up to the last join, l the longest child's since, c the continuation's since
-- the spawn of l
pub record Chains : Type 0 where
  pub p : List CostLine
  pub l : List CostLine
  pub c : List CostLine

abbrev pub nothing : Chains
nothing = record { p = []; l = []; c = [] }

-- after a cost, a sync or return, a call of a child whose chain is g, and a spawn of one
abbrev pub spent : CostLine → Chains → Chains
spent x k = record { p = k.p; l = k.l; c = k.c ++ x ∷ [] }

abbrev pub joined : Chains → Chains
joined k = record { p = k.p ++ choose k.l k.c; l = []; c = [] }

abbrev pub called : List CostLine → Chains → Chains
called g k = record { p = k.p; l = k.l; c = k.c ++ g }

abbrev pub spawned : List CostLine → Chains → Chains
spawned g k = cond (ltb (weight k.l) (weight k.c + weight g)) (record { p = k.p ++ k.c; l = g; c = [] }) k

-- the chains behind a leaf line, where i is what the line behind it carries
abbrev pub leaf_chains : ℕ → ℕ → Leaf → ℕ → Chains → Chains
leaf_chains n s (spend v) i k = spent (cost_at n s v i) k
leaf_chains n s sync i k = joined k
leaf_chains n s (note x) i k = k

-- the chain of an invocation whose items make this of its chains, with the join at its return
abbrev pub ended : (Chains → Chains) → List CostLine
ended f = (joined (f nothing)).p

-- the chains behind a child whose items make this of its chains
abbrev pub child_chains : Way → (Chains → Chains) → Chains → Chains
child_chains call f k = called (ended f) k
child_chains spawn f k = spawned (ended f) k
child_chains async f k = spawned (ended f) k
child_chains pass f k = f k
child_chains finish f k = called (ended f) k

-- what the items of a body make of the chains that its invocation has come to; the join at its return is left to the
-- caller
abbrev pub run : ℕ → ℕ → Body → Chains → Chains
run n s done k = k
run n s (leaf l r) k = run (suc n) s r (leaf_chains n s l (ahead r) k)
run n s (child w i g r) k = run (suc n + size g) s r (child_chains w (run (suc n) i g) k)

-- the chain of the whole invocation
abbrev pub chain_of : ℕ → ℕ → Body → List CostLine
chain_of n s b = ended (run n s b)

-- what a chain comes to in a measure, and the part of that which stands in row s
abbrev pub on_all : (CostLine → ℕ) → List CostLine → ℕ
on_all m [] = 0
on_all m (x ∷ c) = m x + on_all m c

abbrev pub on_row : (CostLine → ℕ) → ℕ → List CostLine → ℕ
on_row m s [] = 0
on_row m s (x ∷ c) = cond (eqb x.row s) (m x) 0 + on_row m s c
