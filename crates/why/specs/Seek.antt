-- For proofs and engines, not for the reader of document 02: Cilkprof's recurrence in which a chain is two numbers, its
-- weight and the smallest of its lines that is not marked; and the answer from two passes.
use Rattle.std.specs.Prelude.{ℕ, suc, ◌+◌, ◌-◌, Bool, cond, List, [], ◌∷◌, ltb}
use Rattle.trace.specs.Refusals.{most_lines}
use Rattle.trace.specs.Tree.{Way, call, spawn, async, pass, finish, Leaf, spend, sync, note, Body, done, leaf, child, size}
use Rattle.walk.specs.Measure.{cycles}
use Rattle.why.specs.declared.Why.{Why}
use Rattle.why.specs.declared.Why.TheVariants.{OnChain, Slack, Tied}
use Rattle.why.specs.declared.Seen.{Seen}
use Rattle.why.specs.declared.Sought.{Sought}

abbrev pub smaller : ℕ → ℕ → ℕ
smaller a b = cond (ltb b a) b a

-- line x where it is not marked; past every line where it is
abbrev pub if_unmarked : (ℕ → Bool) → ℕ → ℕ
if_unmarked marked x = cond (marked x) most_lines x

-- the smallest of these lines that is not marked; past every line where there is none
abbrev pub unmarked : (ℕ → Bool) → List ℕ → ℕ
unmarked marked [] = most_lines
unmarked marked (x ∷ c) = smaller (if_unmarked marked x) (unmarked marked c)

-- what is seen of a chain
abbrev pub seen : ℕ → ℕ → Seen
seen w k = record { weighs = cycles w; first = k }

abbrev pub unseen : Seen
unseen = seen 0 most_lines

-- two chains in series: "the smaller of two"
abbrev pub in_series : Seen → Seen → Seen
in_series a b = seen (a.weighs.0 + b.weighs.0) (smaller a.first b.first)

-- the heavier of two, the first where they weigh the same
abbrev pub heavier_of : Seen → Seen → Seen
heavier_of a b = cond (ltb a.weighs.0 b.weighs.0) b a

-- what is seen of the chains of an invocation that begins
abbrev pub start : Sought
start = record { p = unseen; l = unseen; c = unseen }

-- after a sync or return, a call of a child of which g is seen, and a spawn of one
abbrev pub joined_seen : Sought → Sought
joined_seen k = record { p = in_series k.p (heavier_of k.l k.c); l = unseen; c = unseen }

abbrev pub called_seen : Seen → Sought → Sought
called_seen g k = record { p = k.p; l = k.l; c = in_series k.c g }

abbrev pub spawned_seen : Seen → Sought → Sought
spawned_seen g k = cond (ltb k.l.weighs.0 (k.c.weighs.0 + g.weighs.0)) (record { p = in_series k.p k.c; l = g; c = unseen }) k

-- what is seen of an invocation whose items make this of it, with the join at its return
abbrev pub ended_seen : (Sought → Sought) → Seen
ended_seen f = (joined_seen (f start)).p

-- behind a child whose items make this of it
abbrev pub child_seen : Way → (Sought → Sought) → Sought → Sought
child_seen call f k = called_seen (ended_seen f) k
child_seen spawn f k = spawned_seen (ended_seen f) k
child_seen async f k = spawned_seen (ended_seen f) k
child_seen pass f k = f k
child_seen finish f k = called_seen (ended_seen f) k

module _ (marked : ℕ → Bool) where
  -- behind a leaf line, which is line n
  abbrev pub leaf_seen : ℕ → Leaf → Sought → Sought
  leaf_seen n (spend v) k = called_seen (seen v (if_unmarked marked n)) k
  leaf_seen n sync k = joined_seen k
  leaf_seen n (note x) k = k

  -- what the items of a body whose first line is line n make of it; the join at its return is left to the caller
  abbrev pub seek : ℕ → Body → Sought → Sought
  seek n done k = k
  seek n (leaf l r) k = seek (suc n) r (leaf_seen n l k)
  seek n (child w i g r) k = seek (suc n + size g) r (child_seen w (seek (suc n) g) k)

  -- what is seen of the whole invocation
  abbrev pub sought : ℕ → Body → Seen
  sought n b = ended_seen (seek n b)

-- The answer of a cost line through which the heaviest chain weighs w, where the span is n, and k is the smallest line of
-- the chosen chain that is not on the first of the heaviest through it.
abbrev pub at_tie : ℕ → Why
at_tie k = cond (ltb k most_lines) (Tied k) OnChain

abbrev pub answer_of : ℕ → ℕ → ℕ → Why
answer_of w n k = cond (ltb w n) (Slack (n - w)) (at_tie k)
