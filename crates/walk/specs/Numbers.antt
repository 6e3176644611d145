-- For proofs and engines, not for the reader of document 01: the numbers of an open invocation, what its chains
-- weigh, and what each item makes of them.
use Rattle.std.specs.Prelude.{ℕ, ◌+◌, Bool, cond, List, ltb}
use Rattle.chain.specs.Plan.{CostLine, weight}
use Rattle.trace.specs.Fold.{its_instructions, Chains, on_all}
use Rattle.walk.specs.declared.Open.{Open}
use Rattle.walk.specs.Measure.{cycles}

-- an invocation at a line, by its plain numbers
abbrev pub opened : (at work prefix longest since : ℕ) → Open
opened at work prefix longest since = record { at = at; work = cycles work; prefix = cycles prefix; longest = cycles longest; since = cycles since }

-- an invocation at line n, with work w so far and these chains
abbrev pub numbers : ℕ → ℕ → Chains → Open
numbers n w k = opened n w (weight k.p) (weight k.l) (weight k.c)

-- behind a cost of v
abbrev pub spent_n : ℕ → Open → Open
spent_n v f = opened (f.at + 1) (f.work.0 + v) f.prefix.0 f.longest.0 (f.since.0 + v)

-- behind a line that weighs nothing and joins nothing
abbrev pub passed_n : Open → Open
passed_n f = opened (f.at + 1) f.work.0 f.prefix.0 f.longest.0 f.since.0

-- at a join: the continuation is heavier than the longest child
abbrev pub later_heavier : Open → Bool
later_heavier f = ltb f.longest.0 f.since.0

-- behind a sync or the return, where that is the answer
abbrev pub joined_n : Bool → Open → Open
joined_n later f = opened (f.at + 1) f.work.0 (f.prefix.0 + cond later f.since.0 f.longest.0) 0 0

-- behind a called child g
abbrev pub called_n : Open → Open → Open
called_n g f = opened g.at (f.work.0 + g.work.0) f.prefix.0 f.longest.0 (f.since.0 + g.prefix.0)

-- at a spawned child g: the continuation up to it, with it, is longer than the longest child
abbrev pub child_longer : Open → Open → Bool
child_longer g f = ltb f.longest.0 (f.since.0 + g.prefix.0)

-- behind it, where that is the answer: it is the longest from now on where it is longer
abbrev pub spawned_n : Bool → Open → Open → Open
spawned_n longer g f =
    cond longer
    (opened g.at (f.work.0 + g.work.0) (f.prefix.0 + f.since.0) g.prefix.0 0)
    (opened g.at (f.work.0 + g.work.0) f.prefix.0 f.longest.0 f.since.0)

-- what the three chains come to together, by what a chain comes to: what they weigh, and their instructions
abbrev pub load_by : (List CostLine → ℕ) → Chains → ℕ
load_by m k = m k.p + (m k.l + m k.c)

abbrev pub load : Chains → ℕ
load k = load_by weight k

abbrev pub iload : Chains → ℕ
iload k = load_by (on_all its_instructions) k
