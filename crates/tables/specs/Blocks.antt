-- For proofs and engines, not for the reader of document 01: what an open invocation's part of the scratch holds, and its
-- child's behind it. A block is n numbers, a table of w rows and its word. One block is in use as long as no child is the
-- longest, then three. A called child is lent all from the continuation's table on, a spawned
-- child all that lies behind the blocks in use.
use Rattle.std.specs.Prelude.{ℕ, ◌+◌, ◌*◌, ◌%◌, ◌^◌, ◌≤◌, ◌<◌, ◌≡◌, cond, List, [], ◌++◌, eqb, length, get_or}
use Rattle.chain.specs.Plan.{CostLine, weight}
use Rattle.trace.specs.Fold.{cost_at, its_instructions, Chains, spent, joined, spawned, on_all}
use Rattle.walk.specs.declared.Open.{Open}
use Rattle.walk.specs.Numbers.{numbers, load, iload}
use Rattle.tables.specs.Walks.{Table}

-- the tables of the three chains, that of a child's chain g at the front of the child's part, and zeros behind it
pub record Shows (n w : ℕ) (t : List ℕ) (k : Chains) (g : List CostLine) : Type 0 where
  pub P : Table t 0 w k.p
  pub L : Table t n w k.l
  pub C : Table t (2 * n) w k.c
  pub G : Table t (3 * n) w g
  pub zero : (j : ℕ) → 4 * n ≤ j → get_or t j 0 ≡ 0

-- where the continuation's table is, by what the longest child weighs: in the prefix's block as long as no child is
-- the longest
abbrev pub since_at : ℕ → ℕ → ℕ
since_at n longest = cond (eqb longest 0) 0 (2 * n)

-- where a spawned child's part of the scratch begins: behind the blocks in use, one as long as no child is the longest,
-- else three
abbrev pub part_at : ℕ → ℕ → ℕ
part_at n longest = cond (eqb longest 0) n (3 * n)

-- where the part of a child begins whose line is of this kind: a called child's at the continuation's table
abbrev pub child_at : ℕ → ℕ → ℕ → ℕ
child_at kind n longest = cond (eqb kind 2) (since_at n longest) (part_at n longest)

-- The scratch of an invocation that has come to the chains k, with a child's chain g at the front of the child's part. As
-- long as no child is the longest, the prefix's block is the table of the prefix and the continuation together, and the
-- front of the child's part, which is the next block, is that of the longest child once the child has returned.
pub record Holds (n w : ℕ) (t : List ℕ) (k : Chains) (g : List CostLine) : Type 0 where
  pub first : weight k.l ≡ 0 → Shows n w t (record { p = k.p ++ k.c; l = g; c = [] }) []
  pub later : (weight k.l ≡ 0 → ⊥) → Shows n w t k g

-- The chains of an invocation that has come to k itself, behind the chain q whose table was at the front of its part when
-- it was opened: none for the root and a spawned child, what the caller has come to for a called child.
abbrev pub behind : List CostLine → Chains → Chains
behind q k = record { p = q ++ k.p; l = k.l; c = k.c }

-- What a step asks of the scratch t of an invocation with the numbers f: it holds the chains that weigh so, behind some
-- chain, with a child's chain of weight u beside them, and v cycles and j instructions more fit. The blocks in use are there, and where a child is
-- the longest the table of no chain behind them.
pub record Asks (n w : ℕ) (t : List ℕ) (f : Open) (u v j : ℕ) : Type 0 where
  pub blocks : n ≡ w + 1
  pub even : w % 2 ≡ 0
  pub room : n ≤ length t
  pub wide : (f.longest.0 ≡ 0 → ⊥) → 4 * n ≤ length t
  pub q : List CostLine
  pub k : Chains
  pub g : List CostLine
  pub weighs : f ≡ numbers f.at f.work.0 k
  pub child : weight g ≡ u
  pub holds : Holds n w t (behind q k) g
  pub fits : weight q + load k + (u + v) < 2 ^ 64
  pub ifits : on_all its_instructions q + iload k + (on_all its_instructions g + j) < 2 ^ 64

-- behind a cost of v cycles and j instructions in row s
abbrev pub Spent : (n w s v j : ℕ) (t : List ℕ) (f r : Open) (t' : List ℕ) → Type 0
Spent n w s v j t f r t' = (q : List CostLine) (k : Chains) → f ≡ numbers f.at f.work.0 k → Holds n w t (behind q k) []
    → (r ≡ numbers (f.at + 1) (f.work.0 + v) (spent (cost_at f.at s v j) k)) × Holds n w t' (behind q (spent (cost_at f.at s v j) k)) []

-- behind a sync or the return
abbrev pub Joined : (n w : ℕ) (t : List ℕ) (f r : Open) (t' : List ℕ) → Type 0
Joined n w t f r t' = (q : List CostLine) (k : Chains) → f ≡ numbers f.at f.work.0 k → Holds n w t (behind q k) []
    → (r ≡ numbers (f.at + 1) f.work.0 (joined k)) × Holds n w t' (behind q (joined k)) []

-- behind a spawned child with the numbers c
abbrev pub Spawned : (n w : ℕ) (t : List ℕ) (f c r : Open) (t' : List ℕ) → Type 0
Spawned n w t f c r t' = (q : List CostLine) (k : Chains) (g : List CostLine) → f ≡ numbers f.at f.work.0 k → weight g ≡ c.prefix.0 → Holds n w t (behind q k) g
    → (r ≡ numbers c.at (f.work.0 + c.work.0) (spawned g k)) × Holds n w t' (behind q (spawned g k)) []
