-- A body is its first item and the rest: size, work, rows, chains, lines.
use mathlib.Core.Path.{◌≡◌, refl, ap, sym}
use mathlib.Core.Logic.{◌⊎◌, inl, inr}
use mathlib.Core.Bool.{Bool, true, false, cond}
use mathlib.Core.List.{List, [], ◌∷◌, ◌++◌}
use Prim.Native.Nat.{ℕ, suc, ◌+◌, ◌≤◌, ◌<◌}
use native.Mathlib.Numerals.{add-one}
use native.Mathlib.Omega.{arith}
use lib.Dec.{ltb}
use Rattle.line.specs.Family.{Family}
use Rattle.chain.specs.Plan.{CostLine, weight, choose}
use Rattle.chain.proofs.Lists.{weight-append}
use Rattle.chain.proofs.Choose.{choose-cases}
use Rattle.trace.specs.Tree.{Way, call, spawn, async, pass, finish, Leaf, spend, sync, note, leaf_work, leaf_cycles, leaf_instructions, Body, done, leaf, child, ahead, size, all_of, work_of, instructions_of}
use Rattle.trace.specs.Fold.{cost_at, its_instructions, Chains, nothing, joined, spawned, leaf_chains, ended, child_chains, run, chain_of, on_all}
use Rattle.trace.proofs.OnChain.{on-append}
use Rattle.weigh.specs.Weighed.{Weigh}
use Rattle.walk.specs.Reads.{Reads}
use Rattle.walk.specs.Numbers.{load_by, load, iload}
use Rattle.walk.specs.Gain.{gain}
use Rattle.walk.specs.Nested.{Nested}
use Rattle.walk.specs.Item.{More, rest, item_size, item_of, item_work, item_instructions, item_gain, item_chains}
use Rattle.walk.proofs.Return.{cost_gain_le, child_gain_le}

pub size-item : (b : Body) → More b → size b ≡ item_size b + size (rest b)
size-item done h = absurd h
size-item (leaf l r) h = omega arith
size-item (child w j g r) h = omega arith

pub size-some : (b : Body) → 1 ≤ size b
size-some done = omega arith
size-some (leaf l r) = omega arith
size-some (child w j g r) = omega arith

pub item-some : (b : Body) → More b → 1 ≤ item_size b
item-some done h = absurd h
item-some (leaf l r) h = omega arith
item-some (child w j g r) h = omega arith

all-item : (m : Leaf → Body → ℕ) (b : Body) → all_of m b ≡ item_of m b + all_of m (rest b)
all-item m done = refl
all-item m (leaf l r) = refl
all-item m (child w j g r) = refl

pub work-item : (b : Body) → work_of b ≡ item_work b + work_of (rest b)
work-item b = all-item leaf_cycles b

pub instructions-item : (b : Body) → instructions_of b ≡ item_instructions b + instructions_of (rest b)
instructions-item b = all-item leaf_instructions b

pub gain-item : (b : Body) (s i : ℕ) → gain s b i ≡ item_gain s b i + gain s (rest b) i
gain-item done s i = refl
gain-item (leaf l r) s i = refl
gain-item (child w j g r) s i = refl

pub item_gain_le : (s : ℕ) (b : Body) → More b → (i : ℕ) → item_gain s b i ≤ item_size b + (item_work b + item_instructions b)
item_gain_le s done h i = absurd h
item_gain_le s (leaf l r) h i = omega (arith, cost_gain_le s (leaf_work l) (leaf_instructions l r) i)
item_gain_le s (child w j g r) h i = omega (arith, child_gain_le w j g i)

-- the line behind an item of one line and z more
behind : (n z : ℕ) → n + (1 + z) ≡ suc n + z
behind n z = omega arith

pub run-item : (b : Body) (n s : ℕ) (k : Chains) → More b → run n s b k ≡ run (n + item_size b) s (rest b) (item_chains n s b k)
run-item done n s k h = absurd h
run-item (leaf l r) n s k h = ap (λ (m : ℕ). run m s r (leaf_chains n s l (ahead r) k)) (sym (add-one n))
run-item (child w j g r) n s k h = rw (behind n (size g), add-one n)

-- Chains come to at most what they came to and what was spent: by a measure of chains and the leaves that it is made of.
module _ (m : List CostLine → ℕ) (of_leaf : Leaf → Body → ℕ) (m-none : m [] ≡ 0) (m-append : (a b : List CostLine) → m (a ++ b) ≡ m a + m b)
    (m-cost : (n s v : ℕ) (r : Body) → m (cost_at n s v (ahead r) ∷ []) ≡ of_leaf (spend v) r) where
  choose_le : (l c : List CostLine) → m (choose l c) ≤ m l + m c
  choose_le l c = go (choose-cases l c)
    where
      go : ((weight l < weight c) × (choose l c ≡ c)) ⊎ ((weight c ≤ weight l) × (choose l c ≡ l)) → m (choose l c) ≤ m l + m c
      go (inl k) = omega (arith, ap m k.1)
      go (inr k) = omega (arith, ap m k.1)

  join_load : (k : Chains) → load_by m (joined k) ≤ load_by m k
  join_load k = omega (arith, m-append k.p (choose k.l k.c), choose_le k.l k.c, m-none)

  spawn_load : (k : Chains) (g : List CostLine) → load_by m (spawned g k) ≤ load_by m k + m g
  spawn_load k g = go (ltb (weight k.l) (weight k.c + weight g))
    where
      go : (t : Bool) → load_by m (cond t (record { p = k.p ++ k.c; l = g; c = [] }) k) ≤ load_by m k + m g
      go true = omega (arith, m-append k.p k.c, m-none)
      go false = omega arith

  leaf-load : (l : Leaf) (r : Body) (n s : ℕ) (k : Chains) → load_by m (leaf_chains n s l (ahead r) k) ≤ load_by m k + of_leaf l r
  leaf-load (spend v) r n s k = omega (arith, m-append k.c (cost_at n s v (ahead r) ∷ []), m-cost n s v r)
  leaf-load sync r n s k = omega (arith, join_load k)
  leaf-load (note x) r n s k = omega arith

  -- a child whose items add at most x to whatever chains they begin with
  module _ (f : Chains → Chains) (x : ℕ) (most : (k : Chains) → load_by m (f k) ≤ load_by m k + x) where
    ended-load : m (ended f) ≤ x
    ended-load = omega (arith, join_load (f nothing), most nothing, m-none)

    child-load : (w : Way) (k : Chains) → load_by m (child_chains w f k) ≤ load_by m k + x
    child-load call k = omega (arith, m-append k.c (ended f), ended-load)
    child-load spawn k = omega (arith, spawn_load k (ended f), ended-load)
    child-load async k = omega (arith, spawn_load k (ended f), ended-load)
    child-load pass k = most k
    child-load finish k = omega (arith, m-append k.c (ended f), ended-load)

  run-load : (b : Body) (n s : ℕ) (k : Chains) → load_by m (run n s b k) ≤ load_by m k + all_of of_leaf b
  run-load done n s k = omega arith
  run-load (leaf l r) n s k = omega (arith, run-load r (suc n) s (leaf_chains n s l (ahead r) k), leaf-load l r n s k)
  run-load (child w j g r) n s k =
      let f = run (suc n) j g in
      omega (arith, run-load r (suc n + size g) s (child_chains w f k), child-load f (all_of of_leaf g) (run-load g (suc n) j) w k)

  chain-most : (b : Body) (n s : ℕ) → m (chain_of n s b) ≤ all_of of_leaf b
  chain-most b n s = omega (arith, join_load (run n s b nothing), run-load b n s nothing, m-none)

  item-load : (b : Body) (n s : ℕ) (k : Chains) → load_by m (item_chains n s b k) ≤ load_by m k + item_of of_leaf b
  item-load done n s k = omega arith
  item-load (leaf l r) n s k = leaf-load l r n s k
  item-load (child w j g r) n s k = child-load (run (n + 1) j g) (all_of of_leaf g) (run-load g (n + 1) j) w k

-- what chains weigh
pub chain_le : (b : Body) (n s : ℕ) → weight (chain_of n s b) ≤ work_of b
chain_le b n s = chain-most weight leaf_cycles refl weight-append (λ n s v r. omega arith) b n s

pub load-item : (b : Body) (n s : ℕ) (k : Chains) → load (item_chains n s b k) ≤ load k + item_work b
load-item b n s k = item-load weight leaf_cycles refl weight-append (λ n s v r. omega arith) b n s k

-- and their instructions
pub chain-instructions : (b : Body) (n s : ℕ) → on_all its_instructions (chain_of n s b) ≤ instructions_of b
chain-instructions b n s = chain-most (on_all its_instructions) leaf_instructions refl (on-append its_instructions) (λ n s v r. omega arith) b n s

pub iload-item : (b : Body) (n s : ℕ) (k : Chains) → iload (item_chains n s b k) ≤ iload k + item_instructions b
iload-item b n s k = item-load (on_all its_instructions) leaf_instructions refl (on-append its_instructions) (λ n s v r. omega arith) b n s k

-- the lines behind the first item
pub reads-rest : (y : Family) (w : Weigh) (s : List ℕ) (n row : ℕ) (b : Body) → More b → Reads y w s n row b → Reads y w s (n + item_size b) row (rest b)
reads-rest y w s n row done m h = absurd m
reads-rest y w s n row (leaf l r) m h = h.1
reads-rest y w s n row (child v j g r) m h = h.2

pub nested-rest : (m D d : ℕ) (b : Body) → Nested m D d b → Nested m D d (rest b)
nested-rest m D d done h = tt
nested-rest m D d (leaf l r) h = h.1
nested-rest m D d (child w j g r) h = h.4
