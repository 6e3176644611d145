-- For proofs and engines, not for the reader of document 01: what a reader of an invocation's items asks for, and what it
-- leaves, whichever engine it serves.
use Rattle.std.specs.Prelude.{ℕ, ◌+◌, ◌*◌, ◌^◌, ◌≤◌, ◌<◌, ◌≡◌, List, [], length, get_or}
use Rattle.chain.specs.Plan.{CostLine}
use Rattle.line.specs.Family.{Family}
use Rattle.trace.specs.Rows.{columns}
use Rattle.trace.specs.Tree.{Body, size, work_of}
use Rattle.trace.specs.Fold.{Chains, run, chain_of}
use Rattle.weigh.specs.Weighed.{Weigh}
use Rattle.walk.specs.declared.Open.{Open}
use Rattle.walk.specs.Reads.{Reads}
use Rattle.walk.specs.Numbers.{numbers}
use Rattle.walk.specs.Gain.{gain, most_gain}
use Rattle.walk.specs.Item.{item_size, item_work, item_gain, item_chains}
use Rattle.walk.specs.Nested.{Nested}

-- The lines of s from line f .at on are those of a body of the family, as weighed by w. Its sites are at most m, at most
-- deep things open inside one another, and whatever number reading it comes to, from the invocation's numbers f and the
-- rows, fits: no row number grows by more than lines, costs and instructions are left.
pub record Ready (y : Family) (w : Weigh) (s : List ℕ) (row m deep : ℕ) (f : Open) (rows : List ℕ) : Type 0 where
  pub body : Body
  pub reads : Reads y w s f.at row body
  pub D : ℕ
  pub d : ℕ
  pub nested : Nested m D d body
  pub depth : d + deep ≡ D
  pub row_within : row ≤ m
  pub rows_long : columns * (m + 1) ≤ length rows
  pub ends : f.at + size body ≤ 65536
  pub work_fits : f.work.0 + work_of body < 2 ^ 64
  pub load_fits : f.prefix.0 + (f.longest.0 + f.since.0) + work_of body < 2 ^ 64
  pub rows_fit : (i : ℕ) → i < columns * (m + 1) → get_or rows i 0 + most_gain body < 2 ^ 64

-- behind the first item of b: the numbers r and the rows
pub record ItemDone (row : ℕ) (f : Open) (rows : List ℕ) (b : Body) (k : Chains) (r : Open) (rows' : List ℕ) : Type 0 where
  pub numbers_are : r ≡ numbers (f.at + item_size b) (f.work.0 + item_work b) (item_chains f.at row b k)
  pub rows_are : (i : ℕ) → i < length rows → get_or rows' i 0 ≡ get_or rows i 0 + item_gain row b i

-- at the return of b, read from the numbers f and the chains k on: the numbers r, not yet joined, and the rows
pub record ItemsDone (row : ℕ) (f : Open) (rows : List ℕ) (b : Body) (k : Chains) (r : Open) (rows' : List ℕ) : Type 0 where
  pub at_is : r.at + 1 ≡ f.at + size b
  pub numbers_are : r ≡ numbers r.at (f.work.0 + work_of b) (run f.at row b k)
  pub rows_are : (i : ℕ) → i < length rows → get_or rows' i 0 ≡ get_or rows i 0 + gain row b i

-- an invocation that has come to one chain
abbrev pub alone : List CostLine → Chains
alone c = record { p = c; l = []; c = [] }

-- behind the whole body b, which begins at line n
pub record BodyDone (n row : ℕ) (rows : List ℕ) (b : Body) (r : Open) (rows' : List ℕ) : Type 0 where
  pub numbers_are : r ≡ numbers (n + size b) (work_of b) (alone (chain_of n row b))
  pub rows_are : (i : ℕ) → i < length rows → get_or rows' i 0 ≡ get_or rows i 0 + gain row b i

-- Inside the body b, which is read from the numbers f₀ and the chains k₀ on: what is left of it, and that what b comes to
-- is what this comes to from f and k on.
pub record Turn (y : Family) (w : Weigh) (s : List ℕ) (row : ℕ) (f₀ : Open) (rows₀ : List ℕ) (b : Body) (k₀ : Chains) (f : Open) (rows : List ℕ) (left : Body) (k : Chains) : Type 0 where
  pub reads : Reads y w s f.at row left
  pub weighs : f ≡ numbers f.at f.work.0 k
  pub same_end : f.at + size left ≡ f₀.at + size b
  pub same_work : f.work.0 + work_of left ≡ f₀.work.0 + work_of b
  pub same_chains : run f.at row left k ≡ run f₀.at row b k₀
  pub same_rows : (i : ℕ) → i < length rows₀ → get_or rows i 0 + gain row left i ≡ get_or rows₀ i 0 + gain row b i
