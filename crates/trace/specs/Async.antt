-- Finishes, and which two lines of a trace of asyncs and finishes are parallel, over line numbers. A finish is named as an
-- invocation is: the one that line g opens is g + 1.
use Rattle.std.specs.Prelude.{ℕ, zero, suc, Bool, true, false, cond, ◌||◌, List, [], ◌∷◌, T, eqb}
use Rattle.line.specs.declared.Frame.{Frame}
use Rattle.line.specs.declared.Frame.TheVariants.{Site, Call, Spawn, Sync, Return, Cost, Instructions, Async, Finish}
use Rattle.trace.specs.Shape.{Is, root, open_at, Open, Contains}

abbrev pub is_finish : Frame → Bool
is_finish (Site s p) = false
is_finish (Call s) = false
is_finish (Spawn s) = false
is_finish Sync = false
is_finish Return = false
is_finish (Cost v) = false
is_finish (Instructions v) = false
is_finish (Async s) = false
is_finish Finish = true

-- line k is a finish line
abbrev pub finish_line : List Frame → ℕ → Bool
finish_line [] k = false
finish_line (e ∷ t) zero = is_finish e
finish_line (e ∷ t) (suc k) = finish_line t k

-- the thing of this name is one that a finish line opens
abbrev pub finish : List Frame → ℕ → Bool
finish t zero = false
finish t (suc g) = finish_line t g

-- F is the innermost of the open things o that is no finish: "Costs directly in a finish belong to the row around it"
abbrev pub owner_is : List Frame → ℕ → List ℕ → Bool
owner_is t F [] = false
owner_is t F (x ∷ o) = cond (finish t x) (owner_is t F o) (eqb F x)

-- F is the innermost of them that is a finish: "The root is a finish."
abbrev pub nearest_is : List Frame → ℕ → List ℕ → Bool
nearest_is t F [] = false
nearest_is t F (x ∷ o) = cond (eqb x root || finish t x) (eqb F x) (nearest_is t F o)

-- "Two costs i < j are parallel exactly when some async contains i and not j and the nearest finish around that async is
-- open at j; a call joins nothing."
pub record Parallel (t : List Frame) (i j : ℕ) : Type 0 where
  pub g : ℕ
  pub site : ℕ
  pub F : ℕ
  -- some async: the one that line g opens
  pub async : Is t g (Async site)
  -- contains i
  pub contains : Contains t (suc g) i
  -- and not j
  pub without : ¬ Contains t (suc g) j
  -- the nearest finish around that async
  pub nearest : T (nearest_is t F (open_at t g))
  -- is open at j
  pub still_open : Open t F j
