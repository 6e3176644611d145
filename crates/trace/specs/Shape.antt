-- The shape of a trace over line numbers: which invocations are open at a line, and which two lines are parallel.
-- An invocation is named by a number: the root is 0, and the one that line g opens is g + 1.
use Rattle.std.specs.Prelude.{ℕ, zero, suc, ◌<◌, ◌≡◌, Bool, false, ◌||◌, List, [], ◌∷◌, T, eqb}
use Rattle.line.specs.declared.Place.{Place}
use Rattle.line.specs.declared.Frame.{Frame}
use Rattle.line.specs.declared.Frame.TheVariants.{Site, Call, Spawn, Sync, Return, Cost, Instructions, Async, Finish}

-- a: what is said of a site line, by its number and its place; b: of any other line
abbrev pub if_site : {A : Type 0} → (ℕ → Place → A) → A → Frame → A
if_site a b (Site s p) = a s p
if_site a b (Call s) = b
if_site a b (Spawn s) = b
if_site a b Sync = b
if_site a b Return = b
if_site a b (Cost v) = b
if_site a b (Instructions v) = b
if_site a b (Async s) = b
if_site a b Finish = b

-- a: what is said of a call, spawn or async, by its site; b: of any other line. 02, request n: "Refusal 11 and column 1 take
-- async as spawn"
abbrev pub if_makes : {A : Type 0} → (ℕ → A) → A → Frame → A
if_makes a b (Site s p) = b
if_makes a b (Call s) = a s
if_makes a b (Spawn s) = a s
if_makes a b Sync = b
if_makes a b Return = b
if_makes a b (Cost v) = b
if_makes a b (Instructions v) = b
if_makes a b (Async s) = a s
if_makes a b Finish = b

-- a: what is said of a cost line, by its value; b: of any other line
abbrev pub if_cost : {A : Type 0} → (ℕ → A) → A → Frame → A
if_cost a b (Site s p) = b
if_cost a b (Call s) = b
if_cost a b (Spawn s) = b
if_cost a b Sync = b
if_cost a b Return = b
if_cost a b (Cost v) = a v
if_cost a b (Instructions v) = b
if_cost a b (Async s) = b
if_cost a b Finish = b

-- a: what is said of a line of instructions, by its value; b: of any other line
abbrev pub if_instructions : {A : Type 0} → (ℕ → A) → A → Frame → A
if_instructions a b (Site s p) = b
if_instructions a b (Call s) = b
if_instructions a b (Spawn s) = b
if_instructions a b Sync = b
if_instructions a b Return = b
if_instructions a b (Cost v) = b
if_instructions a b (Instructions v) = a v
if_instructions a b (Async s) = b
if_instructions a b Finish = b

-- a: what is said of a line that opens something, a finish too; b: of any other line
abbrev pub if_opens : {A : Type 0} → A → A → Frame → A
if_opens a b (Site s p) = b
if_opens a b (Call s) = a
if_opens a b (Spawn s) = a
if_opens a b Sync = b
if_opens a b Return = b
if_opens a b (Cost v) = b
if_opens a b (Instructions v) = b
if_opens a b (Async s) = a
if_opens a b Finish = a

-- "Lines are numbered from 0": line k of the trace is this frame
abbrev pub Is : List Frame → ℕ → Frame → Type 0
Is [] k f = ⊥
Is (e ∷ t) zero f = e ≡ f
Is (e ∷ t) (suc k) f = Is t k f

abbrev pub root : ℕ
root = 0

-- the open invocations without the innermost
abbrev pub closed : List ℕ → List ℕ
closed [] = []
closed (x ∷ o) = o

-- What line n does to the open invocations, which are listed innermost first: "a call or spawn with its body up to
-- its own return". 02, request n: an async is one, and a finish stands among them under its own name; "05 closes the
-- innermost open thing".
abbrev pub step : ℕ → Frame → List ℕ → List ℕ
step n (Site s p) o = o
step n (Call s) o = suc n ∷ o
step n (Spawn s) o = suc n ∷ o
step n Sync o = o
step n Return o = closed o
step n (Cost v) o = o
step n (Instructions v) o = o
step n (Async s) o = suc n ∷ o
step n Finish o = suc n ∷ o

-- those open at the line j lines behind line n, at which t begins and o are open
abbrev pub walk : ℕ → List ℕ → List Frame → ℕ → List ℕ
walk n o [] j = o
walk n o (e ∷ t) zero = o
walk n o (e ∷ t) (suc j) = walk (suc n) (step n e o) t j

-- The invocations open at line j, innermost first. 02, request j: "the root is open from the start".
abbrev pub open_at : List Frame → ℕ → List ℕ
open_at t j = walk 0 (root ∷ []) t j

abbrev pub has : ℕ → List ℕ → Bool
has x [] = false
has x (y ∷ l) = eqb x y || has x l

abbrev pub first_is : ℕ → List ℕ → Bool
first_is x [] = false
first_is x (y ∷ l) = eqb x y

-- invocation F is open at line j: it was opened before, and its return is not before line j
abbrev pub Open : List Frame → ℕ → ℕ → Type 0
Open t F j = T (has F (open_at t j))

-- invocation F contains line i, its children's lines included: it is open there
abbrev pub Contains : List Frame → ℕ → ℕ → Type 0
Contains t F i = Open t F i

-- "'Directly in F' excludes lines of F's children": F is the innermost that is open
abbrev pub Directly : List Frame → ℕ → ℕ → Type 0
Directly t F i = T (first_is F (open_at t i))

-- line r is the return of invocation F
pub record Returns (t : List Frame) (F r : ℕ) : Type 0 where
  pub is : Is t r Return
  pub its_own : Directly t F r

-- "They are parallel exactly when some spawned invocation G contains i and not j, the invocation F that spawned G is
-- still open at line j, and no sync line directly in F lies between G's return and j."
pub record Parallel (t : List Frame) (i j : ℕ) : Type 0 where
  pub g : ℕ
  pub site : ℕ
  pub F : ℕ
  pub end : ℕ
  -- some spawned invocation G: the one that the spawn at line g opens
  pub spawned : Is t g (Spawn site)
  -- contains i
  pub contains : Contains t (suc g) i
  -- and not j
  pub without : ¬ Contains t (suc g) j
  -- the invocation F that spawned G
  pub spawner : Directly t F g
  -- is still open at line j
  pub still_open : Open t F j
  -- G's return
  pub returned : Returns t (suc g) end
  -- and no sync line directly in F lies between G's return and j
  pub unjoined : (k : ℕ) → Is t k Sync → Directly t F k → end < k → k < j → ⊥

-- the number of site lines
abbrev pub sites : List Frame → ℕ
sites [] = 0
sites (f ∷ t) = if_site (λ s p. suc (sites t)) (sites t) f
