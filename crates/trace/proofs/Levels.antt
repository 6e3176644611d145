-- Levels along lines: which lines an invocation contains, and which two lines are beside each other, by recursion on
-- the lines; and what both say of the lines of a body.
use mathlib.Core.Path.{◌≡◌, refl, ◌∙◌, subst, subst₂}
use mathlib.Core.Logic.{◌⊎◌, inl, inr}
use mathlib.Core.Bool.{Bool, true, false}
use mathlib.Core.List.{List, [], ◌∷◌, ◌++◌, append_assoc}
use Prim.Native.Nat.{ℕ, zero, suc, ◌+◌, ◌≤◌, ◌<◌}
use native.Mathlib.Nat.{suc-add, add_assoc}
use native.Mathlib.Numerals.{one-add}
use native.Mathlib.Omega.{arith}
use lib.Dec.{when}
use Rattle.line.specs.declared.Frame.{Frame}
use Rattle.line.specs.declared.Frame.TheVariants.{Site, Call, Spawn, Sync, Return, Cost, Instructions, Async, Finish}
use Rattle.trace.specs.Tree.{Way, call, spawn, async, pass, finish, opening, Note, site, carry, note_line, Leaf, spend, sync, note, line_of, Body, done, leaf, child, lines_of, size}
use Rattle.trace.proofs.Basics.{below}

-- A walk to the line that stands i lines on, which counts the invocations that open on the way. hit: what the line
-- itself says. over: whether a sync directly in the invocation of the first line may be passed. out: what comes after
-- that invocation's return.
module _ (hit : Type 0) (over : Bool) (out : List Frame → ℕ → Type 0) where
  abbrev pub Climb : ℕ → List Frame → ℕ → Type 0
  Climb k [] i = ⊥
  Climb k (e ∷ t) zero = hit
  Climb k (Site s p ∷ t) (suc i) = Climb k t i
  Climb k (Call s ∷ t) (suc i) = Climb (suc k) t i
  Climb k (Spawn s ∷ t) (suc i) = Climb (suc k) t i
  Climb zero (Sync ∷ t) (suc i) = when over (Climb zero t i)
  Climb (suc k) (Sync ∷ t) (suc i) = Climb (suc k) t i
  Climb zero (Return ∷ t) (suc i) = out t i
  Climb (suc k) (Return ∷ t) (suc i) = Climb k t i
  Climb k (Cost v ∷ t) (suc i) = Climb k t i
  Climb k (Instructions v ∷ t) (suc i) = Climb k t i
  Climb k (Async s ∷ t) (suc i) = Climb (suc k) t i
  Climb k (Finish ∷ t) (suc i) = Climb (suc k) t i

abbrev pub Never : List Frame → ℕ → Type 0
Never t i = ⊥

-- the line is in the invocation whose body begins here
abbrev pub In : List Frame → ℕ → Type 0
In t i = Climb (Unit {0}) true Never zero t i

-- the invocation that has this line is still open there, and no sync directly in it lies between
abbrev pub Near : List Frame → ℕ → Type 0
Near t i = Climb (Unit {0}) false Never zero t i

-- the invocation whose body begins here has returned, and what Near says holds from there on
abbrev pub Past : List Frame → ℕ → Type 0
Past t i = Climb ⊥ true Near zero t i

-- some spawned invocation contains line i and not line j, its spawner is still open at line j, and no sync directly
-- in the spawner lies between
abbrev pub Beside : List Frame → ℕ → ℕ → Type 0
Beside [] i j = ⊥
Beside (e ∷ t) zero j = ⊥
Beside (e ∷ t) (suc i) zero = ⊥
Beside (Site s p ∷ t) (suc i) (suc j) = Beside t i j
Beside (Call s ∷ t) (suc i) (suc j) = Beside t i j
Beside (Spawn s ∷ t) (suc i) (suc j) = (In t i × Past t j) ⊎ Beside t i j
Beside (Sync ∷ t) (suc i) (suc j) = Beside t i j
Beside (Return ∷ t) (suc i) (suc j) = Beside t i j
Beside (Cost v ∷ t) (suc i) (suc j) = Beside t i j
Beside (Instructions v ∷ t) (suc i) (suc j) = Beside t i j
Beside (Async s ∷ t) (suc i) (suc j) = Beside t i j
Beside (Finish ∷ t) (suc i) (suc j) = Beside t i j

-- ── what both say of an item's first line ──

module _ (hit : Type 0) (over : Bool) (out : List Frame → ℕ → Type 0) where
  Climb-note : (x : Note) (k : ℕ) (t : List Frame) (i : ℕ) → Climb hit over out k (note_line x ∷ t) (suc i) ≡ Climb hit over out k t i
  Climb-note (site s p) k t i = refl
  Climb-note (carry v) k t i = refl

  Climb-leaf : (l : Leaf) (k : ℕ) (t : List Frame) (i : ℕ) → Climb hit over out (suc k) (line_of l ∷ t) (suc i) ≡ Climb hit over out (suc k) t i
  Climb-leaf (spend v) k t i = refl
  Climb-leaf sync k t i = refl
  Climb-leaf (note x) k t i = Climb-note x (suc k) t i

  Climb-opening : (w : Way) (s k : ℕ) (t : List Frame) (i : ℕ) → Climb hit over out k (opening w s ∷ t) (suc i) ≡ Climb hit over out (suc k) t i
  Climb-opening call s k t i = refl
  Climb-opening spawn s k t i = refl
  Climb-opening async s k t i = refl
  Climb-opening pass s k t i = refl
  Climb-opening finish s k t i = refl

-- directly in the invocation, where syncs may be passed
Climb-own : (hit : Type 0) (out : List Frame → ℕ → Type 0) (l : Leaf) (t : List Frame) (i : ℕ) → Climb hit true out zero (line_of l ∷ t) (suc i) ≡ Climb hit true out zero t i
Climb-own hit out (spend v) t i = refl
Climb-own hit out sync t i = refl
Climb-own hit out (note x) t i = Climb-note hit true out x zero t i

pub beside_leaf : (l : Leaf) (t : List Frame) (i j : ℕ) → Beside (line_of l ∷ t) (suc i) (suc j) ≡ Beside t i j
beside_leaf (spend v) t i j = refl
beside_leaf sync t i j = refl
beside_leaf (note (site s p)) t i j = refl
beside_leaf (note (carry v)) t i j = refl

-- A, where the way is a spawn of document 01
abbrev pub Spawning : Way → Type 0 → Type 0
Spawning call A = ⊥
Spawning spawn A = A
Spawning async A = ⊥
Spawning pass A = ⊥
Spawning finish A = ⊥

pub spawning : {A B : Type 0} (w : Way) → (A → B) → Spawning w A → Spawning w B
spawning call f h = h
spawning spawn f h = f h
spawning async f h = h
spawning pass f h = h
spawning finish f h = h

pub so : {A : Type 0} (w : Way) → Spawning w A → A
so call h = absurd h
so spawn h = h
so async h = absurd h
so pass h = absurd h
so finish h = absurd h

pub beside_opening : (w : Way) (s : ℕ) (t : List Frame) (i j : ℕ) → Spawning w (In t i × Past t j) ⊎ Beside t i j → Beside (opening w s ∷ t) (suc i) (suc j)
beside_opening call s t i j (inl h) = absurd h
beside_opening call s t i j (inr h) = h
beside_opening spawn s t i j h = h
beside_opening async s t i j (inl h) = absurd h
beside_opening async s t i j (inr h) = h
beside_opening pass s t i j (inl h) = absurd h
beside_opening pass s t i j (inr h) = h
beside_opening finish s t i j (inl h) = absurd h
beside_opening finish s t i j (inr h) = h

pub opening_beside : (w : Way) (s : ℕ) (t : List Frame) (i j : ℕ) → Beside (opening w s ∷ t) (suc i) (suc j) → Spawning w (In t i × Past t j) ⊎ Beside t i j
opening_beside call s t i j h = inr h
opening_beside spawn s t i j h = h
opening_beside async s t i j h = inr h
opening_beside pass s t i j h = inr h
opening_beside finish s t i j h = inr h

-- ── and of a body's lines ──

-- the lines up to the next direct sync, or up to the return
abbrev pub bsize : Body → ℕ
bsize done = 1
bsize (leaf (spend v) r) = suc (bsize r)
bsize (leaf sync r) = 1
bsize (leaf (note x) r) = suc (bsize r)
bsize (child w s g r) = suc (size g + bsize r)

module _ (hit : Type 0) (over : Bool) (out : List Frame → ℕ → Type 0) where
  -- a climb past a whole body comes one level down
  pub skip : (b : Body) (k : ℕ) (u : List Frame) (i : ℕ) → Climb hit over out (suc k) (lines_of b ++ u) (size b + i) ≡ Climb hit over out k u i
  skip done k u i = rw (one-add i)
  skip (leaf l r) k u i = rw (suc-add (size r) i) (Climb-leaf hit over out l k (lines_of r ++ u) (size r + i) ∙ skip r k u i)
  skip (child w s g r) k u i =
      rw (suc-add (size g + size r) i, append_assoc (lines_of g) (lines_of r) u, add_assoc (size g) (size r) i)
      (Climb-opening hit over out w s (suc k) (lines_of g ++ (lines_of r ++ u)) (size g + (size r + i)) ∙ skip g (suc k) (lines_of r ++ u) (size r + i) ∙ skip r k u i)

  -- the step of the laws below at a child
  level : (w : Way) (s : ℕ) (g r : Body) (k : ℕ) (u : List Frame) (m i : ℕ) (T : Type 0) → i < size g + m
      → (i < size g → Climb hit over out (suc k) (lines_of g ++ (lines_of r ++ u)) i ≡ T)
      → ((j : ℕ) → j < m → Climb hit over out k (lines_of r ++ u) j ≡ T)
      → Climb hit over out k (lines_of (child w s g r) ++ u) (suc i) ≡ T
  level w s g r k u m i T h f f' =
      rw (append_assoc (lines_of g) (lines_of r) u) (Climb-opening hit over out w s k (lines_of g ++ (lines_of r ++ u)) i ∙ go (below (size g) i))
    where
      go : (i < size g) ⊎ ((j : ℕ) × (i ≡ size g + j)) → Climb hit over out (suc k) (lines_of g ++ (lines_of r ++ u)) i ≡ T
      go (inl l) = f l
      go (inr w) = rw w.1 (skip g k (lines_of r ++ u) w.0 ∙ f' w.0 (omega (arith, w.1)))

  -- a climb that ends in a body of a level above
  pub arrive : (b : Body) (k : ℕ) (u : List Frame) (i : ℕ) → i < size b → Climb hit over out (suc k) (lines_of b ++ u) i ≡ hit
  arrive done k u zero h = refl
  arrive done k u (suc i) h = absurd (omega arith)
  arrive (leaf l r) k u zero h = refl
  arrive (leaf l r) k u (suc i) h = Climb-leaf hit over out l k (lines_of r ++ u) i ∙ arrive r k u i (omega arith)
  arrive (child w s g r) k u zero h = refl
  arrive (child w s g r) k u (suc i) h = level w s g r (suc k) u (size r) i hit (omega arith) (arrive g (suc k) (lines_of r ++ u) i) (arrive r k u)

  -- a climb from the body's own level, up to its first direct sync
  pub near : (b : Body) (u : List Frame) (i : ℕ) → i < bsize b → Climb hit over out zero (lines_of b ++ u) i ≡ hit
  near done u zero h = refl
  near done u (suc i) h = absurd (omega arith)
  near (leaf l r) u zero h = refl
  near (leaf (spend v) r) u (suc i) h = near r u i (omega arith)
  near (leaf sync r) u (suc i) h = absurd (omega arith)
  near (leaf (note x) r) u (suc i) h = Climb-note hit over out x zero (lines_of r ++ u) i ∙ near r u i (omega arith)
  near (child w s g r) u zero h = refl
  near (child w s g r) u (suc i) h = level w s g r zero u (bsize r) i hit (omega arith) (arrive g zero (lines_of r ++ u) i) (near r u)

module _ (hit : Type 0) (out : List Frame → ℕ → Type 0) where
  -- a climb that passes syncs, to a line of the body and to what follows the body
  pub reach : (b : Body) (u : List Frame) (i : ℕ) → i < size b → Climb hit true out zero (lines_of b ++ u) i ≡ hit
  reach done u zero h = refl
  reach done u (suc i) h = absurd (omega arith)
  reach (leaf l r) u zero h = refl
  reach (leaf l r) u (suc i) h = Climb-own hit out l (lines_of r ++ u) i ∙ reach r u i (omega arith)
  reach (child w s g r) u zero h = refl
  reach (child w s g r) u (suc i) h = level hit true out w s g r zero u (size r) i hit (omega arith) (arrive hit true out g zero (lines_of r ++ u) i) (reach r u)

  pub leave : (b : Body) (u : List Frame) (i : ℕ) → Climb hit true out zero (lines_of b ++ u) (size b + i) ≡ out u i
  leave done u i = rw (one-add i)
  leave (leaf l r) u i = rw (suc-add (size r) i) (Climb-own hit out l (lines_of r ++ u) (size r + i) ∙ leave r u i)
  leave (child w s g r) u i =
      rw (suc-add (size g + size r) i, append_assoc (lines_of g) (lines_of r) u, add_assoc (size g) (size r) i)
      (Climb-opening hit true out w s zero (lines_of g ++ (lines_of r ++ u)) (size g + (size r + i)) ∙ skip hit true out g zero (lines_of r ++ u) (size r + i) ∙ leave r u i)

pub bsize_le : (b : Body) → bsize b ≤ size b
bsize_le done = omega arith
bsize_le (leaf (spend v) r) = omega (arith, bsize_le r)
bsize_le (leaf sync r) = omega arith
bsize_le (leaf (note x) r) = omega (arith, bsize_le r)
bsize_le (child w s g r) = omega (arith, bsize_le r)

-- what In, Near and Past say of a body's lines
pub in_lt : (b : Body) (u : List Frame) (i : ℕ) → In (lines_of b ++ u) i → i < size b
in_lt b u i h = go (below (size b) i)
  where
    go : (i < size b) ⊎ ((k : ℕ) × (i ≡ size b + k)) → i < size b
    go (inl l) = l
    go (inr w) =
        let k : In (lines_of b ++ u) (size b + w.0) = subst (In (lines_of b ++ u)) w.1 h in
        absurd (rw (leave (Unit {0}) Never b u w.0) at k)

pub in_of : (b : Body) (u : List Frame) (i : ℕ) → i < size b → In (lines_of b ++ u) i
in_of b u i h = rw (reach (Unit {0}) Never b u i h) tt

pub past-out : (b : Body) (u : List Frame) (j : ℕ) → Past (lines_of b ++ u) j → (k : ℕ) × (j ≡ size b + k) × Near u k
past-out b u j h = go (below (size b) j)
  where
    go : (j < size b) ⊎ ((k : ℕ) × (j ≡ size b + k)) → (k : ℕ) × (j ≡ size b + k) × Near u k
    go (inl l) = absurd (rw (reach ⊥ Near b u j l) at h)
    go (inr w) =
        let k : Past (lines_of b ++ u) (size b + w.0) = subst (Past (lines_of b ++ u)) w.1 h in
        (w.0, w.1, rw (leave ⊥ Near b u w.0) at k)

pub past_of : (b : Body) (u : List Frame) (k : ℕ) → Near u k → Past (lines_of b ++ u) (size b + k)
past_of b u k h = rw (leave ⊥ Near b u k) h

pub near_of : (b : Body) (u : List Frame) (i : ℕ) → i < bsize b → Near (lines_of b ++ u) i
near_of b u i h = rw (near (Unit {0}) false Never b u i h) tt

near_level : (w : Way) (s : ℕ) (g r : Body) (u : List Frame) (i : ℕ) → ((j : ℕ) → Near (lines_of r ++ u) j → j < bsize r)
    → Near (lines_of (child w s g r) ++ u) (suc i) → suc i < suc (size g + bsize r)
near_level w s g r u i f h =
    go (below (size g) i) (rw (append_assoc (lines_of g) (lines_of r) u, Climb-opening (Unit {0}) false Never w s zero (lines_of g ++ (lines_of r ++ u)) i) at h)
  where
    go : (i < size g) ⊎ ((k : ℕ) × (i ≡ size g + k)) → Climb (Unit {0}) false Never 1 (lines_of g ++ (lines_of r ++ u)) i → suc i < suc (size g + bsize r)
    go (inl l) h = omega arith
    go (inr w) h =
        let k : Climb (Unit {0}) false Never 1 (lines_of g ++ (lines_of r ++ u)) (size g + w.0) = subst (Climb (Unit {0}) false Never 1 (lines_of g ++ (lines_of r ++ u))) w.1 h in
        omega (arith, w.1, f w.0 (rw (skip (Unit {0}) false Never g zero (lines_of r ++ u) w.0) at k))

pub near_lt : (b : Body) (u : List Frame) (i : ℕ) → Near (lines_of b ++ u) i → i < bsize b
near_lt done u zero h = omega arith
near_lt done u (suc i) h = absurd h
near_lt (leaf (spend v) r) u zero h = omega arith
near_lt (leaf (spend v) r) u (suc i) h = omega (arith, near_lt r u i h)
near_lt (leaf sync r) u zero h = omega arith
near_lt (leaf sync r) u (suc i) h = absurd h
near_lt (leaf (note x) r) u zero h = omega arith
near_lt (leaf (note x) r) u (suc i) h = omega (arith, near_lt r u i (rw (Climb-note (Unit {0}) false Never x zero (lines_of r ++ u) i) at h))
near_lt (child w s g r) u zero h = omega arith
near_lt (child w s g r) u (suc i) h = near_level w s g r u i (near_lt r u) h

-- lines past a body are parallel where they are so without it
pub beside_shift : (b : Body) (u : List Frame) (i j : ℕ) → Beside (lines_of b ++ u) (size b + i) (size b + j) → Beside u i j
beside_shift done u i j h = rw (one-add i, one-add j) at h
beside_shift (leaf l r) u i j h = beside_shift r u i j (rw (suc-add (size r) i, suc-add (size r) j, beside_leaf l (lines_of r ++ u) (size r + i) (size r + j)) at h)
beside_shift (child w s g r) u i j h =
    beside_shift r u i j (beside_shift g (lines_of r ++ u) (size r + i) (size r + j) (go (opening_beside w s (lines_of g ++ (lines_of r ++ u)) (size g + (size r + i)) (size g + (size r + j))
    (rw (suc-add (size g + size r) i, suc-add (size g + size r) j, append_assoc (lines_of g) (lines_of r) u, add_assoc (size g) (size r) i, add_assoc (size g) (size r) j) at h))))
  where
    go : Spawning w (In (lines_of g ++ (lines_of r ++ u)) (size g + (size r + i)) × Past (lines_of g ++ (lines_of r ++ u)) (size g + (size r + j))) ⊎ Beside (lines_of g ++ (lines_of r ++ u)) (size g + (size r + i)) (size g + (size r + j))
        → Beside (lines_of g ++ (lines_of r ++ u)) (size g + (size r + i)) (size g + (size r + j))
    go (inl k) = absurd (omega (arith, in_lt g (lines_of r ++ u) (size g + (size r + i)) (so w k).0))
    go (inr k) = k

pub beside_unshift : (b : Body) (u : List Frame) (i j : ℕ) → Beside u i j → Beside (lines_of b ++ u) (size b + i) (size b + j)
beside_unshift done u i j h = rw (one-add i, one-add j) h
beside_unshift (leaf l r) u i j h = rw (suc-add (size r) i, suc-add (size r) j, beside_leaf l (lines_of r ++ u) (size r + i) (size r + j)) (beside_unshift r u i j h)
beside_unshift (child w s g r) u i j h =
    rw (suc-add (size g + size r) i, suc-add (size g + size r) j, append_assoc (lines_of g) (lines_of r) u, add_assoc (size g) (size r) i, add_assoc (size g) (size r) j)
    (beside_opening w s (lines_of g ++ (lines_of r ++ u)) (size g + (size r + i)) (size g + (size r + j)) (inr (beside_unshift g (lines_of r ++ u) (size r + i) (size r + j) (beside_unshift r u i j h))))

-- what is parallel to a line of the body, and later, is in the body
within_level : (g r : Body) (u : List Frame) (i j : ℕ) → i < size g + size r
    → (i < size g → Beside (lines_of g ++ (lines_of r ++ u)) i j → j < size g)
    → ((i j : ℕ) → i < size r → Beside (lines_of r ++ u) i j → j < size r)
    → Beside (lines_of g ++ (lines_of r ++ u)) i j → j < size g + size r
within_level g r u i j l f f' h = go (below (size g) i) (below (size g) j)
  where
    go : (i < size g) ⊎ ((k : ℕ) × (i ≡ size g + k)) → (j < size g) ⊎ ((k : ℕ) × (j ≡ size g + k)) → j < size g + size r
    go (inl a) b = omega (arith, f a h)
    go (inr a) (inl b) = omega arith
    go (inr a) (inr b) =
        let k = subst₂ (λ (m n : ℕ). Beside (lines_of g ++ (lines_of r ++ u)) m n) a.1 b.1 h in
        omega (arith, b.1, f' a.0 b.0 (omega (arith, a.1)) (beside_shift g (lines_of r ++ u) a.0 b.0 k))

pub beside_within : (b : Body) (u : List Frame) (i j : ℕ) → i < size b → Beside (lines_of b ++ u) i j → j < size b
beside_within done u zero j l h = absurd h
beside_within done u (suc i) j l h = absurd (omega arith)
beside_within (leaf k r) u zero j l h = absurd h
beside_within (leaf k r) u (suc i) zero l h = absurd h
beside_within (leaf k r) u (suc i) (suc j) l h = omega (arith, beside_within r u i j (omega arith) (rw (beside_leaf k (lines_of r ++ u) i j) at h))
beside_within (child w s g r) u zero j l h = absurd h
beside_within (child w s g r) u (suc i) zero l h = absurd h
beside_within (child w s g r) u (suc i) (suc j) l h =
    omega (arith, go (within_level g r u i j (omega arith) (beside_within g (lines_of r ++ u) i j) (beside_within r u)) (opening_beside w s (lines_of g ++ (lines_of r ++ u)) i j (rw (append_assoc (lines_of g) (lines_of r) u) at h)))
  where
    go : (Beside (lines_of g ++ (lines_of r ++ u)) i j → j < size g + size r) → Spawning w (In (lines_of g ++ (lines_of r ++ u)) i × Past (lines_of g ++ (lines_of r ++ u)) j) ⊎ Beside (lines_of g ++ (lines_of r ++ u)) i j → j < size g + size r
    go f (inl k) =
        let q = past-out g (lines_of r ++ u) j (so w k).1 in
        omega (arith, q.1, near_lt r u q.0 q.2, bsize_le r)
    go f (inr k) = f k
