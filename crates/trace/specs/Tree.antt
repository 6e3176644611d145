-- For proofs and engines, not for the reader of document 01: the body of an invocation as a tree, its lines, and its
-- numbers by the tree.
use Rattle.std.specs.Prelude.{ℕ, zero, suc, ◌+◌, ◌≤◌, ◌≡◌, Bool, true, false, cond, ◌&&◌, List, [], ◌∷◌, ◌++◌, eqb, ltb}
use Rattle.line.specs.declared.Place.{Place}
use Rattle.line.specs.Family.{Family, Base, Finishes}
use Rattle.line.specs.declared.Frame.{Frame}
use Rattle.line.specs.declared.Frame.TheVariants.{Site, Call, Spawn, Sync, Return, Cost, Instructions, Async, Finish}
use Rattle.trace.specs.Shape.{sites}

-- How something is opened: an invocation by a call or a spawn of document 01, whose return joins what it holds; by an async,
-- which is a spawn of the other family; by a call of that family, whose return joins nothing: what it holds is passed on to
-- the finish around it; and a finish.
pub data Way : Type 0 where
  call spawn async pass finish : Way

-- an invocation is made: a finish makes none
abbrev pub invokes : Way → Bool
invokes call = true
invokes spawn = true
invokes async = true
invokes pass = true
invokes finish = false

-- the line that makes one of site s
abbrev pub opening : Way → ℕ → Frame
opening call s = Call s
opening spawn s = Spawn s
opening async s = Async s
opening pass s = Call s
opening finish s = Finish

-- 02, request j: "Site lines weigh nothing and join nothing": a line that says something and does neither; so does a line
-- that carries the instructions of the cost before it
pub data Note : Type 0 where
  site : ℕ → Place → Note
  carry : ℕ → Note

abbrev pub note_line : Note → Frame
note_line (site s p) = Site s p
note_line (carry v) = Instructions v

-- a line that neither opens nor closes an invocation
pub data Leaf : Type 0 where
  spend : ℕ → Leaf
  sync : Leaf
  note : Note → Leaf

abbrev pub line_of : Leaf → Frame
line_of (spend v) = Cost v
line_of sync = Sync
line_of (note x) = note_line x

-- what it weighs
abbrev pub leaf_work : Leaf → ℕ
leaf_work (spend v) = v
leaf_work sync = 0
leaf_work (note x) = 0

-- a cost is in the table, and so are its instructions
abbrev pub NoteWithin : Note → Type 0
NoteWithin (site s p) = Unit {0}
NoteWithin (carry v) = (1 ≤ v) × (v ≤ 4294967295)

abbrev pub LeafWithin : Leaf → Type 0
LeafWithin (spend v) = (1 ≤ v) × (v ≤ 4294967295)
LeafWithin sync = Unit {0}
LeafWithin (note x) = NoteWithin x

-- the items of a body, each with the rest of the body behind it; an invocation has its way, its site and its own body, and a
-- finish for a site the row around it
pub data Body : Type 0 where
  done : Body
  leaf : Leaf → Body → Body
  child : Way → ℕ → Body → Body → Body

-- What each family has in the body of an invocation of row r: one has spawns and syncs, the other asyncs and finishes.
abbrev pub LeafOf : Family → Leaf → Type 0
LeafOf Base l = Unit {0}
LeafOf Finishes (spend v) = Unit {0}
LeafOf Finishes sync = ⊥
LeafOf Finishes (note x) = Unit {0}

abbrev pub WayOf : Family → ℕ → Way → ℕ → Type 0
WayOf Base r call s = Unit {0}
WayOf Base r spawn s = Unit {0}
WayOf Base r async s = ⊥
WayOf Base r pass s = ⊥
WayOf Base r finish s = ⊥
WayOf Finishes r call s = ⊥
WayOf Finishes r spawn s = ⊥
WayOf Finishes r async s = Unit {0}
WayOf Finishes r pass s = Unit {0}
WayOf Finishes r finish s = s ≡ r

abbrev pub Of : Family → ℕ → Body → Type 0
Of f r done = Unit {0}
Of f r (leaf l b) = LeafOf f l × Of f r b
Of f r (child w s g b) = WayOf f r w s × Of f s g × Of f r b

-- the lines of a body, its return last
abbrev pub lines_of : Body → List Frame
lines_of done = Return ∷ []
lines_of (leaf l r) = line_of l ∷ lines_of r
lines_of (child w s g r) = opening w s ∷ (lines_of g ++ lines_of r)

-- the instructions that a leaf line carries for a cost directly before it, 0 where it carries none
abbrev pub note_carries : Note → ℕ
note_carries (site s p) = 0
note_carries (carry v) = v

abbrev pub leaf_carries : Leaf → ℕ
leaf_carries (spend v) = 0
leaf_carries sync = 0
leaf_carries (note x) = note_carries x

-- those that the first line of a body carries
abbrev pub ahead : Body → ℕ
ahead done = 0
ahead (leaf l r) = leaf_carries l
ahead (child w s g r) = 0

-- what a leaf line comes to in a measure, with the rest of its body behind it: its cycles and its instructions
abbrev pub leaf_cycles : Leaf → Body → ℕ
leaf_cycles l r = leaf_work l

abbrev pub leaf_instructions : Leaf → Body → ℕ
leaf_instructions (spend v) r = ahead r
leaf_instructions sync r = 0
leaf_instructions (note x) r = 0

-- how many they are
abbrev pub size : Body → ℕ
size done = 1
size (leaf l r) = suc (size r)
size (child w s g r) = suc (size g + size r)

-- an invocation's site is at least 1
abbrev pub Sited : Way → ℕ → Type 0
Sited call s = 1 ≤ s
Sited spawn s = 1 ≤ s
Sited async s = 1 ≤ s
Sited pass s = 1 ≤ s
Sited finish s = Unit {0}

-- costs and instructions are in the table, sites are 1 to m, and with d things open at its lines there are never more than D
abbrev pub Within : ℕ → ℕ → ℕ → Body → Type 0
Within m D d done = Unit {0}
Within m D d (leaf l r) = LeafWithin l × Within m D d r
Within m D d (child w s g r) = Sited w s × (s ≤ m) × (suc d ≤ D) × Within m D (suc d) g × Within m D d r

-- a trace taken apart: it is the body of its root, which is open from the start
pub record PartsOf (f : Family) (D : ℕ) (t : List Frame) : Type 0 where
  pub body : Body
  pub of : Of f 0 body
  pub lines : t ≡ lines_of body
  pub within : Within (sites t) D 1 body

-- one of document 01's
abbrev pub Parts : ℕ → List Frame → Type 0
Parts D t = PartsOf Base D t

-- the sum of a measure over all leaf lines of a body, and over those directly in it: a finish's belong to it too
abbrev pub all_of : (Leaf → Body → ℕ) → Body → ℕ
all_of m done = 0
all_of m (leaf l r) = m l r + all_of m r
all_of m (child w s g r) = all_of m g + all_of m r

abbrev pub direct_of : (Leaf → Body → ℕ) → Body → ℕ
direct_of m done = 0
direct_of m (leaf l r) = m l r + direct_of m r
direct_of m (child w s g r) = cond (invokes w) (direct_of m r) (direct_of m g + direct_of m r)

-- all costs of a body, and those directly in it; and their instructions
abbrev pub work_of : Body → ℕ
work_of b = all_of leaf_cycles b

abbrev pub local_of : Body → ℕ
local_of b = direct_of leaf_cycles b

abbrev pub instructions_of : Body → ℕ
instructions_of b = all_of leaf_instructions b

abbrev pub ilocal_of : Body → ℕ
ilocal_of b = direct_of leaf_instructions b

abbrev pub larger : ℕ → ℕ → ℕ
larger l c = cond (ltb l c) c l

-- the join at a return
abbrev pub ending : ℕ → ℕ → ℕ → ℕ
ending p l c = p + larger l c

-- behind a spawned child of span g: a where it is the longest from now on, else b
abbrev pub forked : ℕ → ℕ → ℕ → ℕ → ℕ → ℕ
forked l c g a b = cond (ltb l (c + g)) a b

-- Cilkprof's recurrence. p: the span up to the last join; l: the longest child's since; c: the continuation since the spawn
-- of l; to: what is made of them at the end.
abbrev pub span_to : (ℕ → ℕ → ℕ → ℕ) → ℕ → ℕ → ℕ → Body → ℕ
span_to to p l c done = to p l c
span_to to p l c (leaf (spend v) r) = span_to to p l (c + v) r
span_to to p l c (leaf sync r) = span_to to (p + larger l c) 0 0 r
span_to to p l c (leaf (note x) r) = span_to to p l c r
span_to to p l c (child call s g r) = span_to to p l (c + span_to ending 0 0 0 g) r
span_to to p l c (child spawn s g r) = forked l c (span_to ending 0 0 0 g) (span_to to (p + c) (span_to ending 0 0 0 g) 0 r) (span_to to p l c r)
span_to to p l c (child async s g r) = forked l c (span_to ending 0 0 0 g) (span_to to (p + c) (span_to ending 0 0 0 g) 0 r) (span_to to p l c r)
span_to to p l c (child pass s g r) = span_to (λ p l c. span_to to p l c r) p l c g
span_to to p l c (child finish s g r) = span_to to p l (c + span_to ending 0 0 0 g) r

-- with the join at a return
abbrev pub span_from : ℕ → ℕ → ℕ → Body → ℕ
span_from p l c b = span_to ending p l c b

abbrev pub span_of : Body → ℕ
span_of b = span_from 0 0 0 b

-- the sum of h over the invocations made from site s inside a body
abbrev pub made_sum : (Body → ℕ) → ℕ → Body → ℕ
made_sum h s done = 0
made_sum h s (leaf l r) = made_sum h s r
made_sum h s (child w i g r) = cond (invokes w && eqb i s) (h g) 0 + (made_sum h s g + made_sum h s r)

-- the sum of h over the invocations of row s, where b is the root's body
abbrev pub row_sum : (Body → ℕ) → ℕ → Body → ℕ
row_sum h zero b = h b
row_sum h (suc s) b = made_sum h (suc s) b

-- the sum of h over those of them that stand in no other from site s: inside one from site s none is looked for
abbrev pub outer_sum : (Body → ℕ) → ℕ → Body → ℕ
outer_sum h s done = 0
outer_sum h s (leaf l r) = outer_sum h s r
outer_sum h s (child w i g r) = cond (invokes w && eqb i s) (h g) (outer_sum h s g) + outer_sum h s r

-- the sum of h over those of row s, where b is the root's body
abbrev pub outer_row : (Body → ℕ) → ℕ → Body → ℕ
outer_row h zero b = h b
outer_row h (suc s) b = outer_sum h (suc s) b

-- columns 1 to 4 and 6 of row s; 2 and 3 count the outermost invocations
abbrev pub calls_in : ℕ → Body → ℕ
calls_in s b = row_sum (λ g. 1) s b

abbrev pub work_in : ℕ → Body → ℕ
work_in s b = outer_row work_of s b

abbrev pub spans_in : ℕ → Body → ℕ
spans_in s b = outer_row span_of s b

abbrev pub local_in : ℕ → Body → ℕ
local_in s b = row_sum local_of s b

abbrev pub ilocal_in : ℕ → Body → ℕ
ilocal_in s b = row_sum ilocal_of s b
