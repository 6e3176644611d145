-- For proofs and engines, not for the reader of document 02: what the readers of the second pass ask for and leave. s is the
-- text, m the marks.
use Rattle.std.specs.Prelude.{ℕ, ◌+◌, ◌^◌, ◌≤◌, ◌<◌, ◌≡◌, Bool, List, eqb, length, get_or}
use Rattle.line.specs.Family.{Base}
use Rattle.line.specs.At.{kind_at, value_at}
use Rattle.trace.specs.Refusals.{most_lines}
use Rattle.trace.specs.Tree.{Body, done, leaf, child, size, work_of}
use Rattle.weigh.specs.Weighed.{plainly}
use Rattle.walk.specs.Reads.{Reads}
use Rattle.walk.specs.Nested.{Nested}
use Rattle.walk.specs.Item.{More, item_size}
use Rattle.why.specs.declared.Seen.{Seen}
use Rattle.why.specs.declared.Sought.{Sought}
use Rattle.why.specs.declared.Reached.{Reached}
use Rattle.why.specs.declared.Returned.{Returned}
use Rattle.why.specs.Seek.{seen, if_unmarked, start, leaf_seen, child_seen, seek, sought}

-- "A mark is 1 for a line on the chosen chain"
abbrev pub marked_in : List ℕ → ℕ → Bool
marked_in m k = eqb (get_or m k 0) 1

-- what is seen of a cost line by itself
abbrev pub line_seen : List ℕ → List ℕ → ℕ → Seen
line_seen s m n = seen (value_at s n) (if_unmarked (marked_in m) n)

abbrev pub reached : ℕ → Sought → Reached
reached n k = record { at = n; sought = k }

abbrev pub returned : ℕ → Seen → Returned
returned n x = record { at = n; seen = x }

-- what is seen of the chains of an invocation behind the first item of its body, whose first line is line n
abbrev pub item_seen : (ℕ → Bool) → ℕ → Body → Sought → Sought
item_seen marked n done k = k
item_seen marked n (leaf l r) k = leaf_seen marked n l k
item_seen marked n (child w i g r) k = child_seen w (seek marked (n + 1) g) k

-- what three chains weigh together
abbrev pub load_seen : Sought → ℕ
load_seen k = k.p.weighs.0 + (k.l.weighs.0 + k.c.weighs.0)

-- The lines from line f .at on are those of a body, each with its mark. At most deep invocations open inside one another, and
-- whatever its chains come to weigh, from what is seen of them, fits.
pub record Asks (s m : List ℕ) (deep : ℕ) (f : Reached) : Type 0 where
  pub row : ℕ
  pub body : Body
  pub reads : Reads Base plainly s f.at row body
  pub sites : ℕ
  pub D : ℕ
  pub d : ℕ
  pub nested : Nested sites D d body
  pub depth : d + deep ≡ D
  pub ends : f.at + size body ≤ most_lines
  pub marks_long : f.at + size body ≤ length m
  pub fits : load_seen f.sought + work_of body < 2 ^ 64

-- the item reader: there is an item, whose first line is of this kind
pub record ItemAsks (s m : List ℕ) (kind deep : ℕ) (f : Reached) : Type 0 where
  pub asks : Asks s m deep f
  pub kind_is : kind ≡ kind_at s f.at
  pub more : More asks.body

-- whatever body stands here
abbrev pub ItemLeaves : (s m : List ℕ) (f r : Reached) → Type 0
ItemLeaves s m f r = (row : ℕ) (b : Body) → More b → Reads Base plainly s f.at row b → r ≡ reached (f.at + item_size b) (item_seen (marked_in m) f.at b f.sought)

-- the reader of an invocation's items up to its return, at which a join may follow
pub record ItemsLeave (s m : List ℕ) (deep : ℕ) (f r : Reached) : Type 0 where
  pub asks : Asks s m deep r
  pub leaves : (row : ℕ) (b : Body) → Reads Base plainly s f.at row b → (r.at + 1 ≡ f.at + size b) × (r.sought ≡ seek (marked_in m) f.at b f.sought)

-- the body reader
abbrev pub BodyAsks : (s m : List ℕ) (deep from : ℕ) → Type 0
BodyAsks s m deep from = Asks s m deep (reached from start)

abbrev pub BodyLeaves : (s m : List ℕ) (from : ℕ) (r : Returned) → Type 0
BodyLeaves s m from r = (row : ℕ) (b : Body) → Reads Base plainly s from row b → r ≡ returned (from + size b) (sought (marked_in m) from b)
