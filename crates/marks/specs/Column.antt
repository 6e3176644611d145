-- For proofs and engines, not for the reader of document 01: what the second reading, for the on-span columns, asks
-- for and leaves. m are the marks, and how is what a cost line weighs.
use Rattle.std.specs.Prelude.{ℕ, ◌+◌, ◌*◌, ◌^◌, ◌≤◌, ◌<◌, ◌≡◌, cond, List, [], ◌∷◌, eqb, length, get_or, set}
use Rattle.line.specs.Family.{Family}
use Rattle.line.specs.Read.{width}
use Rattle.trace.specs.Rows.{columns}
use Rattle.trace.specs.Column.{Column, slot}
use Rattle.trace.specs.Tree.{leaf_work, leaf_instructions, Body, done, leaf, child, size, Within}
use Rattle.weigh.specs.Weighed.{Weigh}
use Rattle.walk.specs.Reads.{Reads}
use Rattle.walk.specs.Gain.{one, Grown}
use Rattle.marks.specs.declared.Present.{Present}
use Rattle.marks.specs.Park.{Zero}

-- what a cost of v counts whose mark is x
abbrev pub marked : ℕ → ℕ → ℕ
marked x v = cond (eqb x 1) v 0

-- columns 5 and 7 of row s: a cost of v with j instructions whose mark is x
abbrev pub marked_gain : ℕ → ℕ → ℕ → ℕ → ℕ → ℕ
marked_gain s x v j i = one (slot s Column.on_span) (marked x v) i + one (slot s Column.ion_span) (marked x j) i

-- by how much row number i grows over the body of an invocation of row s whose first line is n: each marked cost in
-- its own row
abbrev pub on_gain : List ℕ → ℕ → ℕ → Body → ℕ → ℕ
on_gain m n s done i = 0
on_gain m n s (leaf l r) i = marked_gain s (get_or m n 0) (leaf_work l) (leaf_instructions l r) i + on_gain m (n + 1) s r i
on_gain m n s (child w j g r) i = on_gain m (n + 1) j g i + on_gain m (n + (1 + size g)) s r i

-- an open invocation: its row, and what is left of its body
pub record Left : Type 0 where
  pub row : ℕ
  pub body : Body

-- the same by its row and its body
abbrev pub left : ℕ → Body → Left
left s b = record { row = s; body = b }

-- All open invocations are a list, the innermost first. What is left of each is read behind what is left of those
-- inside it, from line n on.
abbrev pub AllRead : Family → Weigh → List ℕ → ℕ → List Left → Type 0
AllRead y how s n [] = Unit {0}
AllRead y how s n (x ∷ k) = Reads y how s n x.row x.body × AllRead y how s (n + size x.body) k

-- how many lines are left
abbrev pub lines_left : List Left → ℕ
lines_left [] = 0
lines_left (x ∷ k) = size x.body + lines_left k

-- by how much row number i grows over them
abbrev pub on_left : List ℕ → ℕ → List Left → ℕ → ℕ
on_left m n [] i = 0
on_left m n (x ∷ k) i = on_gain m n x.row x.body i + on_left m (n + size x.body) k i

-- their rows and sites are at most sites, and there are never more than D
abbrev pub AllWithin : ℕ → ℕ → List Left → Type 0
AllWithin sites D [] = Unit {0}
AllWithin sites D (x ∷ k) = (x.row ≤ sites) × (length (x ∷ k) ≤ D) × Within sites D (length (x ∷ k)) x.body × AllWithin sites D k

-- behind the next line, where b is left of the innermost, whose row is s
abbrev pub behind : ℕ → Body → List Left → List Left
behind s done k = k
behind s (leaf l r) k = left s r ∷ k
behind s (child w j g r) k = left j g ∷ (left s r ∷ k)

-- by how much row number i grows over this line
abbrev pub on_line : List ℕ → ℕ → ℕ → Body → ℕ → ℕ
on_line m n s done i = 0
on_line m n s (leaf l r) i = marked_gain s (get_or m n 0) (leaf_work l) (leaf_instructions l r) i
on_line m n s (child w j g r) i = 0

-- the scratch z with the rows of open invocations at its front, the outermost's first
abbrev pub stacked : List ℕ → List Left → List ℕ
stacked z [] = z
stacked z (x ∷ k) = set (stacked z k) (length k) x.row

-- a is the innermost and t has the rows of those around it; the scratch is as it was where none is open
abbrev pub Held : List ℕ → List Left → Present → List ℕ → Type 0
Held z [] a t = t ≡ z
Held z (x ∷ k) a t = (a.row ≡ x.row) × (a.around ≡ length k) × (t ≡ stacked z k)

-- the same behind a line at which a was the innermost; behind the root's return a stays the present one
abbrev pub HeldAfter : List ℕ → List Left → Present → Present → List ℕ → Type 0
HeldAfter z [] a r t = (r ≡ a) × (t ≡ z)
HeldAfter z (x ∷ k) a r t = Held z (x ∷ k) r t

-- where none is around
abbrev pub root : Present
root = record { row = 0; around = 0 }

-- an invocation of a site was entered
abbrev pub entered : ℕ → Present → Present
entered site a = record { row = site; around = a.around + 1 }

-- an invocation was left: the root is the last; of another, the row around it is taken from the scratch and its
-- number is cleared
pub record Returned (t : List ℕ) (a r : Present) (t' : List ℕ) : Type 0 where
  pub last : a.around ≡ 0 → (r ≡ a) × (t' ≡ t)
  pub inner : (d : ℕ) → a.around ≡ d + 1 → (r ≡ record { row = get_or t d 0; around = d }) × (t' ≡ set t d 0)

-- column c of each row has room for what is left to add
abbrev pub OnFits : Column → ℕ → List ℕ → ℕ → List Left → List ℕ → Type 0
OnFits c sites m n k rows = (j : ℕ) → j ≤ sites → get_or rows (slot j c) 0 + on_left m n k (slot j c) < 2 ^ 64

-- What is left of the open invocations k is read from line n on, and each line of the text has a mark. z is the
-- scratch where none is open: it is zero, and has room for all rows. The on-span numbers fit.
pub record OnLent (y : Family) (how : Weigh) (s : List ℕ) (n : ℕ) (k : List Left) (z : List ℕ) (a : Present) (t m rows : List ℕ) : Type 0 where
  pub sites : ℕ
  pub D : ℕ
  pub reads : AllRead y how s n k
  pub within : AllWithin sites D k
  pub zero : Zero z
  pub room : D ≤ length z
  pub held : Held z k a t
  pub rows_long : columns * (sites + 1) ≤ length rows
  pub lines : length s ≤ width * length m
  pub fits : OnFits Column.on_span sites m n k rows
  pub ifits : OnFits Column.ion_span sites m n k rows

-- a line: at least one invocation is open
pub record LineAsks (y : Family) (how : Weigh) (s : List ℕ) (n : ℕ) (a : Present) (t m rows : List ℕ) : Type 0 where
  pub row : ℕ
  pub body : Body
  pub around : List Left
  pub z : List ℕ
  pub lent : OnLent y how s n (left row body ∷ around) z a t m rows

-- whatever invocations are open
abbrev pub LineLeaves : (y : Family) (how : Weigh) (s : List ℕ) (n : ℕ) (a : Present) (t m rows : List ℕ) (r : Present) (t' rows' : List ℕ) → Type 0
LineLeaves y how s n a t m rows r t' rows' = (q : LineAsks y how s n a t m rows) → HeldAfter q.z (behind q.row q.body q.around) a r t' × Grown rows (on_line m n q.row q.body) rows'

-- the lines before line e are those of the root's body
pub record ColumnAsks (y : Family) (how : Weigh) (s : List ℕ) (e : ℕ) (t m rows : List ℕ) : Type 0 where
  pub body : Body
  pub ends : size body ≡ e
  pub lent : OnLent y how s 0 (left 0 body ∷ []) t root t m rows

-- whatever body that is
abbrev pub ColumnLeaves : (y : Family) (how : Weigh) (s : List ℕ) (e : ℕ) (t m rows rows' : List ℕ) → Type 0
ColumnLeaves y how s e t m rows rows' = (q : ColumnAsks y how s e t m rows) → Grown rows (on_gain m 0 0 q.body) rows'
