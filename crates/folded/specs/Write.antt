-- For proofs, not for the reader of the request: what writing the text asks for and leaves.
use Rattle.std.specs.Prelude.{ℕ, zero, suc, ◌+◌, ◌-◌, ◌≤◌, ◌<◌, ◌≡◌, List, [], ◌∷◌, length, take, drop, get_or}
use Rattle.std.specs.Borrow.{Bor}
use Rattle.line.specs.declared.Frame.{Frame}
use Rattle.line.specs.Read.{read_at, says}
use Rattle.report.specs.Room.{Lays}
use Rattle.folded.specs.declared.write.Last.{Last}
use Rattle.folded.specs.declared.write.Written.{Written}
use Rattle.folded.specs.Text.{root_first, joined}
use Rattle.weigh.specs.Weighed.{row_step}
use Rattle.folded.specs.Rows.{prints_of, prints, Few, Lines}
use Rattle.folded.specs.Shows.{Shows, Found}

-- the k-th name of a stack, as it stands there
abbrev pub piece : ℕ → List ℕ → List ℕ
piece zero s = s
piece (suc k) s = 59 ∷ s

-- the line that was written last stands before place at, and begins with the joined names of so many of the rows r
pub record Common (name : ℕ → List ℕ) (rows out : List ℕ) (at : ℕ) (l : Last) : Type 0 where
  pub fewer : l.rows ≤ length rows
  pub before : l.from + l.chars ≤ at
  pub chars_are : l.chars ≡ length (joined name (take l.rows rows))
  pub stand : take l.chars (drop l.from out) ≡ joined name (take l.rows rows)

-- the names of the first depth rows of t are known, and have room
pub record StackAsks (names : List (Bor (List ℕ))) (t : List ℕ) (depth : ℕ) (out : List ℕ) (at : ℕ) (l : Last) : Type 0 where
  pub name : ℕ → List ℕ
  pub inside : depth ≤ length t
  pub known : (k : ℕ) → k < depth → Shows name names (get_or t k 0)
  pub fits : at + length (joined name (take depth t)) ≤ length out
  pub common : Common name (take depth t) out at l

-- whatever names these are
abbrev pub StackLeaves : List (Bor (List ℕ)) → List ℕ → ℕ → List ℕ → ℕ → Last → ℕ → List ℕ → Type 0
StackLeaves names t depth out at l r out' =
    (q : StackAsks names t depth out at l) → Lays at (joined q.name (take depth t)) out r out'

-- where the line has the innermost row too, it is left off, with its name and the semicolon before it
pub record CloseLeaves (name : List ℕ) (depth : ℕ) (l r : Last) : Type 0 where
  pub fewer : l.rows < depth → r ≡ l
  pub all : depth ≤ l.rows → r ≡ record { from = l.from; rows = depth - 1; chars = l.chars - length name - 1 }

-- a line, which reads as a frame, with these rows open
pub record LineAsks (s : List ℕ) (n : ℕ) (names : List (Bor (List ℕ))) (t out : List ℕ) (a : Written) : Type 0 where
  pub name : ℕ → List ℕ
  pub frame : Frame
  pub reads : read_at s n ≡ says n frame
  pub rows : List ℕ
  pub m : ℕ
  pub D : ℕ
  pub some : 1 ≤ length rows
  pub few : Few m D rows
  pub next : Few m D (row_step frame rows)
  pub found : Found name (m + 1) names
  pub depth_is : a.depth ≡ length rows
  pub long : D ≤ length t
  pub held : take (length rows) t ≡ root_first rows
  pub common : Common name (root_first rows) out a.at a.last
  pub fits : a.at + length (prints_of name rows frame) ≤ length out

-- whatever frame and rows these are
abbrev pub LineLeaves : List ℕ → ℕ → List (Bor (List ℕ)) → List ℕ → List ℕ → Written → Written → List ℕ → List ℕ → Type 0
LineLeaves s n names t out a r t' out' =
    (q : LineAsks s n names t out a)
    → (r.depth ≡ length (row_step q.frame q.rows))
    × (take (length (row_step q.frame q.rows)) t' ≡ root_first (row_step q.frame q.rows))
    × Lays a.at (prints_of q.name q.rows q.frame) out r.at out'
    × Common q.name (root_first (row_step q.frame q.rows)) out' r.at r.last

-- all lines
pub record Asks (s : List ℕ) (lines : ℕ) (names : List (Bor (List ℕ))) (t out : List ℕ) : Type 0 where
  pub name : ℕ → List ℕ
  pub m : ℕ
  pub D : ℕ
  pub trace : Lines s lines m D
  pub found : Found name (m + 1) names
  pub long : D ≤ length t
  pub fits : length (prints name (0 ∷ []) trace.frames) ≤ length out

abbrev pub Leaves : List ℕ → ℕ → List (Bor (List ℕ)) → List ℕ → List ℕ → ℕ → List ℕ → Type 0
Leaves s lines names t out r out' =
    (q : Asks s lines names t out)
    → Lays 0 (prints q.name (0 ∷ []) q.trace.frames) out r out'
