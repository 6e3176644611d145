-- For proofs, not for the reader of the request: what measuring the text asks for and leaves.
use Rattle.std.specs.Prelude.{ℕ, ◌+◌, ◌-◌, ◌≤◌, ◌<◌, ◌≡◌, Bool, List, [], ◌∷◌, Option, MatchOption, leb, length, get_or}
use Rattle.std.specs.Borrow.{Bor}
use Rattle.line.specs.declared.Frame.{Frame}
use Rattle.line.specs.Read.{read_at, says}
use Rattle.folded.specs.declared.measure.Measured.{Measured}
use Rattle.weigh.specs.Weighed.{row_step}
use Rattle.folded.specs.Rows.{stack, prints_of, prints, Few, Lines}
use Rattle.folded.specs.Shows.{Found}

-- t has, for each open row with those around it, what their joined names leave of a room, the root's first
abbrev pub Lefts : ℕ → (ℕ → List ℕ) → List ℕ → List ℕ → Type 0
Lefts room name t [] = Unit {0}
Lefts room name t (x ∷ o) = (get_or t (length o) 0 ≡ room - length (stack name (x ∷ o))) × Lefts room name t o

-- a line, which reads as a frame, with these rows open
pub record LineAsks (s : List ℕ) (n : ℕ) (names : List (Bor (List ℕ))) (room : ℕ) (t : List ℕ) (a : Measured) : Type 0 where
  pub name : ℕ → List ℕ
  pub frame : Frame
  pub reads : read_at s n ≡ says n frame
  pub rows : List ℕ
  pub m : ℕ
  pub D : ℕ
  pub some : 1 ≤ length rows
  pub few : Few m D rows
  pub next : Few m D (row_step frame rows)
  pub found : Found name (m + 1) names
  pub depth_is : a.depth ≡ length rows
  pub long : D ≤ length t
  pub held : Lefts room name t rows
  pub small : a.left ≤ room

-- whatever frame and rows these are: nothing where the room that is left is too small for what the line prints
abbrev pub LineLeaves : List ℕ → ℕ → List (Bor (List ℕ)) → ℕ → List ℕ → Measured → Option Measured → List ℕ → Type 0
LineLeaves s n names room t a r t' =
    (q : LineAsks s n names room t a)
    → MatchOption r (a.left < length (prints_of q.name q.rows q.frame))
    (λ b. (b.depth ≡ length (row_step q.frame q.rows))
    × (b.left + length (prints_of q.name q.rows q.frame) ≡ a.left)
    × Lefts room q.name t' (row_step q.frame q.rows))

-- all lines
pub record Asks (s : List ℕ) (lines : ℕ) (names : List (Bor (List ℕ))) : Type 0 where
  pub name : ℕ → List ℕ
  pub m : ℕ
  pub D : ℕ
  pub trace : Lines s lines m D
  pub most : D ≤ 64
  pub found : Found name (m + 1) names

abbrev pub Leaves : List ℕ → ℕ → List (Bor (List ℕ)) → ℕ → Bool → Type 0
Leaves s lines names room r =
    (q : Asks s lines names) → r ≡ leb (length (prints q.name (0 ∷ []) q.trace.frames)) room
