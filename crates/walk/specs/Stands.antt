-- For proofs and engines, not for the reader of document 01: which frames stand in a text, and what a frame's line says.
use Rattle.std.specs.Prelude.{ℕ, ◌+◌, ◌*◌, ◌≤◌, ◌≡◌, List, [], ◌∷◌, length}
use Rattle.line.specs.Family.{Family}
use Rattle.line.specs.declared.Frame.{Frame}
use Rattle.line.specs.Table.{fields_of}
use Rattle.line.specs.Read.{width, read_at_of, says}
use Rattle.line.specs.At.{kind_at_of}

-- the lines of s from line n on read as these frames
abbrev pub Stands : Family → List ℕ → ℕ → List Frame → Type 0
Stands y s n [] = Unit {0}
Stands y s n (f ∷ l) = (read_at_of y s n ≡ says n f) × Stands y s (n + 1) l

-- line n of s is whole
abbrev pub Whole : List ℕ → ℕ → Type 0
Whole s n = width * n + width ≤ length s

-- r is what field p says of line n, whatever frame it reads as
abbrev pub Says : Family → (Frame → ℕ) → List ℕ → ℕ → ℕ → Type 0
Says y p s n r = (f : Frame) → read_at_of y s n ≡ says n f → r ≡ p f

-- the kind of a line as the family's readers take it: by its second digit, or by both
abbrev pub kind_by : Family → List ℕ → ℕ → ℕ
kind_by y s n = kind_at_of y s n

abbrev pub kind_of : Frame → ℕ
kind_of f = (fields_of f).kind

abbrev pub site_of : Frame → ℕ
site_of f = (fields_of f).site

abbrev pub value_of : Frame → ℕ
value_of f = (fields_of f).value
