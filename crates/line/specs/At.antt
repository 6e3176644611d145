-- For proofs, not for the reader of document 01: one line of a text, and its kind, its site and its value, each by
-- itself, without a look at the rest of the line. Each character is taken for a digit, which on an accepted line it
-- is.
use Rattle.std.specs.Prelude.{ℕ, ◌+◌, ◌*◌, ◌%◌, cond, List, [], length, get_or, eqb}
use Rattle.digits.specs.Word.{plainly}
use Rattle.line.specs.Family.{Family, Base, Finishes}
use Rattle.line.specs.Read.{width, site_part, value_part, line_at}

-- the characters of line n; none where it is not whole
abbrev pub whole_at : List ℕ → ℕ → List ℕ
whole_at s n = cond (eqb (length (line_at s n)) width) (line_at s n) []

-- the kind in a line's characters, by its second digit alone: no kind of document 01 is above 7; of no characters it
-- is 0, as are the site and the value
abbrev pub kind_in : List ℕ → ℕ
kind_in l = get_or l 1 0 % 16

-- by both digits, for the finish family
abbrev pub both_in : List ℕ → ℕ
both_in l = 16 * (get_or l 0 0 % 16) + get_or l 1 0 % 16

-- the kind as a family has it
abbrev pub kind_in_of : Family → List ℕ → ℕ
kind_in_of Base l = kind_in l
kind_in_of Finishes l = both_in l

abbrev pub site_in : List ℕ → ℕ
site_in l = plainly (site_part l)

abbrev pub value_in : List ℕ → ℕ
value_in l = plainly (value_part l)

-- those of line n
abbrev pub kind_at : List ℕ → ℕ → ℕ
kind_at s n = kind_in (whole_at s n)

abbrev pub both_at : List ℕ → ℕ → ℕ
both_at s n = both_in (whole_at s n)

abbrev pub kind_at_of : Family → List ℕ → ℕ → ℕ
kind_at_of g s n = kind_in_of g (whole_at s n)

abbrev pub site_at : List ℕ → ℕ → ℕ
site_at s n = site_in (whole_at s n)

abbrev pub value_at : List ℕ → ℕ → ℕ
value_at s n = value_in (whole_at s n)
