-- "Names come from two lent texts with one name a line, line 0 for the root": line s for site s.
use Rattle.std.specs.Prelude.{ℕ, zero, suc, Bool, true, false, not, cond, ◌&&◌, List, [], ◌∷◌, eqb, leb}

-- "a line ends at a line feed or at the end of the text": the first line of a text, without its line feed
abbrev pub first_line : List ℕ → List ℕ
first_line [] = []
first_line (c ∷ s) = cond (eqb c 10) [] (c ∷ first_line s)

-- what stands behind the first line and its line feed
abbrev pub other_lines : List ℕ → List ℕ
other_lines [] = []
other_lines (c ∷ s) = cond (eqb c 10) s (other_lines s)

-- a text from line r on: nothing where line r is missing
abbrev pub from_line : List ℕ → ℕ → List ℕ
from_line s zero = s
from_line s (suc r) = other_lines (from_line s r)

-- line r of a text, without its line feed: nothing where it is empty or missing
abbrev pub line_in : List ℕ → ℕ → List ℕ
line_in s r = first_line (from_line s r)

-- the first of two lines, or the second where the first is empty
abbrev pub or_else : List ℕ → List ℕ → List ℕ
or_else [] b = b
or_else (x ∷ a) b = x ∷ a

-- "The name shown is a part of the project's list, or of the stock list where the project's line is empty or
-- missing."
abbrev pub shown : List ℕ → List ℕ → ℕ → List ℕ
shown project stock r = or_else (line_in project r) (line_in stock r)

-- "ASCII characters from 33 to 126 without the semicolon"
abbrev pub name_char : ℕ → Bool
name_char c = leb 33 c && leb c 126 && not (eqb c 59)

abbrev pub name_chars : List ℕ → Bool
name_chars [] = true
name_chars (c ∷ s) = name_char c && name_chars s

-- "A name is one or more" of them
abbrev pub is_name : List ℕ → Bool
is_name [] = false
is_name (c ∷ s) = name_chars (c ∷ s)

-- the first of the n rows from row r on whose shown name is bad or missing from both lists; r + n where none is
abbrev pub bad_from : List ℕ → List ℕ → ℕ → ℕ → ℕ
bad_from project stock r zero = r
bad_from project stock r (suc n) = cond (is_name (shown project stock r)) (bad_from project stock (suc r) n) r

-- "the first row ... whose shown name is bad or missing from both lists", of the rows below count; count where none
-- is
abbrev pub first_bad : List ℕ → List ℕ → ℕ → ℕ
first_bad project stock count = bad_from project stock 0 count
