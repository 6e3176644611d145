-- What the line reader gives: the frame that 23 characters are, or refusal 2, 5 or 6.
use Rattle.std.specs.Prelude.{ℕ, ◌*◌, Bool, not, cond, ◌&&◌, List, length, get_or, take, drop, eqb, Result, Ok, Err}
use Rattle.digits.specs.Digits.{all_digits, number}
use Rattle.line.specs.Family.{Family, Base}
use Rattle.line.specs.declared.Frame.{Frame}
use Rattle.line.specs.declared.Line.{Line}
use Rattle.line.specs.declared.Refusal.{Refusal}
use Rattle.line.specs.Refusal.{refusal}
use Rattle.line.specs.Table.{Fields, Entry, frame, none, table_of}

-- the characters of s from one place on, as many as size says
abbrev pub part : List ℕ → ℕ → ℕ → List ℕ
part s from size = take size (drop from s)

-- "23 characters: 22 digits from `0`-`9`, `a`-`f`, then a line feed": how wide a line is, and where the line feed stands
abbrev pub width : ℕ
width = 23

abbrev pub end : ℕ
end = 22

-- "Fields, most significant digit first: kind (2 digits), site (4), value (8), file (4), column (4)": the characters
-- of each
abbrev pub kind_part : List ℕ → List ℕ
kind_part s = part s 0 2

abbrev pub site_part : List ℕ → List ℕ
site_part s = part s 2 4

abbrev pub value_part : List ℕ → List ℕ
value_part s = part s 6 8

abbrev pub file_part : List ℕ → List ℕ
file_part s = part s 14 4

abbrev pub column_part : List ℕ → List ℕ
column_part s = part s 18 4

-- the numbers in their digits
abbrev pub fields : List ℕ → Fields
fields s = record { kind = number (kind_part s); site = number (site_part s); value = number (value_part s); file = number (file_part s); column = number (column_part s) }

-- 5: "a wrong character in the line"
abbrev pub wrong : List ℕ → Bool
wrong s = not (all_digits (take end s) && eqb (get_or s end 0) 10)

-- what reading a line gives: its number and its frame, or a refusal
abbrev pub Read : Type 0
Read = Result Line Refusal

abbrev pub says : ℕ → Frame → Read
says n f = Ok (record { number = n; frame = f })

-- 6: "unknown kind, unused field not zero, or a value outside the table"
abbrev pub tabled : Entry → ℕ → Read
tabled (frame f) n = says n f
tabled none n = Err (refusal 6 n)

-- "refusal 2 unless it is lent exactly 23 characters, then 5, then 6 ...; otherwise the frame"; n: the line's number,
-- 0 where it stands alone
abbrev pub read_line_of : Family → List ℕ → ℕ → Read
read_line_of g s n = cond (eqb (length s) width) (cond (wrong s) (Err (refusal 5 n)) (tabled (table_of g (fields s)) n)) (Err (refusal 2 0))

-- document 01's reader
abbrev pub read_line : List ℕ → ℕ → Read
read_line s n = read_line_of Base s n

-- "Lines are numbered from 0": the characters of line n of a text, and what reading them gives
abbrev pub line_at : List ℕ → ℕ → List ℕ
line_at s n = take width (drop (width * n) s)

abbrev pub read_at_of : Family → List ℕ → ℕ → Read
read_at_of g s n = read_line_of g (line_at s n) n

abbrev pub read_at : List ℕ → ℕ → Read
read_at s n = read_at_of Base s n
