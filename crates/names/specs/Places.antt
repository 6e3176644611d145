-- Where the lines of a text are, by the numbers of its characters.
use Rattle.std.specs.Prelude.{ℕ, ◌+◌, ◌-◌, cond, List, ltb, length, take, drop}
use Rattle.names.specs.Names.{first_line}

-- the part from place a up to place e, as far as the text has it
abbrev pub part : List ℕ → ℕ → ℕ → List ℕ
part s a e = take (e - a) (drop a s)

-- the place at which the line that begins at place a ends
abbrev pub end_of : List ℕ → ℕ → ℕ
end_of s a = a + length (first_line (drop a s))

-- the place behind the line feed at place e; e itself where the text ends there
abbrev pub next_of : List ℕ → ℕ → ℕ
next_of s e = cond (ltb e (length s)) (e + 1) e
