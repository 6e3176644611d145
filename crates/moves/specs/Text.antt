-- A text of which one line is written anew.
use Rattle.std.specs.Prelude.{ℕ, suc, ◌*◌, List, ◌++◌, take, drop}
use Rattle.line.specs.declared.Frame.TheVariants.{Cost}
use Rattle.line.specs.Read.{width}
use Rattle.line.specs.Write.{write_chars}

-- the text s with the characters l in the place of line k; the lines before and behind it stay, character by character
abbrev pub with_line : List ℕ → ℕ → List ℕ → List ℕ
with_line s k l = take (width * k) s ++ (l ++ drop (width * suc k) s)

-- the text s whose line k is as the line writer gives a cost of v
abbrev pub with_cost : List ℕ → ℕ → ℕ → List ℕ
with_cost s k v = with_line s k (write_chars (Cost v))
