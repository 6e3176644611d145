-- For proofs, not for the reader of the request: a table of the names shown for rows.
use Rattle.std.specs.Prelude.{ℕ, ◌<◌, ◌≡◌, List, length, get_or}
use Rattle.std.specs.Borrow.{Bor}

-- the name shown for a row stands in the table
pub record Shows (name : ℕ → List ℕ) (names : List (Bor (List ℕ))) (row : ℕ) : Type 0 where
  pub inside : row < length names
  pub is : (none : Bor (List ℕ)) → (get_or names row none).now ≡ name row

-- so it is for each of the rows below count
abbrev pub Found : (ℕ → List ℕ) → ℕ → List (Bor (List ℕ)) → Type 0
Found name count names = (row : ℕ) → row < count → Shows name names row
