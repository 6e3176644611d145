-- For proofs and engines, not for the reader of document 02: the factor of every row.
use Rattle.std.specs.Prelude.{ℕ, zero, suc, List, [], ◌∷◌}
use Rattle.forecast.specs.declared.Entry.{Entry}
use Rattle.forecast.specs.ByRow.{row_factor}

-- f r, f (r + 1) and on, n numbers
abbrev pub numbers : (ℕ → ℕ) → ℕ → ℕ → List ℕ
numbers f r zero = []
numbers f r (suc n) = f r ∷ numbers f (suc r) n

-- the factors of rows 0 to 255
unfoldable pub factor_table : List Entry → List ℕ
factor_table es = numbers (row_factor es) 0 256
