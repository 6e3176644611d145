-- The columns of a row by name, and where each stands among the row numbers.
use Rattle.std.specs.Prelude.{ℕ, ◌+◌, ◌*◌}
use Rattle.trace.specs.Rows.{columns}

-- "Five numbers a row, in this order"; 02, request l: "Rows gain two numbers at the end, instructions local and on span"
pub data Column : Type 0 where
  calls work span local on_span ilocal ion_span : Column

-- how many columns stand before it
abbrev pub nth : Column → ℕ
nth calls = 0
nth work = 1
nth span = 2
nth local = 3
nth on_span = 4
nth ilocal = 5
nth ion_span = 6

-- the row number that is this column of row s
abbrev pub slot : ℕ → Column → ℕ
slot s k = columns * s + nth k
