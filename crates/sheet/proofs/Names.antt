-- One name for each number of a row, and the names as the code has them. Assumes nothing.
use Prim.Native.Nat.{ℕ}
use mathlib.Core.List.{List, ◌++◌, flat_map}
use mathlib.Core.Path.{◌≡◌, refl}
use lib.ListN.{length}
use Rattle.trace.specs.Rows.{columns}
use Rattle.sheet.specs.Text.{codes, row_name, column_names, follows}

pub one-name-each : length column_names ≡ columns
one-name-each = refl

-- the table of names in the code, each but the first behind a comma
abbrev pub table : List ℕ
table = codes "row,calls,work,span,local,onspan,ilocal,ionspan"

pub names-joined : table ≡ row_name ++ flat_map follows column_names
unfolding flat_map
names-joined = refl
