-- `forecast::factors` meets its contract. The invariant: the table has the factors of the entries from `i` on. Assumes
-- nothing.
use Rattle.std.proofs.Common.{◌≡◌, drop}
use Rattle.forecast.specs.Factors.{factor_table}
use Rattle.forecast.proofs.factors.Given as goal

abbrev pub invariant-loop-i : goal.invariant-loop-i
invariant-loop-i l = l.table ≡ factor_table (drop l.i l.entries)
