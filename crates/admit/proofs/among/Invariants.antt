-- `admit::among` meets its contract. The invariant: a key looked at so far is the one looked for exactly when it was found.
use mathlib.Core.Path.{◌≡◌}
use lib.Dec.{eqb}
use lib.ListN.{take}
use Rattle.std.specs.List.{list_any}
use Rattle.admit.proofs.among.Given as goal

abbrev pub invariant-loop-k : goal.invariant-loop-k
invariant-loop-k l = l.found ≡ list_any (λ y. eqb y l.key) (take l.k-index l.keys)
