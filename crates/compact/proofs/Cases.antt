-- The cases hold, by computing. Assumes nothing.
use mathlib.Core.Path.{◌≡◌, refl, subst}
use mathlib.Core.List.{List}
use Rattle.line.specs.declared.Frame.{Frame}
use Rattle.compact.specs.Compact.{Compacted}
use Rattle.compact.specs.Cases.{cases, AllHold}
use Rattle.compact.specs.Fold.{compact}
use Rattle.compact.proofs.Tied.{compact-is}

by : (t u : List Frame) → compact t ≡ u → Compacted t u
by t u e = subst (Compacted t) e (compact-is t)

-- LAW
pub all_hold : AllHold cases
all_hold = (by _ _ refl, by _ _ refl, (by _ _ refl, by _ _ refl, (by _ _ refl, by _ _ refl, (by _ _ refl, by _ _ refl, (by _ _ refl, by _ _ refl, (by _ _ refl, by _ _ refl, (by _ _ refl, by _ _ refl, (by _ _ refl, by _ _ refl, (by _ _ refl, by _ _ refl, (by _ _ refl, by _ _ refl, (by _ _ refl, by _ _ refl, (by _ _ refl, by _ _ refl, (by _ _ refl, by _ _ refl, (by _ _ refl, by _ _ refl, (by _ _ refl, by _ _ refl, (by _ _ refl, by _ _ refl, (by _ _ refl, by _ _ refl, (by _ _ refl, by _ _ refl, (by _ _ refl, by _ _ refl, (by _ _ refl, by _ _ refl, (by _ _ refl, by _ _ refl, (by _ _ refl, by _ _ refl, (by _ _ refl, by _ _ refl, tt)))))))))))))))))))))))
