-- `admit::among` meets its contract: behind the loop all keys were looked at.
use mathlib.Core.Path.{◌≡◌, ap, ◌∙◌}
use mathlib.Core.List.{List}
use Prim.Native.Nat.{ℕ}
use native.Mathlib.Omega.{arith}
use lib.Dec.{eqb}
use lib.ListN.{take}
use lib.Seq.{take_all}
use Rattle.std.specs.List.{list_any}
use Rattle.admit.proofs.Keys.{has-any}
use Rattle.admit.proofs.among.Goals as goal

pub returns : goal.returns
returns c =
    let a = c.args in
    let all : take c.loop-k.k-index a.keys.now ≡ a.keys.now = take_all c.loop-k.k-index a.keys.now (omega arith) in
    c.loop-k.invariant ∙ ap (λ (l : List ℕ). list_any (λ y. eqb y a.key) l) all ∙ has-any a.key a.keys.now
