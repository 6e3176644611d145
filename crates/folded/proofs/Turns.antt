-- A reading of a trace line by line: before each line, the lines that are left and the rows that are open. Assumes
-- nothing.
use Prim.Native.Nat.{ℕ, ◌+◌, ◌≤◌}
use mathlib.Core.List.{List, [], ◌∷◌}
use mathlib.Core.Path.{◌≡◌, refl, sym, subst}
use native.Mathlib.Omega.{arith}
use lib.ListN.{length}
use Rattle.line.specs.Family.{Base}
use Rattle.line.specs.declared.Frame.{Frame}
use Rattle.walk.specs.Stands.{Stands}
use Rattle.weigh.specs.Weighed.{row_step}
use Rattle.folded.specs.Rows.{Few, Flows, Lines}

pub few-flows : (m D : ℕ) (o : List ℕ) (u : List Frame) → Flows m D o u → Few m D o
few-flows m D o [] h = subst (Few m D) (sym h) (record { rows = tt; deep = omega arith })
few-flows m D o (f ∷ u) h = h.1

-- before line n
pub record Turn (s : List ℕ) (lines m D n : ℕ) (rest : List Frame) (rows : List ℕ) : Type 0 where
  pub stands : Stands Base s n rest
  pub ends : n + length rest ≡ lines
  pub flows : Flows m D rows rest

module _ {s : List ℕ} {lines m D : ℕ} where
  pub turn-start : (x : Lines s lines m D) → Turn s lines m D 0 x.frames (0 ∷ [])
  turn-start x = record { stands = x.stands; ends = omega (arith, x.long); flows = x.flows }

  pub turn-next : {n : ℕ} {f : Frame} {u : List Frame} {rows : List ℕ} → Turn s lines m D n (f ∷ u) rows → Turn s lines m D (n + 1) u (row_step f rows)
  turn-next k = record { stands = k.stands.1; ends = omega (arith, k.ends); flows = k.flows.2 }

  -- none is left at the end
  pub turn_end : {n : ℕ} (rest : List Frame) {rows : List ℕ} → Turn s lines m D n rest rows → lines ≤ n → rest ≡ []
  turn_end [] k h = refl
  turn_end (f ∷ u) k h = absurd (omega (arith, k.ends))
