-- What a line of each kind does to the open rows, and what it prints. Assumes nothing.
use Prim.Native.Nat.{ℕ, ◌≤◌}
use mathlib.Core.List.{List, [], ◌∷◌, ◌++◌}
use mathlib.Core.Path.{◌≡◌, refl}
use Rattle.std.proofs.Common.{◌≢◌}
use native.Mathlib.Omega.{arith}
use Rattle.line.specs.Family.{Base}
use Rattle.line.specs.declared.Frame.{Frame}
use Rattle.line.specs.declared.Frame.TheVariants.{Site, Call, Spawn, Sync, Return, Cost, Instructions, Async, Finish}
use Rattle.trace.specs.Shape.{closed}
use Rattle.trace.proofs.Scan.{InTable}
use Rattle.walk.specs.Stands.{kind_of, site_of, value_of}
use Rattle.folded.specs.Text.{cost_text}
use Rattle.weigh.specs.Weighed.{row_step}
use Rattle.folded.specs.Rows.{stack, prints_of}

-- the line makes p of the open rows o, and prints u
pub record Does (name : ℕ → List ℕ) (f : Frame) (o p u : List ℕ) : Type 0 where
  pub shifts : row_step f o ≡ p
  pub prints : prints_of name o f ≡ u

module _ (name : ℕ → List ℕ) (o : List ℕ) where
  pub a-cost : (f : Frame) → kind_of f ≡ 6 → Does name f o o (stack name o ++ cost_text (value_of f))
  a-cost (Site s p) e = absurd (omega arith)
  a-cost (Call s) e = absurd (omega arith)
  a-cost (Spawn s) e = absurd (omega arith)
  a-cost Sync e = absurd (omega arith)
  a-cost Return e = absurd (omega arith)
  a-cost (Cost v) e = record { shifts = refl; prints = refl }
  a-cost (Instructions v) e = absurd (omega arith)
  a-cost (Async s) e = absurd (omega arith)
  a-cost Finish e = absurd (omega arith)

  pub a_return : (f : Frame) → kind_of f ≡ 5 → Does name f o (closed o) []
  a_return (Site s p) e = absurd (omega arith)
  a_return (Call s) e = absurd (omega arith)
  a_return (Spawn s) e = absurd (omega arith)
  a_return Sync e = absurd (omega arith)
  a_return Return e = record { shifts = refl; prints = refl }
  a_return (Cost v) e = absurd (omega arith)
  a_return (Instructions v) e = absurd (omega arith)
  a_return (Async s) e = absurd (omega arith)
  a_return Finish e = absurd (omega arith)

  -- a site line, a sync, or a cost's instructions
  pub a-passed : (f : Frame) → InTable Base f → kind_of f ≢ 6 → kind_of f ≢ 5 → kind_of f ≢ 2 → kind_of f ≢ 3 → Does name f o o []
  a-passed (Site s p) t n6 n5 n2 n3 = record { shifts = refl; prints = refl }
  a-passed (Call s) t n6 n5 n2 n3 = absurd (n2 refl)
  a-passed (Spawn s) t n6 n5 n2 n3 = absurd (n3 refl)
  a-passed Sync t n6 n5 n2 n3 = record { shifts = refl; prints = refl }
  a-passed Return t n6 n5 n2 n3 = absurd (n5 refl)
  a-passed (Cost v) t n6 n5 n2 n3 = absurd (n6 refl)
  a-passed (Instructions v) t n6 n5 n2 n3 = record { shifts = refl; prints = refl }
  a-passed (Async s) t n6 n5 n2 n3 = absurd t
  a-passed Finish t n6 n5 n2 n3 = absurd t

  -- a call or a spawn
  pub a_making : (f : Frame) → 2 ≤ kind_of f → kind_of f ≤ 3 → Does name f o (site_of f ∷ o) []
  a_making (Site s p) low high = absurd (omega arith)
  a_making (Call s) low high = record { shifts = refl; prints = refl }
  a_making (Spawn s) low high = record { shifts = refl; prints = refl }
  a_making Sync low high = absurd (omega arith)
  a_making Return low high = absurd (omega arith)
  a_making (Cost v) low high = absurd (omega arith)
  a_making (Instructions v) low high = absurd (omega arith)
  a_making (Async s) low high = absurd (omega arith)
  a_making Finish low high = absurd (omega arith)
