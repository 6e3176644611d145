-- Request g: a trace without the lines that say nothing, over line numbers. Syncs are dropped first, then adjacent costs
-- merge.
use Rattle.std.specs.Prelude.{ℕ, zero, suc, ◌+◌, ◌<◌, ◌≡◌, ◌⊎◌, Bool, cond, ◌&&◌, List, [], ◌∷◌, leb}
use Rattle.line.specs.declared.Frame.{Frame}
use Rattle.line.specs.declared.Frame.TheVariants.{Spawn, Sync, Cost, Instructions}
use Rattle.trace.specs.Shape.{if_cost, if_instructions, Is, Directly, Returns}
use Rattle.trace.specs.Rows.{carried}

-- "spawn directly in its invocation since that invocation's start or last sync": before line k one stands directly in F,
-- and no sync directly in F between the two. The last sync is the last of the trace, whether it is dropped or not.
pub record SpawnSince (t : List Frame) (F k : ℕ) : Type 0 where
  pub line : ℕ
  pub site : ℕ
  pub is : Is t line (Spawn site)
  pub directly : Directly t F line
  pub before : line < k
  pub no_sync : (j : ℕ) → Is t j Sync → Directly t F j → line < j → j < k → ⊥

-- "only syncs between it and its return": between line k and the return of F
pub record OnlySyncs (t : List Frame) (F k : ℕ) : Type 0 where
  pub end : ℕ
  pub returns : Returns t F end
  pub before : k < end
  pub only : (j : ℕ) → k < j → j < end → Is t j Sync

-- "first drops each sync with no spawn directly in its invocation since that invocation's start or last sync, and each
-- with only syncs between it and its return": line k is one of them
pub record Dropped (t : List Frame) (k : ℕ) : Type 0 where
  pub is : Is t k Sync
  pub F : ℕ
  pub directly : Directly t F k
  pub idle : (SpawnSince t F k → ⊥) ⊎ OnlySyncs t F k

-- of the lines u of t, the first of which is line n, v are those that are not dropped
pub data Undropped (t : List Frame) : ℕ → List Frame → List Frame → Type 0 where
  end : {n : ℕ} → Undropped t n [] []
  drop : {n : ℕ} {f : Frame} {u v : List Frame} → Dropped t n → Undropped t (suc n) u v → Undropped t n (f ∷ u) v
  keep : {n : ℕ} {f : Frame} {u v : List Frame} → (Dropped t n → ⊥) → Undropped t (suc n) u v → Undropped t n (f ∷ u) (f ∷ v)

-- "fits a value": the greatest that a cost line has, and a 07 line
abbrev pub most_value : ℕ
most_value = 4294967295

-- 02, request l: "The compactor merges only while both sums fit"
abbrev pub both_fit : ℕ → ℕ → Bool
both_fit h j = leb h most_value && leb j most_value

-- the instructions j of a cost, before the lines u, as a 07 line; "without one they are zero"
abbrev pub carrying : ℕ → List Frame → List Frame
carrying zero u = u
carrying (suc j) u = Instructions (suc j) ∷ u

-- the sum h of the costs directly before the lines u and the sum j of their instructions, as lines; costs are at least 1,
-- and a sum of 0 is none
abbrev pub summed : ℕ → ℕ → List Frame → List Frame
summed zero j u = u
summed (suc h) j u = Cost (suc h) ∷ carrying j u

-- "Then adjacent cost lines merge from the left while the sum fits a value, and a sum that would not fit starts a new
-- line"; h: the sum of the costs directly before, j: that of their instructions. 02, request j: "two costs with one", a
-- site line, "between them are not adjacent for the compactor". Request l: "a cost with its 07 line counts as one".
abbrev pub merged_from : ℕ → ℕ → List Frame → List Frame
merged_from h j [] = summed h j []
merged_from h j (f ∷ t) =
    if_cost (λ v. cond (both_fit (h + v) (j + carried t)) (merged_from (h + v) (j + carried t) t) (summed h j (merged_from v (carried t) t)))
    (if_instructions (λ v. merged_from h j t)
    (summed h j (f ∷ merged_from 0 0 t))
    f)
    f

abbrev pub merged : List Frame → List Frame
merged t = merged_from 0 0 t

-- u is the trace t without the lines that say nothing
pub record Compacted (t u : List Frame) : Type 0 where
  pub kept : List Frame
  pub kept_are : Undropped t 0 t kept
  pub is : u ≡ merged kept
