-- Checks 1 to 4: what is so where they pass, what the room decides and what decides it, and that the lines decide where
-- they pass.
use mathlib.Core.Path.{◌≡◌, refl, ap}
use mathlib.Core.Logic.{◌⊎◌, inl, inr}
use mathlib.Core.Bool.{Bool, true, false, not, cond}
use mathlib.Core.List.{List, []}
use Prim.Native.Nat.{ℕ, ◌<◌}
use native.Mathlib.Omega.{arith}
use lib.ListN.{length}
use lib.Dec.{eqb}
use borrow.Author.Tests.{eqb-true, eqb-false}
use Rattle.line.specs.Family.{Family}
use Rattle.trace.specs.Refusals.{out_of_range, broken, line_count, too_many, checks, refused, scan, reads_of, verdict_of}
use Rattle.trace.specs.Promise.{Engine, tables, marks, Lent, enough}

-- a, b, c: checks 1, 2 and 3 fail; room: check 4 does not
abbrev first : Bool → Bool → Bool → Bool → ℕ
first a b c room = cond a 1 (cond b 2 (cond c 3 (cond (not room) 4 0)))

module _ (bytes D M : ℕ) where
  -- they pass: none of them fails
  pub record Passed (room : Bool) : Type 0 where
    pub in_range : out_of_range D M ≡ false
    pub whole : broken bytes ≡ false
    pub few : too_many bytes ≡ false
    pub roomy : room ≡ true

  pub passed : (room : Bool) → checks bytes D M room ≡ 0 → Passed room
  passed room e = go (out_of_range D M) (broken bytes) (too_many bytes) room refl refl refl e
    where
      go : (a b c d : Bool) → out_of_range D M ≡ a → broken bytes ≡ b → too_many bytes ≡ c → first a b c d ≡ 0 → Passed d
      go true b c d p q r h = absurd (omega arith)
      go false true c d p q r h = absurd (omega arith)
      go false false true d p q r h = absurd (omega arith)
      go false false false false p q r h = absurd (omega arith)
      go false false false true p q r h = record { in_range = p; whole = q; few = r; roomy = refl }

  -- the room comes last: without it there is 4 where the others pass, and otherwise what there is with it
  pub room-last : ((checks bytes D M true ≡ 0) × (checks bytes D M false ≡ 4)) ⊎ ((checks bytes D M true < 4) × ((checks bytes D M true ≡ 0 → ⊥) × ((room : Bool) → checks bytes D M room ≡ checks bytes D M true)))
  room-last = go (out_of_range D M) (broken bytes) (too_many bytes)
    where
      go : (a b c : Bool) → ((first a b c true ≡ 0) × (first a b c false ≡ 4)) ⊎ ((first a b c true < 4) × ((first a b c true ≡ 0 → ⊥) × ((room : Bool) → first a b c room ≡ first a b c true)))
      go true b c = inr (omega arith, ((λ e. omega arith), λ room. refl))
      go false true c = inr (omega arith, ((λ e. omega arith), λ room. refl))
      go false false true = inr (omega arith, ((λ e. omega arith), λ room. refl))
      go false false false = inl (refl, refl)

-- texts with as many lines ask for the same room
pub same-room : (e : Engine) (s u : List ℕ) (D M : ℕ) (lent : Lent) → line_count u ≡ line_count s → enough e u D M lent ≡ enough e s D M lent
same-room tables s u D M lent h = refl
same-room marks s u D M lent h = rw h

-- LAW: where the checks pass the lines decide, and where one fails its number is the verdict, with line 0
pub by-checks : (g : Family) (s : List ℕ) (D M : ℕ) (room : Bool)
    → ((checks (length s) D M room ≡ 0) × (verdict_of g s D M room ≡ scan D M [] (reads_of g s)))
    ⊎ ((checks (length s) D M room ≡ 0 → ⊥) × (verdict_of g s D M room ≡ refused (checks (length s) D M room) 0))
by-checks g s D M room = go (eqb (checks (length s) D M room) 0) refl
  where
    go : (b : Bool) → eqb (checks (length s) D M room) 0 ≡ b
        → ((checks (length s) D M room ≡ 0) × (verdict_of g s D M room ≡ scan D M [] (reads_of g s)))
        ⊎ ((checks (length s) D M room ≡ 0 → ⊥) × (verdict_of g s D M room ≡ refused (checks (length s) D M room) 0))
    go true e = inl (eqb-true (checks (length s) D M room) 0 e, ap (λ (x : Bool). cond x (scan D M [] (reads_of g s)) (refused (checks (length s) D M room) 0)) e)
    go false e = inr (eqb-false (checks (length s) D M room) 0 e, ap (λ (x : Bool). cond x (scan D M [] (reads_of g s)) (refused (checks (length s) D M room) 0)) e)
