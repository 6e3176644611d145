-- A line stands directly after a cost line exactly where the kind of the line before it says so.
use mathlib.Core.Path.{◌≡◌, refl, sym, ◌∙◌, ap}
use mathlib.Core.Bool.{Bool, false, not}
use mathlib.Core.List.{List, [], ◌∷◌, ◌++◌}
use Prim.Native.Nat.{ℕ, ◌-◌, ◌%◌}
use native.Mathlib.Omega.{arith}
use lib.ListN.{length, length-append}
use lib.Dec.{eqb}
use borrow.Author.Tests.{ne_eqb}
use Rattle.std.specs.Prelude.{None}
use Rattle.line.specs.Family.{Family}
use Rattle.line.specs.declared.Frame.{Frame}
use Rattle.line.specs.declared.Frame.TheVariants.{Site, Call, Spawn, Sync, Return, Cost, Instructions, Async, Finish}
use Rattle.line.specs.Table.{fields_of}
use Rattle.line.specs.Read.{read_at_of, says}
use Rattle.line.specs.At.{kind_at}
use Rattle.line.specs.Seeing.{seen_of}
use Rattle.line.proofs.Items.{item_of}
use Rattle.trace.specs.Shape.{if_instructions}
use Rattle.trace.specs.Refusals.{is_cost, after_cost, stray}
use Rattle.trace.proofs.Basics.{clash}
use Rattle.trace.proofs.Owned.{after_snoc}
use Rattle.admit.specs.Step.{behind_cost, stray_at}

-- the kind of a cost line ends in 6, and no other does
cost-kind : (f : Frame) → eqb ((fields_of f).kind % 16) 6 ≡ is_cost f
cost-kind (Site s p) = refl
cost-kind (Call s) = refl
cost-kind (Spawn s) = refl
cost-kind Sync = refl
cost-kind Return = refl
cost-kind (Cost v) = refl
cost-kind (Instructions v) = refl
cost-kind (Async s) = refl
cost-kind Finish = refl

-- one line more
pub cost_snoc : (g : Family) (s : List ℕ) (before : List Frame) (k : ℕ) (f : Frame) → read_at_of g s (length before) ≡ says k f → behind_cost s (length (before ++ f ∷ [])) ≡ after_cost false (before ++ f ∷ [])
cost_snoc g s before k f e =
    let l = length-append before (f ∷ []) in
    let z : length (before ++ f ∷ []) - 1 ≡ length before = omega (arith, l) in
    let second : kind_at s (length before) ≡ (fields_of f).kind % 16 = omega (arith, (item_of g s (length before) k f e).0) in
    rw (ne_eqb (length (before ++ f ∷ [])) 0 (λ q. omega (arith, l)), z, second) (cost-kind f ∙ sym (after_snoc false before f))

-- 22 by the kind of the line before
pub stray-is : (s : List ℕ) (before : List Frame) (f : Frame) → behind_cost s (length before) ≡ after_cost false before → stray_at s (length before) f ≡ stray before f
stray-is s before f e = ap (λ (b : Bool). if_instructions (λ v. not b) false f) e

-- a line that a glance does not see is no 07 line
pub unseen-stray : (s : List ℕ) (n : ℕ) (f : Frame) → seen_of f ≡ None → stray_at s n f ≡ false
unseen-stray s n (Site i p) e = refl
unseen-stray s n (Call i) e = refl
unseen-stray s n (Spawn i) e = refl
unseen-stray s n Sync e = refl
unseen-stray s n Return e = refl
unseen-stray s n (Cost v) e = refl
unseen-stray s n (Instructions v) e = clash (cc)
unseen-stray s n (Async i) e = refl
unseen-stray s n Finish e = refl
