-- The laws of folded stacks: what a written text says, for any trace, limits, names and room, and that a promise
-- leaves one outcome. Assumes nothing.
use Prim.Native.Nat.{ℕ, ◌+◌, ◌≤◌}
use mathlib.Core.Bool.{Bool, true, false, cond}
use mathlib.Core.List.{List, [], ◌∷◌}
use mathlib.Core.Path.{◌≡◌, refl, ap, ◌∙◌, sym}
use native.Mathlib.Omega.{arith}
use borrow.Author.Tests.{ltb-false}
use lib.Dec.{leb, ltb}
use lib.ListN.{length}
use Rattle.line.specs.declared.Frame.{Frame}
use Rattle.trace.specs.Shape.{sites}
use Rattle.trace.specs.Rows.{total}
use Rattle.trace.specs.Refusals.{accepted, refused, verdict}
use Rattle.trace.specs.Refusals.{Verdict as Judgement}
use Rattle.trace.proofs.Basics.{clash}
use Rattle.trace.proofs.Scan.{accepted-fine}
use Rattle.report.specs.Room.{Decision, write, refuse, Wrote}
use Rattle.names.specs.Names.{shown, is_name, name_chars, first_bad}
use Rattle.names.proofs.Names.{good_before}
use Rattle.folded.specs.Text.{folded}
use Rattle.folded.specs.Reading.{stacks_in, stacks_of, cost_sum, cost_lines}
use Rattle.folded.specs.Folding.{decide, folding, Folds}
use Rattle.folded.proofs.Tied.{clean_in_table}
use Rattle.folded.proofs.Printed.{folded-reads, stacks_sum, stacks_count}
use Rattle.folded.proofs.Whole.{fine-flows}

name-chars : (s : List ℕ) → is_name s ≡ true → name_chars s ≡ true
name-chars [] h = refl
name-chars (c ∷ s) h = h

-- what a written text says
pub record Says (s : List ℕ) (D M : ℕ) (project stock : List ℕ) (scratch : ℕ) (text : List ℕ) : Type 0 where
  pub t : List Frame
  pub is_accepted : verdict s D M (leb D scratch) ≡ accepted t
  pub is_folded : text ≡ folded (shown project stock) t
  -- whoever reads it finds the names from root to innermost invocation and the cost of each cost line, in order
  pub reads : stacks_in text ≡ stacks_of (shown project stock) t
  -- "the printed costs add up to the total work"
  pub costs : cost_sum (stacks_in text) ≡ total t
  -- and a line for each cost line
  pub lines : length (stacks_in text) ≡ cost_lines t

-- LAW: a text that is written is that of an accepted trace, and reads back as its stacks
pub written-says : (s : List ℕ) (D M : ℕ) (project stock : List ℕ) (scratch room : ℕ) (text : List ℕ) → folding s D M project stock scratch room ≡ write text
    → Says s D M project stock scratch text
written-says s D M p q scratch room text e = go (verdict s D M (leb D scratch)) refl e
  where
    same : (a b : List ℕ) → write a ≡ write b → a ≡ b
    same a b h = cc

    then : (t : List Frame) → verdict s D M (leb D scratch) ≡ accepted t → (b c : Bool) → ltb (first_bad p q (sites t + 1)) (sites t + 1) ≡ b
        → cond b (refuse 17 (first_bad p q (sites t + 1))) (cond c (refuse 18 0) (write (folded (shown p q) t))) ≡ write text → Says s D M p q scratch text
    then t v true c h x = clash (cc)
    then t v false true h x = clash (cc)
    then t v false false h x =
        let fine = accepted-fine s D M (leb D scratch) t v in
        let name = shown p q in
        let is : text ≡ folded name t = sym (same (folded name t) text x) in
        let none = ltb-false (first_bad p q (sites t + 1)) (sites t + 1) h in
        let good : (r : ℕ) → r ≤ sites t → name_chars (name r) ≡ true = λ r l. name-chars (name r) (good_before p q (sites t + 1) r (omega arith)) in
        let reads = ap stacks_in is ∙ folded-reads name (sites t) good D t (fine-flows D M t fine) (clean_in_table D M [] t fine.clean) in
        record { t = t; is_accepted = v; is_folded = is; reads = reads; costs = ap cost_sum reads ∙ stacks_sum name t; lines = ap length reads ∙ stacks_count name t }

    go : (v : Judgement) → verdict s D M (leb D scratch) ≡ v → decide p q room v ≡ write text → Says s D M p q scratch text
    go (refused n k) v x = clash (cc)
    go (accepted t) v x = then t v (ltb (first_bad p q (sites t + 1)) (sites t + 1)) (ltb room (length (folded (shown p q) t))) refl x

-- LAW: one answer, one output and one scratch for each decision
pub one-outcome : {d : Decision} {r r' : Wrote} {out a b scratch x y : List ℕ} → Folds d r out a scratch x → Folds d r' out b scratch y → (r ≡ r') × (a ≡ b) × (x ≡ y)
one-outcome f g = (f.writes.answered ∙ sym g.writes.answered, f.writes.left ∙ sym g.writes.left, f.scratch_is ∙ sym g.scratch_is)
