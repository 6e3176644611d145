-- A refusal's line is one of the lines, or their number: at most 65,536.
use Prim.Native.Nat.{ℕ, zero, suc, ◌+◌, ◌≤◌}
use mathlib.Core.Logic.{inl, inr}
use mathlib.Core.Bool.{Bool, true, false, cond}
use mathlib.Core.List.{List, [], ◌∷◌, ◌++◌}
use mathlib.Core.Path.{◌≡◌, refl, sym, ◌∙◌}
use native.Mathlib.Omega.{arith}
use borrow.Author.Tests.{ltb-false}
use lib.Dec.{eqb}
use lib.ListN.{length, length-append}
use Rattle.std.specs.Prelude.{Ok, Err}
use Rattle.line.specs.Family.{Family, Base}
use Rattle.line.specs.declared.Frame.{Frame}
use Rattle.line.specs.Read.{read_at_of, line_at, Read}
use Rattle.line.proofs.Cases.{CaseOf, long, wrongs, unlisted, listed, line-case-of, frames-of}
use Rattle.line.specs.Refusal.{refusal}
use Rattle.line.proofs.Same.{same-refusal}
use Rattle.trace.specs.Refusals.{accepted, refused, verdict_of, verdict, line_count, after_root, fault, judged, scan, reads_from_of}
use Rattle.trace.proofs.Basics.{clash}
use Rattle.trace.proofs.Checks.{passed, by-checks}

module _ (g : Family) (D M : ℕ) (s : List ℕ) where
  read_line_lem : (n number line : ℕ) → read_at_of g s n ≡ Err (refusal number line) → line ≤ n
  read_line_lem n number line e = go (line-case-of g (line_at s n) n)
    where
      go : CaseOf g (line_at s n) n (read_at_of g s n) → line ≤ n
      go (long h r) = let z = (same-refusal (sym e ∙ r)).1 in omega arith
      go (wrongs h w r) = let z = (same-refusal (sym e ∙ r)).1 in omega arith
      go (unlisted h w t r) = let z = (same-refusal (sym e ∙ r)).1 in omega arith
      go (listed h w f t r) = clash (cc)

  -- a line that reads as f: what comes of the lines behind it, or its own fault
  scan-pick : (count n k number line : ℕ) (before : List Frame) (f : Frame) (b : Bool) → k ≡ n
      → (scan D M (before ++ f ∷ []) (reads_from_of g s (suc n) count) ≡ refused number line → line ≤ suc n + count)
      → cond b (scan D M (before ++ f ∷ []) (reads_from_of g s (suc n) count)) (refused (fault D M before f) k) ≡ refused number line → line ≤ n + suc count
  scan-pick count n k number line before f true h on i = omega (arith, on i)
  scan-pick count n k number line before f false h on i = let z : line ≡ k = cc in omega arith

  scan-line : (count n : ℕ) (before : List Frame) (number line : ℕ) → length before ≡ n → scan D M before (reads_from_of g s n count) ≡ refused number line → line ≤ n + count
  scan-line zero n before number line l e = go (after_root before) e
    where
      go : (b : Bool) → cond b (accepted before) (refused 14 (length before)) ≡ refused number line → line ≤ n + 0
      go true h = clash (cc)
      go false h = let z : line ≡ length before = cc in omega arith
  scan-line (suc count) n before number line l e =
      go (λ f. scan-line count (suc n) (before ++ f ∷ []) number line (length-append before (f ∷ []) ∙ omega arith)) (read_at_of g s n) refl e
    where
      go : ((f : Frame) → scan D M (before ++ f ∷ []) (reads_from_of g s (suc n) count) ≡ refused number line → line ≤ suc n + count)
          → (r : Read) → read_at_of g s n ≡ r → judged D M before r (λ f. scan D M (before ++ f ∷ []) (reads_from_of g s (suc n) count)) ≡ refused number line → line ≤ n + suc count
      go on (Err w) h j = let z : line ≡ w.line = cc in omega (arith, read_line_lem n w.number w.line h)
      go on (Ok x) h j =
          let f = x.frame in
          scan-pick count n x.number number line before f (eqb (fault D M before f) 0) (frames-of g (line_at s n) n x.number f h).0 (on f) j

-- LAW
pub refused-line-of : (g : Family) (s : List ℕ) (D M : ℕ) (room : Bool) (number line : ℕ) → verdict_of g s D M room ≡ refused number line → line ≤ 65536
refused-line-of g s D M room number line e = elim (by-checks g s D M room) [
  | inl h ↦ omega (arith, scan-line g D M s (line_count s) 0 [] number line refl (sym h.1 ∙ e), ltb-false 65536 (line_count s) (passed (length s) D M room h.0).few)
  | inr h ↦ (let z = sym h.1 ∙ e in let k : line ≡ 0 = cc in omega arith)
]

-- the same of document 01's traces
pub refused-line : (s : List ℕ) (D M : ℕ) (room : Bool) (number line : ℕ) → verdict s D M room ≡ refused number line → line ≤ 65536
refused-line = refused-line-of Base
