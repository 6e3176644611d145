-- One line of a text by cases: its 23 characters where it is whole, else none, and then it reads as refusal 2.
-- Assumes nothing.
use Prim.Native.Nat.{ℕ, zero, suc, ◌+◌, ◌*◌, ◌/◌, ◌≤◌, ◌<◌}
use mathlib.Core.Bool.{Bool, true, false, cond}
use mathlib.Core.List.{List, []}
use mathlib.Core.Path.{◌≡◌, refl, ap, ◌∙◌, sym}
use native.Mathlib.Omega.{arith}
use borrow.Author.Tests.{eq-eqb, ne_eqb, eqb-false}
use lib.Dec.{eqb}
use lib.ListN.{length, take, drop}
use lib.Seq.{drop-drop}
use Rattle.std.proofs.Common.{Option, Some, None, MatchOption, slice_index_or, Bor}
use Rattle.std.specs.Simd.{first_chunks}
use Rattle.std.specs.Slice.{IsItemAt}
use Rattle.line.specs.Family.{Family}
use Rattle.line.specs.Read.{line_at, read_line_of, read_at_of}
use Rattle.line.specs.At.{whole_at}
use Rattle.line.proofs.Lines.{read_long, whole, not_whole}

module _ (s : List ℕ) (n : ℕ) where
  at_of : (b : Bool) → eqb (length (line_at s n)) 23 ≡ b → whole_at s n ≡ cond b (line_at s n) []
  at_of b e = ap (λ (x : Bool). cond x (line_at s n) []) e

  pub at_none : length s / 23 ≤ n → whole_at s n ≡ []
  at_none h = at_of false (ne_eqb (length (line_at s n)) 23 (not_whole s n h))

  pub at_long : length (line_at s n) ≡ 23 → whole_at s n ≡ line_at s n
  at_long h = at_of true (eq-eqb (length (line_at s n)) 23 h)

  pub at_some : n < length s / 23 → whole_at s n ≡ line_at s n
  at_some h = at_long (whole s n h)

  -- whether it is whole or not, it reads as what stands there of it
  pub at_read : (g : Family) → read_line_of g (whole_at s n) n ≡ read_at_of g s n
  at_read g = go (eqb (length (line_at s n)) 23) refl
    where
      go : (b : Bool) → eqb (length (line_at s n)) 23 ≡ b → read_line_of g (whole_at s n) n ≡ read_at_of g s n
      go true e = ap (λ (x : List ℕ). read_line_of g x n) (at_of true e)
      go false e = ap (λ (x : List ℕ). read_line_of g x n) (at_of false e) ∙ sym (read_long g (line_at s n) n (eqb-false (length (line_at s n)) 23 e))

-- one of the first k lines, taken as chunks
chunk_at : (k n : ℕ) (s d : List ℕ) → n < k → slice_index_or (first_chunks 23 k s) n d ≡ line_at s n
chunk_at zero n s d h = absurd (omega arith)
chunk_at (suc k) zero s d h = refl
chunk_at (suc k) (suc n) s d h =
    let e : 23 + 23 * n ≡ 23 * suc n = omega arith in
    chunk_at k n (drop 23 s) d (omega arith) ∙ ap (take 23) (drop-drop (23 * n) 23 s ∙ ap (λ (i : ℕ). drop i s) e)

-- what is lent of a text's chunks at n is line n, where that is whole
pub chunk_is : (s : List ℕ) (n : ℕ) (xs : List (List ℕ)) → xs ≡ first_chunks 23 (length s / 23) s → length xs ≡ length s / 23 → (r : Option (Bor (List ℕ))) → IsItemAt xs n r
    → MatchOption r (whole_at s n ≡ []) (λ (x : Bor (List ℕ)). x.now ≡ whole_at s n)
chunk_is s n xs e l None (some, same, there, past, item) = at_none s n (omega arith)
chunk_is s n xs e l (Some x) (some, same, there, (h, here), item) =
    let k : n < length s / 23 = omega arith in
    item (omega arith) [] ∙ ap (λ (y : List (List ℕ)). slice_index_or y n []) e ∙ chunk_at (length s / 23) n s [] k ∙ sym (at_some s n k)
