-- Columns 5 and 7 of a chain are the sum, along the chain, of what stands directly in the row's invocations, in cycles
-- and in instructions.
use mathlib.Core.Path.{◌≡◌, refl, sym, ◌∙◌, ap}
use mathlib.Core.Logic.{inl, inr}
use mathlib.Core.Bool.{Bool, true, false, cond, ◌&&◌, and-true, and-false, or-false}
use mathlib.Core.List.{List, [], ◌∷◌}
use Prim.Native.Nat.{ℕ, zero, suc, ◌+◌, ◌<◌}
use native.Mathlib.Omega.{arith}
use lib.ListN.{length}
use lib.Dec.{eqb}
use borrow.Author.Tests.{eq-eqb, ne_eqb}
use Rattle.line.specs.declared.Frame.{Frame}
use Rattle.chain.specs.Over.{Each, EachTwo}
use Rattle.trace.specs.Shape.{root, step, walk, open_at, has}
use Rattle.trace.specs.Async.{finish, owner_is}
use Rattle.trace.specs.Rows.{of_row, Measure, sum_of, costs_where, direct_on, sum}
use Rattle.trace.proofs.Sums.{same_or_not, sum-made, sum-zero, sum-add}
use Rattle.agree.specs.Shown.{lines_where, owner_in, at_line, costs_in_row}
use Rattle.agree.proofs.Picked.{Among, where_has}

eqb_sym : (a b : ℕ) → eqb a b ≡ eqb b a
eqb_sym a b = elim (same_or_not a b) [ inl e ↦ eq-eqb a b e ∙ sym (eq-eqb b a (sym e)) | inr n ↦ ne_eqb a b n ∙ sym (ne_eqb b a (λ q. n (sym q))) ]

-- an invocation stands in a row once at most
row_once : (t : List Frame) (s v : ℕ) (b : Bool) (x : ℕ) → sum (λ F. cond (eqb F x && b) v 0) (of_row t s) ≡ cond (has x (of_row t s) && b) v 0
row_once t zero v b x = omega (arith, ap (λ (z : Bool). cond (z && b) v 0) (eqb_sym root x ∙ sym (or-false (eqb x root))))
row_once t (suc s) v b x = sum-made 0 t (suc s) x v b

-- so a line counts for one invocation of a row at most
once : (t : List Frame) (s v : ℕ) (b : Bool) (o : List ℕ) → sum (λ F. cond (owner_is t F o && b) v 0) (of_row t s) ≡ cond (owner_in t (of_row t s) o && b) v 0
once t s v b [] = sum-zero (of_row t s)
once t s v b (x ∷ o) = go (finish t x) (once t s v b o)
  where
    go : (y : Bool) → sum (λ F. cond (owner_is t F o && b) v 0) (of_row t s) ≡ cond (owner_in t (of_row t s) o && b) v 0
        → sum (λ F. cond (cond y (owner_is t F o) (eqb F x) && b) v 0) (of_row t s) ≡ cond (cond y (owner_in t (of_row t s) o) (has x (of_row t s)) && b) v 0
    go true h = h
    go false h = row_once t s v b x

module _ (m : Measure) where
  -- so the sum over a row's invocations of what each has of the lines is one sum over the lines
  one-sum : (t : List Frame) (s : ℕ) (q : ℕ → Bool) (n : ℕ) (o : List ℕ) (u : List Frame)
      → sum (λ F. sum_of m (λ k e. owner_is t F e && q k) n o u) (of_row t s) ≡ sum_of m (λ k e. owner_in t (of_row t s) e && q k) n o u
  one-sum t s q n o [] = sum-zero (of_row t s)
  one-sum t s q n o (e ∷ u) =
      sum-add (λ F. cond (owner_is t F o && q n) (m e u) 0) (λ F. sum_of m (λ k e. owner_is t F e && q k) (suc n) (step n e o) u) (of_row t s)
      ∙ rw (once t s (m e u) (q n) o, one-sum t s q (suc n) (step n e o) u)

  -- which is one over the lines that q picks
  by_lines : (q : ℕ → Bool) (p : List ℕ → Bool) (g : ℕ → ℕ) (n : ℕ) (o : List ℕ) (u : List Frame) → ((j : ℕ) → j < length u → g (n + j) ≡ cond (p (walk n o u j)) (at_line m u j) 0)
      → sum_of m (λ k e. p e && q k) n o u ≡ sum g (lines_where q n (length u))
  by_lines q p g n o [] h = refl
  by_lines q p g n o (e ∷ u) h =
      go (q n) (let z : n + 0 ≡ n = omega arith in ap g (sym z) ∙ h 0 (omega arith))
      (by_lines q p g (suc n) (step n e o) u (λ j l. (let z : suc n + j ≡ n + suc j = omega arith in ap g z ∙ h (suc j) (omega arith))))
    where
      go : (b : Bool) → g n ≡ cond (p o) (m e u) 0 → sum_of m (λ k e. p e && q k) (suc n) (step n e o) u ≡ sum g (lines_where q (suc n) (length u))
          → cond (p o && b) (m e u) 0 + sum_of m (λ k e. p e && q k) (suc n) (step n e o) u ≡ sum g (cond b (n ∷ lines_where q (suc n) (length u)) (lines_where q (suc n) (length u)))
      go true i rec = omega (arith, i, rec, ap (λ (b : Bool). cond b (m e u) 0) (and-true (p o)))
      go false i rec = omega (arith, rec, ap (λ (b : Bool). cond b (m e u) 0) (and-false (p o)))

  module _ (t : List Frame) (c : List ℕ) (up : EachTwo (λ i j. i < j) c) (h : Each (Among 0 (length t)) c) where
    -- what the lines of the chain that p picks come to, by their open invocations
    along : (p : List ℕ → Bool) → costs_where m t (λ k o. p o && has k c) ≡ sum (λ k. cond (p (open_at t k)) (at_line m t k) 0) c
    along p =
        by_lines (λ k. has k c) p (λ k. cond (p (open_at t k)) (at_line m t k) 0) 0 (root ∷ []) t (λ j l. (let z : 0 + j ≡ j = omega arith in ap (λ (k : ℕ). cond (p (open_at t k)) (at_line m t k) 0) z))
        ∙ ap (sum (λ k. cond (p (open_at t k)) (at_line m t k) 0)) (where_has 0 (length t) c up h)

    -- LAW: column 5, and column 7 of instructions, is the sum along the chain
    pub on_span_along : (s : ℕ) → sum (direct_on m t c) (of_row t s) ≡ costs_in_row m t s c
    on_span_along s = one-sum t s (λ k. has k c) 0 (root ∷ []) t ∙ along (owner_in t (of_row t s))

    -- LAW: so is what stands on the chain in all
    pub all_along : costs_where m t (λ k o. has k c) ≡ sum (at_line m t) c
    all_along = along (λ o. true)
