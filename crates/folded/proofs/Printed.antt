-- A folded text reads back as the stacks and costs of its trace, where the names are good. Assumes nothing.
use Prim.Native.Nat.{ℕ, suc, ◌+◌, ◌*◌, ◌-◌, ◌^◌, ◌≤◌, ◌<◌}
use mathlib.Core.Bool.{Bool, true, false, not, cond, ◌&&◌}
use mathlib.Core.List.{List, [], ◌∷◌, ◌++◌, append_assoc, append-nil, map}
use mathlib.Core.Path.{◌≡◌, refl, ap, ◌∙◌, sym}
use native.Mathlib.Omega.{arith}
use borrow.Author.Tests.{leb-true, ne_eqb}
use lib.Dec.{eqb, leb}
use lib.ListN.{length}
use Rattle.digits.specs.Decimal.{is_figure, all_figures, behind, decimal}
use Rattle.digits.proofs.Figures.{figure_bounds, proper-figures, decimal-proper, decimal-number}
use Rattle.line.specs.declared.Frame.{Frame}
use Rattle.line.specs.declared.Frame.TheVariants.{Site, Call, Spawn, Sync, Return, Cost, Instructions, Async, Finish}
use Rattle.trace.specs.Shape.{root, step}
use Rattle.trace.specs.Rows.{cycles, sum_of, total}
use Rattle.trace.proofs.Basics.{both}
use Rattle.names.specs.Names.{name_char, name_chars}
use Rattle.folded.specs.Text.{root_first, further, joined, cost_text, folded}
use Rattle.folded.specs.Reading.{Stack, in_name, in_cost, stacks_in, stacks_from, stacks_of, cost_sum, cost_lines}
use Rattle.weigh.specs.Weighed.{row_step}
use Rattle.folded.specs.Rows.{stack, prints, says, AtMost, Flows}
use Rattle.folded.proofs.Stacks.{root-length}
use Rattle.folded.proofs.Tied.{AllInTable, folded-prints, stacks_say}

-- a character of a name is read on
name-on : (names : List (List ℕ)) (so : List ℕ) (c : ℕ) (s : List ℕ) → name_char c ≡ true → in_name names so (c ∷ s) ≡ in_name names (so ++ c ∷ []) s
name-on names so c s h =
    let a = both (leb 33 c && leb c 126) (not (eqb c 59)) h in
    let l = leb-true 33 c (both (leb 33 c) (leb c 126) a.0).0 in
    ap (λ (b : Bool). cond b (in_name (names ++ so ∷ []) [] s) (cond (eqb c 32) (in_cost (names ++ so ∷ []) 0 s) (in_name names (so ++ c ∷ []) s))) (is_false (eqb c 59) a.1)
    ∙ ap (λ (b : Bool). cond b (in_cost (names ++ so ∷ []) 0 s) (in_name names (so ++ c ∷ []) s)) (ne_eqb c 32 (λ e. omega arith))
  where
    is_false : (b : Bool) → not b ≡ true → b ≡ false
    is_false true h = sym h
    is_false false h = refl

name_read : (names : List (List ℕ)) (so x s : List ℕ) → name_chars x ≡ true → in_name names so (x ++ s) ≡ in_name names (so ++ x) s
name_read names so [] s h = ap (λ (l : List ℕ). in_name names l s) (sym (append-nil so))
name_read names so (c ∷ x) s h =
    let b = both (name_char c) (name_chars x) h in
    name-on names so c (x ++ s) b.0 ∙ name_read names (so ++ c ∷ []) x s b.1 ∙ ap (λ (l : List ℕ). in_name names l s) (append_assoc so (c ∷ []) x)

-- figures are read on
cost-on : (names : List (List ℕ)) (n : ℕ) (x s : List ℕ) → all_figures x ≡ true → in_cost names n (x ++ s) ≡ in_cost names (behind n x) s
cost-on names n [] s h = refl
cost-on names n (c ∷ x) s h =
    let b = both (is_figure c) (all_figures x) h in
    let l = figure_bounds c b.0 in
    ap (λ (y : Bool). cond y (record { names = names; cost = n } ∷ in_name [] [] (x ++ s)) (in_cost names (10 * n + (c - 48)) (x ++ s))) (ne_eqb c 10 (λ e. omega (arith, l.0)))
    ∙ cost-on names (10 * n + (c - 48)) x s b.1

cost_read : (names : List (List ℕ)) (v : ℕ) (s : List ℕ) → v < 2 ^ 64 → in_cost names 0 ((decimal v ++ 10 ∷ []) ++ s) ≡ record { names = names; cost = v } ∷ in_name [] [] s
cost_read names v s h =
    ap (in_cost names 0) (append_assoc (decimal v) (10 ∷ []) s)
    ∙ cost-on names 0 (decimal v) (10 ∷ s) (proper-figures (decimal v) (decimal-proper v h))
    ∙ ap (λ (n : ℕ). in_cost names n (10 ∷ s)) (decimal-number v h)

module _ (name : ℕ → List ℕ) (m : ℕ) (good : (r : ℕ) → r ≤ m → name_chars (name r) ≡ true) where
  most-append : (a b : List ℕ) → AtMost m a → AtMost m b → AtMost m (a ++ b)
  most-append [] b h k = k
  most-append (x ∷ a) b h k = (h.0, most-append a b h.1 k)

  most-root : (o : List ℕ) → AtMost m o → AtMost m (root_first o)
  most-root [] h = h
  most-root (x ∷ o) h = most-append (root_first o) (x ∷ []) (most-root o h.1) (h.0, tt)

  further_read : (names : List (List ℕ)) (so rs s : List ℕ) → AtMost m rs → in_name names so (further name rs ++ 32 ∷ s) ≡ in_cost (names ++ so ∷ map name rs) 0 s
  further_read names so [] s h = refl
  further_read names so (r ∷ rs) s h =
      ap (in_name (names ++ so ∷ []) []) (append_assoc (name r) (further name rs) (32 ∷ s))
      ∙ name_read (names ++ so ∷ []) [] (name r) (further name rs ++ 32 ∷ s) (good r h.0)
      ∙ further_read (names ++ so ∷ []) (name r) rs s h.1
      ∙ ap (λ (l : List (List ℕ)). in_cost l 0 s) (append_assoc names (so ∷ []) (name r ∷ map name rs))

  joined_read : (rs s : List ℕ) → 1 ≤ length rs → AtMost m rs → in_name [] [] (joined name rs ++ 32 ∷ s) ≡ in_cost (map name rs) 0 s
  joined_read [] s h k = absurd (omega arith)
  joined_read (r ∷ rs) s h k =
      ap (in_name [] []) (append_assoc (name r) (further name rs) (32 ∷ s))
      ∙ name_read [] [] (name r) (further name rs ++ 32 ∷ s) (good r k.0)
      ∙ further_read [] (name r) rs s k.1

  root-some : (o : List ℕ) → 1 ≤ length o → 1 ≤ length (root_first o)
  root-some o h = omega (arith, root-length o)

  -- what a cost line prints reads as its stack and its cost
  line_read : (o : List ℕ) (v : ℕ) (s : List ℕ) → 1 ≤ length o → AtMost m o → v < 2 ^ 64 → stacks_in ((stack name o ++ cost_text v) ++ s) ≡ record { names = map name (root_first o); cost = v } ∷ stacks_in s
  line_read o v s h k l =
      ap stacks_in (append_assoc (stack name o) (cost_text v) s)
      ∙ joined_read (root_first o) ((decimal v ++ 10 ∷ []) ++ s) (root-some o h) (most-root o k)
      ∙ cost_read (map name (root_first o)) v s l

  prints_read : (D : ℕ) (o : List ℕ) (u : List Frame) → Flows m D o u → AllInTable u → stacks_in (prints name o u) ≡ says name o u
  prints_read D o [] h l = refl
  prints_read D o (Site s p ∷ u) h l = prints_read D o u h.2 l.1
  prints_read D o (Call s ∷ u) h l = prints_read D (s ∷ o) u h.2 l.1
  prints_read D o (Spawn s ∷ u) h l = prints_read D (s ∷ o) u h.2 l.1
  prints_read D o (Sync ∷ u) h l = prints_read D o u h.2 l.1
  prints_read D o (Return ∷ u) h l = prints_read D (row_step Return o) u h.2 l.1
  prints_read D o (Cost v ∷ u) h l =
      line_read o v (prints name o u) h.0 h.1.rows (omega (arith, l.0.1))
      ∙ ap (λ (x : List Stack). record { names = map name (root_first o); cost = v } ∷ x) (prints_read D o u h.2 l.1)
  prints_read D o (Instructions v ∷ u) h l = prints_read D o u h.2 l.1
  prints_read D o (Async s ∷ u) h l = absurd l.0
  prints_read D o (Finish ∷ u) h l = absurd l.0

  -- LAW: the text reads back as the stacks and costs of the trace's cost lines, in their order
  pub folded-reads : (D : ℕ) (t : List Frame) → Flows m D (0 ∷ []) t → AllInTable t → stacks_in (folded name t) ≡ stacks_of name t
  folded-reads D t h l = ap stacks_in (folded-prints name t l) ∙ prints_read D (0 ∷ []) t h l ∙ sym (stacks_say name t l)

-- The costs of these add up to the total work, and there is one for each cost line.

module _ (name : ℕ → List ℕ) where
  sum-from : (t : List Frame) (j : ℕ) (u : List Frame) (n : ℕ) (i : List ℕ) → cost_sum (stacks_from name t j u) ≡ sum_of cycles (λ k z. true) n i u
  sum-from t j [] n i = refl
  sum-from t j (Site s p ∷ u) n i = omega (arith, sum-from t (suc j) u (suc n) (step n (Site s p) i))
  sum-from t j (Call s ∷ u) n i = omega (arith, sum-from t (suc j) u (suc n) (step n (Call s) i))
  sum-from t j (Spawn s ∷ u) n i = omega (arith, sum-from t (suc j) u (suc n) (step n (Spawn s) i))
  sum-from t j (Sync ∷ u) n i = omega (arith, sum-from t (suc j) u (suc n) (step n Sync i))
  sum-from t j (Return ∷ u) n i = omega (arith, sum-from t (suc j) u (suc n) (step n Return i))
  sum-from t j (Cost v ∷ u) n i = ap (λ (k : ℕ). v + k) (sum-from t (suc j) u (suc n) (step n (Cost v) i))
  sum-from t j (Instructions v ∷ u) n i = omega (arith, sum-from t (suc j) u (suc n) (step n (Instructions v) i))
  sum-from t j (Async s ∷ u) n i = omega (arith, sum-from t (suc j) u (suc n) (step n (Async s) i))
  sum-from t j (Finish ∷ u) n i = omega (arith, sum-from t (suc j) u (suc n) (step n Finish i))

  count-from : (t : List Frame) (j : ℕ) (u : List Frame) → length (stacks_from name t j u) ≡ cost_lines u
  count-from t j [] = refl
  count-from t j (Site s p ∷ u) = count-from t (suc j) u
  count-from t j (Call s ∷ u) = count-from t (suc j) u
  count-from t j (Spawn s ∷ u) = count-from t (suc j) u
  count-from t j (Sync ∷ u) = count-from t (suc j) u
  count-from t j (Return ∷ u) = count-from t (suc j) u
  count-from t j (Cost v ∷ u) = ap suc (count-from t (suc j) u)
  count-from t j (Instructions v ∷ u) = count-from t (suc j) u
  count-from t j (Async s ∷ u) = count-from t (suc j) u
  count-from t j (Finish ∷ u) = count-from t (suc j) u

  pub stacks_sum : (t : List Frame) → cost_sum (stacks_of name t) ≡ total t
  stacks_sum t = sum-from t 0 t 0 (root ∷ [])

  pub stacks_count : (t : List Frame) → length (stacks_of name t) ≡ cost_lines t
  stacks_count t = count-from t 0 t
