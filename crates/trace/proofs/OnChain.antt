-- Columns 5 and 7 by the tree are the chain's part in each row; column 4 adds up to the total work, and column 5 to the
-- total span, and columns 6 and 7 to the same of instructions.
use mathlib.Core.Path.{◌≡◌, refl, sym, ◌∙◌, ap, subst}
use mathlib.Core.Logic.{◌⊎◌, inl, inr}
use mathlib.Core.Bool.{Bool, true, false, cond, ◌&&◌, ◌||◌, and-true, and-false}
use mathlib.Core.List.Memᴰ
use mathlib.Core.List.{List, [], ◌∷◌, ◌++◌, append_assoc, Memᴰ}
use Prim.Native.Nat.{ℕ, zero, suc, ◌+◌, ◌≤◌}
use native.Mathlib.Omega.{arith}
use lib.Dec.{eqb}
use borrow.Author.Tests.{eq-eqb, ne_eqb}
use Rattle.line.specs.Family.{Family}
use Rattle.line.specs.declared.Frame.{Frame}
use Rattle.line.specs.declared.Frame.TheVariants.{Return}
use Rattle.chain.specs.Plan.{CostLine, costs, All, Pairs, Less}
use Rattle.chain.specs.Plan as P
use Rattle.chain.specs.Over.{lines_in}
use Rattle.chain.proofs.Lists.{all_map, all_both, all-at, pairs_map}
use Rattle.trace.specs.Shape.{root, step, has, sites}
use Rattle.trace.specs.Series.{SpanOf, ChosenOf}
use Rattle.trace.specs.Rows.{of_row, instructions, sum_of, costs_where, total, itotal, direct, direct_on, sum, local, on_span, ilocal, ion_span}
use Rattle.trace.specs.Tree.{opening, line_of, spend, sync, note, Body, done, leaf, child, lines_of, size, Within, PartsOf}
use Rattle.trace.specs.Fold.{its_cycles, its_instructions, plan, on_all, on_row}
use Rattle.trace.proofs.Basics.{cond_same, cond_le}
use Rattle.trace.proofs.Measures.{Measured, by_cycles, by_instructions}
use Rattle.trace.proofs.Plans.{all_two, plan_ordered}
use Rattle.trace.proofs.Recurrence.{chain-chosen, weight-chain}
use Rattle.trace.proofs.Sums.{up_to, up-add, up_same, up_one}
use Rattle.trace.proofs.Invocations.{whole, root-paid}
use Rattle.trace.proofs.Root.{root_chain, root-span-only, root-chosen-only}
use Rattle.trace.proofs.Columns.{sum_where, where_leaf, where_two, direct-costs, direct-on-costs}

-- ── the costs of a list that stand on a chain of it are the chain's ──

module _ (m : CostLine → ℕ) (w : CostLine → Bool) where
  abbrev on_it : List CostLine → CostLine → Bool
  on_it d x = w x && has x.line (lines_in d)

  -- a line before all of them is none of them
  not_among : (x : CostLine) (d : List CostLine) → All (Less x) d → has x.line (lines_in d) ≡ false
  not_among x [] h = refl
  not_among x (y ∷ d) h = ap (λ (b : Bool). b || has x.line (lines_in d)) (ne_eqb x.line y.line (λ q. omega (arith, h.0))) ∙ not_among x d h.1

  -- lines behind y are on y ∷ d where they are on d
  forget : (y : CostLine) (d l : List CostLine) → All (Less y) l → sum_where m (on_it (y ∷ d)) l ≡ sum_where m (on_it d) l
  forget y d [] h = refl
  forget y d (x ∷ l) h =
      omega (arith, ap (λ (b : Bool). cond (w x && (b || has x.line (lines_in d))) (m x) 0) (ne_eqb x.line y.line (λ q. omega (arith, h.0))), forget y d l h.1)

  none-on : (l : List CostLine) → sum_where m (on_it []) l ≡ 0
  none-on [] = refl
  none-on (x ∷ l) = omega (arith, ap (λ (b : Bool). cond b (m x) 0) (and-false (w x)), none-on l)

  -- what is in x ∷ l and behind x is in l
  in_rest : (x : CostLine) (l d : List CostLine) → All (λ y. Memᴰ y (x ∷ l)) d → All (Less x) d → All (λ y. Memᴰ y l) d
  in_rest x l d h k = all_map (λ y z. go y z.1 (Memᴰ.cases_cons z.0)) d (all_both (λ y. Memᴰ y (x ∷ l)) (Less x) d h k)
    where
      go : (y : CostLine) → Less x y → (y ≡ x) ⊎ Memᴰ y l → Memᴰ y l
      go y l' (inl e) = absurd (omega (arith, ap (λ (z : CostLine). z.line) e))
      go y l' (inr n) = n

  on_list : (l d : List CostLine) → Pairs Less l → Pairs Less d → All (λ y. Memᴰ y l) d → sum_where m (on_it d) l ≡ sum_where m w d
  on_list [] [] o q h = refl
  on_list [] (y ∷ d) o q h = absurd (Memᴰ.not-nil h.0)
  on_list (x ∷ l) [] o q h = none-on (x ∷ l)
  on_list (x ∷ l) (y ∷ d) o q h = go (Memᴰ.cases_cons h.0) (λ k. on_list l d o.1 q.1 k) (λ k. on_list l (y ∷ d) o.1 q k)
    where
      go : (y ≡ x) ⊎ Memᴰ y l → (All (λ z. Memᴰ z l) d → sum_where m (on_it d) l ≡ sum_where m w d) → (All (λ z. Memᴰ z l) (y ∷ d) → sum_where m (on_it (y ∷ d)) l ≡ sum_where m w (y ∷ d))
          → sum_where m (on_it (y ∷ d)) (x ∷ l) ≡ sum_where m w (y ∷ d)
      go (inl e) rec rec' =
          let a : has x.line (lines_in (y ∷ d)) ≡ true = ap (λ (b : Bool). b || has x.line (lines_in d)) (eq-eqb x.line y.line (ap (λ (z : CostLine). z.line) (sym e))) in
          let b : cond (on_it (y ∷ d) x) (m x) 0 ≡ cond (w y) (m y) 0 =
          ap (λ (b : Bool). cond (w x && b) (m x) 0) a ∙ ap (λ (b : Bool). cond b (m x) 0) (and-true (w x)) ∙ ap (λ (z : CostLine). cond (w z) (m z) 0) (sym e) in
          omega (arith, forget y d l (subst (λ (z : CostLine). All (Less z) l) (sym e) o.0), rec (in_rest x l d h.1 (subst (λ (z : CostLine). All (Less z) d) e q.0)))
      go (inr k') rec rec' =
          let k : All (Less x) (y ∷ d) = (all-at (Less x) l o.0 k', all_map (λ z r. omega (arith, all-at (Less x) l o.0 k')) d q.0) in
          let b : cond (on_it (y ∷ d) x) (m x) 0 ≡ 0 = ap (λ (b : Bool). cond (w x && b) (m x) 0) (not_among x (y ∷ d) k) ∙ ap (λ (b : Bool). cond b (m x) 0) (and-false (w x)) in
          omega (arith, rec' (k', in_rest x l d h.1 k.1))

-- ── columns 5 and 7 ──

row_of : (m : CostLine → ℕ) (s : ℕ) (d : List CostLine) → sum_where m (λ x. eqb x.row s) d ≡ on_row m s d
row_of m s [] = refl
row_of m s (x ∷ d) = omega (arith, row_of m s d)

-- LAW: a chain's part in a row adds up along the chain, and is at most what the chain comes to
pub row-append : (m : CostLine → ℕ) (s : ℕ) (c d : List CostLine) → on_row m s (c ++ d) ≡ on_row m s c + on_row m s d
row-append m s [] d = omega arith
row-append m s (x ∷ c) d = omega (arith, row-append m s c d)

pub on-append : (m : CostLine → ℕ) (c d : List CostLine) → on_all m (c ++ d) ≡ on_all m c + on_all m d
on-append m [] d = omega arith
on-append m (x ∷ c) d = omega (arith, on-append m c d)

pub row_le : (m : CostLine → ℕ) (s : ℕ) (c : List CostLine) → on_row m s c ≤ on_all m c
row_le m s [] = omega arith
row_le m s (x ∷ c) = omega (arith, row_le m s c, cond_le (eqb x.row s) (m x))

-- LAW: in cycles a chain comes to its weight
pub cycles-weight : (d : List CostLine) → on_all its_cycles d ≡ P.weight d
cycles-weight [] = refl
cycles-weight (x ∷ d) = omega (arith, cycles-weight d)

all_of : (m : CostLine → ℕ) (d : List CostLine) → sum_where m (λ x. true) d ≡ on_all m d
all_of m [] = refl
all_of m (x ∷ d) = omega (arith, all_of m d)

module _ (v : Measured) (q : ℕ → Bool) where
  abbrev there : ℕ → List ℕ → Bool
  there k o = q k

  -- where lines are picked by number, nothing hangs on what is open
  whatever_open : (n : ℕ) (o d : List ℕ) (u : List Frame) → sum_of v.of_line there n o u ≡ sum_of v.of_line there n d u
  whatever_open n o d [] = refl
  whatever_open n o d (e ∷ u) = omega (arith, whatever_open (suc n) (step n e o) (step n e d) u)

  -- then a body's lines come to what the costs of its plan come to
  body-lines : (b : Body) (n r : ℕ) (o : List ℕ) (u : List Frame)
      → sum_of v.of_line there n o (lines_of b ++ u) ≡ sum_where v.of_cost (λ x. q x.line) (costs (plan n r b)) + sum_of v.of_line there (n + size b) o u
  body-lines done n r o u =
      let e : suc n ≡ n + 1 = omega arith in
      omega (
        arith,
        ap (λ (x : ℕ). cond (q n) x 0) (v.return_line u),
        cond_same (q n),
        whatever_open (suc n) (step n Return o) o u,
        ap (λ (k : ℕ). sum_of v.of_line there k o u) e,
      )
  body-lines (leaf l b) n r o u =
      let d = step n (line_of l) o in
      let e : suc n + size b ≡ n + suc (size b) = omega arith in
      omega (
        arith,
        ap (λ (x : ℕ). cond (q n) x 0) (v.leaf_line l b u),
        where_leaf v (λ x. q x.line) l n r b,
        body-lines b (suc n) r d u,
        whatever_open (suc n + size b) d o u,
        ap (λ (k : ℕ). sum_of v.of_line there k o u) e,
      )
  body-lines (child w i g b) n r o u =
      let d = step n (opening w i) o in
      let e : suc n + size g + size b ≡ n + suc (size g + size b) = omega arith in
      omega (
        arith,
        ap (λ (x : ℕ). cond (q n) x 0) (v.opening_line w i ((lines_of g ++ lines_of b) ++ u)),
        cond_same (q n),
        ap (sum_of v.of_line there (suc n) d) (append_assoc (lines_of g) (lines_of b) u),
        body-lines g (suc n) i d (lines_of b ++ u),
        body-lines b (suc n + size g) r d u,
        where_two v.of_cost (λ x. q x.line) w n r i g b,
        whatever_open (suc n + size g + size b) d o u,
        ap (λ (k : ℕ). sum_of v.of_line there k o u) e,
      )

  -- LAW: what the lines of a trace come to, picked by number, is what the costs of its plan come to
  pub at-lines : {f : Family} (D : ℕ) (t : List Frame) (p : PartsOf f D t) → costs_where v.of_line t there ≡ sum_where v.of_cost (λ x. q x.line) (costs (plan 0 0 p.body))
  at-lines D t p = omega (arith, ap (sum_of v.of_line there 0 (root ∷ [])) (whole D t p), body-lines p.body 0 0 (root ∷ []) [])

module _ {f : Family} (D : ℕ) (t : List Frame) (p : PartsOf f D t) where
  abbrev all : List CostLine
  all = costs (plan 0 0 p.body)

  on-root : (m : CostLine → ℕ) (w : CostLine → Bool) → sum_where m (λ x. w x && has x.line (lines_in (root_chain D t p))) all ≡ sum_where m w (root_chain D t p)
  on-root m w =
      let c = (chain-chosen p.body 0 0 (root-paid D t p)).chain in
      on_list m w all (root_chain D t p) (plan_ordered p.body 0 0) (pairs_map (λ x y r. r.0) (root_chain D t p) c.series) c.on

  direct-on-tree : (v : Measured) (s : ℕ) → sum (direct_on v.of_line t (lines_in (root_chain D t p))) (of_row t s) ≡ on_row v.of_cost s (root_chain D t p)
  direct-on-tree v s =
      direct-on-costs v D t p (lines_in (root_chain D t p)) s ∙ on-root v.of_cost (λ x. eqb x.row s) ∙ row_of v.of_cost s (root_chain D t p)

  -- LAW: columns 5 and 7 are the chosen chain's part in the row
  pub on-span-tree : (s : ℕ) → on_span t (lines_in (root_chain D t p)) s ≡ on_row its_cycles s (root_chain D t p)
  on-span-tree = direct-on-tree by_cycles

  pub ion_span-tree : (s : ℕ) → ion_span t (lines_in (root_chain D t p)) s ≡ on_row its_instructions s (root_chain D t p)
  ion_span-tree = direct-on-tree by_instructions

-- ── the rows together ──

abbrev Row_to : ℕ → CostLine → Type 0
Row_to m x = x.row ≤ m

-- every cost's row is its invocation's, and so one of 0 to m
rows-within : (m D d : ℕ) (b : Body) (n r : ℕ) → r ≤ m → Within m D d b → All (Row_to m) (costs (plan n r b))
rows-within m D d done n r l w = tt
rows-within m D d (leaf (spend v) b) n r l w = (l, rows-within m D d b (suc n) r l w.1)
rows-within m D d (leaf sync b) n r l w = rows-within m D d b (suc n) r l w.1
rows-within m D d (leaf (note x) b) n r l w = rows-within m D d b (suc n) r l w.1
rows-within m D d (child v i g b) n r l w =
    all_two (Row_to m) v n r i g b (rows-within m D (suc d) g (suc n) i w.1 w.3) (rows-within m D d b (suc n + size g) r l w.4)

rows-add : (v : CostLine → ℕ) (w : CostLine → Bool) (m : ℕ) (l : List CostLine) → All (Row_to m) l → up_to (λ s. sum_where v (λ x. eqb x.row s && w x) l) m ≡ sum_where v w l
rows-add v w m [] h = zeros m
  where
    zeros : (m : ℕ) → up_to (λ s. 0) m ≡ 0
    zeros zero = refl
    zeros (suc m) = omega (arith, zeros m)
rows-add v w m (x ∷ l) h =
    omega (
      arith,
      up-add (λ s. cond (eqb x.row s && w x) (v x) 0) (λ s. sum_where v (λ x. eqb x.row s && w x) l) m,
      up_one x.row (v x) m (w x) h.0,
      rows-add v w m l h.1,
    )

module _ {f : Family} (D : ℕ) (t : List Frame) (p : PartsOf f D t) where
  rows-of-all : All (Row_to (sites t)) (all D t p)
  rows-of-all = rows-within (sites t) D 1 p.body 0 0 (omega arith) p.within

  module _ (v : Measured) where
    -- what stands in all rows is all, in any measure
    directs_add_up : up_to (λ s. sum (direct v.of_line t) (of_row t s)) (sites t) ≡ costs_where v.of_line t (λ k o. true)
    directs_add_up =
        up_same (λ s. sum (direct v.of_line t) (of_row t s)) (λ s. sum_where v.of_cost (λ x. eqb x.row s && true) (all D t p)) (sites t) (λ s l. direct-costs v D t p s)
        ∙ rows-add v.of_cost (λ x. true) (sites t) (all D t p) rows-of-all
        ∙ sym (at-lines v (λ k. true) D t p)

    -- and what of it stands at some lines is what those come to
    directs_on_add_up : (c : List ℕ) → up_to (λ s. sum (direct_on v.of_line t c) (of_row t s)) (sites t) ≡ costs_where v.of_line t (λ k o. has k c)
    directs_on_add_up c =
        up_same (λ s. sum (direct_on v.of_line t c) (of_row t s)) (λ s. sum_where v.of_cost (λ x. eqb x.row s && has x.line c) (all D t p)) (sites t) (λ s l. direct-on-costs v D t p c s)
        ∙ rows-add v.of_cost (λ x. has x.line c) (sites t) (all D t p) rows-of-all
        ∙ sym (at-lines v (λ k. has k c) D t p)

  -- LAW: "Column 4 adds up to the total work"
  pub locals_add_up : up_to (local t) (sites t) ≡ total t
  locals_add_up = directs_add_up by_cycles

  -- LAW: and column 6 to all instructions
  pub ilocals_add_up : up_to (ilocal t) (sites t) ≡ itotal t
  ilocals_add_up = directs_add_up by_instructions

  -- LAW: "and column 5 to the total span"
  pub on_spans_add_up : (c : List ℕ) → ChosenOf f t c → (n : ℕ) → SpanOf f t root n → up_to (on_span t c) (sites t) ≡ n
  on_spans_add_up c h n k =
      ap (λ (d : List ℕ). up_to (on_span t d) (sites t)) (root-chosen-only D t p c h)
      ∙ directs_on_add_up by_cycles (lines_in (root_chain D t p))
      ∙ at-lines by_cycles (λ k. has k (lines_in (root_chain D t p))) D t p
      ∙ on-root D t p its_cycles (λ x. true)
      ∙ all_of its_cycles (root_chain D t p)
      ∙ cycles-weight (root_chain D t p)
      ∙ weight-chain p.body 0 0
      ∙ sym (root-span-only D t p n k)

  -- LAW: and column 7 to the instructions of the chain's lines
  pub ion_spans_add_up : (c : List ℕ) → up_to (ion_span t c) (sites t) ≡ costs_where instructions t (λ k o. has k c)
  ion_spans_add_up = directs_on_add_up by_instructions
