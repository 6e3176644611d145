-- What the second reading adds: nothing outside columns 5 and 7, and in them each row's part of the chain that the marks
-- show.
use mathlib.Core.Path.{◌≡◌, refl, ap, ◌∙◌, sym}
use mathlib.Core.Bool.{Bool, true, false, cond, ◌&&◌}
use mathlib.Core.List.{List}
use Prim.Native.Nat.{ℕ, suc, ◌+◌, ◌*◌, ◌≤◌, ◌<◌}
use native.Mathlib.Numerals.{add-one}
use native.Mathlib.Omega.{arith}
use lib.Dec.{eqb}
use lib.ListN.{get_or}
use Rattle.line.specs.Family.{Family}
use Rattle.line.specs.declared.Frame.{Frame}
use Rattle.chain.specs.Plan.{CostLine, costs}
use Rattle.chain.specs.Over.{lines_in}
use Rattle.trace.specs.Shape.{has}
use Rattle.trace.specs.Rows.{columns}
use Rattle.trace.specs.Column.{Column, nth, slot}
use Rattle.trace.specs.Tree.{Leaf, leaf_work, leaf_instructions, Body, done, leaf, child, size, Within, PartsOf, work_of, instructions_of}
use Rattle.trace.specs.Fold.{its_cycles, its_instructions, plan, on_row}
use Rattle.trace.proofs.Basics.{cond_le}
use Rattle.trace.proofs.Slots.{slot_apart}
use Rattle.trace.proofs.Root.{root_chain}
use Rattle.trace.proofs.Measures.{Measured, by_cycles, by_instructions}
use Rattle.trace.proofs.Columns.{sum_where, where_leaf, where_two, direct-on-costs}
use Rattle.trace.proofs.OnChain.{on-span-tree, ion_span-tree}
use Rattle.walk.specs.Gain.{one}
use Rattle.walk.proofs.Rows.{one_same, one-other}
use Rattle.walk.proofs.Columns.{one_at, one_out}
use Rattle.marks.specs.Column.{marked, marked_gain, on_gain}
use Rattle.marks.proofs.Columns.{gain-on, gain_ion}

-- only columns 5 and 7
module _ (m : List ℕ) (j : Column) (k : ℕ) (no_on : j ≡ Column.on_span → ⊥) (no_ion : j ≡ Column.ion_span → ⊥) where
  gain_cross : (s x v w : ℕ) → marked_gain s x v w (slot k j) ≡ 0
  gain_cross s x v w =
      omega (
        arith,
        one-other (slot s Column.on_span) (marked x v) (slot k j) (λ e. no_on (sym (slot_apart s k Column.on_span j e).1)),
        one-other (slot s Column.ion_span) (marked x w) (slot k j) (λ e. no_ion (sym (slot_apart s k Column.ion_span j e).1)),
      )

  pub on_cross : (b : Body) (n s : ℕ) → on_gain m n s b (slot k j) ≡ 0
  on_cross done n s = refl
  on_cross (leaf q r) n s = omega (arith, gain_cross s (get_or m n 0) (leaf_work q) (leaf_instructions q r), on_cross r (n + 1) s)
  on_cross (child w i g r) n s = omega (arith, on_cross g (n + 1) i, on_cross r (n + (1 + size g)) s)

-- only the rows
pub on_out : (m : List ℕ) (sites D d i : ℕ) (b : Body) (n s : ℕ) → Within sites D d b → s ≤ sites → columns * (sites + 1) ≤ i → on_gain m n s b i ≡ 0
on_out m sites D d i done n s h w l = refl
on_out m sites D d i (leaf q r) n s h w l = omega (arith, one_out sites i l s (marked (get_or m n 0) (leaf_work q)) Column.on_span w, one_out sites i l s (marked (get_or m n 0) (leaf_instructions q r)) Column.ion_span w, on_out m sites D d i r (n + 1) s h.1 w l)
on_out m sites D d i (child q j g r) n s h w l = omega (arith, on_out m sites D (suc d) i g (n + 1) j h.3 h.1 l, on_out m sites D d i r (n + (1 + size g)) s h.4 w l)

-- never more than the work and the instructions
gain_le : (s x v w i : ℕ) → marked_gain s x v w i ≤ v + w
gain_le s x v w i =
    omega (arith, cond_le (eqb (slot s Column.on_span) i) (marked x v), cond_le (eqb x 1) v, cond_le (eqb (slot s Column.ion_span) i) (marked x w), cond_le (eqb x 1) w)

pub on_le : (m : List ℕ) (i : ℕ) (b : Body) (n s : ℕ) → on_gain m n s b i ≤ work_of b + instructions_of b
on_le m i done n s = omega arith
on_le m i (leaf q r) n s = omega (arith, gain_le s (get_or m n 0) (leaf_work q) (leaf_instructions q r) i, on_le m i r (n + 1) s)
on_le m i (child w j g r) n s = omega (arith, on_le m i g (n + 1) j, on_le m i r (n + (1 + size g)) s)

-- one cost of row s counts in column c of row k where that is its row and its line is on the chain
one-is : (c : Column) (s k v : ℕ) (b : Bool) → one (slot s c) (marked (cond b 1 0) v) (slot k c) ≡ cond (eqb s k && b) v 0
one-is c s k v b = one_at s k (marked (cond b 1 0) v) c c ∙ ap (λ (x : ℕ). cond (eqb s k) x 0) (one_same (nth c) (marked (cond b 1 0) v)) ∙ go (eqb s k) b
  where
    go : (e b : Bool) → cond e (marked (cond b 1 0) v) 0 ≡ cond (e && b) v 0
    go true true = refl
    go true false = refl
    go false b = refl

-- A measure and its column c: what a line adds to it is what the measure says. The marked costs in row k are those of the
-- plan whose line is on the chain.
module _ (v : Measured) (c : Column) (its : (s x k : ℕ) (l : Leaf) (r : Body) → marked_gain s x (leaf_work l) (leaf_instructions l r) (slot k c) ≡ one (slot s c) (marked x (v.of_leaf l r)) (slot k c))
    (m chain : List ℕ) (k : ℕ) where
  abbrev on_it : CostLine → Bool
  on_it x = eqb x.row k && has x.line chain

  abbrev Shown : ℕ → ℕ → Type 0
  Shown n e = (i : ℕ) → n ≤ i → i < e → get_or m i 0 ≡ cond (has i chain) 1 0

  later : (n e : ℕ) (b : Body) (s : ℕ) → n ≡ e → on_gain m n s b (slot k c) ≡ on_gain m e s b (slot k c)
  later n e b s q = ap (λ (x : ℕ). on_gain m x s b (slot k c)) q

  on-costs : (b : Body) (n s : ℕ) → Shown n (n + size b) → on_gain m n s b (slot k c) ≡ sum_where v.of_cost on_it (costs (plan n s b))
  on-costs done n s h = refl
  on-costs (leaf l r) n s h =
      omega (
        arith,
        its s (get_or m n 0) k l r,
        ap (λ (x : ℕ). one (slot s c) (marked x (v.of_leaf l r)) (slot k c)) (h n (omega arith) (omega arith)),
        one-is c s k (v.of_leaf l r) (has n chain),
        later (n + 1) (suc n) r s (add-one n),
        on-costs r (suc n) s (λ i p q. h i (omega arith) (omega arith)),
        where_leaf v on_it l n s r,
      )
  on-costs (child w j g r) n s h =
      let e : n + (1 + size g) ≡ suc n + size g = omega arith in
      omega (
        arith,
        later (n + 1) (suc n) g j (add-one n),
        on-costs g (suc n) j (λ i p q. h i (omega arith) (omega arith)),
        later (n + (1 + size g)) (suc n + size g) r s e,
        on-costs r (suc n + size g) s (λ i p q. h i (omega arith) (omega arith)),
        where_two v.of_cost on_it w n s j g r,
      )

-- LAW: where the marks of the root's lines show its chain, columns 5 and 7 of a row grow by the row's part of it
module _ {f : Family} (D : ℕ) (t : List Frame) (p : PartsOf f D t) (m : List ℕ) (k : ℕ)
    (h : (i : ℕ) → 0 ≤ i → i < 0 + size p.body → get_or m i 0 ≡ cond (has i (lines_in (root_chain D t p))) 1 0) where
  abbrev chosen : List ℕ
  chosen = lines_in (root_chain D t p)

  pub on_row_lem : on_gain m 0 0 p.body (slot k Column.on_span) ≡ on_row its_cycles k (root_chain D t p)
  on_row_lem =
      on-costs by_cycles Column.on_span (λ s x k l r. gain-on s x (leaf_work l) (leaf_instructions l r) k) m chosen k p.body 0 0 h
      ∙ sym (direct-on-costs by_cycles D t p chosen k)
      ∙ on-span-tree D t p k

  pub ion_row : on_gain m 0 0 p.body (slot k Column.ion_span) ≡ on_row its_instructions k (root_chain D t p)
  ion_row =
      on-costs by_instructions Column.ion_span (λ s x k l r. gain_ion s x (leaf_work l) (leaf_instructions l r) k) m chosen k p.body 0 0 h
      ∙ sym (direct-on-costs by_instructions D t p chosen k)
      ∙ ion_span-tree D t p k
