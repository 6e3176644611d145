-- The marked lines are the chosen chain, which is what demand 3 asks of them, and nothing else is.
use mathlib.Core.Path.{◌≡◌, refl, sym, ◌∙◌, ap, subst}
use mathlib.Core.Bool.{Bool, true, false, cond, ◌||◌}
use mathlib.Core.List.{List, [], ◌∷◌}
use Prim.Native.Nat.{ℕ, zero, suc, ◌≤◌, ◌<◌}
use native.Mathlib.Omega.{arith}
use lib.ListN.{length, get_or}
use lib.Dec.{eqb}
use borrow.Author.Tests.{ne_eqb}
use Rattle.line.specs.Family.{Family, Base}
use Rattle.line.specs.declared.Frame.{Frame}
use Rattle.line.specs.declared.Frame.TheVariants.{Cost, Instructions}
use Rattle.chain.specs.Over.{Each, EachTwo}
use Rattle.trace.specs.Answer.{Answer}
use Rattle.trace.specs.Shape.{Is, root, has, sites}
use Rattle.trace.specs.Series.{value_at, SeriesOf, CostIn, ChainOf, weight, SpanOf, ChosenOf, Series, Chain, Span, Chosen}
use Rattle.trace.specs.Rows.{cycles, instructions, local, on_span, ilocal, ion_span}
use Rattle.trace.specs.Column.{Column, slot}
use Rattle.trace.specs.Tree.{PartsOf}
use Rattle.trace.specs.Promise.{Engine, Lent, acceptance, Marks, ProfileOf}
use Rattle.trace.proofs.Basics.{clash}
use Rattle.trace.proofs.Sums.{up_to}
use Rattle.trace.proofs.Chains.{is-length}
use Rattle.trace.proofs.Declared.{is_one}
use Rattle.trace.proofs.OnChain.{locals_add_up, ilocals_add_up, on_spans_add_up, ion_spans_add_up}
use Rattle.trace.proofs.Unique.{span_unique_of, chosen_unique_of}
use Rattle.agree.specs.Shown.{marked, costs_in_row, column_to, AddUp, ShownOf}
use Rattle.agree.proofs.Picked.{Among, each_map, where_same, where_has, has_where}
use Rattle.agree.proofs.InRow.{on_span_along, all_along}

-- ── a chain is ascending, and its lines are the trace's ──

pub chain-up-of : (g : Family) (t : List Frame) (c : List ℕ) → EachTwo (SeriesOf g t) c → EachTwo (λ i j. i < j) c
chain-up-of g t [] h = tt
chain-up-of g t (x ∷ c) h = (each_map (SeriesOf g t x) (λ z. x < z) (λ z k. k.0) c h.0, chain-up-of g t c h.1)

pub chain-within-of : (g : Family) (t : List Frame) (c : List ℕ) → ChainOf g t root c → Each (Among 0 (length t)) c
chain-within-of g t c h = each_map (CostIn t root) (Among 0 (length t)) (λ k i. (omega arith, omega (arith, is-length t k (Cost (value_at t k)) i.is))) c h.costs

-- the same of document 01's traces
pub chain-up : (t : List Frame) (c : List ℕ) → EachTwo (Series t) c → EachTwo (λ i j. i < j) c
chain-up = chain-up-of Base

pub chain-within : (t : List Frame) (c : List ℕ) → Chain t root c → Each (Among 0 (length t)) c
chain-within = chain-within-of Base

-- a 07 line is on no chain
not_carried : (t : List Frame) (k v : ℕ) (c : List ℕ) → Is t k (Instructions v) → Each (CostIn t root) c → has k c ≡ false
not_carried t k v [] i h = refl
not_carried t k v (x ∷ c) i h =
    ap (λ (b : Bool). b || has k c)
    (ne_eqb k x (λ q. (let e : Instructions v ≡ Cost (value_at t x) = is_one t x (Instructions v) (Cost (value_at t x)) (subst (λ (j : ℕ). Is t j (Instructions v)) q i) h.0.is in clash (cc))))
    ∙ not_carried t k v c i h.1

-- ── the marked lines ──

module _ (t : List Frame) (c before after : List ℕ) (h : Marks (length t) c before after) where
  -- LAW: a mark is 0 or 1
  pub mark-low : (k : ℕ) → k < length t → get_or after k 0 ≤ 1
  mark-low k l = go (has k c) (h.marks_are k l)
    where
      go : (b : Bool) → get_or after k 0 ≡ cond b 1 0 → get_or after k 0 ≤ 1
      go true e = omega arith
      go false e = omega arith

  -- LAW: "A 07 line's mark is 0."
  pub carried-unmarked : (g : Family) → ChainOf g t root c → (k v : ℕ) → Is t k (Instructions v) → get_or after k 0 ≡ 0
  carried-unmarked g q k v i = h.marks_are k (is-length t k (Instructions v) i) ∙ ap (λ (b : Bool). cond b 1 0) (not_carried t k v c i q.costs)

  -- and 1 on the chain
  mark-one : (k : ℕ) → k < length t → eqb (get_or after k 0) 1 ≡ has k c
  mark-one k l = ap (λ (n : ℕ). eqb n 1) (h.marks_are k l) ∙ go (has k c)
    where
      go : (b : Bool) → eqb (cond b 1 0) 1 ≡ b
      go true = refl
      go false = refl

  -- LAW: the marked lines are the chain
  pub marked-chain : (g : Family) → ChainOf g t root c → marked after (length t) ≡ c
  marked-chain g k =
      where_same (λ x. eqb (get_or after x 0) 1) (λ x. has x c) 0 (length t) (λ x m. mark-one x (omega (arith, m.1)))
      ∙ where_has 0 (length t) c (chain-up-of g t c k.series) (chain-within-of g t c k)

-- the weight of the chosen chain is the root's span
pub chosen-span-of : (g : Family) (t : List Frame) (c : List ℕ) → ChosenOf g t c → SpanOf g t root (weight t c)
chosen-span-of g t c h = record { chain = c; is_chain = h.chain; weighs = refl; greatest = h.heaviest }

-- the same of document 01's traces
pub chosen-span : (t : List Frame) (c : List ℕ) → Chosen t c → Span t root (weight t c)
chosen-span = chosen-span-of Base

-- one column of the rows, by what each row has there
column_is : (rows : List ℕ) (k : Column) (f : ℕ → ℕ) (s : ℕ) → ((i : ℕ) → i ≤ s → get_or rows (slot i k) 0 ≡ f i) → column_to rows k s ≡ up_to f s
column_is rows k f zero h = h 0 (omega arith)
column_is rows k f (suc s) h = omega (arith, h (suc s) (omega arith), column_is rows k f s (λ i l. h i (omega arith)))

module _ {g : Family} (e : Engine) (D : ℕ) (t : List Frame) (p : PartsOf g D t) (before : Lent) (r : Answer) (after : Lent) (h : ProfileOf g e t before r after) where
  abbrev c : List ℕ
  c = h.chain

  up : EachTwo (λ i j. i < j) c
  up = chain-up-of g t c h.chosen.chain.series

  within : Each (Among 0 (length t)) c
  within = chain-within-of g t c h.chosen.chain

  -- LAW: the columns add up
  pub columns-add-up : AddUp t after.rows h.chain
  columns-add-up =
      record {
        local = column_is after.rows Column.local (local t) (sites t) (λ s l. (h.rows.rows_are s l).local_is) ∙ locals_add_up D t p;
        on_span_sum = column_is after.rows Column.on_span (on_span t c) (sites t) (λ s l. (h.rows.rows_are s l).on_span_is) ∙ on_spans_add_up D t p c h.chosen (weight t c) (chosen-span-of g t c h.chosen);
        ilocal = column_is after.rows Column.ilocal (ilocal t) (sites t) (λ s l. (h.rows.rows_are s l).ilocal_is) ∙ ilocals_add_up D t p;
        ion_span_sum = column_is after.rows Column.ion_span (ion_span t c) (sites t) (λ s l. (h.rows.rows_are s l).ion_span_is) ∙ ion_spans_add_up D t p c ∙ all_along instructions t c up within;
      }

  -- LAW: beside an answer and rows that are those of the chosen chain, it is what demand 3 asks
  pub chain-shown : ShownOf g t r after.rows h.chain
  chain-shown =
      record {
        chain = h.chosen.chain;
        row_by_row = λ s l. sym ((h.rows.rows_are s l).on_span_is ∙ on_span_along cycles t c up within s);
        instructions_by_row = λ s l. sym ((h.rows.rows_are s l).ion_span_is ∙ on_span_along instructions t c up within s);
        in_total = h.answer ∙ ap (acceptance t) (span_unique_of g t root h.span (weight t c) h.is_span (chosen-span-of g t c h.chosen));
        heaviest = h.chosen.heaviest;
        first = h.chosen.first;
        columns = columns-add-up;
      }

-- ── the demand determines the chain, the answer, the on-span columns and the marks ──

-- LAW: what is shown is the chosen chain
pub shown-chosen : (g : Family) (t : List Frame) (r : Answer) (rows c : List ℕ) → ShownOf g t r rows c → ChosenOf g t c
shown-chosen g t r rows c h = record { chain = h.chain; heaviest = h.heaviest; first = h.first }

module _ (g : Family) (t : List Frame) (r q : Answer) (rows rows' c d : List ℕ) (h : ShownOf g t r rows c) (k : ShownOf g t q rows' d) where
  -- LAW
  pub one-chain : c ≡ d
  one-chain = chosen_unique_of g t c d (shown-chosen g t r rows c h) (shown-chosen g t q rows' d k)

  -- LAW
  pub one_answer : r ≡ q
  one_answer = h.in_total ∙ ap (λ (l : List ℕ). acceptance t (weight t l)) one-chain ∙ sym k.in_total

  -- LAW
  pub one-column : (s : ℕ) → s ≤ sites t → get_or rows (slot s Column.on_span) 0 ≡ get_or rows' (slot s Column.on_span) 0
  one-column s l = sym (h.row_by_row s l) ∙ ap (costs_in_row cycles t s) one-chain ∙ k.row_by_row s l

  -- LAW
  pub one_icolumn : (s : ℕ) → s ≤ sites t → get_or rows (slot s Column.ion_span) 0 ≡ get_or rows' (slot s Column.ion_span) 0
  one_icolumn s l = sym (h.instructions_by_row s l) ∙ ap (costs_in_row instructions t s) one-chain ∙ k.instructions_by_row s l

-- LAW: marks that are 0 or 1 and show the same lines are equal
pub one_marking : (n : ℕ) (m m' : List ℕ) → ((k : ℕ) → k < n → get_or m k 0 ≤ 1) → ((k : ℕ) → k < n → get_or m' k 0 ≤ 1) → marked m n ≡ marked m' n → (k : ℕ) → k < n → get_or m k 0 ≡ get_or m' k 0
one_marking n m m' low low' e k l = bit (get_or m k 0) (low k l) ∙ ap (λ (b : Bool). cond b 1 0) (sym (shows m) ∙ ap (has k) e ∙ shows m') ∙ sym (bit (get_or m' k 0) (low' k l))
  where
    shows : (m : List ℕ) → has k (marked m n) ≡ eqb (get_or m k 0) 1
    shows m = has_where (λ x. eqb (get_or m x 0) 1) 0 n k (omega arith, omega arith)

    bit : (a : ℕ) → a ≤ 1 → a ≡ cond (eqb a 1) 1 0
    bit zero l = refl
    bit (suc zero) l = refl
    bit (suc (suc a)) l = absurd (omega arith)
