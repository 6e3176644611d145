-- The promise determines its outcome, which is the one by the tree; and some outcome always meets it.
use mathlib.Core.Path.{◌≡◌, refl, sym, ◌∙◌, ap, subst}
use mathlib.Core.Logic.{inl, inr}
use mathlib.Core.Bool.{Bool, true, cond, ◌&&◌}
use mathlib.Core.List.{List, [], ◌∷◌}
use Prim.Native.Nat.{ℕ, zero, suc, ◌+◌, ◌*◌, ◌≤◌, ◌<◌}
use native.Mathlib.Omega.{arith}
use lib.ListN.{length, get_or, replicate, get_or-eq_default}
use lib.Dec.{ltb, leb}
use lib.Seq.{ext_get_or}
use borrow.Author.Tests.{leb-true, lt-ltb, le-ltb}
use Rattle.std.specs.Prelude.{Err}
use Rattle.line.specs.Family.{Family, Base}
use Rattle.line.specs.declared.Frame.{Frame}
use Rattle.line.specs.Refusal.{refusal}
use Rattle.chain.specs.Over.{lines_in}
use Rattle.trace.specs.Answer.{Answer, profiled}
use Rattle.trace.specs.Shape.{has, sites}
use Rattle.trace.specs.Rows.{columns, SpansOf}
use Rattle.trace.specs.Column.{Column, slot}
use Rattle.trace.specs.Refusals.{line_count, Verdict, accepted, refused, verdict_of, verdict}
use Rattle.trace.specs.Promise.{Engine, tables, marks, Lent, scratch_room, marks_room, rows_room, enough, acceptance, RowOf, Marked, ProfileOf, KeptOf, Kept, PromiseOf, Promise}
use Rattle.trace.specs.Tree.{Body, size, PartsOf, Parts, work_of, instructions_of, span_of}
use Rattle.trace.specs.Fold.{chain_of}
use Rattle.trace.specs.ByTree.{cell, RowsBy, ProfileBy}
use Rattle.trace.specs.Small.{Small}
use Rattle.trace.proofs.Basics.{clash, below, both}
use Rattle.trace.proofs.Slots.{row_of, column_of, row-slot, column-slot, slot_in, by_slots}
use Rattle.trace.proofs.Tree.{size_is}
use Rattle.trace.proofs.Scan.{Fine, accepted-is-of, accepted-fine-of, accepted-length-of}
use Rattle.trace.proofs.Parse.{parts, accepted-parts-of}
use Rattle.trace.proofs.Accept.{sites_le_M}
use Rattle.trace.proofs.Unique.{spans_unique_of}
use Rattle.trace.proofs.Root.{root_chain, root-span, root-chosen, root-span-only, root-chosen-only}
use Rattle.trace.proofs.Columns.{calls-tree, local-tree, ilocal-tree, total-tree, itotal-tree}
use Rattle.trace.proofs.Outermost.{work-tree, spans_tree}
use Rattle.trace.proofs.OnChain.{on-span-tree, ion_span-tree}
use Rattle.trace.proofs.Small.{fine-small, itotal-below}

lent_same : (a b : Lent) → a.scratch ≡ b.scratch → a.rows ≡ b.rows → a.marks ≡ b.marks → a ≡ b
lent_same a b x y z =
    ap (λ (s : List ℕ). record { scratch = s; rows = a.rows; marks = a.marks }) x
    ∙ ap (λ (s : List ℕ). record { scratch = b.scratch; rows = s; marks = a.marks }) y
    ∙ ap (λ (s : List ℕ). record { scratch = b.scratch; rows = b.rows; marks = s }) z

-- ── a profile is what the tree says ──

module _ {f : Family} (D : ℕ) (t : List Frame) (p : PartsOf f D t) where
  pub length-is : length t ≡ size p.body
  length-is = ap length p.lines ∙ size_is p.body

  answer-is : acceptance t (span_of p.body) ≡ profiled (work_of p.body) (span_of p.body) (sites t) (size p.body)
  answer-is =
      ap (λ (w : ℕ). profiled w (span_of p.body) (sites t) (length t)) (total-tree D t p)
      ∙ ap (profiled (work_of p.body) (span_of p.body) (sites t)) length-is

  row_from : (l : List ℕ) (s : ℕ) → ((k : Column) → get_or l (slot s k) 0 ≡ cell p.body s k) → RowOf f t (lines_in (root_chain D t p)) l s
  row_from l s h =
      record {
        calls_is = h Column.calls ∙ sym (calls-tree D t p s);
        work_is = h Column.work ∙ sym (work-tree D t p s);
        span_is = subst (SpansOf f t s) (sym (h Column.span)) (spans_tree D t p s);
        local_is = h Column.local ∙ sym (local-tree D t p s);
        on_span_is = h Column.on_span ∙ sym (on-span-tree D t p s);
        ilocal_is = h Column.ilocal ∙ sym (ilocal-tree D t p s);
        ion_span_is = h Column.ion_span ∙ sym (ion_span-tree D t p s);
      }

  row-to : (l : List ℕ) (s : ℕ) → RowOf f t (lines_in (root_chain D t p)) l s → (k : Column) → get_or l (slot s k) 0 ≡ cell p.body s k
  row-to l s r Column.calls = r.calls_is ∙ calls-tree D t p s
  row-to l s r Column.work = r.work_is ∙ work-tree D t p s
  row-to l s r Column.span = spans_unique_of f t s _ _ r.span_is (spans_tree D t p s)
  row-to l s r Column.local = r.local_is ∙ local-tree D t p s
  row-to l s r Column.on_span = r.on_span_is ∙ on-span-tree D t p s
  row-to l s r Column.ilocal = r.ilocal_is ∙ ilocal-tree D t p s
  row-to l s r Column.ion_span = r.ion_span_is ∙ ion_span-tree D t p s

  -- LAW: what the tree says is a profile
  pub tree_profile : (e : Engine) (before : Lent) (r : Answer) (after : Lent) → ProfileBy e (sites t) p.body before r after → ProfileOf f e t before r after
  tree_profile e before r after h =
      record {
        chain = lines_in (root_chain D t p);
        chosen = root-chosen D t p;
        span = span_of p.body;
        is_span = root-span D t p;
        answer = h.answer ∙ sym answer-is;
        rows = record {
          same_length = h.rows.same_length;
          rows_are = λ s l. row_from after.rows s (λ k. h.rows.cells s k l);
          rest = h.rows.rest;
        };
        scratch = h.scratch;
        marked = subst (λ (n : ℕ). Marked e n (lines_in (root_chain D t p)) before.marks after.marks) (sym length-is) h.marked;
      }

  -- LAW: and a profile is what the tree says
  pub profile_tree : (e : Engine) (before : Lent) (r : Answer) (after : Lent) → ProfileOf f e t before r after → ProfileBy e (sites t) p.body before r after
  profile_tree e before r after h =
      let c = root-chosen-only D t p h.chain h.chosen in
      record {
        answer = h.answer ∙ ap (acceptance t) (root-span-only D t p h.span h.is_span) ∙ answer-is;
        rows = record {
          same_length = h.rows.same_length;
          cells = λ s k l. row-to after.rows s (subst (λ (d : List ℕ). RowOf f t d after.rows s) c (h.rows.rows_are s l)) k;
          rest = h.rows.rest;
        };
        scratch = h.scratch;
        marked = subst (λ (n : ℕ). Marked e n (lines_in (root_chain D t p)) before.marks after.marks) length-is (subst (λ (d : List ℕ). Marked e (length t) d before.marks after.marks) c h.marked);
      }

  -- LAW: within the limits the work of the tree is below 2 ^ 54
  pub work-small : (M : ℕ) → Fine f D M t → Small (work_of p.body)
  work-small M h = subst Small (total-tree D t p) (fine-small D M t h).total_work

  -- LAW: and so are its instructions
  pub instructions-small : (M : ℕ) → Fine f D M t → Small (instructions_of p.body)
  instructions-small M h = omega (arith, itotal-tree D t p, itotal-below D M t h)

-- ── there is one ──

rows_unique : (m : ℕ) (b : Body) (before a c : List ℕ) → RowsBy m b before a → RowsBy m b before c → a ≡ c
rows_unique m b before a c h k = ext_get_or 0 a c (h.same_length ∙ sym k.same_length) at
  where
    at : (i : ℕ) → i < length a → get_or a i 0 ≡ get_or c i 0
    at i l = elim (below (columns * (m + 1)) i) [
      | inl g ↦ by_slots m (λ i. get_or a i 0 ≡ get_or c i 0) (λ s q n. h.cells s q n ∙ sym (k.cells s q n)) i g
      | inr w ↦ h.rest i (omega (arith, w.1)) ∙ sym (k.rest i (omega (arith, w.1)))
    ]

marked_unique : (e : Engine) (n : ℕ) (c before a d : List ℕ) → Marked e n c before a → Marked e n c before d → a ≡ d
marked_unique tables n c before a d h k = h ∙ sym k
marked_unique marks n c before a d h k =
    ext_get_or 0 a d (h.same_length ∙ sym k.same_length)
    (λ i l. elim (below n i) [ inl g ↦ h.marks_are i g ∙ sym (k.marks_are i g) | inr w ↦ h.rest i (omega (arith, w.1)) ∙ sym (k.rest i (omega (arith, w.1))) ])

pub by_tree_unique : (e : Engine) (m : ℕ) (b : Body) (before : Lent) (r q : Answer) (x y : Lent) → ProfileBy e m b before r x → ProfileBy e m b before q y → (r ≡ q) × (x ≡ y)
by_tree_unique e m b before r q x y h k = (
  h.answer ∙ sym k.answer,
  lent_same x y (h.scratch ∙ sym k.scratch) (rows_unique m b before.rows x.rows y.rows h.rows k.rows)
      (marked_unique e (size b) (lines_in (chain_of 0 0 b)) before.marks x.marks y.marks h.marked k.marked),
)

-- LAW: two outcomes that keep to a verdict for the same room are equal
pub kept_unique_of : (f : Family) (e : Engine) (v : Verdict) (before : Lent) → ((t : List Frame) → v ≡ accepted t → (D : ℕ) × PartsOf f D t) → (r q : Answer) (x y : Lent) → KeptOf f e v before r x → KeptOf f e v before q y → (r ≡ q) × (x ≡ y)
kept_unique_of f e (accepted t) before p r q x y h k =
    let d = p t refl in
    by_tree_unique e (sites t) d.1.body before r q x y (profile_tree d.0 t d.1 e before r x (h.when_accepted t refl)) (profile_tree d.0 t d.1 e before q y (k.when_accepted t refl))
kept_unique_of f e (refused n l) before p r q x y h k =
    let u = h.when_refused n l refl in
    let v = k.when_refused n l refl in
    (u.0 ∙ sym v.0, u.1 ∙ sym v.1)

-- LAW: two outcomes that meet the promise for the same text, limits and room are equal
pub promise_unique_of : (f : Family) (e : Engine) (s : List ℕ) (D M : ℕ) (before : Lent) (r q : Answer) (x y : Lent) → PromiseOf f e s D M before r x → PromiseOf f e s D M before q y → (r ≡ q) × (x ≡ y)
promise_unique_of f e s D M before = kept_unique_of f e (verdict_of f s D M (enough e s D M before)) before (λ t a. (D, accepted-parts-of f s D M (enough e s D M before) t a))

-- the same of document 01's traces
pub kept_unique : (e : Engine) (v : Verdict) (before : Lent) → ((t : List Frame) → v ≡ accepted t → (D : ℕ) × Parts D t) → (r q : Answer) (x y : Lent) → Kept e v before r x → Kept e v before q y → (r ≡ q) × (x ≡ y)
kept_unique = kept_unique_of Base

pub promise_unique : (e : Engine) (s : List ℕ) (D M : ℕ) (before : Lent) (r q : Answer) (x y : Lent) → Promise e s D M before r x → Promise e s D M before q y → (r ≡ q) × (x ≡ y)
promise_unique = promise_unique_of Base

-- ── there is some ──

-- a list by its elements, n of them from number k on
abbrev tab : (ℕ → ℕ) → ℕ → ℕ → List ℕ
tab f k zero = []
tab f k (suc n) = f k ∷ tab f (suc k) n

tab-length : (f : ℕ → ℕ) (k n : ℕ) → length (tab f k n) ≡ n
tab-length f k zero = refl
tab-length f k (suc n) = ap suc (tab-length f (suc k) n)

tab-at : (f : ℕ → ℕ) (k n i : ℕ) → i < n → get_or (tab f k n) i 0 ≡ f (k + i)
tab-at f k zero i l = absurd (omega arith)
tab-at f k (suc n) zero l = let e : k ≡ k + 0 = omega arith in ap f e
tab-at f k (suc n) (suc i) l = let e : suc k + i ≡ k + suc i = omega arith in tab-at f (suc k) n i (omega arith) ∙ ap f e

-- the numbers below m as f says, the rest as they were
module _ (f : ℕ → ℕ) (m : ℕ) (l : List ℕ) where
  abbrev mixed : ℕ → ℕ
  mixed i = cond (ltb i m) (f i) (get_or l i 0)

  abbrev over : List ℕ
  over = tab mixed 0 (length l)

  over-length : length over ≡ length l
  over-length = tab-length mixed 0 (length l)

  over-low : (i : ℕ) → i < m → m ≤ length l → get_or over i 0 ≡ f i
  over-low i h k = let e : 0 + i ≡ i = omega arith in tab-at mixed 0 (length l) i (omega arith) ∙ ap mixed e ∙ ap (λ (b : Bool). cond b (f i) (get_or l i 0)) (lt-ltb i m h)

  over_high : (i : ℕ) → m ≤ i → get_or over i 0 ≡ get_or l i 0
  over_high i h = elim (below (length l) i) [
    | inl k ↦ (let e : 0 + i ≡ i = omega arith in tab-at mixed 0 (length l) i k ∙ ap mixed e ∙ ap (λ (b : Bool). cond b (f i) (get_or l i 0)) (le-ltb i m h))
    | inr w ↦ get_or-eq_default over 0 (omega (arith, w.1, over-length)) ∙ sym (get_or-eq_default l 0 (omega (arith, w.1)))
  ]

-- as the tree says, in the room that is there
module _ (m : ℕ) (b : Body) (before : Lent) (rows_fit : columns * (m + 1) ≤ length before.rows) where
  abbrev number : ℕ → ℕ
  number i = cell b (row_of i) (column_of i)

  abbrev new_rows : List ℕ
  new_rows = over number (columns * (m + 1)) before.rows

  rows-by : RowsBy m b before.rows new_rows
  rows-by =
      record {
        same_length = over-length number (columns * (m + 1)) before.rows;
        cells = λ s k l.
            over-low number (columns * (m + 1)) before.rows (slot s k) (slot_in m s k l) rows_fit
            ∙ ap (λ (r : ℕ). cell b r (column_of (slot s k))) (row-slot s k)
            ∙ ap (cell b s) (column-slot s k);
        rest = over_high number (columns * (m + 1)) before.rows;
      }

  marked_by : (e : Engine) → (e ≡ marks → size b ≤ length before.marks) → (after : List ℕ) × Marked e (size b) (lines_in (chain_of 0 0 b)) before.marks after
  marked_by tables h = (before.marks, refl)
  marked_by marks h =
      let f : ℕ → ℕ = λ k. cond (has k (lines_in (chain_of 0 0 b))) 1 0 in (
        over f (size b) before.marks,
        record {
          same_length = over-length f (size b) before.marks;
          marks_are = λ k l. over-low f (size b) before.marks k l (h refl);
          rest = over_high f (size b) before.marks;
        },
      )

  some_profile : (e : Engine) → (e ≡ marks → size b ≤ length before.marks) → (r : Answer) × (after : Lent) × ProfileBy e m b before r after
  some_profile e h =
      let w = marked_by e h in (
        profiled (work_of b) (span_of b) m (size b),
        record { scratch = replicate (length before.scratch) 0; rows = new_rows; marks = w.0 },
        record { answer = refl; rows = rows-by; scratch = refl; marked = w.1 },
      )

-- what a verdict says of a trace that it accepts: it keeps the limits, and the rows and the marks are there
pub record HousedOf (f : Family) (e : Engine) (before : Lent) (t : List Frame) : Type 0 where
  pub D : ℕ
  pub parts : PartsOf f D t
  pub rows_there : columns * (sites t + 1) ≤ length before.rows
  pub marks_there : e ≡ marks → length t ≤ length before.marks

-- that of document 01's
abbrev pub Housed : Engine → Lent → List Frame → Type 0
Housed e before t = HousedOf Base e before t

-- LAW: whatever is lent, some outcome keeps to the verdict
pub kept-met-of : (f : Family) (e : Engine) (v : Verdict) (before : Lent) → ((t : List Frame) → v ≡ accepted t → HousedOf f e before t) → (r : Answer) × (after : Lent) × KeptOf f e v before r after
kept-met-of f e (accepted t) before h =
    let a = h t refl in
    let p = a.parts in
    let w = some_profile (sites t) p.body before a.rows_there e (λ q. omega (arith, a.marks_there q, length-is a.D t p)) in (
      w.0,
      w.1,
      record {
        when_accepted = λ u q. (let i : t ≡ u = cc in subst (λ (z : List Frame). ProfileOf f e z before w.0 w.1) i (tree_profile a.D t p e before w.0 w.1 w.2));
        when_refused = λ n k q. clash (cc);
      },
    )
kept-met-of f e (refused n k) before h = (
  Err (refusal n k),
  before,
  record {
    when_accepted = λ u q. clash (cc);
    when_refused = λ i j q. (let c : n ≡ i = cc in let d : k ≡ j = cc in (ap (λ (z : ℕ). Err (refusal z k)) c ∙ ap (λ (z : ℕ). Err (refusal i z)) d, refl));
  },
)

-- an accepted trace has its room
pub accepted_housed_of : (g : Family) (e : Engine) (s : List ℕ) (D M : ℕ) (before : Lent) (t : List Frame) → verdict_of g s D M (enough e s D M before) ≡ accepted t → HousedOf g e before t
accepted_housed_of g e s D M before t a =
    record {
      D = D;
      parts = parts D M t f;
      rows_there = omega (arith, sites_le_M D M t f, y);
      marks_there = marks-fit e (length t) (accepted-length-of g s D M (enough e s D M before) t a) x.1;
    }
  where
    f : Fine g D M t
    f = accepted-fine-of g s D M (enough e s D M before) t a

    x : (leb (scratch_room e D M) (length before.scratch) && leb (rows_room M) (length before.rows) ≡ true) × (leb (marks_room e s) (length before.marks) ≡ true)
    x = both (leb (scratch_room e D M) (length before.scratch) && leb (rows_room M) (length before.rows)) (leb (marks_room e s) (length before.marks)) (accepted-is-of g s D M (enough e s D M before) t a).0

    y : rows_room M ≤ length before.rows
    y = leb-true (rows_room M) (length before.rows) (both (leb (scratch_room e D M) (length before.scratch)) (leb (rows_room M) (length before.rows)) x.0).1

    marks-fit : (e : Engine) (k : ℕ) → k ≡ line_count s → leb (marks_room e s) (length before.marks) ≡ true → e ≡ marks → k ≤ length before.marks
    marks-fit tables k l h q = clash (cc)
    marks-fit marks k l h q = omega (arith, leb-true (line_count s) (length before.marks) h)

-- LAW: whatever is lent, some outcome meets the promise
pub promise_met_of : (f : Family) (e : Engine) (s : List ℕ) (D M : ℕ) (before : Lent) → (r : Answer) × (after : Lent) × PromiseOf f e s D M before r after
promise_met_of f e s D M before = kept-met-of f e (verdict_of f s D M (enough e s D M before)) before (accepted_housed_of f e s D M before)

-- the same of document 01's traces
pub kept-met : (e : Engine) (v : Verdict) (before : Lent) → ((t : List Frame) → v ≡ accepted t → Housed e before t) → (r : Answer) × (after : Lent) × Kept e v before r after
kept-met = kept-met-of Base

pub accepted_housed : (e : Engine) (s : List ℕ) (D M : ℕ) (before : Lent) (t : List Frame) → verdict s D M (enough e s D M before) ≡ accepted t → Housed e before t
accepted_housed = accepted_housed_of Base

pub promise_met : (e : Engine) (s : List ℕ) (D M : ℕ) (before : Lent) → (r : Answer) × (after : Lent) × Promise e s D M before r after
promise_met = promise_met_of Base
