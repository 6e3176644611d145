-- The second reading, with no code in sight.
use mathlib.Core.Path.{◌≡◌, refl, ap, ◌∙◌, sym, subst}
use mathlib.Core.Logic.{◌⊎◌, inl, inr}
use mathlib.Core.List.{List, [], ◌∷◌}
use Prim.Native.Nat.{ℕ, suc, ◌+◌, ◌≤◌, ◌<◌}
use native.Mathlib.Omega.{arith}
use lib.Dec.{eqb}
use lib.ListN.{length, get_or, set, length-set}
use lib.Seq.{get_or-set_same, get_or-set_other, set-get_or, set-set}
use Rattle.line.specs.Family.{Family, Base, Finishes}
use Rattle.line.specs.At.{site_at, value_at}
use Rattle.trace.specs.Column.{Column, nth, slot}
use Rattle.trace.specs.Tree.{Leaf, spend, sync, note, leaf_work, leaf_instructions, Body, done, leaf, child, ahead, size}
use Rattle.trace.proofs.Basics.{cond_same}
use Rattle.trace.proofs.Slots.{slot_apart}
use Rattle.weigh.specs.Weighed.{Weigh}
use Rattle.walk.specs.Stands.{Says, kind_by, kind_of}
use Rattle.walk.specs.Weight.{instructions_at}
use Rattle.walk.specs.Reads.{Reads}
use Rattle.walk.specs.Gain.{ColumnFits, one, Grown}
use Rattle.walk.specs.Item.{More}
use Rattle.walk.proofs.Items.{size-some}
use Rattle.walk.proofs.Lines.{is-more, is-done, is-sync, is-note, instructions-ahead}
use Rattle.walk.proofs.Says.{kind-says, site-says, value-says}
use Rattle.walk.proofs.Rows.{one_same, one-other}
use Rattle.walk.proofs.Room.{lines_in_lem}
use Rattle.walk.proofs.Child.{cost-is, Child, child-is}
use Rattle.marks.specs.declared.Present.{Present}
use Rattle.marks.specs.Park.{Zero}
use Rattle.marks.specs.Reach.{row_of}
use Rattle.marks.specs.Column.{marked, marked_gain, on_gain, Left, left, AllRead, lines_left, on_left, AllWithin, behind, on_line, stacked, Held, HeldAfter, root, entered, Returned, OnFits, OnLent, LineAsks, LineLeaves, ColumnAsks, ColumnLeaves}
use Rattle.marks.proofs.Finish.{is-opened, row_named}

-- nothing counts nothing
marked-none : (x v : ℕ) → v ≡ 0 → marked x v ≡ 0
marked-none x v e = ap (marked x) e ∙ cond_same (eqb x 1)

-- columns 5 and 7 of a row stand apart
on-apart : (s v r : ℕ) → one (slot s Column.on_span) v (slot r Column.ion_span) ≡ 0
on-apart s v r = one-other (slot s Column.on_span) v (slot r Column.ion_span) (λ e. let q = ap nth (slot_apart s r Column.on_span Column.ion_span e).1 in omega arith)

ion_apart : (s v r : ℕ) → one (slot s Column.ion_span) v (slot r Column.on_span) ≡ 0
ion_apart s v r = one-other (slot s Column.ion_span) v (slot r Column.on_span) (λ e. let q = ap nth (slot_apart s r Column.ion_span Column.on_span e).1 in omega arith)

-- what a marked cost of v with w instructions adds to either
pub gain-on : (s x v w r : ℕ) → marked_gain s x v w (slot r Column.on_span) ≡ one (slot s Column.on_span) (marked x v) (slot r Column.on_span)
gain-on s x v w r = omega (arith, ion_apart s (marked x w) r)

pub gain_ion : (s x v w r : ℕ) → marked_gain s x v w (slot r Column.ion_span) ≡ one (slot s Column.ion_span) (marked x w) (slot r Column.ion_span)
gain_ion s x v w r = omega (arith, on-apart s (marked x v) r)

-- where nothing counts nothing is added
gain-none : (s x v w : ℕ) → marked x v ≡ 0 → marked x w ≡ 0 → (i : ℕ) → marked_gain s x v w i ≡ 0
gain-none s x v w e h i =
    let j = slot s Column.on_span in
    let k = slot s Column.ion_span in
    omega (arith, ap (λ (y : ℕ). one j y i) e, ap (λ (y : ℕ). one k y i) h, cond_same (eqb j i), cond_same (eqb k i))

-- What one line does to the open invocations.

-- by equal numbers of the first line
read_same : (y : Family) (how : Weigh) (s : List ℕ) (k : List Left) (n e : ℕ) → n ≡ e → AllRead y how s n k → AllRead y how s e k
read_same y how s k n e q h = subst (λ (j : ℕ). AllRead y how s j k) q h

on_same : (m : List ℕ) (k : List Left) (i n e : ℕ) → n ≡ e → on_left m n k i ≡ on_left m e k i
on_same m k i n e q = ap (λ (j : ℕ). on_left m j k i) q

-- behind a line the rest is read
read_behind : (y : Family) (how : Weigh) (s : List ℕ) (n row : ℕ) (b : Body) (k : List Left) → AllRead y how s n (left row b ∷ k) → AllRead y how s (n + 1) (behind row b k)
read_behind y how s n row done k h = h.1
read_behind y how s n row (leaf l r) k h = (h.0.1, read_same y how s k (n + suc (size r)) (n + 1 + size r) (omega arith) h.1)
read_behind y how s n row (child w j g r) k h =
    let e : n + (1 + size g) ≡ n + 1 + size g = omega arith in
    (h.0.1, (subst (λ (i : ℕ). Reads y how s i row r) e h.0.2, read_same y how s k (n + suc (size g + size r)) (n + 1 + size g + size r) (omega arith) h.1))

-- it stays within the limits
within-behind : (sites D row : ℕ) (b : Body) (k : List Left) → AllWithin sites D (left row b ∷ k) → AllWithin sites D (behind row b k)
within-behind sites D row done k h = h.3
within-behind sites D row (leaf l r) k h = (h.0, h.1, h.2.1, h.3)
within-behind sites D row (child w j g r) k h = (h.2.1, h.2.2, h.2.3, (h.0, h.1, h.2.4, h.3))

-- it is one line less
lines-behind : (row : ℕ) (b : Body) (k : List Left) → lines_left (left row b ∷ k) ≡ 1 + lines_left (behind row b k)
lines-behind row done k = omega arith
lines-behind row (leaf l r) k = omega arith
lines-behind row (child w j g r) k = omega arith

-- what a child adds, and behind it the invocation that it was made in
on-two : (m : List ℕ) (n row j : ℕ) (g r : Body) (k : List Left) (i : ℕ) → on_gain m (n + 1) j g i + on_gain m (n + (1 + size g)) row r i + on_left m (n + suc (size g + size r)) k i ≡ on_left m (n + 1) (left j g ∷ (left row r ∷ k)) i
on-two m n row j g r k i =
    let e : n + (1 + size g) ≡ n + 1 + size g = omega arith in
    omega (arith, ap (λ (x : ℕ). on_gain m x row r i) e, on_same m k i (n + suc (size g + size r)) (n + 1 + size g + size r) (omega arith))

-- what is added in all is what the line adds and what the rest does
on-behind : (m : List ℕ) (n row : ℕ) (b : Body) (k : List Left) (i : ℕ) → on_left m n (left row b ∷ k) i ≡ on_line m n row b i + on_left m (n + 1) (behind row b k) i
on-behind m n row done k i = omega arith
on-behind m n row (leaf l r) k i = omega (arith, on_same m k i (n + suc (size r)) (n + 1 + size r) (omega arith))
on-behind m n row (child w j g r) k i = omega (arith, on-two m n row j g r k i)

-- The rows in the scratch.

-- it is as long
stacked-length : (z : List ℕ) (k : List Left) → length (stacked z k) ≡ length z
stacked-length z [] = refl
stacked-length z (x ∷ k) = length-set (stacked z k) (length k) x.row ∙ stacked-length z k

-- and zero behind the rows
stacked-zero : (z : List ℕ) → Zero z → (k : List Left) (j : ℕ) → length k ≤ j → get_or (stacked z k) j 0 ≡ 0
stacked-zero z o [] j l = o j
stacked-zero z o (x ∷ k) j l = get_or-set_other (stacked z k) (length k) j x.row 0 (λ e. omega arith) ∙ stacked-zero z o k j (omega arith)

-- an invocation was left: the row around it is the present one, and its number is zero again
held-left : (z : List ℕ) → Zero z → (k : List Left) (a r : Present) (t t' : List ℕ) → length k ≤ length z → a.around ≡ length k → t ≡ stacked z k → Returned t a r t' → HeldAfter z k a r t'
held-left z o [] a r t t' l e h x = ((x.last e).0, (x.last e).1 ∙ h)
held-left z o (y ∷ k) a r t t' l e h x =
    let u = stacked z k in
    let d = length k in
    let p = x.inner d (omega arith) in
    let clear : set u d 0 ≡ u = ap (set u d) (sym (stacked-zero z o k d (omega arith))) ∙ set-get_or u d 0 in (
      ap (λ (y : Present). y.row) p.0 ∙ ap (λ (y : List ℕ). get_or y d 0) h ∙ get_or-set_same u d y.row 0 (omega (arith, stacked-length z k)),
      ap (λ (y : Present). y.around) p.0,
      p.1 ∙ ap (λ (y : List ℕ). set y d 0) h ∙ set-set u d y.row 0 ∙ clear,
    )

-- what holds behind a line holds at the next
held_next : (z : List ℕ) (k : List Left) (a r : Present) (t : List ℕ) → HeldAfter z k a r t → Held z k r t
held_next z [] a r t h = h.1
held_next z (x ∷ k) a r t h = h

-- an invocation was entered: the row around it is in the scratch
held-entered : (z : List ℕ) (k : List Left) (a r : Present) (t t' : List ℕ) (row site : ℕ) (b g : Body) → Held z (left row b ∷ k) a t → r ≡ entered site a → t' ≡ set t a.around a.row → Held z (left site g ∷ (left row b ∷ k)) r t'
held-entered z k a r t t' row site b g h e q = (
  ap (λ (y : Present). y.row) e,
  omega (arith, ap (λ (y : Present). y.around) e, h.1),
  q ∙ ap (λ (y : List ℕ). set y a.around a.row) h.2 ∙ ap (λ (y : ℕ). set (stacked z k) y a.row) h.1 ∙ ap (set (stacked z k) (length k)) h.0,
)

-- A line.

-- what it asks for
module _ {y : Family} {how : Weigh} {s : List ℕ} {n : ℕ} {a : Present} {t m rows : List ℕ} (q : LineAsks y how s n a t m rows) where
  abbrev l : OnLent y how s n (left q.row q.body ∷ q.around) q.z a t m rows
  l = q.lent

  -- it has a mark
  mark_in : n < length m
  mark_in = omega (arith, l.lines, lines_in_lem y how s n q.row q.body l.reads.0, size-some q.body)

  -- there is room for the rows around
  rows_fit : length q.around ≤ length q.z
  rows_fit = omega (arith, l.within.1, l.room)

  -- and for one more
  pub enter_asks : a.around < length t
  enter_asks = omega (arith, l.held.1, l.within.1, l.room, ap length l.held.2, stacked-length q.z q.around)

  pub leave-asks : a.around ≤ length t
  leave-asks = omega (arith, enter_asks)

-- what a line leaves, by its kind
module _ {y : Family} {how : Weigh} {s : List ℕ} {n : ℕ} {a : Present} {t m rows : List ℕ} (p : LineAsks y how s n a t m rows) (kind : ℕ) (kind_is : kind ≡ kind_by y s n) where
  says : Says y kind_of s n kind
  says = kind-says y s n n kind refl kind_is

  -- where b is left of the innermost invocation
  abbrev Leaves : (z : List ℕ) (row : ℕ) (k : List Left) (r : Present) (t' rows' : List ℕ) → Body → Type 0
  Leaves z row k r t' rows' b = HeldAfter z (behind row b k) a r t' × Grown rows (on_line m n row b) rows'

  -- nothing is added
  grown_none : Grown rows (λ i. 0) rows
  grown_none i l = omega arith

  -- a leaf that weighs nothing and has no instructions
  weightless : (q : LineAsks y how s n a t m rows) (l : Leaf) (r : Body) → leaf_work l ≡ 0 → leaf_instructions l r ≡ 0 → q.body ≡ leaf l r → Leaves q.z q.row q.around a t rows q.body
  weightless q l r z o e =
      let x = get_or m n 0 in
      subst (Leaves q.z q.row q.around a t rows) (sym e)
      (q.lent.held, λ i h. omega (arith, gain-none q.row x (leaf_work l) (leaf_instructions l r) (marked-none x (leaf_work l) z) (marked-none x (leaf_instructions l r) o) i))

  -- a sync
  pub sync-leaves : kind ≡ 4 → LineLeaves y how s n a t m rows a t rows
  sync-leaves k4 q = let e = is-sync y how s n q.row kind says q.body q.lent.reads.0 k4 in weightless q sync e.0 refl refl e.1

  -- a line that weighs nothing and joins nothing
  pub note-leaves : (kind ≡ 1) ⊎ (kind ≡ 7) → LineLeaves y how s n a t m rows a t rows
  note-leaves k q = let e = is-note y how s n q.row kind says q.body q.lent.reads.0 k in weightless q (note e.0) e.1 refl refl e.2

  -- each line that weighs nothing, opens nothing and is no return
  pub silent-leaves : (kind ≡ 1) ⊎ ((kind ≡ 4) ⊎ (kind ≡ 7)) → LineLeaves y how s n a t m rows a t rows
  silent-leaves (inl k1) = note-leaves (inl k1)
  silent-leaves (inr (inl k4)) = sync-leaves k4
  silent-leaves (inr (inr k7)) = note-leaves (inr k7)

  -- a return
  pub return_leaves : kind ≡ 5 → (r : Present) (t' : List ℕ) → Returned t a r t' → LineLeaves y how s n a t m rows r t' rows
  return_leaves k5 r t' x q =
      let l = q.lent in
      let e = is-done y how s n q.row kind says q.body l.reads.0 k5 in
      subst (Leaves q.z q.row q.around r t' rows) (sym e) (held-left q.z l.zero q.around a r t t' (rows_fit q) l.held.1 l.held.2 x, grown_none)

  -- a cost of v with w instructions, whose mark is x
  module _ (k6 : kind ≡ 6) where
    abbrev v : ℕ
    v = how n a.row (value_at s n)

    abbrev w : ℕ
    w = instructions_at s n

    abbrev x : ℕ
    x = get_or m n 0

    -- what is left of the innermost invocation begins with it
    spend-is : (q : LineAsks y how s n a t m rows) → (r : Body) × (q.body ≡ leaf (spend v) r) × (w ≡ ahead r)
    spend-is q =
        let weighs = ap (λ (y : ℕ). how n y (value_at s n)) q.lent.held.0 in
        let e = cost-is y how s n q.row kind says (value_at s n) v (value-says y s n n (value_at s n) refl refl) weighs k6 q.body q.lent.reads.0 in
        (e.0, e.1, instructions-ahead y how s q.row n e.0 (subst (Reads y how s n q.row) e.1 q.lent.reads.0).1)

    -- what it adds, of whatever is left
    line-gain : (q : LineAsks y how s n a t m rows) (i : ℕ) → on_line m n q.row q.body i ≡ marked_gain q.row x v w i
    line-gain q i =
        let e = spend-is q in
        ap (λ (y : Body). on_line m n q.row y i) e.1 ∙ ap (λ (y : ℕ). marked_gain q.row x v y i) (sym e.2)

    -- both columns have room
    column_fits : (c : Column) (u : ℕ) → OnFits c p.lent.sites m n (left p.row p.body ∷ p.around) rows → marked_gain p.row x v w (slot p.row c) ≡ one (slot p.row c) u (slot p.row c) → slot p.row c < length rows
        → ColumnFits rows a.row c u
    column_fits c u fits gain there =
        let l = p.lent in
        let j = slot p.row c in
        subst (λ (r : ℕ). ColumnFits rows r c u) (sym l.held.0)
        (there, omega (arith, fits p.row l.within.0, on-behind m n p.row p.body p.around j, line-gain p j, gain, one_same j u))

    pub add-asks : (n < length m) × ColumnFits rows a.row Column.on_span (marked x v) × ColumnFits rows a.row Column.ion_span (marked x w)
    add-asks =
        let l = p.lent in
        let r = p.row in (
          mark_in p,
          column_fits Column.on_span (marked x v) l.fits (gain-on r x v w r) (omega (arith, l.within.0, l.rows_long)),
          column_fits Column.ion_span (marked x w) l.ifits (gain_ion r x v w r) (omega (arith, l.within.0, l.rows_long)),
        )

    pub cost-leaves : (rows' : List ℕ) → Grown rows (marked_gain a.row x v w) rows' → LineLeaves y how s n a t m rows a t rows'
    cost-leaves rows' grown q =
        let l = q.lent in
        let e = spend-is q in (
          subst (λ (b : Body). HeldAfter q.z (behind q.row b q.around) a a t) (sym e.1) l.held,
          λ i h. grown i h ∙ ap (λ (r : ℕ). get_or rows i 0 + marked_gain r x v w i) l.held.0 ∙ ap (λ (y : ℕ). get_or rows i 0 + y) (sym (line-gain q i)),
        )

  -- something opens whose row is site
  pub opens_leaves : (site : ℕ) → ((q : LineAsks y how s n a t m rows) → Child y how s n site q.body) → (r : Present) (t' : List ℕ) → r ≡ entered site a → t' ≡ set t a.around a.row → LineLeaves y how s n a t m rows r t' rows
  opens_leaves site item r t' er et q =
      let c = item q in
      subst (Leaves q.z q.row q.around r t' rows) (sym c.is) (held-entered q.z q.around a r t t' q.row site c.r c.g q.lent.held er et, grown_none)

  -- a line that is no return
  more : (kind ≡ 5 → ⊥) → (q : LineAsks y how s n a t m rows) → More q.body
  more k5 q = is-more y how s n q.row kind says q.body q.lent.reads.0 k5

-- a call or a spawn of site
module _ {how : Weigh} {s : List ℕ} {n : ℕ} {a : Present} {t m rows : List ℕ} (p : LineAsks Base how s n a t m rows) (kind : ℕ) (kind_is : kind ≡ kind_by Base s n)
    (site : ℕ) (sited : site ≡ site_at s n) (k6 : kind ≡ 6 → ⊥) (k5 : kind ≡ 5 → ⊥) (k4 : kind ≡ 4 → ⊥) (k7 : kind ≡ 7 → ⊥) (k1 : kind ≡ 1 → ⊥) where
  pub child-leaves : (r : Present) (t' : List ℕ) → r ≡ entered site a → t' ≡ set t a.around a.row → LineLeaves Base how s n a t m rows r t' rows
  child-leaves =
      opens_leaves p kind kind_is site
      (λ q. child-is how s n q.row kind site (says p kind kind_is) (site-says Base s n n site refl sited) k6 k4 k1 k7 q.body q.lent.reads.0 (more p kind kind_is k5 q))

-- a call, an async or a finish, whose row is row
module _ {how : Weigh} {s : List ℕ} {n : ℕ} {a : Present} {t m rows : List ℕ} (p : LineAsks Finishes how s n a t m rows) (kind : ℕ) (kind_is : kind ≡ kind_by Finishes s n)
    (row : ℕ) (row_is : row ≡ row_of s n kind a.row) (k6 : kind ≡ 6 → ⊥) (k5 : kind ≡ 5 → ⊥) (k7 : kind ≡ 7 → ⊥) (k1 : kind ≡ 1 → ⊥) where
  pub enter_leaves : (r : Present) (t' : List ℕ) → r ≡ entered row a → t' ≡ set t a.around a.row → LineLeaves Finishes how s n a t m rows r t' rows
  enter_leaves =
      opens_leaves p kind kind_is row
      (λ q. subst (λ (x : ℕ). Child Finishes how s n x q.body) (ap (row_of s n kind) (sym q.lent.held.0) ∙ sym row_is)
      (is-opened how s n q.row kind kind_is k6 k7 k1 q.body q.lent.reads.0 (more p kind kind_is k5 q)))

-- either, in a trace of either family
pub opened-leaves : (y : Family) {how : Weigh} {s : List ℕ} {n : ℕ} {a : Present} {t m rows : List ℕ} → LineAsks y how s n a t m rows → (kind : ℕ) → kind ≡ kind_by y s n → (row : ℕ) → row ≡ row_of s n kind a.row
    → ((kind ≡ 6) ⊎ ((kind ≡ 5) ⊎ ((kind ≡ 1) ⊎ ((kind ≡ 4) ⊎ (kind ≡ 7)))) → ⊥) → (r : Present) (t' : List ℕ) → r ≡ entered row a → t' ≡ set t a.around a.row → LineLeaves y how s n a t m rows r t' rows
opened-leaves Base {how} {s} {n} {a} p kind kind_is row row_is other =
    child-leaves p kind kind_is row (row_is ∙ row_named s n kind a.row (λ e. omega (arith, e, kind_is))) (λ e. other (inl e)) (λ e. other (inr (inl e))) (λ e. other (inr (inr (inr (inl e))))) (λ e. other (inr (inr (inr (inr e))))) (λ e. other (inr (inr (inl e))))
opened-leaves Finishes p kind kind_is row row_is other =
    enter_leaves p kind kind_is row row_is (λ e. other (inl e)) (λ e. other (inr (inl e))) (λ e. other (inr (inr (inr (inr e))))) (λ e. other (inr (inr (inl e))))

-- The loop.

-- it has come to line n: the open invocations, and what they come to, are as from the first line on, where the root's body b is left
pub record Turn (y : Family) (how : Weigh) (s : List ℕ) (lines : ℕ) (z m rows₀ : List ℕ) (n : ℕ) (a : Present) (t rows : List ℕ) (b : Body) : Type 0 where
  pub opened : List Left
  pub ends : n + lines_left opened ≡ lines
  pub lent : OnLent y how s n opened z a t m rows
  pub same_rows : (i : ℕ) → i < length rows₀ → get_or rows i 0 + on_left m n opened i ≡ get_or rows₀ i 0 + on_gain m 0 0 b i

-- the same of whatever body that is
pub record Loop (y : Family) (how : Weigh) (s : List ℕ) (lines : ℕ) (z m rows₀ : List ℕ) (n : ℕ) (a : Present) (t rows : List ℕ) : Type 0 where
  pub rows_long : length rows ≡ length rows₀
  pub turns : (q : ColumnAsks y how s lines z m rows₀) → Turn y how s lines z m rows₀ n a t rows q.body

-- at the first line the root is open
pub turn-start : (y : Family) (how : Weigh) (s : List ℕ) (lines : ℕ) (z m rows : List ℕ) → Loop y how s lines z m rows 0 root z rows
turn-start y how s lines z m rows = record { rows_long = refl; turns = λ q. record { opened = left 0 q.body ∷ []; ends = omega (arith, q.ends); lent = q.lent; same_rows = λ i h. omega arith } }

module _ {y : Family} {how : Weigh} {s : List ℕ} {lines : ℕ} {z m rows₀ : List ℕ} {n : ℕ} {a : Present} {t rows : List ℕ} (x : Loop y how s lines z m rows₀ n a t rows) where
  -- at least one invocation is open before the last line
  line_of : {b : Body} → n < lines → Turn y how s lines z m rows₀ n a t rows b → LineAsks y how s n a t m rows
  line_of less u = go u.opened u.ends u.lent
    where
      go : (k : List Left) → n + lines_left k ≡ lines → OnLent y how s n k z a t m rows → LineAsks y how s n a t m rows
      go [] e l = absurd (omega arith)
      go (v ∷ k) e l = record { row = v.row; body = v.body; around = k; z = z; lent = l }

  -- so it can be read
  pub turn-asks : n < lines → ColumnAsks y how s lines z m rows₀ → LineAsks y how s n a t m rows
  turn-asks less q = line_of less (x.turns q)

  -- it was read
  pub turn_again : n < lines → (r : Present) (t' rows' : List ℕ) → length rows' ≡ length rows → LineLeaves y how s n a t m rows r t' rows' → Loop y how s lines z m rows₀ (n + 1) r t' rows'
  turn_again less r t' rows' len leaves = record { rows_long = len ∙ x.rows_long; turns = λ q. let u = x.turns q in go q u.opened u.ends u.lent u.same_rows }
    where
      go : (q : ColumnAsks y how s lines z m rows₀) (k : List Left) → n + lines_left k ≡ lines → OnLent y how s n k z a t m rows → ((i : ℕ) → i < length rows₀ → get_or rows i 0 + on_left m n k i ≡ get_or rows₀ i 0 + on_gain m 0 0 q.body i) → Turn y how s lines z m rows₀ (n + 1) r t' rows' q.body
      go q [] e l w = absurd (omega arith)
      go q (v ∷ k) e l w =
          let d = leaves (record { row = v.row; body = v.body; around = k; z = z; lent = l }) in
          let b = v.body in
          record {
            opened = behind v.row b k;
            ends = omega (arith, lines-behind v.row b k);
            lent =
                record {
                  sites = l.sites;
                  D = l.D;
                  reads = read_behind y how s n v.row b k l.reads;
                  within = within-behind l.sites l.D v.row b k l.within;
                  zero = l.zero;
                  room = l.room;
                  held = held_next z (behind v.row b k) a r t' d.0;
                  rows_long = omega (arith, l.rows_long, len);
                  lines = l.lines;
                  fits = λ j h. omega (arith, l.fits j h, on-behind m n v.row b k (slot j Column.on_span), d.1 (slot j Column.on_span) (omega (arith, l.rows_long)));
                  ifits = λ j h. omega (arith, l.ifits j h, on-behind m n v.row b k (slot j Column.ion_span), d.1 (slot j Column.ion_span) (omega (arith, l.rows_long)));
                };
            same_rows = λ i h. omega (arith, w i h, on-behind m n v.row b k i, d.1 i (omega (arith, x.rows_long)));
          }

  -- none is open behind the last line
  module _ (last : lines ≤ n) where
    none_left : {b : Body} → (u : Turn y how s lines z m rows₀ n a t rows b) → u.opened ≡ []
    none_left u = go u.opened u.ends
      where
        go : (k : List Left) → n + lines_left k ≡ lines → k ≡ []
        go [] e = refl
        go (v ∷ k) e = absurd (omega (arith, size-some v.body))

    -- so the scratch is as it was
    pub turn-zero : ColumnAsks y how s lines z m rows₀ → t ≡ z
    turn-zero q =
        let u = x.turns q in
        subst (λ (k : List Left). Held z k a t) (none_left u) u.lent.held

    -- and nothing is left to add
    pub turn-done : ColumnLeaves y how s lines z m rows₀ rows
    turn-done q i h =
        let u = x.turns q in
        omega (arith, u.same_rows i h, ap (λ (k : List Left). on_left m n k i) (none_left u))
