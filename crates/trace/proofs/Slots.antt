-- Different columns stand apart, and each row number is one column of one row.
use mathlib.Core.Path.{◌≡◌, refl, sym, ◌∙◌, ap, subst}
use mathlib.Core.Bool.{Bool, true, false}
use Prim.Native.Nat.{ℕ, zero, suc, ◌+◌, ◌*◌, ◌/◌, ◌%◌, ◌≤◌, ◌<◌}
use native.Mathlib.Omega.{arith}
use lib.Dec.{eqb}
use borrow.Author.Tests.{eqb-true, eqb-false}
use Rattle.trace.specs.Rows.{columns}
use Rattle.trace.specs.Column.{Column, nth, slot}

-- the column with this number
abbrev column : ℕ → Column
column zero = Column.calls
column (suc zero) = Column.work
column (suc (suc zero)) = Column.span
column (suc (suc (suc zero))) = Column.local
column (suc (suc (suc (suc zero)))) = Column.on_span
column (suc (suc (suc (suc (suc zero))))) = Column.ilocal
column (suc (suc (suc (suc (suc (suc j)))))) = Column.ion_span

column-nth : (k : Column) → (column (nth k) ≡ k) × (nth k < columns)
column-nth Column.calls = (refl, omega arith)
column-nth Column.work = (refl, omega arith)
column-nth Column.span = (refl, omega arith)
column-nth Column.local = (refl, omega arith)
column-nth Column.on_span = (refl, omega arith)
column-nth Column.ilocal = (refl, omega arith)
column-nth Column.ion_span = (refl, omega arith)

pub nth_in : (k : Column) → nth k < columns
nth_in k = (column-nth k).1

nth-column : (j : ℕ) → j < columns → nth (column j) ≡ j
nth-column zero l = refl
nth-column (suc zero) l = refl
nth-column (suc (suc zero)) l = refl
nth-column (suc (suc (suc zero))) l = refl
nth-column (suc (suc (suc (suc zero)))) l = refl
nth-column (suc (suc (suc (suc (suc zero))))) l = refl
nth-column (suc (suc (suc (suc (suc (suc zero)))))) l = refl
nth-column (suc (suc (suc (suc (suc (suc (suc j))))))) l = absurd (omega arith)

-- LAW: what holds of each column of a row holds of each of its numbers
pub by-nth : (p : ℕ → Type 0) → ((k : Column) → p (nth k)) → (j : ℕ) → j < columns → p j
by-nth p h j l = subst p (nth-column j l) (h (column j))

-- whose row, and which column, row number i is
abbrev pub row_of : ℕ → ℕ
row_of i = i / columns

abbrev pub column_of : ℕ → Column
column_of i = column (i % columns)

pub slot_of : (i : ℕ) → slot (row_of i) (column_of i) ≡ i
slot_of i = let l : i % columns < columns = omega arith in omega (arith, nth-column (i % columns) l)

module _ (s : ℕ) (k : Column) where
  pub row-slot : row_of (slot s k) ≡ s
  row-slot = omega (arith, nth_in k)

  pub column-slot : column_of (slot s k) ≡ k
  column-slot = let e : slot s k % columns ≡ nth k = omega (arith, nth_in k) in ap column e ∙ (column-nth k).0

-- LAW: different columns, and the same column of different rows, stand apart
pub slot_apart : (s r : ℕ) (k l : Column) → slot s k ≡ slot r l → (s ≡ r) × (k ≡ l)
slot_apart s r k l e = (sym (row-slot s k) ∙ ap row_of e ∙ row-slot r l, sym (column-slot s k) ∙ ap column_of e ∙ column-slot r l)

-- LAW: each column of rows 0 to m stands among their numbers
pub slot_in : (m s : ℕ) (k : Column) → s ≤ m → slot s k < columns * (m + 1)
slot_in m s k h = omega (arith, nth_in k)

-- LAW: what holds of each column of rows 0 to m holds of each of their numbers
pub by_slots : (m : ℕ) (p : ℕ → Type 0) → ((s : ℕ) (k : Column) → s ≤ m → p (slot s k)) → (i : ℕ) → i < columns * (m + 1) → p i
by_slots m p h i l = subst p (slot_of i) (h (row_of i) (column_of i) (omega arith))

-- a column is this one or another
pub is-column : (k l : Column) → Dec (k ≡ l)
is-column k l = go (eqb (nth k) (nth l)) refl
  where
    go : (b : Bool) → eqb (nth k) (nth l) ≡ b → Dec (k ≡ l)
    go true e = yes (sym (column-nth k).0 ∙ ap column (eqb-true (nth k) (nth l) e) ∙ (column-nth l).0)
    go false e = no (λ q. eqb-false (nth k) (nth l) e (ap nth q))
