-- Which rows are printed: a report is the pieces of its rows, one for each; so many characters are asked for; and what is
-- decided about the pieces is what either report decides. Assumes nothing.
use Prim.Native.Nat.{ℕ, zero, suc, ◌+◌, ◌*◌, ◌-◌, ◌≤◌}
use mathlib.Core.Bool.{Bool, true, false, cond, ◌||◌}
use mathlib.Core.List.{List, [], ◌∷◌, ◌++◌, flat_map}
use mathlib.Core.Path.{◌≡◌, refl, ap, ◌∙◌, sym}
use native.Mathlib.Omega.{arith}
use borrow.Author.Tests.{ltb-false, ne_eqb}
use borrow.Rule.Slice.PartMut.{put_mid}
use lib.Dec.{ltb}
use lib.ListN.{length, get_or, length-append}
use Rattle.trace.specs.Rows.{columns}
use Rattle.trace.specs.Column.{Column, slot}
use Rattle.report.specs.Room.{write, refuse, Lays}
use Rattle.report.specs.Rows.{numbers_of, row_line, width}
use Rattle.report.specs.Report.{first, lines_of, reporting, full_report, picked, printed, report}
use Rattle.report.specs.Pieces.{asked, piece, pieces, decided}
use Rattle.report.proofs.Lines.{line-length, row-length, first-length, flat_map_none}
use Rattle.report.proofs.Pieces.{flat_map_last}
use Rattle.report.proofs.Laying.{laid-part, lays_nothing, lays_as}

-- of no test that fails nothing is left out
pub picked_all : (p : ℕ → Bool) (l : List ℕ) → ((r : ℕ) → p r ≡ true) → picked p l ≡ l
picked_all p [] h = refl
picked_all p (r ∷ l) h = rw (h r) (ap (λ (m : List ℕ). r ∷ m) (picked_all p l h))

pub picked_last : (p : ℕ → Bool) (l : List ℕ) (r : ℕ) → picked p (l ++ r ∷ []) ≡ picked p l ++ cond (p r) (r ∷ []) []
picked_last p [] r = refl
picked_last p (x ∷ l) r = go (p x) (picked_last p l r)
  where
    go : (b : Bool) → picked p (l ++ r ∷ []) ≡ picked p l ++ cond (p r) (r ∷ []) []
        → cond b (x ∷ picked p (l ++ r ∷ [])) (picked p (l ++ r ∷ [])) ≡ cond b (x ∷ picked p l) (picked p l) ++ cond (p r) (r ∷ []) []
    go true e = ap (λ (m : List ℕ). x ∷ m) e
    go false e = e

module _ (idle : Bool) (rows : List ℕ) where
  -- the pieces of some rows are the lines of those that are printed
  pub pieces_are : (l : List ℕ) → flat_map (piece idle rows) l ≡ lines_of rows (picked (asked idle rows) l)
  unfolding flat_map
  pieces_are [] = refl
  pieces_are (r ∷ l) = go (asked idle rows r) (pieces_are l)
    where
      go : (b : Bool) → flat_map (piece idle rows) l ≡ lines_of rows (picked (asked idle rows) l)
          → cond b (row_line rows r) [] ++ flat_map (piece idle rows) l ≡ lines_of rows (cond b (r ∷ picked (asked idle rows) l) (picked (asked idle rows) l))
      go true e = ap (λ (m : List ℕ). row_line rows r ++ m) e
      go false e = e

  -- a piece is a line or nothing
  pub piece-length : (r : ℕ) → columns * (r + 1) ≤ length rows → length (piece idle rows r) ≡ cond (asked idle rows r) width 0
  piece-length r h = go (asked idle rows r)
    where
      go : (b : Bool) → length (cond b (row_line rows r) []) ≡ cond b width 0
      go true = line-length r (numbers_of rows r) (row-length rows r h)
      go false = refl

  -- a line's characters for each row that is printed
  pub pieces-length : (n : ℕ) → columns * n ≤ length rows → length (pieces idle rows n) ≡ width * length (picked (asked idle rows) (first n))
  pieces-length zero h = ap length (flat_map_none (piece idle rows))
  pieces-length (suc n) h =
      ap length (flat_map_last (piece idle rows) (first n) n)
      ∙ length-append (pieces idle rows n) (piece idle rows n)
      ∙ go (asked idle rows n) (pieces-length n (omega arith)) (piece-length n (omega arith))
      ∙ ap (λ (l : List ℕ). width * length l) (sym (picked_last (asked idle rows) (first n) n))
    where
      go : (b : Bool) → length (pieces idle rows n) ≡ width * length (picked (asked idle rows) (first n)) → length (piece idle rows n) ≡ cond b width 0
          → length (pieces idle rows n) + length (piece idle rows n) ≡ width * length (picked (asked idle rows) (first n) ++ cond b (n ∷ []) [])
      go true e f = omega (arith, e, f, length-append (picked (asked idle rows) (first n)) (n ∷ []))
      go false e f = omega (arith, e, f, length-append (picked (asked idle rows) (first n)) [])

-- the characters that are asked for matter only where the rows are there
same_asked : (rows : List ℕ) (count room a b : ℕ) (s : List ℕ) → (columns * (count + 1) ≤ length rows → a ≡ b) → reporting rows count a s room ≡ reporting rows count b s room
same_asked rows count room a b s e = go (ltb (length rows) (columns * (count + 1))) (λ h. e (ltb-false _ _ h))
  where
    go : (t : Bool) → (t ≡ false → a ≡ b)
        → cond (ltb 255 count) (refuse 1 0) (cond (t || ltb room a) (refuse 4 0) (write s)) ≡ cond (ltb 255 count) (refuse 1 0) (cond (t || ltb room b) (refuse 4 0) (write s))
    go true f = refl
    go false f = ap (λ (n : ℕ). cond (ltb 255 count) (refuse 1 0) (cond (ltb room n) (refuse 4 0) (write s))) (f refl)

module _ (rows : List ℕ) (count room : ℕ) where
  -- without idle rows it is the report
  pub decided-report : decided false rows count room ≡ report rows count room
  decided-report =
      same_asked rows count room _ _ (pieces false rows (count + 1)) (pieces-length false rows (count + 1))
      ∙ ap (λ (s : List ℕ). reporting rows count (width * length (printed rows count)) s room) (pieces_are false rows (first (count + 1)))

  -- with them it is the full report
  pub all-printed : picked (asked true rows) (first (count + 1)) ≡ first (count + 1)
  all-printed = picked_all (asked true rows) (first (count + 1)) (λ r. refl)

  pub decided_full : decided true rows count room ≡ full_report rows count room
  decided_full =
      same_asked rows count room _ _ (pieces true rows (count + 1)) (λ h. pieces-length true rows (count + 1) h ∙ ap (λ (l : List ℕ). width * length l) all-printed ∙ ap (λ (n : ℕ). width * n) (first-length (count + 1)))
      ∙ ap (λ (s : List ℕ). reporting rows count (width * (count + 1)) s room) (pieces_are true rows (first (count + 1)) ∙ ap (lines_of rows) all-printed)

-- when a row is printed: row 0 always, another where it has calls or where idle rows are asked for
pub calls-asked : (idle : Bool) (rows : List ℕ) (r : ℕ) → idle ≡ false → (r ≡ 0 → ⊥) → ltb 0 (get_or rows (slot r Column.calls) 0) ≡ asked idle rows r
calls-asked idle rows r e f = rw (e, ne_eqb r 0 f)

-- the characters of one row more, as they are counted
pub line-counted : (idle : Bool) (rows : List ℕ) (r : ℕ) → columns * (r + 1) ≤ length rows → true ≡ asked idle rows r → width ≡ length (piece idle rows r)
line-counted idle rows r h e = sym (piece-length idle rows r h ∙ ap (λ (b : Bool). cond b width 0) (sym e))

-- a row that is not printed leaves the output as it was; the line of one that is printed is laid into it
pub lays_none : (idle : Bool) (rows : List ℕ) (r at : ℕ) (out : List ℕ) → false ≡ asked idle rows r → Lays at (piece idle rows r) out at out
lays_none idle rows r at out e = lays_as at (ap (λ (b : Bool). cond b (row_line rows r) []) e) (lays_nothing at out)

pub lays_line : (idle : Bool) (rows : List ℕ) (r at : ℕ) (out line : List ℕ) → columns * (r + 1) ≤ length rows → at + length (piece idle rows r) ≤ length out → true ≡ asked idle rows r
    → line ≡ row_line rows r → Lays at (piece idle rows r) out (at + width) (put_mid at (at + width - at) out line)
lays_line idle rows r at out line h fits e f =
    let long = line-counted idle rows r h e in
    let is : line ≡ piece idle rows r = f ∙ ap (λ (b : Bool). cond b (row_line rows r) []) e in
    record {
      ends = ap (λ (n : ℕ). at + n) long;
      left = ap (put_mid at (at + width - at) out) is ∙ laid-part at out (piece idle rows r) fits (at + width) (ap (λ (n : ℕ). at + n) long);
    }
