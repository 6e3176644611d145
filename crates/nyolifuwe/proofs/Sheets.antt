-- When the exported writer and reader of comma-separated text take each decision, what they then promise, and that a
-- promise leaves one outcome. Assumes nothing.
use Prim.Native.Nat.{ℕ, ◌+◌, ◌*◌, ◌-◌, ◌≤◌, ◌<◌}
use mathlib.Core.Bool.{Bool, true, false, cond, ◌||◌}
use mathlib.Core.List.{List}
use mathlib.Core.Path.{◌≡◌, refl, ap, ◌∙◌, sym}
use native.Mathlib.Omega.{arith}
use borrow.Author.Tests.{lt-ltb, le-ltb}
use lib.Dec.{ltb}
use lib.ListN.{length}
use Rattle.std.proofs.Common.{Result}
use Rattle.trace.specs.Rows.{columns}
use Rattle.report.specs.Room.{Decision, write, refuse, fitting, answer, leave, Wrote}
use Rattle.line.specs.declared.Refusal.{Refusal}
use Rattle.sheet.specs.Text.{sheet_text}
use Rattle.sheet.specs.Writing.{writing}
use Rattle.sheet.specs.Grammar.{Sheet, sheet, bad, sheet_of}
use Rattle.sheet.specs.Reading.{Taken, fill, taken, reading, Reads}
use Rattle.sheet.specs.Reading.{refuse as turn, answer as tell_of, leave as leave_rows}
use Rattle.sheet.proofs.Apart.{bad-few}
use Rattle.nyolifuwe.specs.Texts.{Tells}
use Rattle.nyolifuwe.specs.Sheets.{csv_write, csv_read, code_of, sites, Takes}
use Rattle.nyolifuwe.specs.Inside.{line_of, told, noted}

-- the writer
module _ (rows : List ℕ) (number room w : ℕ) where
  pub csv_1 : 255 < number → csv_write rows number room w ≡ refuse 1 0
  csv_1 h = simp (lt-ltb _ _ h)

  pub csv_4 : number ≤ 255 → w < 1 → csv_write rows number room w ≡ refuse 4 0
  csv_4 h few = simp (le-ltb _ _ h, lt-ltb _ _ few) (go (ltb (length rows) (columns * (number + 1))))
    where
      go : (b : Bool) → cond (b || true) (refuse 4 0) (fitting 16 (sheet_text rows number) room) ≡ refuse 4 0
      go true = refl
      go false = refl

  pub csv_is : 1 ≤ w → csv_write rows number room w ≡ writing rows number room
  csv_is h = simp (le-ltb _ _ h) (go (ltb (length rows) (columns * (number + 1))))
    where
      go : (b : Bool) → cond (ltb 255 number) (refuse 1 0) (cond (b || false) (refuse 4 0) (fitting 16 (sheet_text rows number) room))
          ≡ cond (ltb 255 number) (refuse 1 0) (cond b (refuse 4 0) (fitting 16 (sheet_text rows number) room))
      go true = refl
      go false = refl

pub csv_at_0 : (rows : List ℕ) (number room : ℕ) {r : Wrote} → r ≡ answer (writing rows number room) → line_of r ≤ 65536
csv_at_0 rows number room e =
    let z = ap line_of e ∙ go (ltb 255 number) (ltb (length rows) (columns * (number + 1))) (ltb room (length (sheet_text rows number))) in
    omega arith
  where
    go : (a b c : Bool)
        → line_of (answer (cond a (refuse 1 0) (cond b (refuse 4 0) (cond c (refuse 16 0) (write (sheet_text rows number)))))) ≡ 0
    go true b c = refl
    go false true c = refl
    go false false true = refl
    go false false false = refl

-- the reader: without room for the count, and with it
pub csv_untaken : (s rows count : List ℕ) → length count < 1 → Takes (csv_read s (length rows) (length count)) 4 rows rows count count
csv_untaken s rows count few =
    let e : csv_read s (length rows) (length count) ≡ turn 4 0 = simp (lt-ltb _ _ few) in
    record {
      answered = sym (ap code_of e);
      rows_left = sym (ap (λ (t : Taken). leave_rows t rows) e);
      count_left = sym (ap (λ (t : Taken). leave (sites t) count) e);
    }

takes : (t : Taken) {r : Result ℕ Refusal} {given : ℕ} {rows rows' count count' : List ℕ} → Reads t r rows rows' → given ≡ told r
    → count' ≡ noted r count → Takes t given rows rows' count count'
takes (fill n xs) {count = count} w g k = record { answered = g ∙ ap told w.answered; rows_left = w.left; count_left = k ∙ ap (λ (r : Result ℕ Refusal). noted r count) w.answered }
takes (turn n l) {count = count} w g k = record { answered = g ∙ ap told w.answered; rows_left = w.left; count_left = k ∙ ap (λ (r : Result ℕ Refusal). noted r count) w.answered }

pub csv_taken : (s rows rows' count count' : List ℕ) {r : Result ℕ Refusal} {given : ℕ} → 1 ≤ length count
    → Reads (reading s (length rows)) r rows rows' → given ≡ told r → count' ≡ noted r count
    → Takes (csv_read s (length rows) (length count)) given rows rows' count count'
csv_taken s rows rows' count count' {given = given} some w g k =
    let e : csv_read s (length rows) (length count) ≡ reading s (length rows) = simp (le-ltb _ _ some) in
    rw e (takes (reading s (length rows)) w g k)

-- the record in the reader's answer
pub csv_record : (s : List ℕ) (room : ℕ) {r : Result ℕ Refusal} → r ≡ tell_of (reading s room) → line_of r ≤ 65536
unfolding reading
csv_record s room {r} e = go (sheet_of s) refl
  where
    room-enough : (b : Bool) (n : ℕ) (xs : List ℕ) → line_of (tell_of (cond b (turn 16 0) (fill n xs))) ≡ 0
    room-enough true n xs = refl
    room-enough false n xs = refl

    go : (x : Sheet) → sheet_of s ≡ x → line_of r ≤ 65536
    go (sheet n xs) h =
        omega
        (arith, ap line_of e, ap (λ (y : Sheet). line_of (tell_of (taken y room))) h, room-enough (ltb room (columns * n)) (n - 1) xs)
    go (bad k) h = omega (arith, ap line_of e, ap (λ (y : Sheet). line_of (tell_of (taken y room))) h, bad-few s k h)

-- LAW: a decision of the writer leaves one code and one outcome
pub one_telling : {d : Decision} {given given' : ℕ} {text text' text'' written written' written'' : List ℕ}
    → Tells d given text text' written written' → Tells d given' text text'' written written''
    → (given ≡ given') × (text' ≡ text'') × (written' ≡ written'')
one_telling a b = (a.answered ∙ sym b.answered, a.text_left ∙ sym b.text_left, a.count_left ∙ sym b.count_left)

-- LAW: so does one of the reader
pub one_taking : {t : Taken} {given given' : ℕ} {rows rows' rows'' count count' count'' : List ℕ}
    → Takes t given rows rows' count count' → Takes t given' rows rows'' count count''
    → (given ≡ given') × (rows' ≡ rows'') × (count' ≡ count'')
one_taking a b = (a.answered ∙ sym b.answered, a.rows_left ∙ sym b.rows_left, a.count_left ∙ sym b.count_left)
