-- When the writer and the reader take each decision, what they then promise, and that the reader's promise leaves one
-- outcome. Assumes nothing.
use Prim.Native.Nat.{ℕ, ◌+◌, ◌*◌, ◌-◌, ◌≤◌, ◌<◌}
use mathlib.Core.Bool.{Bool, true, false, cond}
use mathlib.Core.List.{List, ◌++◌}
use mathlib.Core.Path.{◌≡◌, refl, ap, ◌∙◌, sym}
use native.Mathlib.Omega.{arith}
use borrow.Author.Tests.{lt-ltb, le-ltb, ltb-false}
use lib.Dec.{ltb}
use lib.ListN.{length, drop}
use Rattle.std.proofs.Common.{Result, Ok, Err}
use Rattle.line.specs.Refusal.{refusal}
use Rattle.line.specs.declared.Refusal.{Refusal}
use Rattle.std.specs.Prelude.{Ok}
use Rattle.trace.specs.Rows.{columns}
use Rattle.report.specs.Room.{write, refuse, fitting, answer}
use Rattle.sheet.specs.Text.{sheet_text}
use Rattle.sheet.specs.Writing.{writing}
use Rattle.sheet.specs.Grammar.{Sheet, sheet, bad, sheet_of}
use Rattle.sheet.specs.Reading.{Taken, fill, taken, reading, Reads}
use Rattle.sheet.specs.Reading.{refuse as turn, answer as tell, leave}

module _ (rows : List ℕ) (count room : ℕ) where
  pub writing_1 : 255 < count → writing rows count room ≡ refuse 1 0
  writing_1 h = simp (lt-ltb _ _ h)

  module _ (few : count ≤ 255) where
    pub writing_4 : length rows < columns * (count + 1) → writing rows count room ≡ refuse 4 0
    writing_4 h = simp (le-ltb _ _ few, lt-ltb _ _ h)

    pub writing-fitting : columns * (count + 1) ≤ length rows → writing rows count room ≡ fitting 16 (sheet_text rows count) room
    writing-fitting h = simp (le-ltb _ _ few, le-ltb _ _ h)

  -- characters are written only where the count is within its limit and the rows are enough, and they are the text's
  pub writing-accepts : (n : ℕ) → answer (writing rows count room) ≡ Ok n
      → (count ≤ 255) × (columns * (count + 1) ≤ length rows) × (n ≡ length (sheet_text rows count)) × (writing rows count room ≡ write (sheet_text rows count))
  writing-accepts n e =
      go (ltb 255 count) (ltb (length rows) (columns * (count + 1))) (ltb room (length (sheet_text rows count))) refl refl refl
      e
    where
      go : (a b c : Bool) → ltb 255 count ≡ a → ltb (length rows) (columns * (count + 1)) ≡ b
          → ltb room (length (sheet_text rows count)) ≡ c
          → answer (cond a (refuse 1 0) (cond b (refuse 4 0) (cond c (refuse 16 0) (write (sheet_text rows count))))) ≡ Ok n
          → (count ≤ 255) × (columns * (count + 1) ≤ length rows) × (n ≡ length (sheet_text rows count)) × (writing rows count room ≡ write (sheet_text rows count))
      go true b c f g h k = absurd (let z : ◌≡◌ {A = ℕ} 0 1 = cc in omega arith)
      go false true c f g h k = absurd (let z : ◌≡◌ {A = ℕ} 0 1 = cc in omega arith)
      go false false true f g h k = absurd (let z : ◌≡◌ {A = ℕ} 0 1 = cc in omega arith)
      go false false false f g h k =
          (ltb-false 255 count f, ltb-false (length rows) (columns * (count + 1)) g, (let q : n ≡ length (sheet_text rows count) = cc in q), simp (f, g, h))

-- one answer and one room for each decision of the reader
pub one-reading : {t : Taken} {r q : Result ℕ Refusal} {before after other : List ℕ} → Reads t r before after → Reads t q before other
    → (r ≡ q) × (after ≡ other)
one-reading w v = (w.answered ∙ sym v.answered, w.left ∙ sym v.left)

module _ (text before : List ℕ) where
  refused : (number line : ℕ) → reading text (length before) ≡ turn number line
      → Reads (reading text (length before)) (Err (refusal number line)) before before
  refused number line e = record { answered = sym (ap tell e); left = sym (ap (λ (d : Taken). leave d before) e) }

  pub refused_15 : (k : ℕ) → sheet_of text ≡ bad k → Reads (reading text (length before)) (Err (refusal 15 k)) before before
  unfolding reading
  refused_15 k e = refused 15 k (ap (λ (x : Sheet). taken x (length before)) e)

  module _ (n : ℕ) (numbers : List ℕ) (e : sheet_of text ≡ sheet n numbers) where
    pub refused_16 : length before < columns * n → Reads (reading text (length before)) (Err (refusal 16 0)) before before
    unfolding reading
    refused_16 h =
        refused 16 0
        (ap (λ (x : Sheet). taken x (length before)) e
        ∙ ap (λ (b : Bool). cond b (turn 16 0) (fill (n - 1) numbers)) (lt-ltb (length before) (columns * n) h))

    pub fills : columns * n ≤ length before → reading text (length before) ≡ fill (n - 1) numbers
    unfolding reading
    fills h =
        ap (λ (x : Sheet). taken x (length before)) e
        ∙ ap (λ (b : Bool). cond b (turn 16 0) (fill (n - 1) numbers)) (le-ltb (length before) (columns * n) h)

    pub filled : (after : List ℕ) → columns * n ≤ length before → length numbers ≡ columns * n
        → after ≡ numbers ++ drop (columns * n) before → Reads (reading text (length before)) (Ok (n - 1)) before after
    filled after h l f =
        record {
          answered = sym (ap tell (fills h));
          left = f ∙ ap (λ (k : ℕ). numbers ++ drop k before) (sym l) ∙ sym (ap (λ (d : Taken). leave d before) (fills h));
        }
