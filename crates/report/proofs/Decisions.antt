-- When each decision is taken, what it then promises, and that a promise leaves one outcome. Assumes nothing.
use Prim.Native.Nat.{ℕ, ◌+◌, ◌*◌, ◌≤◌, ◌<◌}
use mathlib.Core.List.{List, ◌++◌}
use mathlib.Core.Path.{◌≡◌, ap, ◌∙◌, sym}
use borrow.Author.Tests.{lt-ltb, le-ltb}
use lib.ListN.{length, drop}
use Rattle.std.specs.Prelude.{Ok, Err}
use Rattle.line.specs.Refusal.{refusal}
use Rattle.report.specs.Room.{Decision, write, refuse, fitting, answer, leave, Writes, Wrote}
use Rattle.trace.specs.Rows.{columns}
use Rattle.report.specs.Report.{reporting}
use Rattle.report.specs.Refusal.{refusal_text, print_refusal}

-- a refusal that is given, with the room as it was
pub refused : {d : Decision} (number line : ℕ) (room : List ℕ) → d ≡ refuse number line → Writes d (Err (refusal number line)) room room
refused number line room e = record { answered = sym (ap answer e); left = sym (ap (λ (d : Decision). leave d room) e) }

-- a text of n characters that is written
pub written : {d : Decision} (s before after : List ℕ) (n : ℕ) → d ≡ write s → length s ≡ n → after ≡ s ++ drop n before → Writes d (Ok n) before after
written s before after n e l f =
    record {
      answered = ap Ok (sym l) ∙ sym (ap answer e);
      left = f ∙ ap (λ (k : ℕ). s ++ drop k before) (sym l) ∙ sym (ap (λ (d : Decision). leave d before) e);
    }

-- one answer and one room for each decision
pub one-outcome : {d : Decision} {r q : Wrote} {before after other : List ℕ} → Writes d r before after → Writes d q before other → (r ≡ q) × (after ≡ other)
one-outcome w v = (w.answered ∙ sym v.answered, w.left ∙ sym v.left)

module _ (number : ℕ) (s : List ℕ) (room : ℕ) where
  pub fitting_short : room < length s → fitting number s room ≡ refuse number 0
  fitting_short h = simp (lt-ltb _ _ h)

  pub fitting-text : length s ≤ room → fitting number s room ≡ write s
  fitting-text h = simp (le-ltb _ _ h)

module _ (rows : List ℕ) (count asked : ℕ) (s : List ℕ) (room : ℕ) where
  pub report_1 : 255 < count → reporting rows count asked s room ≡ refuse 1 0
  report_1 h = simp (lt-ltb _ _ h)

  module _ (few : count ≤ 255) where
    pub report_4_rows : length rows < columns * (count + 1) → reporting rows count asked s room ≡ refuse 4 0
    report_4_rows h = simp (le-ltb _ _ few, lt-ltb _ _ h)

    module _ (enough : columns * (count + 1) ≤ length rows) where
      pub report_4_out : room < asked → reporting rows count asked s room ≡ refuse 4 0
      report_4_out h = simp (le-ltb _ _ few, le-ltb _ _ enough, lt-ltb _ _ h)

      pub report-text : asked ≤ room → reporting rows count asked s room ≡ write s
      report-text h = simp (le-ltb _ _ few, le-ltb _ _ enough, le-ltb _ _ h)

module _ (number line room : ℕ) where
  pub print_1_number : 255 < number → print_refusal number line room ≡ refuse 1 0
  print_1_number h = simp (lt-ltb _ _ h)

  module _ (fits : number ≤ 255) where
    pub print_1_line : 4294967295 < line → print_refusal number line room ≡ refuse 1 0
    print_1_line h = simp (le-ltb _ _ fits, lt-ltb _ _ h)

    pub print_fitting : line ≤ 4294967295 → {s : List ℕ} → s ≡ refusal_text number line → print_refusal number line room ≡ fitting 4 s room
    print_fitting fits' e = simp (le-ltb _ _ fits, le-ltb _ _ fits') (sym (ap (λ (s : List ℕ). fitting 4 s room) e))

    pub print_text : line ≤ 4294967295 → 13 ≤ room → print_refusal number line room ≡ write (refusal_text number line)
    print_text fits' h = simp (le-ltb _ _ fits, le-ltb _ _ fits', le-ltb _ _ h)
