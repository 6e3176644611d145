-- When each decision of the interface is taken, what it then promises, and that a code tells its refusal. Assumes
-- nothing.
use Prim.Native.Nat.{ℕ, ◌+◌, ◌*◌, ◌≤◌, ◌<◌}
use mathlib.Core.Bool.{Bool, true, false, cond, ◌&&◌, ◌||◌}
use mathlib.Core.List.{List, ◌++◌}
use mathlib.Core.Path.{◌≡◌, refl, ap, ◌∙◌, sym, ap₂}
use native.Mathlib.Omega.{arith}
use borrow.Author.Tests.{eq-eqb, ne_eqb, lt-ltb, le-ltb}
use lib.Dec.{ltb}
use lib.ListN.{length, drop}
use Rattle.std.specs.Prelude.{Ok, Err, is_ok}
use Rattle.line.specs.declared.Fields.{Fields}
use Rattle.line.specs.declared.Refusal.{Refusal}
use Rattle.line.specs.declared.Line.{Line}
use Rattle.line.specs.Family.{Family}
use Rattle.line.specs.declared.Frame.{Frame}
use Rattle.line.specs.Table.{Entry, frame, none, table_of, fields_of}
use Rattle.line.specs.Read.{tabled, read_line_of, Read, says}
use Rattle.line.specs.Write.{chars, narrow, is_frame, writable_of, write_chars_of, write_line_of}
use Rattle.line.proofs.Cases.{CaseOf, long, wrongs, unlisted, listed, line-case-of}
use Rattle.line.proofs.RoundTrip.{written_of, table-fields-of}
use Rattle.line.specs.Refusal.{refusal}
use Rattle.line.proofs.Same.{same-line, same-refusal}
use Rattle.line.proofs.Writable.{write_line-ok, write_line-is}
use Rattle.report.specs.Room.{Decision, write, refuse, answer, leave, Writes, Wrote, fitting}
use Rattle.trace.specs.Rows.{columns}
use Rattle.report.proofs.Decisions.{refused as writes-none, fitting-text}
use Rattle.report.specs.Report.{reporting}
use Rattle.report.specs.Refusal.{refusal_text, print_refusal}
use Rattle.nyolifuwe.specs.Code.{coded, code, Gives}
use Rattle.nyolifuwe.specs.Lines.{fields_in, framed, read_frame_of, write_frame_of}
use Rattle.nyolifuwe.specs.Texts.{counted, count, Tells}
use Rattle.nyolifuwe.specs.Inside.{framed_by, told, line_of, noted, written_by}

-- no two refusals have one code, and none has the code of acceptance
pub code-tells : (number number' line line' : ℕ) → number < 256 → number' < 256 → coded number line ≡ coded number' line' → (number ≡ number') × (line ≡ line')
code-tells number number' line line' h h' e = (omega arith, omega arith)

pub code_not_0 : (number line : ℕ) → 1 ≤ number → coded number line ≡ 0 → ⊥
code_not_0 number line h e = omega arith

-- a refusal that is given, with the room as it was
pub refused : {d : Decision} (number line : ℕ) (room : List ℕ) → d ≡ refuse number line → Gives d (coded number line) room room
refused number line room e = record { answered = sym (ap code e); left = sym (ap (λ (d : Decision). leave d room) e) }

-- what is put over the front of the room
pub given : {d : Decision} (s before after : List ℕ) → d ≡ write s → after ≡ s ++ drop (length s) before → Gives d 0 before after
given s before after e f = record { answered = sym (ap code e); left = f ∙ sym (ap (λ (d : Decision). leave d before) e) }

-- the line reader
module _ (i : Family) (s : List ℕ) (room : ℕ) where
  pub read_2 : (length s ≡ 23 → ⊥) → read_frame_of i s room ≡ refuse 2 0
  read_2 h = simp (ne_eqb _ _ h)

  pub read_4 : length s ≡ 23 → room < 5 → read_frame_of i s room ≡ refuse 4 0
  read_4 h few = simp (eq-eqb _ _ h, lt-ltb _ _ few)

  pub read_as : {r : Read} → length s ≡ 23 → 5 ≤ room → read_line_of i s 0 ≡ r → read_frame_of i s room ≡ framed r
  read_as h enough e =
      ap (λ (b : Bool). cond b (cond (ltb room 5) (refuse 4 0) (framed (read_line_of i s 0))) (refuse 2 0)) (eq-eqb _ _ h)
      ∙ ap (λ (b : Bool). cond b (refuse 4 0) (framed (read_line_of i s 0))) (le-ltb _ _ enough)
      ∙ ap framed e

pub read_at_0 : (i : Family) (s : List ℕ) (r : Refusal) → read_line_of i s 0 ≡ Err r → r.line ≤ 4294967295
read_at_0 i s r e = go (line-case-of i s 0)
  where
    go : CaseOf i s 0 (read_line_of i s 0) → r.line ≤ 4294967295
    go (long h q) = let z = (same-refusal (sym e ∙ q)).1 in omega arith
    go (wrongs h w q) = let z = (same-refusal (sym e ∙ q)).1 in omega arith
    go (unlisted h w t q) = let z = (same-refusal (sym e ∙ q)).1 in omega arith
    go (listed h w f t q) = absurd (let z : ◌≡◌ {A = ℕ} 0 1 = cc in omega arith)

-- five fields that are a frame, and that are not
pub data Framed (i : Family) (x : Fields) (r : Read) : Type 0 where
  as_frame : (f : Frame) → narrow x ≡ true → table_of i x ≡ frame f → r ≡ says 0 f → Framed i x r
  as_none : (narrow x && is_frame (table_of i x)) ≡ false → r ≡ Err (refusal 6 0) → Framed i x r

framed-case : (i : Family) (x : Fields) → Framed i x (framed_by i x)
framed-case i x = go (narrow x) (table_of i x) refl refl
  where
    go : (b : Bool) (e : Entry) → narrow x ≡ b → table_of i x ≡ e → Framed i x (framed_by i x)
    go false e hb he = as_none (simp hb) (simp hb)
    go true none hb he = as_none (simp (hb, he)) (simp hb (ap (λ (y : Entry). tabled y 0) he))
    go true (frame f) hb he = as_frame f hb he (simp hb (ap (λ (y : Entry). tabled y 0) he))

-- five fields whose line is written: nothing where they are no frame, else the line of that frame
module _ (i : Family) (x : Fields) where
  pub unwritten : (out : List ℕ) (r : Refusal) → framed_by i x ≡ Err r → Writes (written_by i x (length out)) (Err r) out out
  unwritten out r e = go (framed-case i x)
    where
      go : Framed i x (framed_by i x) → Writes (written_by i x (length out)) (Err r) out out
      go (as_frame f h t q) = absurd (let z : ◌≡◌ {A = ℕ} 0 1 = cc in omega arith)
      go (as_none h q) =
          let s = same-refusal (sym e ∙ q) in
          let k : written_by i x (length out) ≡ refuse 6 0 = simp h in
          writes-none r.number r.line out (k ∙ sym (ap₂ refuse s.0 s.1))

  module _ (l : Line) (e : framed_by i x ≡ Ok l) where
    -- the fields are those of a frame that is writable
    written-frame : (writable_of i l.frame ≡ true) × (fields_of l.frame ≡ x)
    written-frame = go (framed-case i x)
      where
        go : Framed i x (framed_by i x) → (writable_of i l.frame ≡ true) × (fields_of l.frame ≡ x)
        go (as_none h q) = absurd (let z : ◌≡◌ {A = ℕ} 0 1 = cc in omega arith)
        go (as_frame f h t q) =
            let same = (same-line (sym e ∙ q)).1 in
            let y = table-fields-of i x l.frame (t ∙ ap frame (sym same)) in
            (ap (λ (z : Fields). narrow z && is_frame (table_of i z)) y ∙ simp (h, t), y)

    pub line-written : is_ok (write_line_of i l.frame) ≡ true
    line-written = ap is_ok (write_line-is i l.frame written-frame.0)

    -- so what the line writer gives is what is written
    pub written-line : (room : ℕ) (s : List ℕ) → write_line_of i l.frame ≡ Ok s → fitting 4 s room ≡ written_by i x room
    written-line room s w =
        let h = written-frame in
        let k = (write_line-ok i l.frame s w).1 in
        ap (λ (y : List ℕ). fitting 4 y room) (k ∙ written_of i l.frame h.0)
        ∙ sym (ap (λ (b : Bool). cond b (fitting 4 (chars (fields_of l.frame)) room) (refuse 6 0)) h.0)
        ∙ ap (λ (y : Fields). cond (narrow y && is_frame (table_of i y)) (fitting 4 (chars y) room) (refuse 6 0)) h.1

-- room for a line and its count is enough, and what is decided is the writer's
pub written-so : (i : Family) (n : List ℕ) (room written : ℕ) → 5 ≤ length n → 23 ≤ room → 1 ≤ written → written_by i (fields_in n) room ≡ write_frame_of i n room written
written-so i n room written five enough counts = simp (le-ltb _ _ five, le-ltb _ _ enough, le-ltb _ _ counts)

-- the writers of text: a refusal that is given, with both rooms as they were
pub untold : {d : Decision} (number line : ℕ) (text written : List ℕ) → d ≡ refuse number line → Tells d (coded number line) text text written written
untold number line text written e =
    record {
      answered = sym (ap code e);
      text_left = sym (ap (λ (d : Decision). leave d text) e);
      count_left = sym (ap (λ (d : Decision). leave (count d) written) e);
    }

-- room for the count is enough, and a decision that is told of is the writer's
pub counted_is : (d : Decision) (room : ℕ) → 1 ≤ room → counted d room ≡ d
counted_is (write s) room h = simp (le-ltb _ _ h)
counted_is (refuse number line) room h = refl

pub tells : (d : Decision) {r : Wrote} {given : ℕ} {text text' written written' : List ℕ} → Writes d r text text' → given ≡ told r → written' ≡ noted r written → Tells d given text text' written written'
tells (write s) {written = written} w g n = record { answered = g ∙ ap told w.answered; text_left = w.left; count_left = n ∙ ap (λ (r : Wrote). noted r written) w.answered }
tells (refuse number line) {written = written} w g n = record { answered = g ∙ ap told w.answered; text_left = w.left; count_left = n ∙ ap (λ (r : Wrote). noted r written) w.answered }

-- the reports
module _ (rows : List ℕ) (number asked : ℕ) (s : List ℕ) (room : ℕ) where
  pub report_1 : (w : ℕ) → 255 < number → counted (reporting rows number asked s room) w ≡ refuse 1 0
  report_1 w h = simp (lt-ltb _ _ h)

  pub report_4 : (w : ℕ) → number ≤ 255 → w < 1 → counted (reporting rows number asked s room) w ≡ refuse 4 0
  report_4 w h few = simp (le-ltb _ _ h) (go (ltb (length rows) (columns * (number + 1)) || ltb room asked))
    where
      go : (b : Bool) → counted (cond b (refuse 4 0) (write s)) w ≡ refuse 4 0
      go true = refl
      go false = simp (lt-ltb _ _ few)

  pub report_at_0 : {r : Wrote} → r ≡ answer (reporting rows number asked s room) → line_of r ≤ 65536
  report_at_0 e = let z = ap line_of e ∙ go (ltb 255 number) (ltb (length rows) (columns * (number + 1)) || ltb room asked) in omega arith
    where
      go : (a b : Bool) → line_of (answer (cond a (refuse 1 0) (cond b (refuse 4 0) (write s)))) ≡ 0
      go true b = refl
      go false true = refl
      go false false = refl

-- the line of a refusal
module _ (number line room : ℕ) where
  pub print_1_number : (w : ℕ) → 255 < number → counted (print_refusal number line room) w ≡ refuse 1 0
  print_1_number w h = simp (lt-ltb _ _ h)

  pub print_1_line : (w : ℕ) → number ≤ 255 → 4294967295 < line → counted (print_refusal number line room) w ≡ refuse 1 0
  print_1_line w h h' = simp (le-ltb _ _ h, lt-ltb _ _ h')

  pub print_4 : (w : ℕ) → number ≤ 255 → line ≤ 4294967295 → w < 1 → counted (print_refusal number line room) w ≡ refuse 4 0
  print_4 w h h' few = simp (le-ltb _ _ h, le-ltb _ _ h') (go (ltb room 13))
    where
      go : (b : Bool) → counted (cond b (refuse 4 0) (write (refusal_text number line))) w ≡ refuse 4 0
      go true = refl
      go false = simp (lt-ltb _ _ few)

  pub print_at_0 : {r : Wrote} → r ≡ answer (print_refusal number line room) → line_of r ≤ 65536
  print_at_0 e = let z = ap line_of e ∙ go (ltb 255 number || ltb 4294967295 line) (ltb room 13) in omega arith
    where
      go : (a b : Bool) → line_of (answer (cond a (refuse 1 0) (cond b (refuse 4 0) (write (refusal_text number line))))) ≡ 0
      go true b = refl
      go false true = refl
      go false false = refl
