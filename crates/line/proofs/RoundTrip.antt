-- The round trip: a writable frame is written to a line that reads as that frame, and a line that reads as a frame is
-- what that frame is written to. Assumes nothing.
use Prim.Native.Nat.{ℕ, ◌+◌, ◌^◌, ◌≤◌, ◌<◌}
use mathlib.Core.Bool.{Bool, true, false, not, cond, ◌&&◌}
use mathlib.Core.List.{List, [], ◌∷◌, ◌++◌, append_assoc}
use mathlib.Core.Path.{◌≡◌, refl, ap, ◌∙◌, sym}
use native.Mathlib.Omega.{arith}
use borrow.Author.Tests.{eqb-true, lt-ltb, ltb-true, not-false}
use lib.Dec.{eqb, leb, ltb}
use lib.ListN.{length, get_or, take, drop, replicate, take-append-drop, drop_of_length-le}
use lib.Seq.{drop-cons}
use Rattle.digits.specs.Digits.{all_digits, small_form, number, digits}
use Rattle.digits.proofs.Laws.{and_left, and_right, digits_good, digits_number, number_digits, number-below, small-append}
use Rattle.line.specs.Family.{Family, Base, Finishes}
use Rattle.line.specs.declared.Frame.{Frame}
use Rattle.line.specs.declared.Frame.TheVariants.{Site, Call, Spawn, Sync, Return, Cost, Instructions, Async, Finish}
use Rattle.line.specs.Table.{Fields, Entry, frame, only, value_only, is_base, in_base, in_finishes, table_of, table, fields_of}
use Rattle.line.specs.Read.{part, fields, wrong, tabled, read_line_of, read_line, says}
use Rattle.line.specs.Write.{chars, narrow, is_frame, writable_of, write_chars_of, writable, write_chars}
use Rattle.line.proofs.Same.{same-line}
use Rattle.line.proofs.Lines.{part_length, parts, all-parts, read_tabled}
use Rattle.line.proofs.Cases.{frames-of}

-- five fields that have room in their digits
pub record Narrow (x : Fields) : Type 0 where
  pub kind : x.kind < 16 ^ 2
  pub site : x.site < 16 ^ 4
  pub value : x.value < 16 ^ 8
  pub file : x.file < 16 ^ 4
  pub column : x.column < 16 ^ 4

pub narrow-fits : (x : Fields) → narrow x ≡ true → Narrow x
narrow-fits x e =
    let four = and_left (ltb x.kind 256 && ltb x.site 65536 && ltb x.value 4294967296 && ltb x.file 65536) (ltb x.column 65536) e in
    let three = and_left (ltb x.kind 256 && ltb x.site 65536 && ltb x.value 4294967296) (ltb x.file 65536) four in
    let two = and_left (ltb x.kind 256 && ltb x.site 65536) (ltb x.value 4294967296) three in
    record {
      kind = ltb-true x.kind 256 (and_left (ltb x.kind 256) (ltb x.site 65536) two);
      site = ltb-true x.site 65536 (and_right (ltb x.kind 256) (ltb x.site 65536) two);
      value = ltb-true x.value 4294967296 (and_right (ltb x.kind 256 && ltb x.site 65536) (ltb x.value 4294967296) three);
      file = ltb-true x.file 65536 (and_right (ltb x.kind 256 && ltb x.site 65536 && ltb x.value 4294967296) (ltb x.file 65536) four);
      column = ltb-true x.column 65536 (and_right (ltb x.kind 256 && ltb x.site 65536 && ltb x.value 4294967296 && ltb x.file 65536) (ltb x.column 65536) e);
    }

fits-narrow : (x : Fields) → Narrow x → narrow x ≡ true
fits-narrow x h = simp (lt-ltb x.kind 256 h.kind, lt-ltb x.site 65536 h.site, lt-ltb x.value 4294967296 h.value, lt-ltb x.file 65536 h.file, lt-ltb x.column 65536 h.column)

-- five tests, and five numbers
all_true : (a b c d e : Bool) → a ≡ true → b ≡ true → c ≡ true → d ≡ true → e ≡ true → (a && (b && (c && (d && e)))) ≡ true
all_true a b c d e ha hb hc hd he = simp (ha, hb, hc, hd, he)

same-fields : {k s v f c k' s' v' f' c' : ℕ} → k ≡ k' → s ≡ s' → v ≡ v' → f ≡ f' → c ≡ c'
    → ◌≡◌ {A = Fields} (record { kind = k; site = s; value = v; file = f; column = c }) (record { kind = k'; site = s'; value = v'; file = f'; column = c' })
same-fields hk hs hv hf hc = cc

-- written fields are 22 digits and a line feed, and are read back
module _ (x : Fields) where
  chars_good : wrong (chars x) ≡ false
  chars_good =
      ap (λ (b : Bool). not (b && true))
      (all-parts (chars x)
      ∙ all_true _ _ _ _ _ (digits_good 2 x.kind) (digits_good 4 x.site) (digits_good 8 x.value) (digits_good 4 x.file) (digits_good 4 x.column))

  fields_back : Narrow x → fields (chars x) ≡ x
  fields_back h =
      same-fields
      (digits_number 2 x.kind h.kind)
      (digits_number 4 x.site h.site)
      (digits_number 8 x.value h.value)
      (digits_number 4 x.file h.file)
      (digits_number 4 x.column h.column)

  chars_read : (g : Family) (n : ℕ) → Narrow x → read_line_of g (chars x) n ≡ tabled (table_of g x) n
  chars_read g n h = read_tabled g (chars x) n refl chars_good ∙ ap (λ (y : Fields). tabled (table_of g y) n) (fields_back h)

-- the table gives a frame back from its own fields
only-frame : (b : Bool) (f : Frame) → is_frame (only b f) ≡ true → only b f ≡ frame f
only-frame true f e = refl
only-frame false f e = absurd (let z : ◌≡◌ {A = ℕ} 0 1 = cc in omega arith)

-- the entry of a kind that one family has, where the family has it
base-frame : (g : Family) (f : Frame) → is_frame (in_base g (frame f)) ≡ true → in_base g (frame f) ≡ frame f
base-frame g f e = only-frame (is_base g) f e

finishes_frame : (g : Family) (f : Frame) → is_frame (in_finishes g (frame f)) ≡ true → in_finishes g (frame f) ≡ frame f
finishes_frame Base f e = absurd (let z : ◌≡◌ {A = ℕ} 0 1 = cc in omega arith)
finishes_frame Finishes f e = refl

table-back : (g : Family) (f : Frame) → is_frame (table_of g (fields_of f)) ≡ true → table_of g (fields_of f) ≡ frame f
table-back g (Site s p) e = only-frame (leb 1 p.line && leb 1 p.file && leb 1 p.column) (Site s p) e
table-back g (Call s) e = refl
table-back g (Spawn s) e = base-frame g (Spawn s) e
table-back g Sync e = base-frame g Sync e
table-back g Return e = refl
table-back g (Cost v) e = only-frame (value_only 0 v 0 0) (Cost v) e
table-back g (Instructions v) e = only-frame (value_only 0 v 0 0) (Instructions v) e
table-back g (Async s) e = finishes_frame g (Async s) e
table-back g Finish e = finishes_frame g Finish e

-- "The line writer takes a frame and gives 23 characters", and the line reader gives the frame
module _ (g : Family) (f : Frame) (w : writable_of g f ≡ true) where
  pub written_of : write_chars_of g f ≡ chars (fields_of f)
  written_of = ap (λ (b : Bool). cond b (chars (fields_of f)) (replicate 23 0)) w

  pub write_read_of : (n : ℕ) → read_line_of g (write_chars_of g f) n ≡ says n f
  write_read_of n =
      ap (λ (l : List ℕ). read_line_of g l n) written_of
      ∙ chars_read (fields_of f) g n (narrow-fits (fields_of f) (and_left (narrow (fields_of f)) (is_frame (table_of g (fields_of f))) w))
      ∙ ap (λ (e : Entry). tabled e n) (table-back g f (and_right (narrow (fields_of f)) (is_frame (table_of g (fields_of f))) w))

-- no two frames are written alike
pub write_injective_of : (g : Family) (f i : Frame) → writable_of g f ≡ true → writable_of g i ≡ true → write_chars_of g f ≡ write_chars_of g i → f ≡ i
write_injective_of g f i hf hi e =
    let p = write_read_of g f hf 0 in
    let q = write_read_of g i hi 0 in
    let r = ap (λ (l : List ℕ). read_line_of g l 0) e in
    (same-line (sym p ∙ r ∙ q)).1

-- the fields that the table has as a frame are that frame's
only-is : (b : Bool) (f g : Frame) → only b f ≡ frame g → (b ≡ true) × (f ≡ g)
only-is true f g e = (refl, cc)
only-is false f g e = absurd (let z : ◌≡◌ {A = ℕ} 0 1 = cc in omega arith)

-- the entry of a kind that one family has is its frame, where the table has one
base-is : (g : Family) (e : Entry) (f : Frame) → in_base g e ≡ frame f → e ≡ frame f
base-is Base e f t = t
base-is Finishes e f t = absurd (let z : ◌≡◌ {A = ℕ} 0 1 = cc in omega arith)

finishes_is : (g : Family) (e : Entry) (f : Frame) → in_finishes g e ≡ frame f → e ≡ frame f
finishes_is Base e f t = absurd (let z : ◌≡◌ {A = ℕ} 0 1 = cc in omega arith)
finishes_is Finishes e f t = t

-- three fields that are zero, and four
zeros : (a b c : ℕ) → (eqb a 0 && eqb b 0 && eqb c 0) ≡ true → (0 ≡ a) × (0 ≡ b) × (0 ≡ c)
zeros a b c e =
    let two = and_left (eqb a 0 && eqb b 0) (eqb c 0) e in
    (sym (eqb-true a 0 (and_left (eqb a 0) (eqb b 0) two)), sym (eqb-true b 0 (and_right (eqb a 0) (eqb b 0) two)), sym (eqb-true c 0 (and_right (eqb a 0 && eqb b 0) (eqb c 0) e)))

zeros4 : (a b c d : ℕ) → (eqb a 0 && eqb b 0 && eqb c 0 && eqb d 0) ≡ true → (0 ≡ a) × (0 ≡ b) × (0 ≡ c) × (0 ≡ d)
zeros4 a b c d e =
    let z = zeros a b c (and_left (eqb a 0 && eqb b 0 && eqb c 0) (eqb d 0) e) in
    (z.0, z.1, z.2, sym (eqb-true d 0 (and_right (eqb a 0 && eqb b 0 && eqb c 0) (eqb d 0) e)))

module _ (g : Family) (x : Fields) (f : Frame) where
  -- a kind's line of the table: its entry, or what the rest of the table has
  kinds : (k : ℕ) (e r : Entry) → (k ≡ x.kind → e ≡ frame f → fields_of f ≡ x) → (r ≡ frame f → fields_of f ≡ x) → cond (eqb x.kind k) e r ≡ frame f → fields_of f ≡ x
  kinds k e r here there = go (eqb x.kind k) refl
    where
      go : (b : Bool) → eqb x.kind k ≡ b → cond b e r ≡ frame f → fields_of f ≡ x
      go true h t = here (sym (eqb-true x.kind k h)) t
      go false h t = there t

  -- its entry, where the fields fit
  entry : (b : Bool) (h : Frame) → (b ≡ true → fields_of h ≡ x) → only b h ≡ frame f → fields_of f ≡ x
  entry b h is t = let o = only-is b h f t in ap fields_of (sym o.1) ∙ is o.0

  three : (k : ℕ) → k ≡ x.kind → (eqb x.value 0 && eqb x.file 0 && eqb x.column 0) ≡ true → record { kind = k; site = x.site; value = 0; file = 0; column = 0 } ≡ x
  three k h b = let z = zeros x.value x.file x.column b in same-fields h refl z.0 z.1 z.2

  four : (k : ℕ) → k ≡ x.kind → (eqb x.site 0 && eqb x.value 0 && eqb x.file 0 && eqb x.column 0) ≡ true → record { kind = k; site = 0; value = 0; file = 0; column = 0 } ≡ x
  four k h b = let z = zeros4 x.site x.value x.file x.column b in same-fields h z.0 z.1 z.2 z.3

  one : (k : ℕ) → k ≡ x.kind → value_only x.site x.value x.file x.column ≡ true
      → record { kind = k; site = 0; value = x.value; file = 0; column = 0 } ≡ x
  one k h b =
      let to-file = and_left (eqb x.site 0 && leb 1 x.value && leb x.value 4294967295 && eqb x.file 0) (eqb x.column 0) b in
      let to-most = and_left (eqb x.site 0 && leb 1 x.value && leb x.value 4294967295) (eqb x.file 0) to-file in
      let to-least = and_left (eqb x.site 0 && leb 1 x.value) (leb x.value 4294967295) to-most in
      same-fields h
      (sym (eqb-true x.site 0 (and_left (eqb x.site 0) (leb 1 x.value) to-least)))
      refl
      (sym (eqb-true x.file 0 (and_right (eqb x.site 0 && leb 1 x.value && leb x.value 4294967295) (eqb x.file 0) to-file)))
      (sym (eqb-true x.column 0 (and_right (eqb x.site 0 && leb 1 x.value && leb x.value 4294967295 && eqb x.file 0) (eqb x.column 0) b)))

  pub table-fields-of : table_of g x ≡ frame f → fields_of f ≡ x
  table-fields-of =
      kinds 1 _ _ (λ k. entry (leb 1 x.value && leb 1 x.file && leb 1 x.column) (Site x.site (record { file = x.file; line = x.value; column = x.column })) (λ b. same-fields k refl refl refl refl))
      (kinds 2 _ _ (λ k. entry _ (Call x.site) (three 2 k))
      (kinds 3 _ _ (λ k t. entry _ (Spawn x.site) (three 3 k) (base-is g _ f t))
      (kinds 4 _ _ (λ k t. entry _ Sync (four 4 k) (base-is g _ f t))
      (kinds 5 _ _ (λ k. entry _ Return (four 5 k))
      (kinds 6 _ _ (λ k. entry _ (Cost x.value) (one 6 k))
      (kinds 7 _ _ (λ k. entry _ (Instructions x.value) (one 7 k))
      (kinds 0x12 _ _ (λ k t. entry _ (Async x.site) (three 0x12 k) (finishes_is g _ f t))
      (kinds 0x13 _ _ (λ k t. entry _ Finish (four 0x13 k) (finishes_is g _ f t))
      (λ t. absurd (let z : ◌≡◌ {A = ℕ} 0 1 = cc in omega arith))))))))))

-- 23 characters that are not wrong are the characters of their five fields
module _ (s : List ℕ) (h : length s ≡ 23) (w : wrong s ≡ false) where
  both : (all_digits (take 22 s) && eqb (get_or s 22 0) 10) ≡ true
  both = not-false _ w

  good : (all_digits (part s 0 2) && (all_digits (part s 2 4) && (all_digits (part s 6 8) && (all_digits (part s 14 4) && all_digits (part s 18 4))))) ≡ true
  good = sym (all-parts s) ∙ and_left (all_digits (take 22 s)) (eqb (get_or s 22 0) 10) both

  feed : get_or s 22 0 ≡ 10
  feed = eqb-true (get_or s 22 0) 10 (and_right (all_digits (take 22 s)) (eqb (get_or s 22 0) 10) both)

  -- each field is digits
  pub record Parts : Type 0 where
    pub kind : all_digits (part s 0 2) ≡ true
    pub site : all_digits (part s 2 4) ≡ true
    pub value : all_digits (part s 6 8) ≡ true
    pub file : all_digits (part s 14 4) ≡ true
    pub column : all_digits (part s 18 4) ≡ true

  pub good_parts : Parts
  good_parts =
      let last = and_right (all_digits (part s 0 2)) _ good in
      let after = and_right (all_digits (part s 2 4)) _ last in
      let third = and_right (all_digits (part s 6 8)) _ after in
      record {
        kind = and_left (all_digits (part s 0 2)) _ good;
        site = and_left (all_digits (part s 2 4)) _ last;
        value = and_left (all_digits (part s 6 8)) _ after;
        file = and_left (all_digits (part s 14 4)) _ third;
        column = and_right (all_digits (part s 14 4)) _ third;
      }

  -- one field: its number has room in it, and the digits of its number are it in small letters
  module _ (from size : ℕ) (fit : from + size ≤ 23) (d : all_digits (part s from size) ≡ true) where
    size_is : length (part s from size) ≡ size
    size_is = part_length s from size (omega arith)

    part-below : number (part s from size) < 16 ^ size
    part-below = let p = ap (λ (n : ℕ). 16 ^ n) size_is in omega (arith, number-below (part s from size) d)

    part-digits : digits size (number (part s from size)) ≡ small_form (part s from size)
    part-digits = ap (λ (n : ℕ). digits n (number (part s from size))) (sym size_is) ∙ number_digits (part s from size) d

  pub fields-narrow : Narrow (fields s)
  fields-narrow =
      let p = good_parts in
      record {
        kind = part-below 0 2 (omega arith) p.kind;
        site = part-below 2 4 (omega arith) p.site;
        value = part-below 6 8 (omega arith) p.value;
        file = part-below 14 4 (omega arith) p.file;
        column = part-below 18 4 (omega arith) p.column;
      }

  end : drop 22 s ≡ 10 ∷ []
  end = drop-cons s 22 0 (omega arith) ∙ ap (λ (c : ℕ). c ∷ drop 23 s) feed ∙ ap (λ (l : List ℕ). 10 ∷ l) (drop_of_length-le s {i = 23} (omega arith))

  pub chars-back : chars (fields s) ≡ small_form s
  chars-back =
      let p = good_parts in
      joined (part-digits 0 2 (omega arith) p.kind) (part-digits 2 4 (omega arith) p.site) (part-digits 6 8 (omega arith) p.value) (part-digits 14 4 (omega arith) p.file) (part-digits 18 4 (omega arith) p.column)
      ∙ ap (λ (l : List ℕ). l ++ 10 ∷ []) (small_five (part s 0 2) (part s 2 4) (part s 6 8) (part s 14 4) (part s 18 4))
      ∙ ap (λ (l : List ℕ). small_form l ++ 10 ∷ []) (sym (parts s))
      ∙ sym (small-append (take 22 s) (10 ∷ []))
      ∙ ap (λ (l : List ℕ). small_form (take 22 s ++ l)) (sym end)
      ∙ ap small_form (take-append-drop 22 s)
    where
      joined : {a b c d e a' b' c' d' e' : List ℕ} → a ≡ a' → b ≡ b' → c ≡ c' → d ≡ d' → e ≡ e'
          → a ++ (b ++ (c ++ (d ++ (e ++ 10 ∷ [])))) ≡ (a' ++ (b' ++ (c' ++ (d' ++ e')))) ++ 10 ∷ []
      joined {a' = a'} {b' = b'} {c' = c'} {d' = d'} {e' = e'} ha hb hc hd he = rw (ha, hb, hc, hd, he) (simp append_assoc)

      small_five : (a b c d e : List ℕ) → small_form a ++ (small_form b ++ (small_form c ++ (small_form d ++ small_form e))) ≡ small_form (a ++ (b ++ (c ++ (d ++ e))))
      small_five a b c d e = sym (rw (small-append a (b ++ (c ++ (d ++ e))), small-append b (c ++ (d ++ e)), small-append c (d ++ e), small-append d e))

module _ (g : Family) (s : List ℕ) (n k : ℕ) (f : Frame) (e : read_line_of g s n ≡ says k f) where
  -- LAW: "an accepted line is from now on rewritten as its small-letter form"
  pub read_write_of : (k ≡ n) × (writable_of g f ≡ true) × (write_chars_of g f ≡ small_form s)
  read_write_of =
      let (same, h, w, t) = frames-of g s n k f e in
      let x = table-fields-of g (fields s) f t in
      let fits : narrow (fields_of f) ≡ true = ap narrow x ∙ fits-narrow (fields s) (fields-narrow s h w) in
      let is : is_frame (table_of g (fields_of f)) ≡ true = ap (λ (y : Fields). is_frame (table_of g y)) x ∙ ap is_frame t in
      let u : writable_of g f ≡ true = ap (λ (b : Bool). b && is_frame (table_of g (fields_of f))) fits ∙ is in
      (same, u, written_of g f u ∙ ap chars x ∙ chars-back s h w)

  -- LAW: a line already in small letters is rewritten unchanged
  pub rewritten-same-of : small_form s ≡ s → write_chars_of g f ≡ s
  rewritten-same-of h = read_write_of.2 ∙ h

-- those of document 01's family
pub table-fields : (x : Fields) (f : Frame) → table x ≡ frame f → fields_of f ≡ x
table-fields = table-fields-of Base

pub written : (f : Frame) → writable f ≡ true → write_chars f ≡ chars (fields_of f)
written = written_of Base

pub write_read : (f : Frame) → writable f ≡ true → (n : ℕ) → read_line (write_chars f) n ≡ says n f
write_read = write_read_of Base

pub write_injective : (f g : Frame) → writable f ≡ true → writable g ≡ true → write_chars f ≡ write_chars g → f ≡ g
write_injective = write_injective_of Base

pub read_write : (s : List ℕ) (n k : ℕ) (f : Frame) → read_line s n ≡ says k f → (k ≡ n) × (writable f ≡ true) × (write_chars f ≡ small_form s)
read_write = read_write_of Base

pub rewritten-same : (s : List ℕ) (n k : ℕ) (f : Frame) → read_line s n ≡ says k f → small_form s ≡ s → write_chars f ≡ s
rewritten-same = rewritten-same-of Base
