-- What the line reader rests on: a line's parts, its five numerals, and `read_line_of` by cases.
-- Assumes nothing.
use Prim.Native.Nat.{ℕ, ◌+◌, ◌*◌, ◌/◌, ◌^◌, ◌≤◌, ◌<◌}
use Rattle.std.proofs.Common.{Option, Some, None, Err, is_some}
use mathlib.Core.Bool.{Bool, true, false, not, cond, ◌&&◌, and_assoc}
use mathlib.Core.List.{List, ◌++◌}
use mathlib.Core.Path.{◌≡◌, refl, ap, ◌∙◌, sym}
use native.Mathlib.Omega.{arith}
use borrow.Author.Tests.{eq-eqb, ne_eqb}
use lib.Dec.{eqb}
use lib.ListN.{length, get_or, take, drop, length-take, length-drop}
use lib.Seq.{length-take-le, take-add, drop-drop}
use Rattle.digits.specs.Digits.{all_digits, number}
use Rattle.digits.specs.Read.{reading}
use Rattle.digits.proofs.Laws.{all_append}
use Rattle.digits.proofs.Reading.{reading-some, reading-none}
use Rattle.line.specs.Refusal.{refusal}
use Rattle.line.specs.Family.{Family, Finishes}
use Rattle.line.specs.Table.{Fields, none, table_of, table}
use Rattle.line.specs.Read.{part, fields, wrong, tabled, read_line_of, line_at, Read}

-- kinds that document 01's table does not have
pub table_none : (x : Fields) → (x.kind ≡ 1 → ⊥) → (x.kind ≡ 2 → ⊥) → (x.kind ≡ 3 → ⊥) → (x.kind ≡ 4 → ⊥) → (x.kind ≡ 5 → ⊥) → (x.kind ≡ 6 → ⊥) → (x.kind ≡ 7 → ⊥) → table x ≡ none
table_none x a b c d e f g =
    simp (ne_eqb x.kind 1 a, ne_eqb x.kind 2 b, ne_eqb x.kind 3 c, ne_eqb x.kind 4 d, ne_eqb x.kind 5 e, ne_eqb x.kind 6 f, ne_eqb x.kind 7 g)
    (neither (eqb x.kind 0x12) (eqb x.kind 0x13))
  where
    neither : (a b : Bool) → cond a none (cond b none none) ≡ none
    neither true b = refl
    neither false true = refl
    neither false false = refl

-- kinds that both families have, or none
pub same-table : (x : Fields) → (x.kind ≡ 3 → ⊥) → (x.kind ≡ 4 → ⊥) → (x.kind ≡ 0x12 → ⊥) → (x.kind ≡ 0x13 → ⊥)
    → (n : ℕ) {r : Read} → r ≡ tabled (table x) n → r ≡ tabled (table_of Finishes x) n
same-table x a b c d n h = h ∙ simp (ne_eqb x.kind 3 a, ne_eqb x.kind 4 b, ne_eqb x.kind 0x12 c, ne_eqb x.kind 0x13 d)

-- `read_line_of` by cases
module _ (g : Family) (s : List ℕ) (n : ℕ) where
  read_of : (a b : Bool) → eqb (length s) 23 ≡ a → wrong s ≡ b → read_line_of g s n ≡ cond a (cond b (Err (refusal 5 n)) (tabled (table_of g (fields s)) n)) (Err (refusal 2 0))
  read_of a b e f = ap (λ (x : Bool). cond x (cond (wrong s) (Err (refusal 5 n)) (tabled (table_of g (fields s)) n)) (Err (refusal 2 0))) e ∙ ap (λ (x : Bool). cond a (cond x (Err (refusal 5 n)) (tabled (table_of g (fields s)) n)) (Err (refusal 2 0))) f

  pub read_long : (length s ≡ 23 → ⊥) → read_line_of g s n ≡ Err (refusal 2 0)
  read_long h = read_of false (wrong s) (ne_eqb (length s) 23 h) refl

  pub read_wrong : length s ≡ 23 → wrong s ≡ true → read_line_of g s n ≡ Err (refusal 5 n)
  read_wrong h e = read_of true true (eq-eqb (length s) 23 h) e

  pub read_tabled : length s ≡ 23 → wrong s ≡ false → read_line_of g s n ≡ tabled (table_of g (fields s)) n
  read_tabled h e = read_of true false (eq-eqb (length s) 23 h) e

pub part_length : (s : List ℕ) (from size : ℕ) → from + size ≤ length s → length (part s from size) ≡ size
part_length s from size h = length-take-le size (drop from s) (simp length-drop (omega arith))

-- two parts that follow each other
pub part-more : (s : List ℕ) (from a b : ℕ) → part s from (a + b) ≡ part s from a ++ part s (from + a) b
part-more s from a b = take-add a b (drop from s) ∙ ap (λ (l : List ℕ). part s from a ++ take b l) (drop-drop a from s)

-- the 22 digits are those of the five fields
pub parts : (s : List ℕ) → take 22 s ≡ part s 0 2 ++ (part s 2 4 ++ (part s 6 8 ++ (part s 14 4 ++ part s 18 4)))
parts s =
    part-more s 0 2 20
    ∙ ap (λ (l : List ℕ). part s 0 2 ++ l)
    (part-more s 2 4 16
    ∙ ap (λ (l : List ℕ). part s 2 4 ++ l)
    (part-more s 6 8 8
    ∙ ap (λ (l : List ℕ). part s 6 8 ++ l)
    (part-more s 14 4 4)))

pub all-parts : (s : List ℕ) → all_digits (take 22 s) ≡ (all_digits (part s 0 2) && (all_digits (part s 2 4) && (all_digits (part s 6 8) && (all_digits (part s 14 4) && all_digits (part s 18 4)))))
all-parts s =
    ap all_digits (parts s)
    ∙ all_append (part s 0 2) _
    ∙ ap (λ (b : Bool). all_digits (part s 0 2) && b)
    (all_append (part s 2 4) _
    ∙ ap (λ (b : Bool). all_digits (part s 2 4) && b)
    (all_append (part s 6 8) _
    ∙ ap (λ (b : Bool). all_digits (part s 6 8) && b)
    (all_append (part s 14 4) (part s 18 4))))

-- the numerals that were read from the five fields of 23 characters
pub record Numerals (s : List ℕ) (kind site value file column : Option ℕ) : Type 0 where
  pub long : length s ≡ 23
  pub kind_is : kind ≡ reading (part s 0 2)
  pub site_is : site ≡ reading (part s 2 4)
  pub value_is : value ≡ reading (part s 6 8)
  pub file_is : file ≡ reading (part s 14 4)
  pub column_is : column ≡ reading (part s 18 4)

-- the one test of them all: each field has a numeral, and c is a line feed
abbrev pub all_good : Option ℕ → Option ℕ → Option ℕ → Option ℕ → Option ℕ → ℕ → Bool
all_good kind site value file column c = is_some kind && is_some site && is_some value && is_some file && is_some column && eqb c 10

-- one numeral, read from a part that has room
module _ (s : List ℕ) (from size : ℕ) (h : from + size ≤ length s) (short : size ≤ 8) where
  room : length (part s from size) ≤ 8
  room = let l = part_length s from size h in omega arith

  pub numeral_good : (x : Option ℕ) → x ≡ reading (part s from size) → is_some x ≡ all_digits (part s from size)
  numeral_good (Some x) e = sym (reading-some (part s from size) room e).0
  numeral_good None e = sym (reading-none (part s from size) room e)

  pub numeral-value : (x : ℕ) → Some x ≡ reading (part s from size) → x ≡ number (part s from size)
  numeral-value x e = (reading-some (part s from size) room e).1

  pub numeral-below : (x : ℕ) → Some x ≡ reading (part s from size) → x < 16 ^ size
  numeral-below x e =
      let p = ap (λ (n : ℕ). 16 ^ n) (part_length s from size h) in
      let b = (reading-some (part s from size) room e).2 in
      omega arith

module _ {s : List ℕ} {kind site value file column : Option ℕ} (m : Numerals s kind site value file column) where
  fits : (k : ℕ) → k ≤ 23 → k ≤ length s
  fits k h = let l = m.long in omega arith

  -- all the digits are good where each numeral is
  all_good_lem : all_digits (take 22 s) ≡ (is_some kind && (is_some site && (is_some value && (is_some file && is_some column))))
  all_good_lem =
      all-parts s
      ∙ sym (cc (
        numeral_good s 0 2 (fits 2 (omega arith)) (omega arith) kind m.kind_is,
        numeral_good s 2 4 (fits 6 (omega arith)) (omega arith) site m.site_is,
        numeral_good s 6 8 (fits 14 (omega arith)) (omega arith) value m.value_is,
        numeral_good s 14 4 (fits 18 (omega arith)) (omega arith) file m.file_is,
        numeral_good s 18 4 (fits 22 (omega arith)) (omega arith) column m.column_is,
      ))

  regroup : (a b c d e : Bool) → (a && (b && (c && (d && e)))) ≡ (a && b && c && d && e)
  regroup a b c d e = simp and_assoc

  wrong-is : wrong s ≡ not (all_good kind site value file column (get_or s 22 0))
  wrong-is = ap (λ (b : Bool). not (b && eqb (get_or s 22 0) 10)) (all_good_lem ∙ regroup (is_some kind) (is_some site) (is_some value) (is_some file) (is_some column))

  pub wrong-line : (g : Family) (n : ℕ) → all_good kind site value file column (get_or s 22 0) ≡ false → Err (refusal 5 n) ≡ read_line_of g s n
  wrong-line g n e = sym (read_wrong g s n m.long (wrong-is ∙ ap not e))

-- five numerals and a line feed
module _ {s : List ℕ} {kind site value file column : ℕ} (m : Numerals s (Some kind) (Some site) (Some value) (Some file) (Some column)) where
  pub site-below : site < 16 ^ 4
  site-below = numeral-below s 2 4 (fits m 6 (omega arith)) (omega arith) site m.site_is

  pub file-below : file < 16 ^ 4
  file-below = numeral-below s 14 4 (fits m 18 (omega arith)) (omega arith) file m.file_is

  pub column-below : column < 16 ^ 4
  column-below = numeral-below s 18 4 (fits m 22 (omega arith)) (omega arith) column m.column_is

  fields_are : fields s ≡ record { kind = kind; site = site; value = value; file = file; column = column }
  fields_are =
      cc (
        numeral-value s 0 2 (fits m 2 (omega arith)) (omega arith) kind m.kind_is,
        numeral-value s 2 4 (fits m 6 (omega arith)) (omega arith) site m.site_is,
        numeral-value s 6 8 (fits m 14 (omega arith)) (omega arith) value m.value_is,
        numeral-value s 14 4 (fits m 18 (omega arith)) (omega arith) file m.file_is,
        numeral-value s 18 4 (fits m 22 (omega arith)) (omega arith) column m.column_is,
      )

  pub good_line : (g : Family) (n : ℕ) → get_or s 22 0 ≡ 10
      → {r : Read} → r ≡ tabled (table_of g (record { kind = kind; site = site; value = value; file = file; column = column })) n → r ≡ read_line_of g s n
  good_line g n e h = h ∙ ap (λ (x : Fields). tabled (table_of g x) n) (sym fields_are) ∙ sym (read_tabled g s n m.long (wrong-is m ∙ ap not (eq-eqb (get_or s 22 0) 10 e)))

-- line n of a text is whole exactly where n is below the number of whole lines
module _ (s : List ℕ) (n : ℕ) where
  pub whole : n < length s / 23 → length (line_at s n) ≡ 23
  whole h = length-take-le 23 (drop (23 * n) s) (simp length-drop (omega arith))

  pub not_whole : length s / 23 ≤ n → length (line_at s n) ≡ 23 → ⊥
  not_whole h e = let l = length-take 23 (drop (23 * n) s) in let d = length-drop (23 * n) s in omega arith
