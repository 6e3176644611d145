-- The short looks at a line: what its first two characters and the fields that are decoded say of it, where the others
-- are all 0.
use mathlib.Core.Path.{◌≡◌, refl, ap, ◌∙◌, sym}
use mathlib.Core.Bool.{Bool, true, ◌&&◌}
use mathlib.Core.List.{List, [], ◌∷◌}
use Prim.Native.Nat.{ℕ, ◌+◌, ◌≤◌}
use native.Mathlib.Omega.{arith}
use lib.ListN.{length, get_or, take}
use borrow.Author.Tests.{le-leb}
use Rattle.std.specs.Prelude.{Some}
use Rattle.digits.specs.Read.{reading}
use Rattle.digits.proofs.Laws.{and_left, and_right}
use Rattle.line.specs.Family.{Family}
use Rattle.line.specs.declared.Frame.{Frame}
use Rattle.line.specs.Table.{Entry, frame, only, value_only, table_of}
use Rattle.line.specs.Read.{part, tabled, read_line_of, says}
use Rattle.line.specs.Zeros.{all_zero}
use Rattle.line.proofs.Lines.{part_length, part-more, good_line, numeral-below}
use Rattle.line.proofs.Zero.{zero-reading, zero-append}

two : (s : List ℕ) → 2 ≤ length s → take 2 s ≡ get_or s 0 0 ∷ get_or s 1 0 ∷ []
two [] h = absurd (omega arith)
two (a ∷ []) h = absurd (omega arith)
two (a ∷ b ∷ s) h = refl

-- a line whose first two characters are a and c, the kind d
module _ (g : Family) (s : List ℕ) (n : ℕ) (long : length s ≡ 23) (a c d : ℕ) (c0 : get_or s 0 0 ≡ a) (c1 : get_or s 1 0 ≡ c) (is : Some d ≡ reading (a ∷ c ∷ [])) (end : get_or s 22 0 ≡ 10) (rest : all_zero (part s 14 8) ≡ true) where
  kind_is : Some d ≡ reading (part s 0 2)
  kind_is = is ∙ sym (ap reading (two s (omega arith)) ∙ ap (λ (x : ℕ). reading (x ∷ get_or s 1 0 ∷ [])) c0 ∙ ap (λ (x : ℕ). reading (a ∷ x ∷ [])) c1)

  part-zero : (from size : ℕ) → from + size ≤ 23 → size ≤ 8 → all_zero (part s from size) ≡ true → Some 0 ≡ reading (part s from size)
  part-zero from size h k e = zero-reading (part s from size) (omega (arith, part_length s from size (omega arith))) e

  -- file and column
  rest-zero : (Some 0 ≡ reading (part s 14 4)) × (Some 0 ≡ reading (part s 18 4))
  rest-zero =
      let h = sym (zero-append (part s 14 4) (part s 18 4)) ∙ ap all_zero (sym (part-more s 14 4 4)) ∙ rest in
      (part-zero 14 4 (omega arith) (omega arith) (and_left (all_zero (part s 14 4)) (all_zero (part s 18 4)) h), part-zero 18 4 (omega arith) (omega arith) (and_right (all_zero (part s 14 4)) (all_zero (part s 18 4)) h))

  line_is : (site value : ℕ) → Some site ≡ reading (part s 2 4) → Some value ≡ reading (part s 6 8)
      → (f : Frame) → table_of g (record { kind = d; site = site; value = value; file = 0; column = 0 }) ≡ frame f → says n f ≡ read_line_of g s n
  line_is site value es ev f t =
      good_line {s = s} {kind = d} {site = site} {value = value} {file = 0} {column = 0} (record { long = long; kind_is = kind_is; site_is = es; value_is = ev; file_is = rest-zero.0; column_is = rest-zero.1 }) g n end
      (sym (ap (λ (e : Entry). tabled e n) t))

  -- a kind with a value alone
  pub value_line : (f : ℕ → Frame) → ((v : ℕ) → table_of g (record { kind = d; site = 0; value = v; file = 0; column = 0 }) ≡ only (value_only 0 v 0 0) (f v))
      → all_zero (part s 2 4) ≡ true → (value : ℕ) → Some value ≡ reading (part s 6 8) → 1 ≤ value → says n (f value) ≡ read_line_of g s n
  value_line f t zs value ev least =
      let b = numeral-below s 6 8 (omega arith) (omega arith) value ev in
      line_is 0 value (part-zero 2 4 (omega arith) (omega arith) zs) ev (f value)
      (t value ∙ simp (le-leb 1 value least, le-leb value 4294967295 (omega arith)))

  -- with a site alone
  pub made-line : (f : ℕ → Frame) → ((x : ℕ) → table_of g (record { kind = d; site = x; value = 0; file = 0; column = 0 }) ≡ frame (f x))
      → (site : ℕ) → Some site ≡ reading (part s 2 4) → all_zero (part s 6 8) ≡ true → says n (f site) ≡ read_line_of g s n
  made-line f t site es zv = line_is site 0 es (part-zero 6 8 (omega arith) (omega arith) zv) (f site) (t site)

  -- with neither
  pub bare-line : (f : Frame) → table_of g (record { kind = d; site = 0; value = 0; file = 0; column = 0 }) ≡ frame f
      → all_zero (part s 2 4) ≡ true → all_zero (part s 6 8) ≡ true → says n f ≡ read_line_of g s n
  bare-line f t zs zv = line_is 0 0 (part-zero 2 4 (omega arith) (omega arith) zs) (part-zero 6 8 (omega arith) (omega arith) zv) f t

-- the tests of a short look, each by itself
pub five : (a b c d e : Bool) → (a && b && c && d && e) ≡ true → (a ≡ true) × (b ≡ true) × (c ≡ true) × (d ≡ true) × (e ≡ true)
five a b c d e h =
    let x = and_left (a && b && c && d) e h in
    let y = and_left (a && b && c) d x in
    let z = and_left (a && b) c y in
    (and_left a b z, and_right a b z, and_right (a && b) c y, and_right (a && b && c) d x, and_right (a && b && c && d) e h)

pub six : (a b c d e f : Bool) → (a && b && c && d && e && f) ≡ true → (a ≡ true) × (b ≡ true) × (c ≡ true) × (d ≡ true) × (e ≡ true) × (f ≡ true)
six a b c d e f h =
    let x = five a b c d e (and_left (a && b && c && d && e) f h) in
    (x.0, x.1, x.2, x.3, x.4, and_right (a && b && c && d && e) f h)
