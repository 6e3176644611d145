-- What reading a line gives, case by case: each refusal exactly where document 01 gives it, and a frame exactly where
-- the family's table has it. Assumes nothing.
use Prim.Native.Nat.{ℕ, ◌/◌, ◌<◌}
use mathlib.Core.Bool.{Bool, true, false}
use mathlib.Core.List.{List}
use mathlib.Core.Logic.{◌⊎◌, inl, inr}
use mathlib.Core.Path.{◌≡◌, refl, ap, ◌∙◌, sym}
use native.Mathlib.Omega.{arith}
use borrow.Author.Tests.{eqb-true, eqb-false}
use lib.Dec.{eqb}
use lib.ListN.{length}
use Rattle.std.specs.Prelude.{Err}
use Rattle.line.specs.Refusal.{refusal}
use Rattle.line.specs.Family.{Family, Base}
use Rattle.line.specs.declared.Frame.{Frame}
use Rattle.line.specs.Table.{Entry, frame, none, table_of, table}
use Rattle.line.specs.Read.{fields, wrong, tabled, read_line_of, read_line, line_at, read_at_of, read_at, Read, says}
use Rattle.line.proofs.Same.{same-refusal, same-line}
use Rattle.line.proofs.Lines.{read_long, read_wrong, read_tabled, whole}

-- the four cases of a line
pub data CaseOf (g : Family) (s : List ℕ) (n : ℕ) (r : Read) : Type 0 where
  long : (length s ≡ 23 → ⊥) → r ≡ Err (refusal 2 0) → CaseOf g s n r
  wrongs : length s ≡ 23 → wrong s ≡ true → r ≡ Err (refusal 5 n) → CaseOf g s n r
  unlisted : length s ≡ 23 → wrong s ≡ false → table_of g (fields s) ≡ none → r ≡ Err (refusal 6 n) → CaseOf g s n r
  listed : length s ≡ 23 → wrong s ≡ false → (f : Frame) → table_of g (fields s) ≡ frame f → r ≡ says n f → CaseOf g s n r

-- the answers that refuse a line: "refusal 2 unless it is lent exactly 23 characters, then 5, then 6"
abbrev pub RefusedAs : Family → List ℕ → ℕ → ℕ → ℕ → Type 0
RefusedAs g s n number line =
    ((number ≡ 2) × (line ≡ 0) × (length s ≡ 23 → ⊥))
    ⊎ (((number ≡ 5) × (line ≡ n) × (length s ≡ 23) × (wrong s ≡ true))
    ⊎ ((number ≡ 6) × (line ≡ n) × (length s ≡ 23) × (wrong s ≡ false) × (table_of g (fields s) ≡ none)))

module _ (g : Family) where
  pub line-case-of : (s : List ℕ) (n : ℕ) → CaseOf g s n (read_line_of g s n)
  line-case-of s n = go (eqb (length s) 23) (wrong s) (table_of g (fields s)) refl refl refl
    where
      go : (a b : Bool) (e : Entry) → eqb (length s) 23 ≡ a → wrong s ≡ b → table_of g (fields s) ≡ e → CaseOf g s n (read_line_of g s n)
      go false b e ha hb he = long (eqb-false (length s) 23 ha) (read_long g s n (eqb-false (length s) 23 ha))
      go true true e ha hb he = wrongs (eqb-true (length s) 23 ha) hb (read_wrong g s n (eqb-true (length s) 23 ha) hb)
      go true false none ha hb he =
          unlisted (eqb-true (length s) 23 ha) hb he (read_tabled g s n (eqb-true (length s) 23 ha) hb ∙ ap (λ (x : Entry). tabled x n) he)
      go true false (frame f) ha hb he =
          listed (eqb-true (length s) 23 ha) hb f he (read_tabled g s n (eqb-true (length s) 23 ha) hb ∙ ap (λ (x : Entry). tabled x n) he)

  -- a line is refused so, and with no other number
  pub refusals_of : (s : List ℕ) (n number line : ℕ) → read_line_of g s n ≡ Err (refusal number line) → RefusedAs g s n number line
  refusals_of s n number line e = go (line-case-of s n)
    where
      go : CaseOf g s n (read_line_of g s n) → RefusedAs g s n number line
      go (long h r) = let q = same-refusal (sym e ∙ r) in inl (q.0, q.1, h)
      go (wrongs h w r) = let q = same-refusal (sym e ∙ r) in inr (inl (q.0, q.1, h, w))
      go (unlisted h w t r) = let q = same-refusal (sym e ∙ r) in inr (inr (q.0, q.1, h, w, t))
      go (listed h w f t r) = absurd (let z : ◌≡◌ {A = ℕ} 0 1 = cc in omega arith)

  -- line n of a text with more than n whole lines is refused with 5 or 6 and its own number
  pub refusals_at_of : (s : List ℕ) (n number line : ℕ) → n < length s / 23 → read_at_of g s n ≡ Err (refusal number line) → (line ≡ n) × ((number ≡ 5) ⊎ (number ≡ 6))
  refusals_at_of s n number line h e = go (line-case-of (line_at s n) n)
    where
      go : CaseOf g (line_at s n) n (read_at_of g s n) → (line ≡ n) × ((number ≡ 5) ⊎ (number ≡ 6))
      go (long l r) = absurd (l (whole s n h))
      go (wrongs l w r) = let q = same-refusal (sym e ∙ r) in (q.1, inl q.0)
      go (unlisted l w t r) = let q = same-refusal (sym e ∙ r) in (q.1, inr q.0)
      go (listed l w f t r) = absurd (let z : ◌≡◌ {A = ℕ} 0 1 = cc in omega arith)

  -- 6 is given where the table has no such frame; 2 and 5 are `read_long` and `read_wrong`
  pub read_unlisted : (s : List ℕ) (n : ℕ) → length s ≡ 23 → wrong s ≡ false → table_of g (fields s) ≡ none → read_line_of g s n ≡ Err (refusal 6 n)
  read_unlisted s n h w t = read_tabled g s n h w ∙ ap (λ (x : Entry). tabled x n) t

  -- a frame is given where the table has it
  pub frames-of : (s : List ℕ) (n k : ℕ) (f : Frame) → read_line_of g s n ≡ says k f → (k ≡ n) × (length s ≡ 23) × (wrong s ≡ false) × (table_of g (fields s) ≡ frame f)
  frames-of s n k f e = go (line-case-of s n)
    where
      go : CaseOf g s n (read_line_of g s n) → (k ≡ n) × (length s ≡ 23) × (wrong s ≡ false) × (table_of g (fields s) ≡ frame f)
      go (long h r) = absurd (let z : ◌≡◌ {A = ℕ} 0 1 = cc in omega arith)
      go (wrongs h w r) = absurd (let z : ◌≡◌ {A = ℕ} 0 1 = cc in omega arith)
      go (unlisted h w t r) = absurd (let z : ◌≡◌ {A = ℕ} 0 1 = cc in omega arith)
      go (listed h w i t r) = let q = same-line (sym e ∙ r) in (q.0, h, w, t ∙ ap frame (sym q.1))

-- those of document 01's family
abbrev pub Case : List ℕ → ℕ → Read → Type 0
Case s n r = CaseOf Base s n r

pub line-case : (s : List ℕ) (n : ℕ) → Case s n (read_line s n)
line-case = line-case-of Base

pub refusals : (s : List ℕ) (n number line : ℕ) → read_line s n ≡ Err (refusal number line) → RefusedAs Base s n number line
refusals = refusals_of Base

pub refusals_at : (s : List ℕ) (n number line : ℕ) → n < length s / 23 → read_at s n ≡ Err (refusal number line) → (line ≡ n) × ((number ≡ 5) ⊎ (number ≡ 6))
refusals_at = refusals_at_of Base

pub frames : (s : List ℕ) (n k : ℕ) (f : Frame) → read_line s n ≡ says k f → (k ≡ n) × (length s ≡ 23) × (wrong s ≡ false) × (table (fields s) ≡ frame f)
frames = frames-of Base
