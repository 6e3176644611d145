-- What the line writer rests on: which frames are writable, a line for each case, since the fields have room in their
-- digits and the table alone decides; and what is written. Assumes nothing.
use Prim.Native.Nat.{ℕ, ◌<◌}
use mathlib.Core.Bool.{Bool, true, false, not, cond, ◌&&◌, and-true}
use mathlib.Core.List.{List}
use mathlib.Core.Path.{◌≡◌, refl, ap, ◌∙◌, sym, subst⁻¹}
use native.Mathlib.Omega.{arith}
use borrow.Author.Tests.{lt-ltb, le-leb}
use lib.Dec.{leb, ltb}
use lib.ListN.{length, replicate}
use Rattle.std.specs.Prelude.{Ok, Err}
use Rattle.line.specs.Refusal.{refusal}
use Rattle.line.specs.Family.{Family, Base, Finishes}
use Rattle.line.specs.declared.Frame.{Frame}
use Rattle.line.specs.declared.Frame.TheVariants.{Site, Call, Spawn, Sync, Return, Cost, Instructions, Async, Finish}
use Rattle.line.specs.declared.Place.{Place}
use Rattle.line.specs.declared.Line.{Line}
use Rattle.line.specs.declared.Refusal.{Refusal}
use Rattle.line.specs.Table.{Fields, Entry, frame, none, only, is_base, in_base, in_finishes, table_of, fields_of}
use Rattle.line.specs.Read.{tabled}
use Rattle.line.specs.Write.{chars, narrow, is_frame, writable_of, write_chars_of, write_line_of, write_chars}

is-only : (b : Bool) (f : Frame) → is_frame (only b f) ≡ b
is-only true f = refl
is-only false f = refl

base-only : (g : Family) (f : Frame) → is_frame (in_base g (frame f)) ≡ is_base g
base-only g f = is-only (is_base g) f

finishes_only : (g : Family) (f : Frame) → is_frame (in_finishes g (frame f)) ≡ not (is_base g)
finishes_only Base f = refl
finishes_only Finishes f = refl

pub writable-site : (g : Family) (s : ℕ) (p : Place) → s < 65536 → p.file < 65536 → p.line < 4294967296 → p.column < 65536 → writable_of g (Site s p) ≡ (leb 1 p.line && leb 1 p.file && leb 1 p.column)
writable-site g s p hs hf hl hc = simp (lt-ltb s 65536 hs, lt-ltb p.file 65536 hf, lt-ltb p.line 4294967296 hl, lt-ltb p.column 65536 hc) (is-only _ _)

pub writable_call : (g : Family) (s : ℕ) → s < 65536 → writable_of g (Call s) ≡ true
writable_call g s h = simp (lt-ltb s 65536 h)

-- what document 01's family has alone
pub writable_spawn : (g : Family) (s : ℕ) → s < 65536 → writable_of g (Spawn s) ≡ is_base g
writable_spawn g s h = simp (lt-ltb s 65536 h) (base-only g (Spawn s))

pub writable-sync : (g : Family) → writable_of g Sync ≡ is_base g
writable-sync g = base-only g Sync

-- what the finish family has alone
pub writable-async : (g : Family) (s : ℕ) → s < 65536 → writable_of g (Async s) ≡ not (is_base g)
writable-async g s h = simp (lt-ltb s 65536 h) (finishes_only g (Async s))

pub writable-finish : (g : Family) → writable_of g Finish ≡ not (is_base g)
writable-finish g = finishes_only g Finish

-- a cost and its instructions, which differ in the kind alone
pub writable-value : (f : Frame) (v : ℕ) → v < 4294967296 → (ltb v 4294967296 && true && true && is_frame (only (leb 1 v && leb v 4294967295 && true && true) f)) ≡ leb 1 v
writable-value f v h = simp (lt-ltb v 4294967296 h, le-leb v 4294967295 (omega arith), and-true) (is-only _ _)

-- the characters of a frame that is written, and the refusal of one that is not
module _ (g : Family) (f : Frame) where
  pub write_line-is : writable_of g f ≡ true → write_line_of g f ≡ Ok (write_chars_of g f)
  write_line-is e = simp e

  pub write_line-ok : (l : List ℕ) → write_line_of g f ≡ Ok l → (writable_of g f ≡ true) × (l ≡ write_chars_of g f)
  write_line-ok l e = go (writable_of g f) refl
    where
      go : (b : Bool) → writable_of g f ≡ b → (writable_of g f ≡ true) × (l ≡ write_chars_of g f)
      go true h = let k = write_line-is h in (h, cc)
      go false h = absurd (let k : write_line_of g f ≡ Err (refusal 6 0) = simp h in let z : ◌≡◌ {A = ℕ} 0 1 = cc in omega arith)

  pub write_line-err : (r : Refusal) → write_line_of g f ≡ Err r → (writable_of g f ≡ false) × (r ≡ refusal 6 0)
  write_line-err r e = go (writable_of g f) refl
    where
      go : (b : Bool) → writable_of g f ≡ b → (writable_of g f ≡ false) × (r ≡ refusal 6 0)
      go true h = absurd (let k = write_line-is h in let z : ◌≡◌ {A = ℕ} 0 1 = cc in omega arith)
      go false h = let k : write_line_of g f ≡ Err (refusal 6 0) = simp h in (h, cc)

-- fields that have room and that the family's table has as a frame are written
listed : (e : Entry) {y : Line} → tabled e 0 ≡ Ok y → is_frame e ≡ true
listed (frame f) h = refl
listed none h = absurd (let z : ◌≡◌ {A = ℕ} 0 1 = cc in omega arith)

-- every kind has room in two digits
kind-narrow : (f : Frame) → (fields_of f).kind < 256
kind-narrow (Site s p) = omega arith
kind-narrow (Call s) = omega arith
kind-narrow (Spawn s) = omega arith
kind-narrow Sync = omega arith
kind-narrow Return = omega arith
kind-narrow (Cost v) = omega arith
kind-narrow (Instructions v) = omega arith
kind-narrow (Async s) = omega arith
kind-narrow Finish = omega arith

pub listed_line : (g : Family) (f : Frame) {x : Fields} {y : Line} {l : List ℕ} → x ≡ fields_of f → x.site < 65536 → x.value < 4294967296 → x.file < 65536 → x.column < 65536
    → tabled (table_of g x) 0 ≡ Ok y → l ≡ chars x → Ok l ≡ write_line_of g f
listed_line g f {x} e s v i c t h =
    let k : x.kind < 256 = subst⁻¹ (λ (z : Fields). z.kind < 256) e (kind-narrow f) in
    let w : writable_of g f ≡ true =
    ap (λ (z : Fields). narrow z && is_frame (table_of g z)) (sym e)
    ∙ simp (lt-ltb x.kind 256 k, lt-ltb x.site 65536 s, lt-ltb x.value 4294967296 v, lt-ltb x.file 65536 i, lt-ltb x.column 65536 c) (listed (table_of g x) t)
    in
    ap Ok (h ∙ ap chars e ∙ sym (ap (λ (b : Bool). cond b (chars (fields_of f)) (replicate 23 0)) w)) ∙ sym (write_line-is g f w)

-- "gives 23 characters", beside a refusal too
pub chars-length-of : (g : Family) (f : Frame) → length (write_chars_of g f) ≡ 23
chars-length-of g f = go (writable_of g f)
  where
    go : (b : Bool) → length (cond b (chars (fields_of f)) (replicate 23 0)) ≡ 23
    go true = refl
    go false = refl

pub chars-length : (f : Frame) → length (write_chars f) ≡ 23
chars-length = chars-length-of Base
