-- What acceptance says of each line, apart from its characters.
use mathlib.Core.Path.{◌≡◌, refl, sym, ◌∙◌, ap, subst}
use mathlib.Core.Logic.{inl, inr}
use mathlib.Core.Bool.{Bool, true, false, cond, ◌&&◌}
use mathlib.Core.List.{List, [], ◌∷◌, ◌++◌, append_assoc, append-nil}
use Prim.Native.Nat.{ℕ, zero, suc, ◌+◌, ◌%◌, ◌≤◌}
use native.Mathlib.Omega.{arith}
use lib.ListN.{length}
use lib.Dec.{eqb, leb}
use borrow.Author.Tests.{eqb-true, leb-true, ltb-false, not-false}
use Rattle.std.specs.Prelude.{Ok, Err}
use Rattle.line.specs.Family.{Family, Base, Finishes}
use Rattle.line.specs.declared.Frame.{Frame}
use Rattle.line.specs.declared.Frame.TheVariants.{Site, Call, Spawn, Sync, Return, Cost, Instructions, Async, Finish}
use Rattle.line.specs.Table.{frame, only, value_only, table_of, fields_of}
use Rattle.line.specs.Read.{fields, read_line_of, line_at, read_at_of, read_at, Read, says}
use Rattle.line.proofs.Cases.{frames-of}
use Rattle.line.proofs.RoundTrip.{table-fields-of}
use Rattle.trace.specs.Shape.{Is, step, walk}
use Rattle.trace.specs.Refusals.{out_of_range, most_lines, line_count, open_now, after_root, stray, misplaced, above_m, place_again, undeclared, too_deep, fault, accepted, refused, judged, scan, reads_from_of, reads_of, verdict_of, verdict}
use Rattle.trace.proofs.Basics.{clash, both}
use Rattle.trace.proofs.Checks.{Passed, passed, by-checks}

-- what a family's table says of a frame, and of its numbers
abbrev pub InTable : Family → Frame → Type 0
InTable g (Site s p) = Unit {0}
InTable g (Call s) = Unit {0}
InTable Base (Spawn s) = Unit {0}
InTable Finishes (Spawn s) = ⊥
InTable Base Sync = Unit {0}
InTable Finishes Sync = ⊥
InTable g Return = Unit {0}
InTable g (Cost v) = (1 ≤ v) × (v ≤ 4294967295)
InTable g (Instructions v) = (1 ≤ v) × (v ≤ 4294967295)
InTable Base (Async s) = ⊥
InTable Finishes (Async s) = Unit {0}
InTable Base Finish = ⊥
InTable Finishes Finish = Unit {0}

-- a value that the table has
value_in_lem : (s v p c : ℕ) → value_only s v p c ≡ true → (1 ≤ v) × (v ≤ 4294967295)
value_in_lem s v p c h =
    let a = (both (eqb s 0 && leb 1 v && leb v 4294967295 && eqb p 0) (eqb c 0) h).0 in
    let b = (both (eqb s 0 && leb 1 v && leb v 4294967295) (eqb p 0) a).0 in
    let d = both (eqb s 0 && leb 1 v) (leb v 4294967295) b in
    (leb-true 1 v (both (eqb s 0) (leb 1 v) d.0).1, leb-true v 4294967295 d.1)

if_only : (v : ℕ) (f g : Frame) → only (value_only 0 v 0 0) f ≡ frame g → (1 ≤ v) × (v ≤ 4294967295)
if_only v f g q = go (value_only 0 v 0 0) refl q
  where
    go : (b : Bool) → value_only 0 v 0 0 ≡ b → only b f ≡ frame g → (1 ≤ v) × (v ≤ 4294967295)
    go true h q = value_in_lem 0 v 0 0 h
    go false h q = clash (cc)

-- a frame that the table has for its own fields
in_table : (g : Family) (f : Frame) → table_of g (fields_of f) ≡ frame f → InTable g f
in_table g (Site s p) q = tt
in_table g (Call s) q = tt
in_table Base (Spawn s) q = tt
in_table Finishes (Spawn s) q = clash (cc)
in_table Base Sync q = tt
in_table Finishes Sync q = clash (cc)
in_table g Return q = tt
in_table g (Cost v) q = if_only v (Cost v) (Cost v) q
in_table g (Instructions v) q = if_only v (Instructions v) (Instructions v) q
in_table Base (Async s) q = clash (cc)
in_table Finishes (Async s) q = tt
in_table Base Finish q = clash (cc)
in_table Finishes Finish q = tt

-- a line that reads as a frame has its own number, and the frame is in the table
pub read_line_lem : (g : Family) (s : List ℕ) (n k : ℕ) (f : Frame) → read_line_of g s n ≡ says k f → (k ≡ n) × InTable g f
read_line_lem g s n k f e =
    let (same, h, w, t) = frames-of g s n k f e in
    (same, in_table g f (ap (table_of g) (table-fields-of g (fields s) f t) ∙ t))

-- lines that pass, behind the lines before
abbrev pub Clean : Family → ℕ → ℕ → List Frame → List Frame → Type 0
Clean g D M before [] = after_root before ≡ true
Clean g D M before (f ∷ t) = (fault D M before f ≡ 0) × InTable g f × Clean g D M (before ++ f ∷ []) t

-- lines, the first of which is line n, read as these frames
abbrev pub Reads : ℕ → List Read → List Frame → Type 0
Reads n [] [] = Unit {0}
Reads n [] (f ∷ u) = ⊥
Reads n (r ∷ rs) [] = ⊥
Reads n (r ∷ rs) (f ∷ u) = (r ≡ says n f) × Reads (suc n) rs u

pub reads-length : (n : ℕ) (rs : List Read) (u : List Frame) → Reads n rs u → length u ≡ length rs
reads-length n [] [] r = refl
reads-length n [] (f ∷ u) r = absurd r
reads-length n (l ∷ ls) [] r = absurd r
reads-length n (l ∷ ls) (f ∷ u) r = ap suc (reads-length (suc n) ls u r.1)

pub reads-from-length : (g : Family) (s : List ℕ) (n count : ℕ) → length (reads_from_of g s n count) ≡ count
reads-from-length g s n zero = refl
reads-from-length g s n (suc count) = ap suc (reads-from-length g s (suc n) count)

-- each line by its number
pub read_is : (g : Family) (s : List ℕ) (n count : ℕ) (u : List Frame) → Reads n (reads_from_of g s n count) u → (i : ℕ) (f : Frame) → Is u i f → read_at_of g s (n + i) ≡ says (n + i) f
read_is g s n zero [] r i f h = absurd h
read_is g s n zero (e ∷ u) r i f h = absurd r
read_is g s n (suc count) [] r i f h = absurd r
read_is g s n (suc count) (e ∷ u) r zero f h = let z : n + 0 ≡ n = omega arith in rw (z, r.0) (ap (says n) h)
read_is g s n (suc count) (e ∷ u) r (suc i) f h = let z : n + suc i ≡ suc n + i = omega arith in rw z (read_is g s (suc n) count u r.1 i f h)

-- the frames that a scan took
pub record Took (g : Family) (D M : ℕ) (before t : List Frame) (n : ℕ) (rs : List Read) : Type 0 where
  pub rest : List Frame
  pub whole : t ≡ before ++ rest
  pub clean : Clean g D M before rest
  pub reads : Reads n rs rest

pub took : (g : Family) (D M : ℕ) (s : List ℕ) (before : List Frame) (n count : ℕ) (t : List Frame) → scan D M before (reads_from_of g s n count) ≡ accepted t → Took g D M before t n (reads_from_of g s n count)
took g D M s before n zero t e = go (after_root before) refl e
  where
    go : (b : Bool) → after_root before ≡ b → cond b (accepted before) (refused 14 (length before)) ≡ accepted t → Took g D M before t n []
    go true h q = record { rest = []; whole = (let i : t ≡ before = cc in i ∙ sym (append-nil before)); clean = h; reads = tt }
    go false h q = clash (cc)
took g D M s before n (suc count) t e = go (λ f q. took g D M s (before ++ f ∷ []) (suc n) count t q) (read_at_of g s n) refl e
  where
    rs : List Read
    rs = reads_from_of g s (suc n) count

    on : (k : ℕ) (f : Frame) (b : Bool) → (scan D M (before ++ f ∷ []) rs ≡ accepted t → Took g D M (before ++ f ∷ []) t (suc n) rs) → read_at_of g s n ≡ says k f → eqb (fault D M before f) 0 ≡ b
        → cond b (scan D M (before ++ f ∷ []) rs) (refused (fault D M before f) k) ≡ accepted t → Took g D M before t n (read_at_of g s n ∷ rs)
    on k f true rec r h q =
        let w = rec q in
        let x = read_line_lem g (line_at s n) n k f r in
        record {
          rest = f ∷ w.rest;
          whole = w.whole ∙ append_assoc before (f ∷ []) w.rest;
          clean = (eqb-true (fault D M before f) 0 h, x.1, w.clean);
          reads = (r ∙ ap (λ (i : ℕ). says i f) x.0, w.reads);
        }
    on k f false rec r h q = clash (cc)

    go : ((f : Frame) → scan D M (before ++ f ∷ []) rs ≡ accepted t → Took g D M (before ++ f ∷ []) t (suc n) rs) → (r : Read) → read_at_of g s n ≡ r
        → judged D M before r (λ f. scan D M (before ++ f ∷ []) rs) ≡ accepted t → Took g D M before t n (read_at_of g s n ∷ rs)
    go rec (Err w) r q = clash (cc)
    go rec (Ok x) r q = on x.number x.frame (eqb (fault D M before x.frame) 0) (rec x.frame) r refl q

-- frames that pass, within the limits of checks 1 and 3
pub record Fine (g : Family) (D M : ℕ) (t : List Frame) : Type 0 where
  pub clean : Clean g D M [] t
  pub least : 1 ≤ D
  pub most : D ≤ 64
  pub sites_most : M ≤ 255
  pub lines_most : length t ≤ most_lines

-- a text whose lines read as these frames, which pass
pub record Accepts (g : Family) (s : List ℕ) (D M : ℕ) (t : List Frame) : Type 0 where
  pub whole_lines : length s % 23 ≡ 0
  pub reads_as : Reads 0 (reads_of g s) t
  pub fine : Fine g D M t

pub in_range : (D M : ℕ) → out_of_range D M ≡ false → (1 ≤ D) × (D ≤ 64) × (M ≤ 255)
in_range D M e =
    let x = both (leb 1 D && leb D 64) (leb M 255) (not-false (leb 1 D && leb D 64 && leb M 255) e) in
    let y = both (leb 1 D) (leb D 64) x.0 in
    (leb-true 1 D y.0, leb-true D 64 y.1, leb-true M 255 x.1)

-- a verdict accepts one trace
pub accepted-same : (t u : List Frame) → accepted t ≡ accepted u → t ≡ u
accepted-same t u e = cc

-- LAW: a text that is accepted, check by check
pub accepted-is-of : (g : Family) (s : List ℕ) (D M : ℕ) (room : Bool) (t : List Frame) → verdict_of g s D M room ≡ accepted t → (room ≡ true) × Accepts g s D M t
accepted-is-of g s D M room t e = elim (by-checks g s D M room) [
  | inl h ↦ go (passed (length s) D M room h.0) (took g D M s [] 0 (line_count s) t (sym h.1 ∙ e))
  | inr h ↦ clash (let z = sym h.1 ∙ e in cc)
]
  where
    go : Passed (length s) D M room → Took g D M [] t 0 (reads_of g s) → (room ≡ true) × Accepts g s D M t
    go p k =
        let x = in_range D M p.in_range in (
          p.roomy,
          record {
            whole_lines = eqb-true (length s % 23) 0 (not-false (eqb (length s % 23) 0) p.whole);
            reads_as = subst (Reads 0 (reads_of g s)) (sym k.whole) k.reads;
            fine = record {
              clean = subst (Clean g D M []) (sym k.whole) k.clean;
              least = x.0;
              most = x.1;
              sites_most = x.2;
              lines_most = omega (arith, ap length k.whole, reads-length 0 (reads_of g s) k.rest k.reads, reads-from-length g s 0 (line_count s), ltb-false most_lines (line_count s) p.few);
            };
          },
        )

pub accepted-fine-of : (g : Family) (s : List ℕ) (D M : ℕ) (room : Bool) (t : List Frame) → verdict_of g s D M room ≡ accepted t → Fine g D M t
accepted-fine-of g s D M room t e = (accepted-is-of g s D M room t e).1.fine

-- LAW: each line of an accepted text reads as its frame
pub accepted-reads-of : (g : Family) (s : List ℕ) (D M : ℕ) (room : Bool) (t : List Frame) → verdict_of g s D M room ≡ accepted t → (i : ℕ) (f : Frame) → Is t i f → read_at_of g s i ≡ says i f
accepted-reads-of g s D M room t e i f h =
    let z : 0 + i ≡ i = omega arith in
    rw z at (read_is g s 0 (line_count s) t (accepted-is-of g s D M room t e).1.reads_as i f h)

pub accepted-length-of : (g : Family) (s : List ℕ) (D M : ℕ) (room : Bool) (t : List Frame) → verdict_of g s D M room ≡ accepted t → length t ≡ line_count s
accepted-length-of g s D M room t e = reads-length 0 (reads_of g s) t (accepted-is-of g s D M room t e).1.reads_as ∙ reads-from-length g s 0 (line_count s)

-- the same of document 01's traces
pub accepted-is : (s : List ℕ) (D M : ℕ) (room : Bool) (t : List Frame) → verdict s D M room ≡ accepted t → (room ≡ true) × Accepts Base s D M t
accepted-is = accepted-is-of Base

pub accepted-fine : (s : List ℕ) (D M : ℕ) (room : Bool) (t : List Frame) → verdict s D M room ≡ accepted t → Fine Base D M t
accepted-fine = accepted-fine-of Base

pub accepted-reads : (s : List ℕ) (D M : ℕ) (room : Bool) (t : List Frame) → verdict s D M room ≡ accepted t → (i : ℕ) (f : Frame) → Is t i f → read_at s i ≡ says i f
accepted-reads = accepted-reads-of Base

pub accepted-length : (s : List ℕ) (D M : ℕ) (room : Bool) (t : List Frame) → verdict s D M room ≡ accepted t → length t ≡ line_count s
accepted-length = accepted-length-of Base

-- no refusal of a line applies
pub record Faultless (D M : ℕ) (before : List Frame) (f : Frame) : Type 0 where
  pub not7 : after_root before ≡ false
  pub not22 : stray before f ≡ false
  pub not8 : misplaced before f ≡ false
  pub not9 : above_m M f ≡ false
  pub not10 : place_again before f ≡ false
  pub not11 : undeclared before f ≡ false
  pub not12 : too_deep D before f ≡ false

none_of : (a b c d e f g : Bool) → ◌≡◌ {A = ℕ} (cond a 7 (cond b 22 (cond c 8 (cond d 9 (cond e 10 (cond f 11 (cond g 12 0))))))) 0
    → (a ≡ false) × (b ≡ false) × (c ≡ false) × (d ≡ false) × (e ≡ false) × (f ≡ false) × (g ≡ false)
none_of true b c d e f g q = absurd (omega arith)
none_of false true c d e f g q = absurd (omega arith)
none_of false false true d e f g q = absurd (omega arith)
none_of false false false true e f g q = absurd (omega arith)
none_of false false false false true f g q = absurd (omega arith)
none_of false false false false false true g q = absurd (omega arith)
none_of false false false false false false true q = absurd (omega arith)
none_of false false false false false false false q = (refl, refl, refl, refl, refl, refl, refl)

pub faultless : (D M : ℕ) (before : List Frame) (f : Frame) → fault D M before f ≡ 0 → Faultless D M before f
faultless D M before f e =
    let h = none_of (after_root before) (stray before f) (misplaced before f) (above_m M f) (place_again before f) (undeclared before f) (too_deep D before f) e in
    record { not7 = h.0; not22 = h.1; not8 = h.2; not9 = h.3; not10 = h.4; not11 = h.5; not12 = h.6 }

pub fault-zero : (D M : ℕ) (before : List Frame) (f : Frame) → Faultless D M before f → fault D M before f ≡ 0
fault-zero D M before f h = simp (h.not7, h.not22, h.not8, h.not9, h.not10, h.not11, h.not12)

-- one line more
walk_snoc : (n : ℕ) (o : List ℕ) (b : List Frame) (f : Frame) → walk n o (b ++ f ∷ []) (length (b ++ f ∷ [])) ≡ step (n + length b) f (walk n o b (length b))
walk_snoc n o [] f = let e : n ≡ n + 0 = omega arith in ap (λ (k : ℕ). step k f o) e
walk_snoc n o (e ∷ b) f =
    let q : suc n + length b ≡ n + suc (length b) = omega arith in
    walk_snoc (suc n) (step n e o) b f ∙ ap (λ (k : ℕ). step k f (walk (suc n) (step n e o) b (length b))) q

pub now : (before : List Frame) (f : Frame) → open_now (before ++ f ∷ []) ≡ step (length before) f (open_now before)
now before f =
    let e : 0 + length before ≡ length before = omega arith in
    walk_snoc 0 (0 ∷ []) before f ∙ ap (λ (k : ℕ). step k f (open_now before)) e
