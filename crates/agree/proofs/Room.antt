-- What a run gives that lacks room, beside one that does not; and refusal 4 is given on no other ground.
use mathlib.Core.Path.{◌≡◌, refl, sym, ◌∙◌, ap}
use mathlib.Core.Logic.{inl, inr}
use mathlib.Core.Bool.{Bool, true, false, cond}
use mathlib.Core.List.{List, [], ◌∷◌, ◌++◌}
use Prim.Native.Nat.{ℕ, zero, suc, ◌<◌}
use native.Mathlib.Omega.{arith}
use lib.ListN.{length}
use lib.Dec.{eqb}
use Rattle.std.specs.Prelude.{Ok, Err}
use Rattle.line.specs.Family.{Family}
use Rattle.line.specs.declared.Frame.{Frame}
use Rattle.line.specs.Table.{Entry, frame, none, table_of}
use Rattle.line.specs.Read.{fields, wrong, tabled, read_line_of, line_at, read_at_of, Read}
use Rattle.line.specs.Refusal.{refusal}
use Rattle.line.proofs.Same.{same-refusal}
use Rattle.trace.specs.Refusals.{line_count, after_root, stray, misplaced, above_m, place_again, undeclared, too_deep, fault, Verdict, accepted, refused, judged, scan, reads_from_of, verdict_of}
use Rattle.trace.specs.Promise.{Engine}
use Rattle.trace.proofs.Basics.{clash, no_way}
use Rattle.trace.proofs.Checks.{passed, room-last, by-checks}
use Rattle.trace.proofs.Answers.{same-number}
use Rattle.agree.specs.Demand.{Run, RanOf, HasRoom}
use Rattle.agree.specs.Room.{LacksRoom, refusal_for, WithoutRoom, OneLacksRoomOf}
use Rattle.agree.proofs.Demand.{accepts-of, refuses}

-- ── no line is refused with 4 ──

read_never : (g : Family) (s : List ℕ) (n m k : ℕ) → read_line_of g s n ≡ Err (refusal m k) → m ≡ 4 → ⊥
read_never g s n m k e h = go (eqb (length s) 23) (wrong s) (table_of g (fields s)) e
  where
    go : (a b : Bool) (x : Entry) → cond a (cond b (Err (refusal 5 n)) (tabled x n)) (Err (refusal 2 0)) ≡ Err (refusal m k) → ⊥
    go true true x q = let y = (same-refusal q).0 in omega arith
    go true false (frame f) q = clash (cc)
    go true false none q = let y = (same-refusal q).0 in omega arith
    go false b x q = let y = (same-refusal q).0 in omega arith

fault_never : (a b c d e f g : Bool) → ◌≡◌ {A = ℕ} (cond a 7 (cond b 22 (cond c 8 (cond d 9 (cond e 10 (cond f 11 (cond g 12 0))))))) 4 → ⊥
fault_never true b c d e f g q = omega arith
fault_never false true c d e f g q = omega arith
fault_never false false true d e f g q = omega arith
fault_never false false false true e f g q = omega arith
fault_never false false false false true f g q = omega arith
fault_never false false false false false true g q = omega arith
fault_never false false false false false false true q = omega arith
fault_never false false false false false false false q = omega arith

scan_never : (g : Family) (D M : ℕ) (s : List ℕ) (before : List Frame) (n count k : ℕ) → scan D M before (reads_from_of g s n count) ≡ refused 4 k → ⊥
scan_never g D M s before n zero k e = go (after_root before) e
  where
    go : (b : Bool) → cond b (accepted before) (refused 14 (length before)) ≡ refused 4 k → ⊥
    go true q = clash (cc)
    go false q = let y : ◌≡◌ {A = ℕ} 14 4 = cc in omega arith
scan_never g D M s before n (suc count) k e = go (λ f. scan_never g D M s (before ++ f ∷ []) (suc n) count k) (read_at_of g s n) refl e
  where
    rs : List Read
    rs = reads_from_of g s (suc n) count

    on : (j : ℕ) (f : Frame) (b : Bool) → (scan D M (before ++ f ∷ []) rs ≡ refused 4 k → ⊥) → cond b (scan D M (before ++ f ∷ []) rs) (refused (fault D M before f) j) ≡ refused 4 k → ⊥
    on j f true rec q = rec q
    on j f false rec q =
        let y : fault D M before f ≡ 4 = cc in
        fault_never (after_root before) (stray before f) (misplaced before f) (above_m M f) (place_again before f) (undeclared before f) (too_deep D before f) y

    go : ((f : Frame) → scan D M (before ++ f ∷ []) rs ≡ refused 4 k → ⊥) → (r : Read) → read_at_of g s n ≡ r → judged D M before r (λ f. scan D M (before ++ f ∷ []) rs) ≡ refused 4 k → ⊥
    go rec (Err w) r q = (let y : w.number ≡ 4 = cc in read_never g (line_at s n) n w.number w.line r y)
    go rec (Ok x) r q = on x.number x.frame (eqb (fault D M before x.frame) 0) (rec x.frame) q

-- ── the verdict without room, and with it ──

module _ (g : Family) (s : List ℕ) (D M : ℕ) where
  lacking : verdict_of g s D M false ≡ refused (refusal_for s D M) 0
  lacking = elim (by-checks g s D M false) [ inl h ↦ no_way (passed (length s) D M false h.0).roomy | inr h ↦ h.1 ]

  -- checks 1, 2 and 3 come before the room
  early : refusal_for s D M < 4 → verdict_of g s D M true ≡ refused (refusal_for s D M) 0
  early l = elim (room-last (length s) D M) [
    | inl k ↦ absurd (omega (arith, k.1))
    | inr k ↦ elim (by-checks g s D M true) [
      | inl h ↦ absurd (k.1.0 h.0)
      | inr h ↦ h.1 ∙ ap (λ (n : ℕ). refused n 0) (sym (k.1.1 false))
    ]
  ]

  -- LAW: with room the verdict has that number only where it is 1, 2 or 3; it is never 4
  pub never_four : (k : ℕ) → verdict_of g s D M true ≡ refused (refusal_for s D M) k → refusal_for s D M < 4
  never_four k e = elim (room-last (length s) D M) [
    | inl c ↦ elim (by-checks g s D M true) [
      | inl h ↦ absurd (scan_never g D M s [] 0 (line_count s) k (sym h.1 ∙ e ∙ ap (λ (n : ℕ). refused n k) c.1))
      | inr h ↦ absurd (h.0 c.0)
    ]
    | inr c ↦ omega (arith, c.0, c.1.1 false)
  ]

-- LAW: what a run gives that lacks room
pub lacks-room : (g : Family) (e : Engine) (s : List ℕ) (D M : ℕ) (x : Run) → RanOf g e s D M x → LacksRoom e s D M x → WithoutRoom s D M x
lacks-room g e s D M x h i =
    let w = h.when_refused (refusal_for s D M) 0 (ap (verdict_of g s D M) i ∙ lacking g s D M) in
    record { answer = w.0; unchanged = w.1 }

-- LAW: two such runs have equal answers, of either engine
pub both_lack_room : (g : Family) (e f : Engine) (s : List ℕ) (D M : ℕ) (x y : Run) → RanOf g e s D M x → RanOf g f s D M y → LacksRoom e s D M x → LacksRoom f s D M y → x.answer ≡ y.answer
both_lack_room g e f s D M x y h k i j = (lacks-room g e s D M x h i).answer ∙ sym (lacks-room g f s D M y k j).answer

-- LAW: where one lacks room and the other does not
pub one-lacks-room : (g : Family) (e f : Engine) (s : List ℕ) (D M : ℕ) (x y : Run) → RanOf g e s D M x → RanOf g f s D M y → LacksRoom e s D M x → HasRoom f s D M y → OneLacksRoomOf g f s D M x y
one-lacks-room g e f s D M x y h k i j =
    let w = lacks-room g e s D M x h i in
    record {
      one = w;
      other = record { accepts = accepts-of g f s D M y k j; refuses = refuses g f s D M y k j };
      equal = (λ q. go (verdict_of g s D M true) refl (sym w.answer ∙ q), λ l. w.answer ∙ sym (refuses g f s D M y k j (refusal_for s D M) 0 (early g s D M l)).0);
    }
  where
    go : (v : Verdict) → verdict_of g s D M true ≡ v → Err (refusal (refusal_for s D M) 0) ≡ y.answer → refusal_for s D M < 4
    go (accepted t) a q = let p = (accepts-of g f s D M y k j t a).answer in clash (cc)
    go (refused n l) a q =
        let p = (refuses g f s D M y k j n l a).0 in
        let z : n ≡ refusal_for s D M = same-number n l (refusal_for s D M) 0 (sym p ∙ sym q) in
        never_four g s D M l (a ∙ ap (λ (m : ℕ). refused m l) z)
