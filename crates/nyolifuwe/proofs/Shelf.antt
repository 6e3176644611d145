-- The compactor's promise carried to the interface, with and without room for the count; and that it leaves one outcome.
-- Assumes nothing.
use Prim.Native.Nat.{ℕ, ◌≤◌, ◌<◌}
use mathlib.Core.Bool.{Bool, true, false, cond}
use mathlib.Core.List.{List}
use mathlib.Core.Path.{◌≡◌, refl, ap, ◌∙◌, sym, subst}
use native.Mathlib.Omega.{arith}
use borrow.Author.Tests.{le-leb, lt-leb}
use lib.Dec.{leb, ltb}
use lib.ListN.{length}
use Rattle.line.specs.Family.{Base}
use Rattle.line.specs.declared.Frame.{Frame}
use Rattle.trace.specs.Refusals.{Verdict, accepted, refused, verdict}
use Rattle.trace.specs.Written.{text_of}
use Rattle.trace.proofs.Basics.{clash}
use Rattle.report.specs.Room.{write, refuse, answer, Wrote}
use Rattle.compact.specs.Promise.{shelved, Compacts}
use Rattle.compact.proofs.Tied.{compact-only}
use Rattle.admit.proofs.Refused.{refused-line}
use Rattle.nyolifuwe.specs.Code.{coded}
use Rattle.nyolifuwe.specs.Inside.{told, line_of, noted, unroomy}
use Rattle.nyolifuwe.specs.Texts.{Tells}
use Rattle.nyolifuwe.specs.Shelf.{Shelves}
use Rattle.nyolifuwe.proofs.Decided.{untold, tells}
use Rattle.nyolifuwe.proofs.Profiled.{roomless}
use Rattle.nyolifuwe.proofs.Sheets.{one_telling}

-- the line in the compactor's answer
pub shelf_line : {s : List ℕ} {D M : ℕ} {r : Wrote} {out out' : List ℕ} → Compacts s D M r out out' → line_of r ≤ 65536
shelf_line {s} {D} {M} {r} {out} {out'} p = go (verdict s D M true) refl
  where
    short : (b : Bool) (text : List ℕ) → line_of (answer (cond b (refuse 21 0) (write text))) ≡ 0
    short true text = refl
    short false text = refl

    go : (v : Verdict) → verdict s D M true ≡ v → line_of r ≤ 65536
    go (accepted t) h =
        let w = p.when_accepted t h in
        omega (arith, ap line_of w.writes.answered, short (ltb (length out) (length (text_of w.result))) (text_of w.result))
    go (refused number line) h = omega (arith, ap line_of (p.when_refused number line h).answered, refused-line s D M true number line h)

module _ (s : List ℕ) (D M : ℕ) (out written : List ℕ) where
  -- without room for the count, and with it
  pub shelf_unroomy : length written < 1 → Shelves s D M (unroomy (length s) D M) out out written written
  shelf_unroomy few =
      let is = ap (verdict s D M) (lt-leb _ _ few) ∙ roomless Base s D M in
      let z : unroomy (length s) D M ≡ coded (unroomy (length s) D M) 0 = omega arith in
      record {
        when_accepted = λ t h. clash (let x = sym is ∙ h in cc);
        when_refused = λ number line h. (
            let x = sym is ∙ h in
            let e : refuse number line ≡ refuse (unroomy (length s) D M) 0 = cc in
            rw z (untold (unroomy (length s) D M) 0 out written e)
            );
      }

  pub shelf_told : {r : Wrote} {given : ℕ} {out' written' : List ℕ} → 1 ≤ length written → Compacts s D M r out out' → given ≡ told r → written' ≡ noted r written
      → Shelves s D M given out out' written written'
  shelf_told some p g n =
      let all = ap (verdict s D M) (le-leb _ _ some) in
      record {
        when_accepted = λ t h. (let w = p.when_accepted t (sym all ∙ h) in (w.result, w.compacted, tells (shelved w.result (length out)) w.writes g n));
        when_refused = λ number line h. tells (refuse number line) (p.when_refused number line (sym all ∙ h)) g n;
      }

-- LAW: a trace, limits and lent room leave one code and one outcome
pub one_shelving : {s : List ℕ} {D M given given' : ℕ} {out out' out'' written written' written'' : List ℕ}
    → Shelves s D M given out out' written written' → Shelves s D M given' out out'' written written'' → (given ≡ given') × (out' ≡ out'') × (written' ≡ written'')
one_shelving {s} {D} {M} {given} {given'} {out} {out'} {out''} {written} {written'} {written''} p q = go (verdict s D M (leb 1 (length written))) refl
  where
    go : (v : Verdict) → verdict s D M (leb 1 (length written)) ≡ v → (given ≡ given') × (out' ≡ out'') × (written' ≡ written'')
    go (accepted t) h =
        let (u, c, x) = p.when_accepted t h in
        let (v, d, y) = q.when_accepted t h in
        let same : u ≡ v = compact-only t u c ∙ sym (compact-only t v d) in
        one_telling (subst (λ (w : List Frame). Tells (shelved w (length out)) given out out' written written') same x) y
    go (refused number line) h = one_telling (p.when_refused number line h) (q.when_refused number line h)
