-- When the exported writer of folded stacks takes its decisions, what it then promises, and that a promise leaves one
-- outcome. Assumes nothing.
use Prim.Native.Nat.{ℕ, ◌+◌, ◌≤◌, ◌<◌}
use mathlib.Core.Bool.{Bool, true, false, cond, ◌&&◌, and-true, and-false}
use mathlib.Core.List.{List}
use mathlib.Core.Path.{◌≡◌, refl, ap, ◌∙◌, sym}
use native.Mathlib.Omega.{arith}
use borrow.Author.Tests.{le-leb, lt-leb, ltb-true}
use lib.Dec.{leb, ltb}
use lib.ListN.{length}
use Rattle.line.specs.Family.{Base}
use Rattle.line.specs.declared.Frame.{Frame}
use Rattle.trace.specs.Shape.{sites}
use Rattle.trace.specs.Refusals.{Verdict, accepted, refused, verdict}
use Rattle.trace.proofs.Scan.{accepted-fine}
use Rattle.report.specs.Room.{Decision, write, refuse, fitting, answer, Wrote}
use Rattle.names.specs.Names.{shown, first_bad}
use Rattle.folded.specs.Text.{folded}
use Rattle.folded.specs.Folding.{decide, folding, cleared, Folds}
use Rattle.admit.proofs.Admitted.{accepted-sites}
use Rattle.admit.proofs.Refused.{refused-line}
use Rattle.nyolifuwe.specs.Code.{coded}
use Rattle.nyolifuwe.specs.Inside.{told, line_of, noted, unroomy}
use Rattle.nyolifuwe.specs.Stacks.{folded_stacks, Folded}
use Rattle.nyolifuwe.proofs.Decided.{untold, tells}
use Rattle.nyolifuwe.proofs.Profiled.{roomless}
use Rattle.nyolifuwe.proofs.Sheets.{one_telling}

-- the line in the writer's answer
module _ (p q : List ℕ) (room : ℕ) where
  fitting_0 : (b : Bool) (text : List ℕ) → line_of (answer (cond b (refuse 18 0) (write text))) ≡ 0
  fitting_0 true text = refl
  fitting_0 false text = refl

  decided-line : (t : List Frame) → sites t ≤ 255 → line_of (answer (decide p q room (accepted t))) ≤ 65536
  decided-line t few = go (ltb (first_bad p q (sites t + 1)) (sites t + 1)) refl
    where
      go : (b : Bool) → ltb (first_bad p q (sites t + 1)) (sites t + 1) ≡ b
          → line_of (answer (cond b (refuse 17 (first_bad p q (sites t + 1))) (fitting 18 (folded (shown p q) t) room))) ≤ 65536
      go true e = omega (arith, ltb-true (first_bad p q (sites t + 1)) (sites t + 1) e)
      go false e = omega (arith, fitting_0 (ltb room (length (folded (shown p q) t))) (folded (shown p q) t))

  pub stacks_line : (s : List ℕ) (D M n : ℕ) {r : Wrote} → r ≡ answer (folding s D M p q n room) → line_of r ≤ 65536
  stacks_line s D M n {r} e = go (verdict s D M (leb D n)) refl
    where
      go : (v : Verdict) → verdict s D M (leb D n) ≡ v → line_of r ≤ 65536
      go (accepted t) h =
          let few : sites t ≤ 255 = omega (arith, accepted-sites s D M (leb D n) t h, (accepted-fine s D M (leb D n) t h).sites_most) in
          omega (arith, ap line_of e, ap (λ (v : Verdict). line_of (answer (decide p q room v))) h, decided-line t few)
      go (refused number line) h =
          omega (arith, ap line_of e, ap (λ (v : Verdict). line_of (answer (decide p q room v))) h, refused-line s D M (leb D n) number line h)

module _ (s : List ℕ) (D M : ℕ) (p q out written scratch : List ℕ) where
  abbrev decision : Decision
  decision = folded_stacks s D M p q (length scratch) (length out) (length written)

  -- without room for the count, and with it
  pub stacks_unroomy : length written < 1 → Folded decision (unroomy (length s) D M) out out written written scratch scratch
  stacks_unroomy few =
      let none : (leb D (length scratch) && leb 1 (length written)) ≡ false = ap (λ (b : Bool). leb D (length scratch) && b) (lt-leb _ _ few) ∙ and-false (leb D (length scratch)) in
      let e : decision ≡ refuse (unroomy (length s) D M) 0 = ap (λ (b : Bool). decide p q (length out) (verdict s D M b)) none ∙ ap (decide p q (length out)) (roomless Base s D M) in
      let z : unroomy (length s) D M ≡ coded (unroomy (length s) D M) 0 = omega arith in
      record { tells = rw z (untold (unroomy (length s) D M) 0 out written e); scratch_left = sym (ap (λ (d : Decision). cleared d scratch) e) }

  pub stacks_told : {r : Wrote} {given : ℕ} {out' written' scratch' : List ℕ} → 1 ≤ length written
      → Folds (folding s D M p q (length scratch) (length out)) r out out' scratch scratch' → given ≡ told r → written' ≡ noted r written
      → Folded decision given out out' written written' scratch scratch'
  stacks_told some w g n =
      let all : (leb D (length scratch) && leb 1 (length written)) ≡ leb D (length scratch) = ap (λ (b : Bool). leb D (length scratch) && b) (le-leb _ _ some) ∙ and-true (leb D (length scratch)) in
      let e : decision ≡ folding s D M p q (length scratch) (length out) = ap (λ (b : Bool). decide p q (length out) (verdict s D M b)) all in
      rw e (record { tells = tells (folding s D M p q (length scratch) (length out)) w.writes g n; scratch_left = w.scratch_is })

-- LAW: a decision leaves one code and one outcome
pub one-folding : {d : Decision} {given given' : ℕ} {text text' text'' written written' written'' scratch scratch' scratch'' : List ℕ}
    → Folded d given text text' written written' scratch scratch' → Folded d given' text text'' written written'' scratch scratch''
    → (given ≡ given') × (text' ≡ text'') × (written' ≡ written'') × (scratch' ≡ scratch'')
one-folding a b =
    let x = one_telling a.tells b.tells in
    (x.0, x.1, x.2, a.scratch_left ∙ sym b.scratch_left)
