-- Of each line of an accepted trace exactly one of the four answers is true.
use mathlib.Core.Path.{◌≡◌, refl, sym, ◌∙◌, ap}
use mathlib.Core.Bool.{Bool, true, false, cond}
use mathlib.Core.List.{List, [], ◌∷◌}
use Prim.Native.Nat.{ℕ, zero, suc, ◌-◌, ◌≤◌, ◌<◌}
use native.Mathlib.Omega.{arith}
use lib.ListN.{length}
use Rattle.line.specs.declared.Frame.{Frame}
use Rattle.line.specs.declared.Frame.TheVariants.{Site, Call, Spawn, Sync, Return, Cost, Instructions, Async, Finish}
use Rattle.chain.specs.Over.{lines_in}
use Rattle.trace.specs.Shape.{Is, has}
use Rattle.trace.specs.Series.{value, value_at}
use Rattle.trace.specs.Rows.{total}
use Rattle.trace.specs.Refusals.{most_lines, is_cost, accepted, verdict}
use Rattle.trace.specs.Tree.{Body, lines_of, Parts, span_of}
use Rattle.trace.specs.Fold.{chain_of}
use Rattle.trace.proofs.Basics.{no_way}
use Rattle.trace.proofs.Scan.{accepted-is}
use Rattle.trace.proofs.Parse.{accepted-parts}
use Rattle.weigh.specs.Weighed.{weighed}
use Rattle.weigh.proofs.AnyWeight.{heavier, raised_span}
use Rattle.why.specs.declared.Why.{Why}
use Rattle.why.specs.declared.Why.TheVariants.{NotCost}
use Rattle.why.specs.Why.{True, Shown, IsNoCost, ExactlyOne}
use Rattle.why.specs.Seek.{sought, answer_of}
use Rattle.why.proofs.Through.{in_root, span-through, through-raised}
use Rattle.why.proofs.Unique.{why_unique, shown_unique}
use Rattle.why.proofs.TwoPasses.{two-passes}

-- line q is a cost line
abbrev pub cost_at : List Frame → ℕ → Bool
cost_at [] q = false
cost_at (e ∷ t) zero = is_cost e
cost_at (e ∷ t) (suc q) = cost_at t q

cost-frame : (f : Frame) → is_cost f ≡ true → f ≡ Cost (value f)
cost-frame (Site s p) h = no_way h
cost-frame (Call s) h = no_way h
cost-frame (Spawn s) h = no_way h
cost-frame Sync h = no_way h
cost-frame Return h = no_way h
cost-frame (Cost v) h = refl
cost-frame (Instructions v) h = no_way h
cost-frame (Async s) h = no_way h
cost-frame Finish h = no_way h

cost-there : (t : List Frame) (q : ℕ) → cost_at t q ≡ true → Is t q (Cost (value_at t q))
cost-there [] q h = no_way h
cost-there (e ∷ t) zero h = cost-frame e h
cost-there (e ∷ t) (suc q) h = cost-there t q h

no_cost_there : (t : List Frame) (q : ℕ) → cost_at t q ≡ false → IsNoCost t q
no_cost_there [] q h v i = i
no_cost_there (e ∷ t) zero h v i = no_way (sym h ∙ ap is_cost i)
no_cost_there (e ∷ t) (suc q) h v i = no_cost_there t q h v i

-- ── the answer by the tree, with the line raised by one more than the whole work ──

abbrev pub raise : Body → ℕ
raise b = suc (total (lines_of b))

abbrev pub raised_body : Body → ℕ → Body
raised_body b q = weighed (heavier q (raise b)) 0 0 b

abbrev pub marks_by : Body → ℕ → List ℕ
marks_by b q = lines_in (chain_of 0 0 (raised_body b q))

abbrev pub cost_answer : Body → ℕ → Why
cost_answer b q =
    answer_of (span_of (raised_body b q) - raise b) (sought (λ k. has k (marks_by b q)) 0 b).weighs.0 (sought (λ k. has k (marks_by b q)) 0 b).first

abbrev pub answer_by : Body → ℕ → Why
answer_by b q = cond (cost_at (lines_of b) q) (cost_answer b q) NotCost

abbrev pub lines_by : Body → ℕ → List ℕ
lines_by b q = cond (cost_at (lines_of b) q) (marks_by b q) []

module _ (D : ℕ) (t : List Frame) (p : Parts D t) (fits : length t ≤ most_lines) (q : ℕ) where
  -- LAW: it is the true one, and these are the lines to show
  pub answer_true : True t q (answer_by p.body q) × Shown t q (answer_by p.body q) (lines_by p.body q)
  answer_true = go (cost_at (lines_of p.body) q) refl
    where
      Good : Bool → Type 0
      Good b = True t q (cond b (cost_answer p.body q) NotCost) × Shown t q (cond b (cost_answer p.body q) NotCost) (cond b (marks_by p.body q) [])

      above : total t < raise p.body
      above = omega (arith, ap total p.lines)

      is : cost_at (lines_of p.body) q ≡ cost_at t q
      is = ap (λ (u : List Frame). cost_at u q) (sym p.lines)

      go : (b : Bool) → cost_at (lines_of p.body) q ≡ b → Good b
      go false e = (no_cost_there t q (sym is ∙ e), refl)
      go true e =
          let i = cost-there t q (sym is ∙ e) in
          let d = raise p.body in
          let s = span-through t q d (in_root D t p q (value_at t q) i) above (marks_by p.body q) (span_of (raised_body p.body q)) (through-raised D t p q (value_at t q) i d above) (raised_span D t p q d) in
          two-passes D t p fits q (value_at t q) d i above (λ k. has k (marks_by p.body q)) (λ k l. refl) (span_of (raised_body p.body q) - d) (omega (arith, s))

  -- LAW
  pub exactly-one-by : ExactlyOne t q
  exactly-one-by =
      let w = answer_true in
      record {
        answer = answer_by p.body q;
        is_true = w.0;
        only = λ a x. why_unique t q a (answer_by p.body q) x w.0;
        lines = lines_by p.body q;
        are_shown = w.1;
        only_lines = λ c x. shown_unique t q (answer_by p.body q) c (lines_by p.body q) x w.1;
      }

-- LAW: "Exactly one answer is given": of an accepted trace, whatever the line number
pub exactly-one : (s : List ℕ) (D M : ℕ) (room : Bool) (t : List Frame) → verdict s D M room ≡ accepted t → (q : ℕ) → ExactlyOne t q
exactly-one s D M room t a q = exactly-one-by D t (accepted-parts s D M room t a) (accepted-is s D M room t a).1.fine.lines_most q
