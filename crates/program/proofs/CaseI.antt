-- Case I: the promise of the report program says what the rules print. Assumes nothing.
use Prim.Native.Nat.{ℕ, zero, suc, ◌≤◌}
use mathlib.Core.Bool.{true}
use mathlib.Core.List.{List, [], ◌∷◌, flat_map}
use mathlib.Core.Path.{◌≡◌, refl}
use native.Mathlib.Omega.{arith}
use Rattle.line.specs.Family.{Base}
use Rattle.line.specs.declared.Frame.{Frame}
use Rattle.chain.specs.Plan.{choose}
use Rattle.chain.specs.Over.{lines_in}
use Rattle.trace.specs.Series.{Chosen}
use Rattle.trace.specs.Rows.{Spans}
use Rattle.trace.specs.Refusals.{accepted, verdict}
use Rattle.trace.specs.Promise.{Row}
use Rattle.trace.specs.Tree.{call, spawn, spend, Body, done, leaf, child, lines_of, spans_in}
use Rattle.trace.specs.Fold.{chain_of}
use Rattle.trace.proofs.Twelve.{sited}
use Rattle.trace.proofs.Computed.{chosen-here, spans_here}
use Rattle.report.specs.Rows.{line_of}
use Rattle.program.specs.Print.{ruling, Prints}
use Rattle.program.specs.CaseI.{input, output, Claim}
use Rattle.program.proofs.Determined.{prints_unique}

-- the two sites, call 1 {spawn 2 {7}, 1}, 2
abbrev body : Body
body = sited (child call 1 (child spawn 2 (leaf (spend 7) done) (leaf (spend 1) done)) (leaf (spend 2) done))

abbrev t : List Frame
t = lines_of body

abbrev rows : List ℕ
rows = 1 ∷ 10 ∷ 9 ∷ 2 ∷ 2 ∷ 0 ∷ 0 ∷ 1 ∷ 8 ∷ 7 ∷ 1 ∷ 0 ∷ 0 ∷ 0 ∷ 1 ∷ 7 ∷ 7 ∷ 7 ∷ 7 ∷ 0 ∷ 0 ∷ []

is_accepted : verdict input 32 31 true ≡ accepted t
is_accepted = refl

spans : (s : ℕ) → Spans t s (spans_in s body)
spans = spans_here Base input 32 31 body refl is_accepted

chosen : Chosen t (lines_in (chain_of 0 0 body))
chosen = chosen-here Base input 32 31 body refl is_accepted

rows_are : (s : ℕ) → s ≤ 2 → Row t (lines_in (chain_of 0 0 body)) rows s
unfolding choose
rows_are zero l = record { calls_is = refl; work_is = refl; span_is = spans 0; local_is = refl; on_span_is = refl; ilocal_is = refl; ion_span_is = refl }
rows_are (suc zero) l = record { calls_is = refl; work_is = refl; span_is = spans 1; local_is = refl; on_span_is = refl; ilocal_is = refl; ion_span_is = refl }
rows_are (suc (suc zero)) l = record { calls_is = refl; work_is = refl; span_is = spans 2; local_is = refl; on_span_is = refl; ilocal_is = refl; ion_span_is = refl }
rows_are (suc (suc (suc s))) l = absurd (omega arith)

printed : Prints (ruling input) output
unfolding line_of flat_map
printed = record { chain = lines_in (chain_of 0 0 body); chosen = chosen; rows = rows; enough = omega arith; rows_are = rows_are; is = refl }

-- LAW: case I
pub case_i : Claim
case_i = (printed, λ out h. prints_unique (ruling input) out output h printed)
