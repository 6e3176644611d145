use mathlib.Core.List.{List}
use Prim.Native.Nat.{ℕ, ◌+◌, ◌≤◌}
use native.Mathlib.Omega.{arith}
use Rattle.tables.specs.Walks.{Apart, Taken}
use Rattle.tables.proofs.Loops.{fewer, apart_in, taken_none, taken_then, taken-same, sums-fit}
use Rattle.tables.proofs.take_rows.Goals as goal

-- a row more
row : {stop b e g : ℕ} {t₀ : List ℕ} → Apart stop b e g t₀ → (from i : ℕ) → from ≤ i → i + 2 ≤ stop → (t t' : List ℕ) → Taken b e g stop from i t₀ t → Taken b e g (i + 2) i (i + 2) t t' → Taken b e g stop from (i + 2) t₀ t'
row {stop} a from i f in' t t' x y = taken_then a from i (i + 2) f (omega arith) t t' x (taken-same stop (i + 2) (λ k f s w. (s, s)) (λ k f s w. (w, omega arith)) y)

pub loop-i-init : goal.loop-i-init
loop-i-init c = (c.requires.both_even.0, taken_none c.requires.apart c.args.from)

pub take-requires-clause-apart : goal.take-requires-clause-apart
take-requires-clause-apart c = fewer (c.loop-i.i + 2) (omega (arith, c.loop-i.invariant.0, c.requires.both_even.1)) (apart_in c.loop-i.t c.loop-i.auto.t c.requires.apart)

pub take-requires-clause-sums_fit : goal.take-requires-clause-sums_fit
take-requires-clause-sums_fit c k h = sums-fit c.requires.apart c.requires.sums_fit c.args.from c.loop-i.i c.loop-i.t c.loop-i.invariant.1 k (omega (arith, c.loop-i.invariant.0, c.requires.both_even.1))

pub loop-i-preserved : goal.loop-i-preserved
loop-i-preserved c = (omega (arith, c.loop-i.invariant.0), row c.requires.apart c.args.from c.loop-i.i c.loop-i.auto.i (omega (arith, c.loop-i.invariant.0, c.requires.both_even.1)) c.loop-i.t _ c.loop-i.invariant.1 c.take.ensures)

pub returns-2 : goal.returns-2
returns-2 c =
    let in_it : c.loop-i.i + 2 ≤ c.args.stop = omega (arith, c.loop-i.invariant.0, c.requires.both_even.1) in
    taken-same c.args.stop c.args.stop (λ k f s w. (omega arith, w)) (λ k f s w. (w, w)) (row c.requires.apart c.args.from c.loop-i.i c.loop-i.auto.i in_it c.loop-i.t _ c.loop-i.invariant.1 c.take.ensures)
