-- Where checks 1 to 3 pass: the limits hold, and the room that the table engine asks for is small. Assumes nothing.
use mathlib.Core.Path.{◌≡◌, sym, ◌∙◌}
use mathlib.Core.Bool.{Bool, true}
use mathlib.Core.List.{List}
use Prim.Native.Nat.{ℕ, ◌+◌, ◌*◌, ◌≤◌}
use native.Mathlib.Nat.{mul-le-mul_left}
use native.Mathlib.Omega.{arith}
use lib.ListN.{length}
use borrow.Author.Tests.{ltb-false}
use Rattle.trace.specs.Refusals.{line_count, checks}
use Rattle.trace.proofs.Checks.{passed}
use Rattle.trace.proofs.Scan.{in_range}
use Rattle.admit.specs.Answer.{opening}
use Rattle.admit.specs.Step.{Limits}

module _ (s : List ℕ) (D M : ℕ) (room : Bool) (n : ℕ) (e : n ≡ checks (length s) D M room) where
  pub limits : n ≡ 0 → Limits D M s
  limits z =
      let p = passed (length s) D M room (sym e ∙ z) in
      let x = in_range D M p.in_range in
      record { least = x.0; most = x.1; sites_most = x.2; lines_most = ltb-false 65536 (line_count s) p.few }

-- n: what checks 1 to 3 give
module _ (s : List ℕ) (D M : ℕ) (n : ℕ) (e : n ≡ opening (length s) D M) where
  module _ (z : n ≡ 0) where
    -- the table engine's scratch is far below the machine's numbers
    pub scratch-small : 7 * D * (M + 3) ≤ 115584
    scratch-small =
        let l = limits s D M true n e z in
        let h : M + 3 ≤ 258 = omega (arith, l.sites_most) in
        omega (arith, l.most, mul-le-mul_left (7 * D) h)
