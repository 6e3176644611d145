-- `report::write` meets its contract: each answer is what is decided by the tests that led to it. Assumes nothing.
use Prim.Native.Nat.{ℕ, ◌+◌}
use mathlib.Core.List.{◌++◌}
use mathlib.Core.Path.{◌≡◌, ◌∙◌, ap, sym}
use native.Mathlib.Nat.{zero-add}
use native.Mathlib.Omega.{arith}
use lib.ListN.{length, drop}
use Rattle.report.specs.Pieces.{pieces}
use Rattle.report.proofs.Decisions.{written, report-text}
use Rattle.report.proofs.Laying.{laid-front}
use Rattle.report.proofs.write.Goals as goal

pub returns : goal.returns
returns c =
    let a = c.args in
    let size = c.rows_size.ensures in
    let s = pieces a.idle a.rows.now (a.count + 1) in
    let long : length s ≡ c.put_rows.result = sym (c.put_rows.ensures.ends ∙ zero-add (length s)) in
    written s a.out.now _ c.put_rows.result (report-text a.rows.now a.count _ _ (length a.out.now) c.if-count-gt255.false c.if-rows-n.false (omega (arith, size, c.if-out-rows_size.false))) long
    (c.put_rows.ensures.left ∙ laid-front s a.out.now ∙ ap (λ (k : ℕ). s ++ drop k a.out.now) long)
