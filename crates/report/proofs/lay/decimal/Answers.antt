-- `report::lay::decimal` meets its contract: a part as long as the number is filled with its digits. Assumes nothing.
use Prim.Native.Nat.{ℕ, ◌+◌}
use mathlib.Core.Path.{◌∙◌, ap, sym}
use native.Mathlib.Omega.{arith}
use Rattle.digits.proofs.Figures.{decimal-length}
use Rattle.report.proofs.Laying.{decimal-laid}
use Rattle.report.proofs.lay.decimal.Goals as goal

pub slice_bounds-put_figures-end : goal.slice_bounds-put_figures-end
slice_bounds-put_figures-end c = omega (arith, c.requires, c.size.ensures, decimal-length c.args.x)

pub returns : goal.returns
returns c =
    let a = c.args in
    record { ends = ap (λ (k : ℕ). a.at + k) (c.size.ensures ∙ sym (decimal-length a.x)); left = decimal-laid a.x a.at _ a.out.now _ c.requires c.size.ensures c.put_figures.ensures }
