-- `report::report_line` meets its contract: two parts, one behind the other, before the line feed. Assumes nothing.
use Prim.Native.Nat.{ℕ, ◌+◌, ◌*◌}
use mathlib.Core.List.{List, [], ◌∷◌, ◌++◌, append_assoc, flat_map}
use mathlib.Core.Path.{refl, ◌∙◌, ap}
use lib.ListN.{replicate}
use Rattle.digits.specs.Digits.{digits}
use Rattle.trace.specs.Rows.{columns}
use Rattle.report.specs.Rows.{line_of}
use Rattle.report.proofs.Parts.{behind}
use Rattle.report.proofs.report_line.Goals as goal

pub returns : goal.returns
unfolding line_of
returns c =
    let a = c.args in (
      refl,
      behind 4 (16 * columns) c.put_digits.new.part (replicate (16 * columns + 1) 10) c.put_numbers.new.part c.put_digits.auto.part
          ∙ ap (λ (x : List ℕ). (x ++ c.put_numbers.new.part) ++ 10 ∷ []) c.put_digits.ensures
          ∙ ap (λ (x : List ℕ). (digits 4 a.row ++ x) ++ 10 ∷ []) c.put_numbers.ensures
          ∙ append_assoc (digits 4 a.row) (flat_map (digits 16) a.numbers.now) (10 ∷ []),
    )
