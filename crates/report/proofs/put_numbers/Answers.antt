use Prim.Native.Nat.{◌+◌, ◌*◌, ◌-◌}
use mathlib.Core.List.{flat_map}
use mathlib.Core.Path.{refl, ◌∙◌}
use native.Mathlib.Omega.{arith}
use borrow.Rule.Slice.PartMut.{same_len_mid}
use Rattle.report.proofs.Lines.{numbers_more}
use Rattle.report.proofs.put_numbers.Goals as goal

pub loop-k-init : goal.loop-k-init
unfolding flat_map
loop-k-init c = (c.requires, refl)

pub loop-k-preserved : goal.loop-k-preserved
loop-k-preserved c =
    let a = c.args in (
      same_len_mid (16 * c.loop-k.k) (16 * c.loop-k.k + 16 - 16 * c.loop-k.k) c.loop-k.part c.put_digits.new.part c.put_digits.auto.part ∙ c.loop-k.invariant.0,
      numbers_more a.numbers.now a.part.now c.loop-k.part c.put_digits.new.part c.loop-k.k (omega arith) c.loop-k.invariant.0 c.loop-k.invariant.1 c.put_digits.ensures,
    )
