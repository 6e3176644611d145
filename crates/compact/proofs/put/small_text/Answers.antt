-- `compact::put::small_text` meets its contract: a part as long as the text is filled with it. Assumes nothing.
use Prim.Native.Nat.{◌+◌, ◌-◌, ◌≤◌}
use mathlib.Core.Path.{◌∙◌, ap}
use native.Mathlib.Omega.{arith}
use borrow.Rule.Slice.PartMut.{put_mid}
use lib.ListN.{length}
use Rattle.digits.specs.Digits.{small_form}
use Rattle.digits.proofs.Laws.{small-length}
use Rattle.report.proofs.Laying.{laid-part}
use Rattle.compact.proofs.put.small_text.Goals as goal

pub returns : goal.returns
returns c =
    let a = c.args in
    let s = a.text.now in
    let end = a.at + length s in
    let size = small-length s in
    let fit : a.at + length (small_form s) ≤ length a.out.now = omega (arith, c.requires) in
    record {
      ends = omega arith;
      left =
          ap (put_mid a.at (end - a.at) a.out.now) c.small_letters.ensures
          ∙ laid-part a.at a.out.now (small_form s) fit end (omega arith);
    }
