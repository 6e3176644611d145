-- `report::lay::text` meets its contract: a part as long as the text is filled with it. Assumes nothing.
use Prim.Native.Nat.{◌+◌, ◌-◌}
use mathlib.Core.Path.{refl, ◌∙◌, ap}
use borrow.Rule.Slice.PartMut.{put_mid}
use lib.ListN.{length}
use Rattle.report.proofs.Laying.{laid-part}
use Rattle.report.proofs.lay.text.Goals as goal

pub returns : goal.returns
returns c =
    let a = c.args in
    let s = a.piece.now in
    let end = a.at + length s in
    record {
      ends = refl;
      left =
          ap (put_mid a.at (end - a.at) a.out.now) c.copy.ensures
          ∙ laid-part a.at a.out.now s c.requires end refl;
    }
