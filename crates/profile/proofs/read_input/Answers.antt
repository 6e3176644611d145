-- What `profile::read_input` puts behind what it has is the reader's next.
use Rattle.std.proofs.Common.{◌≡◌, ℕ, ◌+◌, ◌-◌, ◌≤◌, List, ◌++◌, rules, length, take, sym, ap, ◌∙◌, subst, le_refl, length-take-le, drop_at}
use Rattle.std.proofs.lemmas.Slice.{take-put_mid_below}
use Rattle.std.proofs.lemmas.List.{take-append-le}
use Rattle.std.proofs.Math.Seq.{take-add}
use Rattle.std.proofs.KnownBytes.{Consumes-trans}
use Rattle.std.specs.Io.KnownBytes.{Consumes}
use borrow.Rule.Slice.PartMut.{put_mid, post_of}
use Rattle.profile.proofs.read_input.Goals as goal

-- the front of a list with a part put behind its first a
put_front : (a k n : ℕ) (xs ys : List ℕ) → a ≤ length xs → n ≤ length ys → take a xs ++ take n ys ≡ take (a + n) (put_mid a k xs ys)
put_front a k n xs ys within fits =
    let rest = ys ++ post_of a k xs in
    let behind = ap (take n) (drop_at (take a xs) rest a (length-take-le a xs within)) ∙ take-append-le n ys (post_of a k xs) fits in
    ap (λ l. l ++ take n ys) (sym (take-put_mid_below a k xs ys a (le_refl a) within))
    ∙ ap (λ l. take a (put_mid a k xs ys) ++ l) (sym behind)
    ∙ sym (take-add a n (put_mid a k xs ys))

pub loop-n-preserved : goal.loop-n-preserved
loop-n-preserved g c = (
  search rules,
  search rules,
  subst
      (Consumes _ _)
      (put_front c.loop-n.n (length c.loop-n.room - c.loop-n.n) c.in_ok-more.more c.loop-n.room c.read.new.buf c.loop-n.invariant.0 c.in_ok-more.ensures.bound.0)
      (Consumes-trans _ _ _ _ _ c.loop-n.invariant.2 c.in_ok-more.ensures.bytes.0),
)
