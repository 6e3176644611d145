-- A law of a part that is put behind what is done. Assumes nothing.
use Prim.Native.Nat.{ℕ}
use mathlib.Core.List.{List, ◌++◌, append_assoc}
use mathlib.Core.Path.{◌≡◌, ap, ◌∙◌, sym}
use borrow.Rule.Slice.PartMut.{put_mid}
use lib.ListN.{length, drop}
use lib.Seq.{take_at, drop_at}

-- a part put right behind what is done
pub behind : (a k : ℕ) (done rest ys : List ℕ) → length done ≡ a → put_mid a k (done ++ rest) ys ≡ (done ++ ys) ++ drop k rest
behind a k done rest ys l =
    ap (λ (t : List ℕ). t ++ (ys ++ drop k (drop a (done ++ rest)))) (take_at done rest a l)
    ∙ ap (λ (t : List ℕ). done ++ (ys ++ drop k t)) (drop_at done rest a l)
    ∙ sym (append_assoc done ys (drop k rest))
