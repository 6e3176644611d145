-- What the readers of a line's kind, site and value say of a line that reads as a frame.
use mathlib.Core.Path.{◌≡◌, ap, ◌∙◌}
use mathlib.Core.List.{List}
use Prim.Native.Nat.{ℕ}
use Rattle.line.specs.Family.{Family, Base, Finishes}
use Rattle.line.specs.declared.Frame.{Frame}
use Rattle.line.specs.Read.{read_at_of, says}
use Rattle.line.specs.At.{site_at, value_at}
use Rattle.line.proofs.Items.{item_of, item}
use Rattle.walk.specs.Stands.{Says, kind_by, kind_of, site_of, value_of}

kind-by : (y : Family) (s : List ℕ) (n : ℕ) (f : Frame) → read_at_of y s n ≡ says n f → kind_by y s n ≡ kind_of f
kind-by Base s n f h = (item s n n f h).0
kind-by Finishes s n f h = (item_of Finishes s n n f h).0

-- of a number that was read at line m, which is line n
module _ (y : Family) (s : List ℕ) (m n r : ℕ) (at : m ≡ n) where
  pub kind-says : r ≡ kind_by y s m → Says y kind_of s n r
  kind-says e f h = e ∙ ap (kind_by y s) at ∙ kind-by y s n f h

  pub site-says : r ≡ site_at s m → Says y site_of s n r
  site-says e f h = e ∙ ap (site_at s) at ∙ (item_of y s n n f h).1

  pub value-says : r ≡ value_at s m → Says y value_of s n r
  value-says e f h = e ∙ ap (value_at s) at ∙ (item_of y s n n f h).2
