-- Lines that read as those of a body are whole lines of the text.
use mathlib.Core.Path.{◌≡◌}
use mathlib.Core.List.{List}
use Prim.Native.Nat.{ℕ, ◌+◌, ◌*◌, ◌≤◌}
use native.Mathlib.Omega.{arith}
use lib.ListN.{length, drop, length-drop, length-take}
use Rattle.line.specs.Family.{Family}
use Rattle.line.specs.declared.Frame.{Frame}
use Rattle.line.specs.declared.Frame.TheVariants.{Return}
use Rattle.line.specs.Read.{line_at, read_at_of, says}
use Rattle.line.proofs.Cases.{frames-of}
use Rattle.trace.specs.Tree.{Body, done, leaf, child, size}
use Rattle.weigh.specs.Weighed.{Weigh}
use Rattle.walk.specs.Stands.{Whole}
use Rattle.walk.specs.Reads.{Reads}

pub line-whole : (y : Family) (s : List ℕ) (n : ℕ) (f : Frame) → read_at_of y s n ≡ says n f → Whole s n
line-whole y s n f e = omega (arith, (frames-of y (line_at s n) n n f e).1, length-take 23 (drop (23 * n) s), length-drop (23 * n) s)

-- all lines of a body
pub lines_in_lem : (y : Family) (w : Weigh) (s : List ℕ) (n row : ℕ) (b : Body) → Reads y w s n row b → 23 * (n + size b) ≤ length s
lines_in_lem y w s n row done h = omega (arith, line-whole y s n Return h)
lines_in_lem y w s n row (leaf l r) h = omega (arith, lines_in_lem y w s (n + 1) row r h.1)
lines_in_lem y w s n row (child v j g r) h = omega (arith, lines_in_lem y w s (n + (1 + size g)) row r h.2)
