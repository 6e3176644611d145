-- The one number that every exported function answers: 0 where it accepts, otherwise the refusal's number and line.
use Rattle.std.specs.Prelude.{ℕ, ◌+◌, ◌*◌, List, ◌≡◌}
use Rattle.report.specs.Room.{Decision, write, refuse, leave}

-- a refusal in one number: its number is the lowest byte, its line the rest
abbrev pub coded : ℕ → ℕ → ℕ
coded number line = number + 256 * line

-- 0 where something is written
abbrev pub code : Decision → ℕ
code (write s) = 0
code (refuse number line) = coded number line

-- a function that decided so gave this code, and made this room of what the lent room held before: written from its
-- beginning, the rest unchanged
pub record Gives (d : Decision) (given : ℕ) (before after : List ℕ) : Type 0 where
  pub answered : given ≡ code d
  pub left : after ≡ leave d before
