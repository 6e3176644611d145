-- What the exported compactor gives and leaves: the compactor's own promise, with the number of characters in a lent slice.
use Rattle.std.specs.Prelude.{ℕ, ◌≡◌, List, leb, length}
use Rattle.line.specs.declared.Frame.{Frame}
use Rattle.trace.specs.Refusals.{accepted, refused, verdict}
use Rattle.report.specs.Room.{refuse}
use Rattle.compact.specs.Compact.{Compacted}
use Rattle.compact.specs.Promise.{shelved}
use Rattle.nyolifuwe.specs.Texts.{Tells}

-- "those of 01", with 4 where there is no room for the number of characters, "then 21": the code that is given, and what
-- becomes of the room for the text and of that for the count
pub record Shelves (s : List ℕ) (D M given : ℕ) (out out' written written' : List ℕ) : Type 0 where
  pub when_accepted : (t : List Frame) → verdict s D M (leb 1 (length written)) ≡ accepted t → (u : List Frame) × Compacted t u × Tells (shelved u (length out)) given out out' written written'
  pub when_refused : (number line : ℕ) → verdict s D M (leb 1 (length written)) ≡ refused number line → Tells (refuse number line) given out out' written written'
