-- Request i as one law of the definitions, and carried to both engines.
use Rattle.std.specs.Prelude.{ℕ, ◌+◌, ◌≤◌, ◌≡◌, Bool, true, List, length}
use Rattle.line.specs.declared.Frame.{Frame}
use Rattle.line.specs.declared.Frame.TheVariants.{Cost}
use Rattle.trace.specs.Answer.{profiled}
use Rattle.trace.specs.Shape.{Is, root, sites}
use Rattle.trace.specs.Series.{Span}
use Rattle.trace.specs.Rows.{total, ilocal, ion_span}
use Rattle.trace.specs.Refusals.{accepted, verdict}
use Rattle.trace.specs.Promise.{Engine}
use Rattle.weigh.specs.Raised.{raised}
use Rattle.agree.specs.Demand.{Run, Ran, HasRoom}
use Rattle.moves.specs.Moves.{Moves}
use Rattle.moves.specs.Text.{with_cost}

-- "raise one cost line by d, with d at least 1 and the new value still within range": line k costs v
pub record MayRaise (t : List Frame) (k v d : ℕ) : Type 0 where
  pub cost_line : Is t k (Cost v)
  pub at_least_one : 1 ≤ d
  pub within_range : v + d ≤ 4294967295

-- the text s is accepted as the trace t, with the limits D and M and this room, and its line k is so raised
pub record AfterRaise (s : List ℕ) (D M : ℕ) (room : Bool) (t : List Frame) (k v d : ℕ) : Type 0 where
  -- the text with that one line written anew is accepted too, with the same limits and room, as the raised trace
  pub accepted_too : verdict (with_cost s k (v + d)) D M room ≡ accepted (raised t k d)
  -- the root's span, before and then
  pub span : ℕ
  pub is_span : Span t root span
  pub raised_span : ℕ
  pub is_raised_span : Span (raised t k d) root raised_span
  -- "The span then grows by at most d and never falls ...": the root's, and that of any other invocation
  pub moves : (F m n : ℕ) → Span t F m → Span (raised t k d) F n → Moves t F k d m n
  -- 02, request l: "Cycles and instructions are separate measures": instructions stay as they are, local and on any chain
  pub same_ilocal : (i : ℕ) → ilocal (raised t k d) i ≡ ilocal t i
  pub same_ion_span : (c : List ℕ) (i : ℕ) → ion_span (raised t k d) c i ≡ ion_span t c i

-- "State it for the definition": of every accepted trace
abbrev pub HowFar : Type 0
HowFar = (s : List ℕ) (D M : ℕ) (room : Bool) (t : List Frame) (k v d : ℕ) → verdict s D M room ≡ accepted t → MayRaise t k v d → AfterRaise s D M room t k v d

-- x is a run on the trace t, and y one on the trace whose line k is raised by d: what they answer
pub record Moved (t : List Frame) (k d : ℕ) (x y : Run) : Type 0 where
  pub span : ℕ
  pub raised_span : ℕ
  pub answers : x.answer ≡ profiled (total t) span (sites t) (length t)
  pub raised_answers : y.answer ≡ profiled (total t + d) raised_span (sites t) (length t)
  pub moves : Moves t root k d span raised_span

-- "and carry it to both engines": of every two runs, each of either engine, that do not lack room
abbrev pub BothEngines : Type 0
BothEngines = (e f : Engine) (s : List ℕ) (D M : ℕ) (t : List Frame) (k v d : ℕ) (x y : Run) → verdict s D M true ≡ accepted t → MayRaise t k v d
    → Ran e s D M x → HasRoom e s D M x → Ran f (with_cost s k (v + d)) D M y → HasRoom f (with_cost s k (v + d)) D M y → Moved t k d x y
