-- What the exported engines promise: the engine's own promise, with the answer in a lent slice of four numbers.
use Rattle.std.specs.Prelude.{ℕ, Bool, ◌&&◌, List, [], ◌∷◌, ◌≡◌, leb, length, Ok, Err}
use Rattle.line.specs.Family.{Family, Base}
use Rattle.line.specs.declared.Frame.{Frame}
use Rattle.trace.specs.Answer.{Answer}
use Rattle.trace.specs.Refusals.{Verdict, accepted, refused, verdict_of, verdict}
use Rattle.trace.specs.Promise.{Engine, Lent, enough, ProfileOf}
use Rattle.forecast.specs.declared.Entry.{Entry}
use Rattle.forecast.specs.Asked.{asking}
use Rattle.report.specs.Room.{Decision, write, refuse}
use Rattle.nyolifuwe.specs.Code.{coded, Gives}

-- 4: "any lent slice shorter than stated"; the answer, of four numbers, is one of them
abbrev pub roomy : Engine → List ℕ → ℕ → ℕ → Lent → List ℕ → Bool
roomy e s D M lent answer = enough e s D M lent && leb 4 (length answer)

-- "Accepted: total work, total span, number of sites, number of lines."
abbrev pub numbered : Answer → Decision
numbered (Ok p) = write (p.work ∷ p.span ∷ p.sites ∷ p.lines ∷ [])
numbered (Err r) = refuse r.number r.line

-- The engine e, lent the room before and the room for the answer, gives this code and leaves after and answer', where
-- this is the verdict.
pub record AnswersOf (g : Family) (e : Engine) (v : Verdict) (before : Lent) (answer : List ℕ) (given : ℕ) (after : Lent) (answer' : List ℕ) : Type 0 where
  pub when_accepted : (t : List Frame) → v ≡ accepted t → (r : Answer) × ProfileOf g e t before r after × Gives (numbered r) given answer answer'
  pub when_refused : (number line : ℕ) → v ≡ refused number line → (given ≡ coded number line) × (after ≡ before) × (answer' ≡ answer)

-- the same of the text s with limits D and M
abbrev pub ProfilesOf : Family → Engine → List ℕ → ℕ → ℕ → Lent → List ℕ → ℕ → Lent → List ℕ → Type 0
ProfilesOf g e s D M before answer given after answer' = AnswersOf g e (verdict_of g s D M (roomy e s D M before answer)) before answer given after answer'

-- those of document 01's traces
abbrev pub Answers : Engine → Verdict → Lent → List ℕ → ℕ → Lent → List ℕ → Type 0
Answers e v before answer given after answer' = AnswersOf Base e v before answer given after answer'

abbrev pub Profiles : Engine → List ℕ → ℕ → ℕ → Lent → List ℕ → ℕ → Lent → List ℕ → Type 0
Profiles e s D M before answer given after answer' = ProfilesOf Base e s D M before answer given after answer'

-- and of a forecast by these entries
abbrev pub Forecasts : Engine → List Entry → List ℕ → ℕ → ℕ → Lent → List ℕ → ℕ → Lent → List ℕ → Type 0
Forecasts e es s D M before answer given after answer' = Answers e (asking es (verdict s D M (roomy e s D M before answer))) before answer given after answer'
