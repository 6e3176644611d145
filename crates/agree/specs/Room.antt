-- What a run gives that lacks room, what one gives that does not, and where their answers are equal.
use Rattle.std.specs.Prelude.{ℕ, ◌<◌, ◌≡◌, ◌↔◌, true, false, List, length, Err}
use Rattle.line.specs.Family.{Family, Base}
use Rattle.line.specs.declared.Frame.{Frame}
use Rattle.line.specs.Refusal.{refusal}
use Rattle.trace.specs.Refusals.{checks, accepted, refused, verdict_of}
use Rattle.trace.specs.Promise.{Engine, enough, ProfileOf}
use Rattle.agree.specs.Demand.{Run}

-- 4: "any lent slice shorter than stated"
abbrev pub LacksRoom : Engine → List ℕ → ℕ → ℕ → Run → Type 0
LacksRoom e s D M x = enough e s D M x.lent ≡ false

-- "Checks 1 to 4 run in that order": the refusal of a run that lacks room
abbrev pub refusal_for : List ℕ → ℕ → ℕ → ℕ
refusal_for s D M = checks (length s) D M false

-- a run that lacks room is refused, with line 0, and changes nothing
pub record WithoutRoom (s : List ℕ) (D M : ℕ) (x : Run) : Type 0 where
  pub answer : x.answer ≡ Err (refusal (refusal_for s D M) 0)
  pub unchanged : x.left ≡ x.lent

-- a run of the engine e that does not lack room gives the verdict on the text of family g
pub record WithRoomOf (g : Family) (e : Engine) (s : List ℕ) (D M : ℕ) (x : Run) : Type 0 where
  pub accepts : (t : List Frame) → verdict_of g s D M true ≡ accepted t → ProfileOf g e t x.lent x.answer x.left
  pub refuses : (number line : ℕ) → verdict_of g s D M true ≡ refused number line → (x.answer ≡ Err (refusal number line)) × (x.left ≡ x.lent)

-- x lacks room; y, a run of the engine f, does not
pub record OneLacksRoomOf (g : Family) (f : Engine) (s : List ℕ) (D M : ℕ) (x y : Run) : Type 0 where
  pub one : WithoutRoom s D M x
  pub other : WithRoomOf g f s D M y
  -- their answers are equal exactly where 1, 2 or 3 is given
  pub equal : (x.answer ≡ y.answer) ↔ (refusal_for s D M < 4)

-- that of document 01's traces
abbrev pub OneLacksRoom : Engine → List ℕ → ℕ → ℕ → Run → Run → Type 0
OneLacksRoom f s D M x y = OneLacksRoomOf Base f s D M x y
