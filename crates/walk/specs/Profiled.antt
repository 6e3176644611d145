-- For proofs and engines, not for the reader of document 01: what an engine makes of an accepted text whose cost lines weigh
-- otherwise.
use Rattle.std.specs.Prelude.{ℕ, ◌≡◌, List, [], ◌∷◌}
use Rattle.line.specs.Family.{Family}
use Rattle.line.specs.declared.Frame.{Frame}
use Rattle.trace.specs.Answer.{Answer}
use Rattle.trace.specs.Refusals.{verdict_of, accepted}
use Rattle.trace.specs.Promise.{Engine, Lent, enough, ProfileOf}
use Rattle.weigh.specs.Weighed.{Weigh, reweighed}

-- the profile of the trace that the text s is, as weighed by w
abbrev pub Profiled : Family → Engine → Weigh → List ℕ → ℕ → ℕ → Lent → Answer → Lent → Type 0
Profiled y e w s D M before r after = (t : List Frame) → verdict_of y s D M (enough e s D M before) ≡ accepted t → ProfileOf y e (reweighed w 0 (0 ∷ []) t) before r after
