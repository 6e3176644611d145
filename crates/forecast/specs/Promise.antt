-- Request f: what a forecast promises.
use Rattle.std.specs.Prelude.{ℕ, List}
use Rattle.trace.specs.Answer.{Answer}
use Rattle.trace.specs.Refusals.{verdict}
use Rattle.trace.specs.Promise.{Engine, Lent, enough, Kept}
use Rattle.forecast.specs.declared.Entry.{Entry}
use Rattle.forecast.specs.Asked.{asking}

-- The engine e, asked by these entries, lent the text s with limits D and M and the room before, answers r and leaves
-- after. "The answer, rows and marks are proved equal to those of the trace rewritten so".
abbrev pub Forecast : Engine → List Entry → List ℕ → ℕ → ℕ → Lent → Answer → Lent → Type 0
Forecast e es s D M before r after = Kept e (asking es (verdict s D M (enough e s D M before))) before r after
