-- What a tuner reads from the answer: how far raising the asked line moves the span.
use Rattle.std.specs.Prelude.{ℕ, ◌+◌, ◌-◌, ◌≡◌, List}
use Rattle.line.specs.declared.Frame.{Frame}
use Rattle.trace.specs.Shape.{root}
use Rattle.trace.specs.Series.{Span}
use Rattle.weigh.specs.Raised.{raised}
use Rattle.why.specs.declared.Why.{Why}
use Rattle.why.specs.declared.Why.TheVariants.{NotCost, OnChain, Slack, Tied}
use Rattle.why.specs.Why.{True}

-- By how much the span grows where the line is raised by d: a line that is no cost has nothing to raise; one on the chosen
-- chain and a tied one move the span by the whole of d; one of slack n by what goes beyond n, and by nothing up to it.
abbrev pub grows : Why → ℕ → ℕ
grows NotCost d = 0
grows OnChain d = d
grows (Slack n) d = d - n
grows (Tied k) d = d

-- m is the root's span, and n its span where line q weighs d more
abbrev pub Grows : Type 0
Grows = (t : List Frame) (q : ℕ) (a : Why) → True t q a → (d m n : ℕ) → Span t root m → Span (raised t q d) root n → n ≡ m + grows a d
