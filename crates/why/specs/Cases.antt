-- Case G of document 01 asked at each of its lines, worked out by hand: 1, spawn 1 {10}, 2, spawn 2 {8}, 1. The sites are
-- lines 0 and 1, the costs lines 2, 4, 6, 8 and 10. The span is 11. The heaviest chains are lines 2 and 4 (1 + 10), which is
-- the chosen one, and lines 2, 6 and 8 (1 + 2 + 8), which is the only heaviest through line 6 or line 8: of the chosen
-- chain's lines it lacks line 4. The heaviest through line 10 is lines 2, 6 and 10 (1 + 2 + 1), which weighs 7 less.
use Rattle.std.specs.Prelude.{ℕ, ◌≡◌, true, List, [], ◌∷◌}
use Rattle.line.specs.declared.Frame.{Frame}
use Rattle.trace.specs.Refusals.{accepted, verdict}
use Rattle.moves.specs.Cases.{G}
use Rattle.why.specs.declared.Why.{Why}
use Rattle.why.specs.declared.Why.TheVariants.{NotCost, OnChain, Slack, Tied}
use Rattle.why.specs.Why.{True, Shown}

-- a line, the answer, and the lines that the marks show
pub record Case : Type 0 where
  pub line : ℕ
  pub answer : Why
  pub marked : List ℕ

abbrev pub case : ℕ → Why → List ℕ → Case
case q a c = record { line = q; answer = a; marked = c }

abbrev pub cases : List Case
cases =
    case 0 NotCost []
    ∷ case 1 NotCost []
    ∷ case 2 OnChain (2 ∷ 4 ∷ [])
    ∷ case 3 NotCost []
    ∷ case 4 OnChain (2 ∷ 4 ∷ [])
    ∷ case 5 NotCost []
    ∷ case 6 (Tied 4) (2 ∷ 6 ∷ 8 ∷ [])
    ∷ case 7 NotCost []
    ∷ case 8 (Tied 4) (2 ∷ 6 ∷ 8 ∷ [])
    ∷ case 9 NotCost []
    ∷ case 10 (Slack 7) (2 ∷ 6 ∷ 10 ∷ [])
    ∷ case 11 NotCost []
    ∷ []

-- the answer is the true one, and these are the lines to show
abbrev pub AllAnswered : List Frame → List Case → Type 0
AllAnswered t [] = Unit {0}
AllAnswered t (c ∷ l) = (True t c.line c.answer × Shown t c.line c.answer c.marked) × AllAnswered t l

abbrev pub CasesHold : Type 0
CasesHold = (t : List Frame) → verdict G 4 2 true ≡ accepted t → AllAnswered t cases
