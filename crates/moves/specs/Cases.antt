-- Case G of document 01 with one cost raised, worked out by hand: 1, spawn 1 {10}, 2, spawn 2 {8}, 1. The costs are at
-- lines 2, 4, 6, 8 and 10. The span is 11, and the heaviest chains are lines 2 and 4 (1 + 10), which is the chosen one,
-- and lines 2, 6 and 8 (1 + 2 + 8). The heaviest with line 10 is lines 2, 6 and 10 (1 + 2 + 1).
use Rattle.std.specs.Prelude.{ℕ, ◌+◌, ◌≡◌, true, List, [], ◌∷◌, get_or}
use Rattle.line.specs.declared.Frame.{Frame}
use Rattle.trace.specs.Answer.{profiled}
use Rattle.trace.specs.Shape.{root}
use Rattle.trace.specs.Refusals.{accepted, verdict}
use Rattle.trace.specs.Promise.{Engine}
use Rattle.trace.specs.Twelve as Twelve
use Rattle.agree.specs.Demand.{Run, Ran, HasRoom}
use Rattle.moves.specs.Moves.{OnSomeHeaviest}
use Rattle.moves.specs.Text.{with_cost}

abbrev pub G : List ℕ
G = (get_or Twelve.twelve 6 (Twelve.case [] 0 0 0 0 0)).trace

-- a line, its cost, by how much it is raised, and the span then
pub record Case : Type 0 where
  pub line : ℕ
  pub cost : ℕ
  pub by : ℕ
  pub span : ℕ

abbrev pub case : ℕ → ℕ → ℕ → ℕ → Case
case k v d n = record { line = k; cost = v; by = d; span = n }

abbrev pub cases : List Case
cases =
    -- on both heaviest chains
    case 2 1 5 16
    -- on the chosen one, and on the other one
    ∷ case 4 10 5 16
    ∷ case 6 2 5 16
    ∷ case 8 8 5 16
    -- on none: with 7 more its chain weighs 11 too, and only what goes beyond moves the span
    ∷ case 10 1 7 11
    ∷ case 10 1 8 12
    ∷ case 10 1 100 104
    ∷ []

-- what every run answers, of either engine, with "D = 4, M = 2" and room enough; the work was 22
abbrev pub AllAnswered : List Case → Type 0
AllAnswered [] = Unit {0}
AllAnswered (c ∷ l) =
    ((e : Engine) (y : Run) → Ran e (with_cost G c.line (c.cost + c.by)) 4 2 y → HasRoom e (with_cost G c.line (c.cost + c.by)) 4 2 y → y.answer ≡ profiled (22 + c.by) c.span 2 12)
    × AllAnswered l

-- which lines stand on some heaviest chain
pub record Heaviest (t : List Frame) : Type 0 where
  pub line_2 : OnSomeHeaviest t root 2
  pub line_4 : OnSomeHeaviest t root 4
  pub line_6 : OnSomeHeaviest t root 6
  pub line_8 : OnSomeHeaviest t root 8
  pub not_line_10 : ¬ OnSomeHeaviest t root 10

abbrev pub CasesHold : Type 0
CasesHold = AllAnswered cases × ((t : List Frame) → verdict G 4 2 true ≡ accepted t → Heaviest t)
