-- The lines that the marks engine marks in the twelve traces of document 01, worked out by hand. The sites are lines
-- 0 and 1.
use Rattle.std.specs.Prelude.{ℕ, ◌≡◌, List, [], ◌∷◌}
use Rattle.trace.specs.Refusals.{line_count}
use Rattle.trace.specs.Promise.{marks}
use Rattle.trace.specs.Twelve.{Case, twelve}
use Rattle.agree.specs.Shown.{marked}
use Rattle.agree.specs.Demand.{Run, Ran, HasRoom}

abbrev pub chosen_lines : List (List ℕ)
chosen_lines =
    -- A: none
    []
    -- B: cost 5, cost 3: both
    ∷ (2 ∷ 3 ∷ [])
    -- C: spawn 1 {4}, cost 4: of two equal ones the first
    ∷ (3 ∷ [])
    -- D: spawn 1 {4}, cost 5
    ∷ (5 ∷ [])
    -- E: spawn 1 {4}, sync, cost 4: the sync has joined the child
    ∷ (3 ∷ 6 ∷ [])
    -- F: call 1 {4}, cost 4
    ∷ (3 ∷ 5 ∷ [])
    -- G: 1, spawn 1 {10}, 2, spawn 2 {8}, 1: 1 + 10 and 1 + 2 + 8 are equal, and line 4 is before line 6
    ∷ (2 ∷ 4 ∷ [])
    -- H: as G with 9 for 8
    ∷ (2 ∷ 6 ∷ 8 ∷ [])
    -- I: call 1 {spawn 2 {7}, 1}, 2
    ∷ (4 ∷ 8 ∷ [])
    -- J: spawn 1 {3}, call 2 {1, sync, 1}
    ∷ (3 ∷ [])
    -- K: call 1 {1, call 1 {2}}
    ∷ (3 ∷ 5 ∷ [])
    -- L: spawn 1 {spawn 2 {6}, 1}, 2, sync, 1
    ∷ (4 ∷ 10 ∷ [])
    ∷ []

-- every run of the marks engine on the trace, with "D = 4, M = 2" and room enough, marks these lines
abbrev pub MarkedAs : Case → List ℕ → Type 0
MarkedAs c l = (y : Run) → Ran marks c.trace 4 2 y → HasRoom marks c.trace 4 2 y → marked y.left.marks (line_count c.trace) ≡ l

abbrev pub AllMarked : List Case → List (List ℕ) → Type 0
AllMarked [] [] = Unit {0}
AllMarked [] (l ∷ ls) = ⊥
AllMarked (c ∷ cs) [] = ⊥
AllMarked (c ∷ cs) (l ∷ ls) = MarkedAs c l × AllMarked cs ls

abbrev pub TwelveMarked : Type 0
TwelveMarked = AllMarked twelve chosen_lines
