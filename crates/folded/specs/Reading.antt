-- What a folded text says to whoever reads its characters: a stack of names and a cost for each line. And what it
-- should say of a trace, over line numbers.
use Rattle.std.specs.Prelude.{ℕ, suc, ◌+◌, ◌*◌, ◌-◌, cond, List, [], ◌∷◌, ◌++◌, map, eqb}
use Rattle.line.specs.declared.Frame.{Frame}
use Rattle.trace.specs.Shape.{if_cost}
use Rattle.folded.specs.Text.{rows_at, root_first}

pub record Stack : Type 0 where
  pub names : List (List ℕ)
  pub cost : ℕ

abbrev mutual
  -- a text read from within a name: the names before it in the line, and its characters so far
  pub in_name : List (List ℕ) → List ℕ → List ℕ → List Stack
  in_name names so [] = []
  in_name names so (c ∷ s) =
      cond (eqb c 59) (in_name (names ++ so ∷ []) [] s)
      (cond (eqb c 32) (in_cost (names ++ so ∷ []) 0 s)
      (in_name names (so ++ c ∷ []) s))

  -- from within a cost, behind the space: the line's names, and the number that the figures so far are
  pub in_cost : List (List ℕ) → ℕ → List ℕ → List Stack
  in_cost names n [] = []
  in_cost names n (c ∷ s) =
      cond (eqb c 10) (record { names = names; cost = n } ∷ in_name [] [] s)
      (in_cost names (10 * n + (c - 48)) s)

-- a text read from its beginning, each line up to its line feed
abbrev pub stacks_in : List ℕ → List Stack
stacks_in s = in_name [] [] s

-- what the lines u of the trace t should say, the first of which is line j: of each cost line the names from root to
-- innermost invocation, and its cost
abbrev pub stacks_from : (ℕ → List ℕ) → List Frame → ℕ → List Frame → List Stack
stacks_from name t j [] = []
stacks_from name t j (f ∷ u) =
    if_cost (λ v. record { names = map name (root_first (rows_at t j)); cost = v } ∷ stacks_from name t (suc j) u)
    (stacks_from name t (suc j) u) f

abbrev pub stacks_of : (ℕ → List ℕ) → List Frame → List Stack
stacks_of name t = stacks_from name t 0 t

-- "the printed costs add up"
abbrev pub cost_sum : List Stack → ℕ
cost_sum [] = 0
cost_sum (x ∷ l) = x.cost + cost_sum l

-- how many cost lines a trace has
abbrev pub cost_lines : List Frame → ℕ
cost_lines [] = 0
cost_lines (f ∷ t) = if_cost (λ v. suc (cost_lines t)) (cost_lines t) f
