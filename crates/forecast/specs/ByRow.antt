-- For proofs and engines, not for the reader of document 02: what a cost line weighs by the entries.
use Rattle.std.specs.Prelude.{ℕ, cond, List, [], ◌∷◌, eqb}
use Rattle.weigh.specs.Weighed.{Weigh}
use Rattle.forecast.specs.declared.Entry.{Entry}
use Rattle.forecast.specs.Rewritten.{divided}

-- the factor of row s
abbrev pub row_factor : List Entry → ℕ → ℕ
row_factor [] s = 1
row_factor (e ∷ es) s = cond (eqb s e.row) e.factor (row_factor es s)

abbrev pub by_entries : List Entry → Weigh
by_entries es n s v = divided v (row_factor es s)
