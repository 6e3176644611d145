-- For proofs: characters that are all the digit 0.
use Rattle.std.specs.Prelude.{ℕ, Bool, true, ◌&&◌, List, [], ◌∷◌, eqb}

abbrev pub all_zero : List ℕ → Bool
all_zero [] = true
all_zero (c ∷ s) = eqb c 48 && all_zero s
