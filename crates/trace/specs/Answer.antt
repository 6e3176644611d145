-- What an engine answers.
use Rattle.std.specs.Prelude.{ℕ, cond, eqb, Result, Ok, Err}
use Rattle.line.specs.declared.Refusal.{Refusal}
use Rattle.line.specs.Refusal.{refusal}
use Rattle.trace.specs.declared.Profile.{Profile}

-- "Accepted: ..." or "Refused: a number and a line."
abbrev pub Answer : Type 0
Answer = Result Profile Refusal

-- "Accepted: total work, total span, number of sites, number of lines."
abbrev pub profiled : ℕ → ℕ → ℕ → ℕ → Answer
profiled work span sites lines = Ok (record { work = work; span = span; sites = sites; lines = lines })

-- the number of the first check that fails, 0 where none does, as an answer: a refusal of a check names no line
abbrev pub passing : ℕ → Result (Unit {0}) Refusal
passing number = cond (eqb number 0) (Ok tt) (Err (refusal number 0))
