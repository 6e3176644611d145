-- A refusal.
use Rattle.std.specs.Prelude.{ℕ}
use Rattle.line.specs.declared.Refusal.{Refusal}

-- "a numbered refusal with the offending line"
abbrev pub refusal : ℕ → ℕ → Refusal
refusal number line = record { number = number; line = line }
