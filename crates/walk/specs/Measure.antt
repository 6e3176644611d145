-- For proofs and engines, not for the reader of document 01: a plain number as a measure.
use Rattle.std.specs.Prelude.{ℕ}
use Rattle.walk.specs.declared.Cycles.{Cycles}
use Rattle.walk.specs.declared.Instructions.{Instructions}

-- so many cycles
abbrev pub cycles : ℕ → Cycles
cycles n = record { 0 = n }

-- so many instructions
abbrev pub instructions : ℕ → Instructions
instructions n = record { 0 = n }
