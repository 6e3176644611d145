-- What acceptance answers: the verdict of document 01 as a value, with the room by the lengths of the lent slices.
use Rattle.std.specs.Prelude.{ℕ, true, List, length, Result, Ok, Err}
use Rattle.line.specs.Family.{Family}
use Rattle.line.specs.declared.Refusal.{Refusal}
use Rattle.line.specs.Refusal.{refusal}
use Rattle.trace.specs.Shape.{sites}
use Rattle.trace.specs.Refusals.{checks, accepted, refused, verdict_of}
use Rattle.trace.specs.Refusals.{Verdict as Judgement}
use Rattle.trace.specs.Promise.{Engine, roomy}
use Rattle.admit.specs.declared.Accepted.{Accepted}

-- what is answered: "Accepted: ..." or "Refused: ..."
abbrev pub Verdict : Type 0
Verdict = Result Accepted Refusal

-- "Accepted: ... number of sites, number of lines."
abbrev pub accepting : ℕ → ℕ → Verdict
accepting sites lines = Ok (record { sites = sites; lines = lines })

-- and "Refused: a number and a line."
abbrev pub answer_of : Judgement → Verdict
answer_of (accepted t) = accepting (sites t) (length t)
answer_of (refused number line) = Err (refusal number line)

-- the verdict on the text s of a family's trace for the engine e, lent slices of these lengths
abbrev pub admission_of : Family → Engine → List ℕ → ℕ → ℕ → ℕ → ℕ → ℕ → Verdict
admission_of g e s D M scratch rows marks = answer_of (verdict_of g s D M (roomy e s D M scratch rows marks))

-- the number of the first of checks 1 to 3 that fails, 0 where none does, by the number of characters
abbrev pub opening : ℕ → ℕ → ℕ → ℕ
opening bytes D M = checks bytes D M true

-- of the first of checks 1 to 4, with the room for the engine e
abbrev pub checks_for : Engine → List ℕ → ℕ → ℕ → ℕ → ℕ → ℕ → ℕ
checks_for e s D M scratch rows marks = checks (length s) D M (roomy e s D M scratch rows marks)
