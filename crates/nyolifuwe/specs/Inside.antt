-- For proofs, not for the reader of the interface: what its private functions give.
use Rattle.std.specs.Prelude.{ℕ, cond, false, List, ◌∷◌, drop, Ok, Err, ◌&&◌, Result}
use Rattle.line.specs.declared.Fields.{Fields}
use Rattle.line.specs.Family.{Family}
use Rattle.line.specs.declared.Refusal.{Refusal}
use Rattle.report.specs.Room.{Decision, refuse, fitting}
use Rattle.line.specs.Table.{table_of}
use Rattle.line.specs.Read.{tabled, Read}
use Rattle.line.specs.Write.{narrow, chars, is_frame}
use Rattle.line.specs.Refusal.{refusal}
use Rattle.trace.specs.Refusals.{checks}
use Rattle.nyolifuwe.specs.Code.{coded}

-- the frame that five fields are, refusal 6 where one has no room in its digits or they are not as the family's table has
-- them
abbrev pub framed_by : Family → Fields → Read
framed_by g x = cond (narrow x) (tabled (table_of g x) 0) (Err (refusal 6 0))

-- what writing its line into so much room decides
abbrev pub written_by : Family → Fields → ℕ → Decision
written_by g x room = cond (narrow x && is_frame (table_of g x)) (fitting 4 (chars x) room) (refuse 6 0)

-- an answer that counts characters or sites: its code, and what the room for the count then holds
abbrev pub told : Result ℕ Refusal → ℕ
told (Ok n) = 0
told (Err r) = coded r.number r.line

abbrev pub noted : Result ℕ Refusal → List ℕ → List ℕ
noted (Ok n) count = n ∷ drop 1 count
noted (Err r) count = count

-- the line, record or row that an answer names; 0 where it refuses nothing
abbrev pub line_of : {A : Type 0} → Result A Refusal → ℕ
line_of (Ok x) = 0
line_of (Err r) = r.line

-- the number of the first of checks 1 to 3 that fails, else 4
abbrev pub unroomy : ℕ → ℕ → ℕ → ℕ
unroomy bytes D M = checks bytes D M false
