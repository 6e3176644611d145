-- What the line writer gives: a frame's 23 characters, or refusal 6.
use Rattle.std.specs.Prelude.{ℕ, Bool, true, false, cond, ◌&&◌, List, [], ◌∷◌, ◌++◌, replicate, ltb, Result, Ok, Err}
use Rattle.digits.specs.Digits.{digits}
use Rattle.line.specs.Family.{Family, Base}
use Rattle.line.specs.declared.Frame.{Frame}
use Rattle.line.specs.declared.Refusal.{Refusal}
use Rattle.line.specs.Refusal.{refusal}
use Rattle.line.specs.Table.{Fields, Entry, frame, none, table_of, fields_of}
use Rattle.line.specs.Read.{width}

-- "Fields, most significant digit first: kind (2 digits), site (4), value (8), file (4), column (4)", "then a line feed"
abbrev pub chars : Fields → List ℕ
chars x = digits 2 x.kind ++ (digits 4 x.site ++ (digits 8 x.value ++ (digits 4 x.file ++ (digits 4 x.column ++ 10 ∷ []))))

-- each field has room in its digits
abbrev pub narrow : Fields → Bool
narrow x = ltb x.kind 256 && ltb x.site 65536 && ltb x.value 4294967296 && ltb x.file 65536 && ltb x.column 65536

abbrev pub is_frame : Entry → Bool
is_frame (frame f) = true
is_frame none = false

-- no field breaks the family's table
abbrev pub writable_of : Family → Frame → Bool
writable_of g f = narrow (fields_of f) && is_frame (table_of g (fields_of f))

-- the characters of a writable frame; zeros where it is none
abbrev pub write_chars_of : Family → Frame → List ℕ
write_chars_of g f = cond (writable_of g f) (chars (fields_of f)) (replicate width 0)

-- "gives 23 characters, or refusal 6 with line 0 where a field breaks the table"
abbrev pub write_line_of : Family → Frame → Result (List ℕ) Refusal
write_line_of g f = cond (writable_of g f) (Ok (write_chars_of g f)) (Err (refusal 6 0))

-- document 01's writer
abbrev pub writable : Frame → Bool
writable f = writable_of Base f

abbrev pub write_chars : Frame → List ℕ
write_chars f = write_chars_of Base f

abbrev pub write_line : Frame → Result (List ℕ) Refusal
write_line f = write_line_of Base f
