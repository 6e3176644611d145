-- The table of kinds of each family: which five fields are a frame, and the five fields of a frame.
use Rattle.std.specs.Prelude.{ℕ, Bool, true, false, cond, ◌&&◌, eqb, leb}
use Rattle.line.specs.Family.{Family, Base, Finishes}
pub use Rattle.line.specs.declared.Fields.{Fields}
use Rattle.line.specs.declared.Frame.{Frame}
use Rattle.line.specs.declared.Frame.TheVariants.{Site, Call, Spawn, Sync, Return, Cost, Instructions, Async, Finish}

-- A table entry: a frame, or none: "unknown kind, unused field not zero, or a value outside the table".
pub data Entry : Type 0 where
  frame : Frame → Entry
  none : Entry

-- the frame where its fields are as the table has them
abbrev pub only : Bool → Frame → Entry
only b f = cond b (frame f) none

-- kind 06: "value, 1 to 4,294,967,295"; 02, request l: "A kind 07 line directly after a cost line carries its
-- instructions in the value, at least 1"
abbrev pub value_only : ℕ → ℕ → ℕ → ℕ → Bool
value_only site value file column = eqb site 0 && leb 1 value && leb value 4294967295 && eqb file 0 && eqb column 0

-- whether the family is document 01's
abbrev pub is_base : Family → Bool
is_base Base = true
is_base Finishes = false

-- what only one of the families has
abbrev pub in_base : Family → Entry → Entry
in_base g e = cond (is_base g) e none

abbrev pub in_finishes : Family → Entry → Entry
in_finishes g e = cond (is_base g) none e

-- "kind | meaning | used fields", a line for each. "Unused fields are zero." 02, request n: "kinds 12 async (with a
-- site) and 13 finish; kinds 03 and 04 are refused as 6 in it"; these are hexadecimal digits.
abbrev pub table_of : Family → Fields → Entry
table_of g x =
    cond (eqb x.kind 1) (only (leb 1 x.value && leb 1 x.file && leb 1 x.column) (Site x.site (record { file = x.file; line = x.value; column = x.column })))
    (cond (eqb x.kind 2) (only (eqb x.value 0 && eqb x.file 0 && eqb x.column 0) (Call x.site))
    (cond (eqb x.kind 3) (in_base g (only (eqb x.value 0 && eqb x.file 0 && eqb x.column 0) (Spawn x.site)))
    (cond (eqb x.kind 4) (in_base g (only (eqb x.site 0 && eqb x.value 0 && eqb x.file 0 && eqb x.column 0) Sync))
    (cond (eqb x.kind 5) (only (eqb x.site 0 && eqb x.value 0 && eqb x.file 0 && eqb x.column 0) Return)
    (cond (eqb x.kind 6) (only (value_only x.site x.value x.file x.column) (Cost x.value))
    (cond (eqb x.kind 7) (only (value_only x.site x.value x.file x.column) (Instructions x.value))
    (cond (eqb x.kind 0x12) (in_finishes g (only (eqb x.value 0 && eqb x.file 0 && eqb x.column 0) (Async x.site)))
    (cond (eqb x.kind 0x13) (in_finishes g (only (eqb x.site 0 && eqb x.value 0 && eqb x.file 0 && eqb x.column 0) Finish))
    none))))))))

-- document 01's table
abbrev pub table : Fields → Entry
table x = table_of Base x

-- the five fields of a frame, the unused ones zero
abbrev pub fields_of : Frame → Fields
fields_of (Site s p) = record { kind = 1; site = s; value = p.line; file = p.file; column = p.column }
fields_of (Call s) = record { kind = 2; site = s; value = 0; file = 0; column = 0 }
fields_of (Spawn s) = record { kind = 3; site = s; value = 0; file = 0; column = 0 }
fields_of Sync = record { kind = 4; site = 0; value = 0; file = 0; column = 0 }
fields_of Return = record { kind = 5; site = 0; value = 0; file = 0; column = 0 }
fields_of (Cost v) = record { kind = 6; site = 0; value = v; file = 0; column = 0 }
fields_of (Instructions v) = record { kind = 7; site = 0; value = v; file = 0; column = 0 }
fields_of (Async s) = record { kind = 0x12; site = s; value = 0; file = 0; column = 0 }
fields_of Finish = record { kind = 0x13; site = 0; value = 0; file = 0; column = 0 }
