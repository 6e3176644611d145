-- For proofs, not for the reader of document 01: what the flat check sees of a line at a glance.
use Rattle.std.specs.Prelude.{ℕ, Bool, not, ◌&&◌, List, eqb, get_or, Option, Some, None, Ok, Err}
use Rattle.digits.specs.Digits.{all_digits}
use Rattle.line.specs.declared.Frame.{Frame}
use Rattle.line.specs.declared.Frame.TheVariants.{Site, Call, Spawn, Sync, Return, Cost, Instructions, Async, Finish}
use Rattle.line.specs.Read.{Read, part, end, site_part, value_part}
use Rattle.line.specs.Zeros.{all_zero}

-- a frame that is no site line is seen
abbrev pub seen_of : Frame → Option Frame
seen_of (Site s p) = None
seen_of (Call s) = Some (Call s)
seen_of (Spawn s) = Some (Spawn s)
seen_of Sync = Some Sync
seen_of Return = Some Return
seen_of (Cost v) = Some (Cost v)
seen_of (Instructions v) = Some (Instructions v)
seen_of (Async s) = Some (Async s)
seen_of Finish = Some Finish

-- what is seen of a line that reads so
abbrev pub glanced : Read → Option Frame
glanced (Err r) = None
glanced (Ok x) = seen_of x.frame

-- file and column
abbrev pub place_part : List ℕ → List ℕ
place_part s = part s 14 8

-- what every kind but a site line has around its site and its value; a: the kind's first character
abbrev pub around : ℕ → List ℕ → Bool
around a s = eqb (get_or s 0 0) a && all_zero (place_part s) && eqb (get_or s end 0) 10

-- a sync, a return or a finish; a call, a spawn or an async; and a cost or its instructions
abbrev pub is_bare : ℕ → List ℕ → Bool
is_bare a s = around a s && all_zero (site_part s) && all_zero (value_part s)

abbrev pub is_made : ℕ → List ℕ → Bool
is_made a s = around a s && all_digits (site_part s) && all_zero (value_part s)

abbrev pub is_valued : List ℕ → Bool
is_valued s = around 48 s && all_zero (site_part s) && all_digits (value_part s) && not (all_zero (value_part s))
