-- Document 01's case I read and written line by line, lines of the finish family, and lines that are refused, by
-- computing: the definitions at work.
-- Assumes nothing.
use Prim.Native.Nat.{ℕ}
use mathlib.Core.List.{List, [], ◌∷◌, ◌++◌, map}
use mathlib.Core.Path.{◌≡◌, refl}
use lib.ListN.{take, set, replicate}
use Rattle.std.specs.Prelude.{Err}
use Rattle.digits.specs.Digits.{digits}
use Rattle.line.specs.Refusal.{refusal}
use Rattle.line.specs.Family.{Finishes}
use Rattle.line.specs.declared.Frame.{Frame}
use Rattle.line.specs.declared.Frame.TheVariants.{Site, Call, Spawn, Sync, Return, Cost, Instructions, Async, Finish}
use Rattle.line.specs.Read.{read_line_of, read_line, says}
use Rattle.line.specs.Write.{write_chars_of, write_chars, write_line_of, write_line}

-- the 22 digits of a number, and a line feed
abbrev printed : ℕ → List ℕ
printed x = digits 22 x ++ 10 ∷ []

-- case I's input, and what it says
abbrev lines : List ℕ
lines =
    0x0100010000000a00010005
    ∷ 0x0100020000001400010009
    ∷ 0x0200010000000000000000
    ∷ 0x0300020000000000000000
    ∷ 0x0600000000000700000000
    ∷ 0x0500000000000000000000
    ∷ 0x0600000000000100000000
    ∷ 0x0500000000000000000000
    ∷ 0x0600000000000200000000
    ∷ 0x0500000000000000000000
    ∷ []

abbrev frames : List Frame
frames =
    Site 1 (record { file = 1; line = 10; column = 5 })
    ∷ Site 2 (record { file = 1; line = 20; column = 9 })
    ∷ Call 1
    ∷ Spawn 2
    ∷ Cost 7
    ∷ Return
    ∷ Cost 1
    ∷ Return
    ∷ Cost 2
    ∷ Return
    ∷ []

case_I_read : map (λ (x : ℕ). read_line (printed x) 0) lines ≡ map (says 0) frames
case_I_read = refl

case_I_written : map write_chars frames ≡ map printed lines
case_I_written = refl

-- "A kind 07 line ... carries its instructions in the value": read, and written
instructions_read : read_line (printed 0x0700000000000300000000) 0 ≡ says 0 (Instructions 3)
instructions_read = refl

instructions-written : write_chars (Instructions 3) ≡ printed 0x0700000000000300000000
instructions-written = refl

-- 02, request n: "kinds 12 async (with a site) and 13 finish", read and written in the finish family, and refused as 6
-- in document 01's
abbrev apart : List ℕ
apart = 0x1200010000000000000000 ∷ 0x1300000000000000000000 ∷ []

apart_read : map (λ (x : ℕ). read_line_of Finishes (printed x) 0) apart ≡ says 0 (Async 1) ∷ says 0 Finish ∷ []
apart_read = refl

apart-written : map (write_chars_of Finishes) (Async 1 ∷ Finish ∷ []) ≡ map printed apart
apart-written = refl

apart_unread : map (λ (x : ℕ). read_line (printed x) 0) apart ≡ replicate 2 (Err (refusal 6 0))
apart_unread = refl

apart_unwritten : map write_line (Async 1 ∷ Finish ∷ []) ≡ replicate 2 (Err (refusal 6 0))
apart_unwritten = refl

-- "kinds 03 and 04 are refused as 6 in it"
spawned_unread : map (λ (x : ℕ). read_line_of Finishes (printed x) 0) (0x0300010000000000000000 ∷ 0x0400000000000000000000 ∷ []) ≡ replicate 2 (Err (refusal 6 0))
spawned_unread = refl

spawned_unwritten : map (write_line_of Finishes) (Spawn 1 ∷ Sync ∷ []) ≡ replicate 2 (Err (refusal 6 0))
spawned_unwritten = refl

-- 6 in it: a finish with a site, an async with a value, and kind 16, which ends as a cost does
listed_nowhere_apart : map (λ (x : ℕ). read_line_of Finishes (printed x) 0) (0x1300010000000000000000 ∷ 0x1200010000000100000000 ∷ 0x1600000000000700000000 ∷ []) ≡ replicate 3 (Err (refusal 6 0))
listed_nowhere_apart = refl

-- 6: kind 00, kind 08, a site without a line, a call with a value, a sync with a site, a cost of 0, instructions of 0
-- and with a site
listed_nowhere : map (λ (x : ℕ). read_line (printed x) 0)
    (0x0000000000000000000000 ∷ 0x0800000000000100000000 ∷ 0x0100010000000000010005 ∷ 0x0200010000000100000000 ∷ 0x0400010000000000000000 ∷ 0x0600000000000000000000 ∷ 0x0700000000000000000000 ∷ 0x0700010000000100000000 ∷ [])
    ≡ replicate 8 (Err (refusal 6 0))
listed_nowhere = refl

-- 5: the neighbours `/` and `:`, `@` and `G`, a backquote and `g`, `[`, no line feed; before 6, as the kinds here are 00
wrong_character : map (λ (c : ℕ). read_line (set (printed 0) 1 c) 0) (47 ∷ 58 ∷ 64 ∷ 71 ∷ 96 ∷ 103 ∷ 91 ∷ []) ≡ replicate 7 (Err (refusal 5 0))
wrong_character = refl

no_line_feed : read_line (set (printed 0) 22 48) 0 ≡ Err (refusal 5 0)
no_line_feed = refl

-- both cases, mixed within a field and within a line: case I's second line with capitals, and a cost of 0xaBcDeF01
capitals : map (λ (s : List ℕ). read_line s 0) (set (printed 0x0100020000001a00010009) 13 65 ∷ set (set (set (printed 0x060000abcdef0100000000) 7 66) 9 68) 11 70 ∷ [])
    ≡ map (λ (x : ℕ). read_line (printed x) 0) (0x0100020000001a00010009 ∷ 0x060000abcdef0100000000 ∷ [])
capitals = refl

-- 2: a character less, and one more; before 5
other_length : map (λ (s : List ℕ). read_line s 0) (take 22 (printed 0) ∷ (65 ∷ printed 0) ∷ []) ≡ Err (refusal 2 0) ∷ Err (refusal 2 0) ∷ []
other_length = refl
