-- The refusals, each under its number, and the verdict on a text. Those of a line are asked with the lines before it,
-- which have none.
use Rattle.std.specs.Prelude.{ℕ, zero, suc, ◌/◌, ◌%◌, Bool, true, false, not, cond, ◌&&◌, ◌||◌, List, [], ◌∷◌, ◌++◌, length, eqb, ltb, leb, Ok, Err}
use Rattle.line.specs.declared.Place.{Place}
use Rattle.line.specs.Family.{Family, Base}
use Rattle.line.specs.declared.Frame.{Frame}
use Rattle.line.specs.Read.{width, read_at_of, Read}
use Rattle.trace.specs.Shape.{if_site, if_makes, if_opens, if_cost, if_instructions, open_at}

-- 1: "D or M outside its range": "a depth limit D, 1 to 64, counting the root, and a site limit M, 0 to 255"
abbrev pub out_of_range : ℕ → ℕ → Bool
out_of_range D M = not (leb 1 D && leb D 64 && leb M 255)

-- 2: "length not a multiple of 23"
abbrev pub broken : ℕ → Bool
broken bytes = not (eqb (bytes % width) 0)

-- the number of lines of a text
abbrev pub line_count : List ℕ → ℕ
line_count s = length s / width

-- "At most 65,536 lines."
abbrev pub most_lines : ℕ
most_lines = 65536

-- 3: "more than 65,536 lines"
abbrev pub too_many : ℕ → Bool
too_many bytes = ltb most_lines (bytes / width)

-- "Checks 1 to 4 run in that order": the number of the first that fails, 0 where none does, for a text of so many
-- characters. 4: "any lent slice shorter than stated"; room: none is
abbrev pub checks : ℕ → ℕ → ℕ → Bool → ℕ
checks bytes D M room =
    cond (out_of_range D M) 1
    (cond (broken bytes) 2
    (cond (too_many bytes) 3
    (cond (not room) 4
    0)))

-- the invocations open behind the last of the lines
abbrev pub open_now : List Frame → List ℕ
open_now t = open_at t (length t)

abbrev pub empty : List ℕ → Bool
empty [] = true
empty (x ∷ o) = false

-- 7: "a line after the root's return"
abbrev pub after_root : List Frame → Bool
after_root before = empty (open_now before)

abbrev pub is_cost : Frame → Bool
is_cost f = if_cost (λ v. true) false f

-- the last of the lines is a cost line, b where there is none
abbrev pub after_cost : Bool → List Frame → Bool
after_cost b [] = b
after_cost b (f ∷ t) = after_cost (is_cost f) t

-- 02, request l, 22: "a 07 line not directly after a cost"
abbrev pub stray : List Frame → Frame → Bool
stray before f = if_instructions (λ v. not (after_cost false before)) false f

-- the number of the last site line, n where there is none
abbrev pub last_site : ℕ → List Frame → ℕ
last_site n [] = n
last_site n (f ∷ t) = if_site (λ s p. last_site s t) (last_site n t) f

-- 8: "not numbered one above the last (the first is 1)". 02, request j: "8 loses its first ground": "A site line may
-- stand anywhere before the root's return".
abbrev pub misplaced : List Frame → Frame → Bool
misplaced before f = if_site (λ s p. not (eqb s (suc (last_site 0 before)))) false f

-- 9: "a site line whose number is above M"
abbrev pub above_m : ℕ → Frame → Bool
above_m M f = if_site (λ s p. ltb M s) false f

-- "its place: file, line and column"
abbrev pub same_place : Place → Place → Bool
same_place p q = eqb p.file q.file && eqb p.line q.line && eqb p.column q.column

abbrev pub placed : Place → List Frame → Bool
placed p [] = false
placed p (f ∷ t) = if_site (λ s q. same_place p q || placed p t) (placed p t) f

-- 10: "a place already declared"
abbrev pub place_again : List Frame → Frame → Bool
place_again before f = if_site (λ s p. placed p before) false f

abbrev pub declared : ℕ → List Frame → Bool
declared s [] = false
declared s (f ∷ t) = if_site (λ i p. eqb s i || declared s t) (declared s t) f

-- 11: "call or spawn of site 0 or one not declared", or async; 02, request j: "declared on an earlier line"
abbrev pub undeclared : List Frame → Frame → Bool
undeclared before f = if_makes (λ s. eqb s 0 || not (declared s before)) false f

-- 12: "more than D invocations open", the one that this line opens among them; 02, request n: "a finish counts towards D"
abbrev pub too_deep : ℕ → List Frame → Frame → Bool
too_deep D before f = if_opens (ltb D (suc (length (open_now before)))) false f

-- the smallest number from 7 to 12 that applies to the line, where 22 is "checked after 7"; 0 where none does. 02,
-- request e: "take 13 out of the table, code and card, and leave its number unused"
abbrev pub fault : ℕ → ℕ → List Frame → Frame → ℕ
fault D M before f =
    cond (after_root before) 7
    (cond (stray before f) 22
    (cond (misplaced before f) 8
    (cond (above_m M f) 9
    (cond (place_again before f) 10
    (cond (undeclared before f) 11
    (cond (too_deep D before f) 12
    0))))))

pub data Verdict : Type 0 where
  accepted : List Frame → Verdict
  refused : ℕ → ℕ → Verdict

-- A line as it reads, with the lines before it; on: what comes of the lines behind it, where it has no fault.
-- 5: "a wrong character in the line" and 6: "unknown kind, unused field not zero, or a value outside the table" are
-- how it reads.
abbrev pub judged : ℕ → ℕ → List Frame → Read → (Frame → Verdict) → Verdict
judged D M before (Err r) on = refused r.number r.line
judged D M before (Ok x) on = cond (eqb (fault D M before x.frame) 0) (on x.frame) (refused (fault D M before x.frame) x.number)

-- "the first faulty line decides, and within it the smallest number. 14 comes last": "lines end before the root's return"
abbrev pub scan : ℕ → ℕ → List Frame → List Read → Verdict
scan D M before [] = cond (after_root before) (accepted before) (refused 14 (length before))
scan D M before (r ∷ rs) = judged D M before r (λ f. scan D M (before ++ f ∷ []) rs)

-- how the lines of a text read, count of them from line n on
abbrev pub reads_from_of : Family → List ℕ → ℕ → ℕ → List Read
reads_from_of g s n zero = []
reads_from_of g s n (suc count) = read_at_of g s n ∷ reads_from_of g s (suc n) count

abbrev pub reads_of : Family → List ℕ → List Read
reads_of g s = reads_from_of g s 0 (line_count s)

-- "Checks 1 to 4 run in that order. Then the first faulty line decides"
abbrev pub verdict_of : Family → List ℕ → ℕ → ℕ → Bool → Verdict
verdict_of g s D M room = cond (eqb (checks (length s) D M room) 0) (scan D M [] (reads_of g s)) (refused (checks (length s) D M room) 0)

-- those of document 01's traces
abbrev pub reads_from : List ℕ → ℕ → ℕ → List Read
reads_from s n count = reads_from_of Base s n count

abbrev pub reads : List ℕ → List Read
reads s = reads_of Base s

abbrev pub verdict : List ℕ → ℕ → ℕ → Bool → Verdict
verdict s D M room = verdict_of Base s D M room
