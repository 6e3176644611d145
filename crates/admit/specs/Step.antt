-- For proofs, not for the reader of document 01: what the flat check does at each line, by the tally, and the keys of
-- the places so far with their tags.
use Rattle.std.specs.Prelude.{◌≡◌, ℕ, ◌+◌, ◌*◌, ◌-◌, ◌/◌, ◌%◌, ◌≤◌, ◌<◌, Bool, false, not, cond, ◌&&◌, ◌||◌, List, map, length, take, set, eqb, ltb, leb, Ok, Err, Result}
use Rattle.line.specs.declared.Place.{Place}
use Rattle.line.specs.declared.Frame.{Frame}
use Rattle.line.specs.declared.Frame.TheVariants.{Site, Call, Spawn, Sync, Return, Cost, Instructions, Async, Finish}
use Rattle.line.specs.declared.Refusal.{Refusal}
use Rattle.line.specs.Refusal.{refusal}
use Rattle.line.specs.At.{kind_at}
use Rattle.line.specs.Read.{Read}
use Rattle.trace.specs.Shape.{if_site, if_makes, if_instructions, has, sites}
use Rattle.trace.specs.Async.{is_finish}
use Rattle.trace.specs.Refusals.{line_count, open_now}
use Rattle.admit.specs.declared.Tally.{Tally}
use Rattle.admit.specs.Answer.{Verdict, accepting}

-- "A tally of lines, sites and open depth": that of the lines before
abbrev pub tally_of : List Frame → Tally
tally_of before = record { lines = length before; sites = sites before; depth = length (open_now before) }

-- a place as one number
abbrev pub key : Place → ℕ
key p = p.file * 281474976710656 + p.line * 65536 + p.column

-- a key's tag: the low 16 bits of the place's line
abbrev pub tag : ℕ → ℕ
tag k = k / 65536 % 65536

-- the tags of the keys, in their order
abbrev pub tags_of : List ℕ → List ℕ
tags_of ks = map tag ks

-- whether a site line's place is among the first n keys, and the keys with it behind these
abbrev pub seen : List ℕ → ℕ → Frame → Bool
seen ks n f = if_site (λ s p. has (key p) (take n ks)) false f

abbrev pub kept : List ℕ → ℕ → Frame → List ℕ
kept ks n f = if_site (λ s p. set ks n (key p)) ks f

-- line n of the text s stands directly after a cost line, by the kind of the line before it
abbrev pub behind_cost : List ℕ → ℕ → Bool
behind_cost s n = not (eqb n 0) && eqb (kind_at s (n - 1)) 6

-- and is a 07 line that does not
abbrev pub stray_at : List ℕ → ℕ → Frame → Bool
stray_at s n f = if_instructions (λ v. not (behind_cost s n)) false f

-- what the lines before, with this tally and these keys, say against a line of the text s: refusals 10 and 22
abbrev pub against : List ℕ → List ℕ → Tally → Frame → Bool
against s ks t f = seen ks t.sites f || stray_at s t.lines f

-- what a line does: the tally behind it, or its refusal
abbrev pub Tallied : Type 0
Tallied = Result Tally Refusal

-- the line behind those of the tally t is refused
abbrev pub refuse : Tally → ℕ → Tallied
refuse t number = Err (refusal number t.lines)

-- a line that passes, with the tally t behind it
abbrev pub next : Tally → Tallied
next t = Ok t

-- one line more, with the sites and the open invocations behind it
abbrev pub onward : Tally → ℕ → ℕ → Tallied
onward t sites depth = next (record { lines = t.lines + 1; sites = sites; depth = depth })

-- a site line of site s: refusals 8, 9 and 10
abbrev pub declaring : ℕ → Bool → ℕ → Tally → Tallied
declaring M again s t =
    cond (eqb s (t.sites + 1))
    (cond (ltb M s) (refuse t 9)
    (cond again (refuse t 10)
    (onward t (t.sites + 1) t.depth)))
    (refuse t 8)

-- a line that opens something: refusal 12
abbrev pub deepening : ℕ → Tally → Tallied
deepening D t = cond (leb D t.depth) (refuse t 12) (onward t t.sites (t.depth + 1))

-- a call, spawn or async of site s: refusals 11 and 12
abbrev pub entering : ℕ → ℕ → Tally → Tallied
entering D s t =
    cond (eqb s 0) (refuse t 11)
    (cond (ltb t.sites s) (refuse t 11)
    (deepening D t))

-- a line that opens something: refusals 11 and 12
abbrev pub beginning : ℕ → Tally → Frame → Tallied
beginning D t f = cond (is_finish f) (deepening D t) (entering D (if_makes (λ s. s) 0 f) t)

-- a 07 line: refusal 22
abbrev pub carrying : Bool → Tally → Tallied
carrying stray t = cond stray (refuse t 22) (onward t t.sites t.depth)

-- a line of an open root, by its kind; a: something stands against it
abbrev pub inside : ℕ → ℕ → Bool → Tally → Frame → Tallied
inside D M a t (Site s p) = declaring M a s t
inside D M a t (Call s) = entering D s t
inside D M a t (Spawn s) = entering D s t
inside D M a t Sync = onward t t.sites t.depth
inside D M a t Return = onward t t.sites (t.depth - 1)
inside D M a t (Cost v) = onward t t.sites t.depth
inside D M a t (Instructions v) = carrying a t
inside D M a t (Async s) = entering D s t
inside D M a t Finish = deepening D t

-- a line, refusal 7 first
abbrev pub stepped : ℕ → ℕ → Bool → Tally → Frame → Tallied
stepped D M a t f = cond (eqb t.depth 0) (refuse t 7) (inside D M a t f)

-- what a step that gives x answers where the tally is lent, and what it leaves of the tally t: the one behind the line,
-- or t where the line is refused
abbrev pub Updated : Tally → Tallied → Result (Unit {0}) Refusal → Tally → Type 0
Updated t (Ok u) r left = (r ≡ Ok tt) × (left ≡ u)
Updated t (Err e) r left = (r ≡ Err e) × (left ≡ t)

-- a line of the text s as it reads, and the keys behind it
abbrev pub judged_by : ℕ → ℕ → List ℕ → List ℕ → Tally → Read → Tallied
judged_by D M s ks t (Err r) = Err r
judged_by D M s ks t (Ok x) = stepped D M (against s ks t x.frame) t x.frame

abbrev pub kept_by : List ℕ → Tally → Read → List ℕ
kept_by ks t (Err r) = ks
kept_by ks t (Ok x) = kept ks t.sites x.frame

-- what such a line does is x, and behind it are these keys
abbrev pub Judged : ℕ → ℕ → List ℕ → List ℕ → Tally → Read → Tallied → List ℕ → Type 0
Judged D M s ks t r x ks' = (x ≡ judged_by D M s ks t r) × (ks' ≡ kept_by ks t r)

-- behind the last line: accepted where nothing is open, else 14
abbrev pub ended : Tally → Verdict
ended t = cond (eqb t.depth 0) (accepting t.sites t.lines) (Err (refusal 14 t.lines))

-- the numbers stay far below the machine's
abbrev pub Small : ℕ → Tally → Type 0
Small D t = (t.lines < 65536) × ((t.sites ≤ t.lines) × (D ≤ 64))

-- and there is room for one key more
abbrev pub Within : ℕ → Tally → Type 0
Within D t = Small D t × (t.sites < 256)

-- what checks 1 to 3 leave
pub record Limits (D M : ℕ) (s : List ℕ) : Type 0 where
  pub least : 1 ≤ D
  pub most : D ≤ 64
  pub sites_most : M ≤ 255
  pub lines_most : line_count s ≤ 65536
