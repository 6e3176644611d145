-- The rows: seven numbers a row, as sums over invocations and lines.
use Rattle.std.specs.Prelude.{ℕ, zero, suc, ◌+◌, ◌≡◌, Bool, true, false, cond, ◌&&◌, ◌||◌, List, [], ◌∷◌, eqb, length}
use Rattle.line.specs.Family.{Family, Base}
use Rattle.line.specs.declared.Frame.{Frame}
use Rattle.trace.specs.Shape.{if_makes, if_cost, if_instructions, root, step, open_at, has}
use Rattle.trace.specs.Async.{owner_is}
use Rattle.trace.specs.Series.{value, SpanOf}

-- "Five numbers a row"; 02, request l: "so rows are seven long"
abbrev pub columns : ℕ
columns = 7

-- a call, spawn or async of site s
abbrev pub makes : ℕ → Frame → Bool
makes s f = if_makes (λ i. eqb i s) false f

-- the invocations made from site s in the lines t, the first of which is line n
abbrev pub made : ℕ → List Frame → ℕ → List ℕ
made n [] s = []
made n (e ∷ t) s = cond (makes s e) (suc n ∷ made (suc n) t s) (made (suc n) t s)

-- "Row 0 is the root, row s is site s": the invocations of a row
abbrev pub of_row : List Frame → ℕ → List ℕ
of_row t zero = root ∷ []
of_row t (suc s) = made 0 t (suc s)

-- one of the invocations o is of row s
abbrev pub has_of : List Frame → ℕ → List ℕ → Bool
has_of t s [] = false
has_of t s (G ∷ o) = has G (of_row t s) || has_of t s o

-- Invocation F has an enclosing invocation of row s: one that is open at the line that makes F. Nothing is open around
-- the root.
abbrev pub enclosed : List Frame → ℕ → ℕ → Bool
enclosed t s zero = false
enclosed t s (suc g) = has_of t s (open_at t g)

-- those of the invocations l that have none
abbrev pub unenclosed : List Frame → ℕ → List ℕ → List ℕ
unenclosed t s [] = []
unenclosed t s (F ∷ l) = cond (enclosed t s F) (unenclosed t s l) (F ∷ unenclosed t s l)

-- the outermost invocations of row s
abbrev pub outermost : List Frame → ℕ → List ℕ
outermost t s = unenclosed t s (of_row t s)

-- 02, request c: "Columns 2 and 3 from now on count only invocations with no enclosing invocation from the same site.
-- Calls, local and on span still count all."
abbrev pub counted : List Frame → ℕ → List ℕ
counted t s = outermost t s

-- 02, request l: "Cycles and instructions are separate measures that are never added to each other": what a line comes to
-- in one of them, with the lines behind it
abbrev pub Measure : Type 0
Measure = Frame → List Frame → ℕ

abbrev pub cycles : Frame → List Frame → ℕ
cycles e t = value e

-- what the first of the lines carries
abbrev pub carried : List Frame → ℕ
carried [] = 0
carried (e ∷ t) = if_instructions (λ v. v) 0 e

-- "A kind 07 line directly after a cost line carries its instructions in the value, at least 1; without one they are
-- zero."
abbrev pub instructions : Frame → List Frame → ℕ
instructions e t = if_cost (λ v. carried t) 0 e

-- the sum of a measure at the lines that p picks, by line number and open invocations; t begins at line n, where o are
-- open
abbrev pub sum_of : Measure → (ℕ → List ℕ → Bool) → ℕ → List ℕ → List Frame → ℕ
sum_of m p n o [] = 0
sum_of m p n o (e ∷ t) = cond (p n o) (m e t) 0 + sum_of m p (suc n) (step n e o) t

abbrev pub costs_where : Measure → List Frame → (ℕ → List ℕ → Bool) → ℕ
costs_where m t p = sum_of m p 0 (root ∷ []) t

-- "Total work is the sum of all cost lines."
abbrev pub total : List Frame → ℕ
total t = costs_where cycles t (λ k o. true)

-- and all instructions
abbrev pub itotal : List Frame → ℕ
itotal t = costs_where instructions t (λ k o. true)

-- all costs inside an invocation; what stands directly in it, or in a finish directly in it; and of that on a chain
abbrev pub inside : List Frame → ℕ → ℕ
inside t F = costs_where cycles t (λ k o. has F o)

abbrev pub direct : Measure → List Frame → ℕ → ℕ
direct m t F = costs_where m t (λ k o. owner_is t F o)

abbrev pub direct_on : Measure → List Frame → List ℕ → ℕ → ℕ
direct_on m t c F = costs_where m t (λ k o. owner_is t F o && has k c)

abbrev pub sum : (ℕ → ℕ) → List ℕ → ℕ
sum f [] = 0
sum f (x ∷ l) = f x + sum f l

-- n is the sum, over the invocations l, of the number that p says of each
abbrev pub Sum : (ℕ → ℕ → Type 0) → List ℕ → ℕ → Type 0
Sum p [] n = n ≡ 0
Sum p (x ∷ l) n = (a : ℕ) × (b : ℕ) × p x a × Sum p l b × (n ≡ a + b)

-- 1. "calls: invocations made from that site, by call or spawn (root: 1)", or by async
abbrev pub calls : List Frame → ℕ → ℕ
calls t s = length (of_row t s)

-- 2. "work: the sum, over those invocations, of all costs inside each"; those that are counted
abbrev pub work : List Frame → ℕ → ℕ
work t s = sum (inside t) (counted t s)

-- 3. "span: the sum, over those invocations, of each one's span"; those that are counted
abbrev pub SpansOf : Family → List Frame → ℕ → ℕ → Type 0
SpansOf g t s n = Sum (SpanOf g t) (counted t s) n

-- that of document 01's traces
abbrev pub Spans : List Frame → ℕ → ℕ → Type 0
Spans t s n = SpansOf Base t s n

-- 4. "local: costs directly in those invocations"
abbrev pub local : List Frame → ℕ → ℕ
local t s = sum (direct cycles t) (of_row t s)

-- 5. "on span: the part of local that stands on the chosen chain"; c is the chosen chain
abbrev pub on_span : List Frame → List ℕ → ℕ → ℕ
on_span t c s = sum (direct_on cycles t c) (of_row t s)

-- 6 and 7, "two numbers at the end, instructions local and on span": the same of instructions
abbrev pub ilocal : List Frame → ℕ → ℕ
ilocal t s = sum (direct instructions t) (of_row t s)

abbrev pub ion_span : List Frame → List ℕ → ℕ → ℕ
ion_span t c s = sum (direct_on instructions t c) (of_row t s)
