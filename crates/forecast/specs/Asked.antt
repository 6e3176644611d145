-- Request f: refusals 19 and 20, and the verdict with them.
use Rattle.std.specs.Prelude.{ℕ, Bool, true, false, not, cond, ◌&&◌, ◌||◌, List, [], ◌∷◌, eqb, ltb, leb, length}
use Rattle.trace.specs.Shape.{sites}
use Rattle.trace.specs.Refusals.{Verdict, accepted, refused}
use Rattle.forecast.specs.declared.Entry.{Entry}
use Rattle.forecast.specs.Rewritten.{rewritten}

-- "up to 16 forecast entries"
abbrev pub too_long : List Entry → Bool
too_long es = ltb 16 (length es)

-- every entry's row is above the row of the one before it
abbrev pub above : ℕ → List Entry → Bool
above row [] = true
above row (e ∷ es) = ltb row e.row && above e.row es

-- "rows strictly ascending"
abbrev pub ascending : List Entry → Bool
ascending [] = true
ascending (e ∷ es) = above e.row es

-- "0 allowed for the root": a row is declared where it is 0 or one of the m sites
abbrev pub all_declared : ℕ → List Entry → Bool
all_declared m [] = true
all_declared m (e ∷ es) = leb e.row m && all_declared m es

-- 19: "list too long, unordered or naming an undeclared row"
abbrev pub bad_list : ℕ → List Entry → Bool
bad_list m es = too_long es || not (ascending es) || not (all_declared m es)

-- 20: "factor outside its range": "from 2 to 1,000"
abbrev pub bad_factor : List Entry → Bool
bad_factor [] = false
bad_factor (e ∷ es) = ltb e.factor 2 || ltb 1000 e.factor || bad_factor es

-- the number of the refusal where the trace has m sites, "list order first"; 0 where there is none
abbrev pub asked : ℕ → List Entry → ℕ
asked m es = cond (bad_list m es) 19 (cond (bad_factor es) 20 0)

-- "Refusals: those of 01, then 19 ..., 20 ...; both with line 0": what comes of a verdict; where nothing is refused the
-- trace to be profiled is the rewritten one
abbrev pub asking : List Entry → Verdict → Verdict
asking es (accepted t) = cond (eqb (asked (sites t) es) 0) (accepted (rewritten es t)) (refused (asked (sites t) es) 0)
asking es (refused number line) = refused number line
