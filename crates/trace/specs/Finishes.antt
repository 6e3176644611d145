-- Twelve traces of asyncs and finishes as characters, and what was worked out by hand of each, by document 02's sentences.
use Rattle.std.specs.Prelude.{ℕ, zero, suc, ◌≡◌, true, List, [], ◌∷◌, ◌++◌}
use Rattle.line.specs.Family.{Finishes}
use Rattle.line.specs.declared.Frame.{Frame}
use Rattle.trace.specs.Shape.{root}
use Rattle.trace.specs.Series.{SpanOf, ChosenOf}
use Rattle.trace.specs.Rows.{total, calls, work, SpansOf, local, on_span, ilocal, ion_span}
use Rattle.trace.specs.Refusals.{accepted, refused, verdict_of}
use Rattle.trace.specs.Twelve.{text}

-- columns 1 to 4 of row 1
pub record Row : Type 0 where
  pub calls : ℕ
  pub work : ℕ
  pub span : ℕ
  pub local : ℕ

-- a trace with its depth limit; work, span, and on span of rows 0, 1 and 2; row 1; and instructions local and on span of row 0
pub record Case : Type 0 where
  pub depth : ℕ
  pub trace : List ℕ
  pub work : ℕ
  pub span : ℕ
  pub on0 : ℕ
  pub on1 : ℕ
  pub on2 : ℕ
  pub one : Row
  pub ilocal0 : ℕ
  pub ion0 : ℕ

abbrev pub row : ℕ → ℕ → ℕ → ℕ → Row
row n w s l = record { calls = n; work = w; span = s; local = l }

-- as document 01's twelve begin: sites 1 and 2 declared, then the lines given
abbrev pub case : ℕ → List ℕ → ℕ → ℕ → ℕ → ℕ → ℕ → Row → ℕ → ℕ → Case
case D l w s a b c r i j =
    record { depth = D; trace = text (0x0100010000000a00010005 ∷ 0x0100020000001400010009 ∷ l); work = w; span = s; on0 = a; on1 = b; on2 = c; one = r; ilocal0 = i; ion0 = j }

-- n of a line
abbrev pub repeated : ℕ → ℕ → List ℕ
repeated zero x = []
repeated (suc n) x = x ∷ repeated n x

-- with the root as many as there may be
abbrev pub deepest : Case
deepest =
    case 64 (repeated 63 0x1300000000000000000000 ++ (0x0600000000000100000000 ∷ (repeated 63 0x0500000000000000000000 ++ (0x0500000000000000000000 ∷ []))))
    1 1 1 0 0 (row 0 0 0 0) 0 0

-- events before the root's return, then work, span, the on-span numbers, row 1 and the instructions of row 0
abbrev pub twelve : List Case
twelve =
    -- A: 3, async 1 {4}, 5
    case 4 (0x0600000000000300000000 ∷ 0x1200010000000000000000 ∷ 0x0600000000000400000000 ∷ 0x0500000000000000000000 ∷ 0x0600000000000500000000 ∷ 0x0500000000000000000000 ∷ [])
    12 8 8 0 0 (row 1 4 4 4) 0 0
    -- B: async 1 {4}, async 2 {4}, 1
    ∷ case 4 (0x1200010000000000000000 ∷ 0x0600000000000400000000 ∷ 0x0500000000000000000000 ∷ 0x1200020000000000000000 ∷ 0x0600000000000400000000 ∷ 0x0500000000000000000000 ∷ 0x0600000000000100000000 ∷ 0x0500000000000000000000 ∷ [])
    9 4 0 4 0 (row 1 4 4 4) 0 0
    -- C: call 1 {async 2 {7}, 1}, 2
    ∷ case 4 (0x0200010000000000000000 ∷ 0x1200020000000000000000 ∷ 0x0600000000000700000000 ∷ 0x0500000000000000000000 ∷ 0x0600000000000100000000 ∷ 0x0500000000000000000000 ∷ 0x0600000000000200000000 ∷ 0x0500000000000000000000 ∷ [])
    10 7 0 0 7 (row 1 8 7 1) 0 0
    -- D: finish {call 1 {async 2 {7}, 1}}, 2
    ∷ case 4 (0x1300000000000000000000 ∷ 0x0200010000000000000000 ∷ 0x1200020000000000000000 ∷ 0x0600000000000700000000 ∷ 0x0500000000000000000000 ∷ 0x0600000000000100000000 ∷ 0x0500000000000000000000 ∷ 0x0500000000000000000000 ∷ 0x0600000000000200000000 ∷ 0x0500000000000000000000 ∷ [])
    10 9 2 0 7 (row 1 8 7 1) 0 0
    -- E: async 1 {async 2 {6}, 1}, 2
    ∷ case 4 (0x1200010000000000000000 ∷ 0x1200020000000000000000 ∷ 0x0600000000000600000000 ∷ 0x0500000000000000000000 ∷ 0x0600000000000100000000 ∷ 0x0500000000000000000000 ∷ 0x0600000000000200000000 ∷ 0x0500000000000000000000 ∷ [])
    9 6 0 0 6 (row 1 7 6 1) 0 0
    -- F: async 1 {finish {async 2 {3}, 1}, 4}, 5
    ∷ case 4 (0x1200010000000000000000 ∷ 0x1300000000000000000000 ∷ 0x1200020000000000000000 ∷ 0x0600000000000300000000 ∷ 0x0500000000000000000000 ∷ 0x0600000000000100000000 ∷ 0x0500000000000000000000 ∷ 0x0600000000000400000000 ∷ 0x0500000000000000000000 ∷ 0x0600000000000500000000 ∷ 0x0500000000000000000000 ∷ [])
    13 7 0 4 3 (row 1 8 7 5) 0 0
    -- G: finish {}, 2
    ∷ case 4 (0x1300000000000000000000 ∷ 0x0500000000000000000000 ∷ 0x0600000000000200000000 ∷ 0x0500000000000000000000 ∷ [])
    2 2 2 0 0 (row 0 0 0 0) 0 0
    -- H: 1, finish {async 1 {5}, 3}
    ∷ case 4 (0x0600000000000100000000 ∷ 0x1300000000000000000000 ∷ 0x1200010000000000000000 ∷ 0x0600000000000500000000 ∷ 0x0500000000000000000000 ∷ 0x0600000000000300000000 ∷ 0x0500000000000000000000 ∷ 0x0500000000000000000000 ∷ [])
    9 6 1 5 0 (row 1 5 5 5) 0 0
    -- I: async 1 {4}, 4, of equal weight
    ∷ case 4 (0x1200010000000000000000 ∷ 0x0600000000000400000000 ∷ 0x0500000000000000000000 ∷ 0x0600000000000400000000 ∷ 0x0500000000000000000000 ∷ [])
    8 4 0 4 0 (row 1 4 4 4) 0 0
    -- J: call 1 {1, finish {call 1 {2}}}
    ∷ case 4 (0x0200010000000000000000 ∷ 0x0600000000000100000000 ∷ 0x1300000000000000000000 ∷ 0x0200010000000000000000 ∷ 0x0600000000000200000000 ∷ 0x0500000000000000000000 ∷ 0x0500000000000000000000 ∷ 0x0500000000000000000000 ∷ 0x0500000000000000000000 ∷ [])
    3 3 0 3 0 (row 2 3 3 3) 0 0
    -- K: finish {2 with 9 instructions}, 1
    ∷ case 4 (0x1300000000000000000000 ∷ 0x0600000000000200000000 ∷ 0x0700000000000900000000 ∷ 0x0500000000000000000000 ∷ 0x0600000000000100000000 ∷ 0x0500000000000000000000 ∷ [])
    3 3 3 0 0 (row 0 0 0 0) 9 9
    -- L: 63 finishes inside one another, 1 in the innermost
    ∷ deepest
    ∷ []

-- what the table says of one trace
pub record Holds (c : Case) : Type 0 where
  pub t : List Frame
  pub is_accepted : verdict_of Finishes c.trace c.depth 2 true ≡ accepted t
  pub work_is : total t ≡ c.work
  pub span_is : SpanOf Finishes t root c.span
  pub chain : List ℕ
  pub chosen : ChosenOf Finishes t chain
  pub on0_is : on_span t chain 0 ≡ c.on0
  pub on1_is : on_span t chain 1 ≡ c.on1
  pub on2_is : on_span t chain 2 ≡ c.on2
  pub calls_is : calls t 1 ≡ c.one.calls
  pub row_work_is : work t 1 ≡ c.one.work
  pub row_span_is : SpansOf Finishes t 1 c.one.span
  pub local_is : local t 1 ≡ c.one.local
  pub ilocal_is : ilocal t 0 ≡ c.ilocal0
  pub ion_span_is : ion_span t chain 0 ≡ c.ion0

abbrev pub AllHold : List Case → Type 0
AllHold [] = Unit {0}
AllHold (c ∷ l) = Holds c × AllHold l

-- the twelve under a single claim; and one finish more than there may be is refused at its line
abbrev pub Claim : Type 0
Claim = AllHold twelve × (verdict_of Finishes deepest.trace 63 2 true ≡ refused 12 64)
