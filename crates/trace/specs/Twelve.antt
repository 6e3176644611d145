-- The twelve traces of document 01 as characters, and what its table says of each. A line is written as the numeral
-- of its 22 digits.
use Rattle.std.specs.Prelude.{ℕ, ◌≡◌, true, List, [], ◌∷◌, ◌++◌, get_or}
use Rattle.digits.specs.Digits.{digits}
use Rattle.line.specs.declared.Frame.{Frame}
use Rattle.trace.specs.Shape.{root}
use Rattle.trace.specs.Series.{Span, Chosen}
use Rattle.trace.specs.Rows.{total, calls, work, Spans, local, on_span, ilocal, ion_span}
use Rattle.trace.specs.Refusals.{accepted, verdict}

-- 22 digits and a line feed for each numeral
abbrev pub text : List ℕ → List ℕ
text [] = []
text (x ∷ l) = digits 22 x ++ (10 ∷ text l)

-- a trace, and "work", "span" and "on span, rows 0,1,2"
pub record Case : Type 0 where
  pub trace : List ℕ
  pub work : ℕ
  pub span : ℕ
  pub on0 : ℕ
  pub on1 : ℕ
  pub on2 : ℕ

-- "Sites 1 and 2 declared", "Places are those of case I's input": the two site lines, then the lines given
abbrev pub case : List ℕ → ℕ → ℕ → ℕ → ℕ → ℕ → Case
case l w s a b c = record { trace = text (0x0100010000000a00010005 ∷ 0x0100020000001400010009 ∷ l); work = w; span = s; on0 = a; on1 = b; on2 = c }

-- "events before the root's return", then work, span and the on-span numbers
abbrev pub twelve : List Case
twelve =
    -- A: none
    case (0x0500000000000000000000 ∷ [])
    0 0 0 0 0
    -- B: cost 5, cost 3
    ∷ case (0x0600000000000500000000 ∷ 0x0600000000000300000000 ∷ 0x0500000000000000000000 ∷ [])
    8 8 8 0 0
    -- C: spawn 1 {4}, cost 4
    ∷ case (0x0300010000000000000000 ∷ 0x0600000000000400000000 ∷ 0x0500000000000000000000 ∷ 0x0600000000000400000000 ∷ 0x0500000000000000000000 ∷ [])
    8 4 0 4 0
    -- D: spawn 1 {4}, cost 5
    ∷ case (0x0300010000000000000000 ∷ 0x0600000000000400000000 ∷ 0x0500000000000000000000 ∷ 0x0600000000000500000000 ∷ 0x0500000000000000000000 ∷ [])
    9 5 5 0 0
    -- E: spawn 1 {4}, sync, cost 4
    ∷ case (0x0300010000000000000000 ∷ 0x0600000000000400000000 ∷ 0x0500000000000000000000 ∷ 0x0400000000000000000000 ∷ 0x0600000000000400000000 ∷ 0x0500000000000000000000 ∷ [])
    8 8 4 4 0
    -- F: call 1 {4}, cost 4
    ∷ case (0x0200010000000000000000 ∷ 0x0600000000000400000000 ∷ 0x0500000000000000000000 ∷ 0x0600000000000400000000 ∷ 0x0500000000000000000000 ∷ [])
    8 8 4 4 0
    -- G: 1, spawn 1 {10}, 2, spawn 2 {8}, 1
    ∷ case (0x0600000000000100000000 ∷ 0x0300010000000000000000 ∷ 0x0600000000000a00000000 ∷ 0x0500000000000000000000 ∷ 0x0600000000000200000000 ∷ 0x0300020000000000000000 ∷ 0x0600000000000800000000 ∷ 0x0500000000000000000000 ∷ 0x0600000000000100000000 ∷ 0x0500000000000000000000 ∷ [])
    22 11 1 10 0
    -- H: as G with 9 for 8
    ∷ case (0x0600000000000100000000 ∷ 0x0300010000000000000000 ∷ 0x0600000000000a00000000 ∷ 0x0500000000000000000000 ∷ 0x0600000000000200000000 ∷ 0x0300020000000000000000 ∷ 0x0600000000000900000000 ∷ 0x0500000000000000000000 ∷ 0x0600000000000100000000 ∷ 0x0500000000000000000000 ∷ [])
    23 12 3 0 9
    -- I: call 1 {spawn 2 {7}, 1}, 2
    ∷ case (0x0200010000000000000000 ∷ 0x0300020000000000000000 ∷ 0x0600000000000700000000 ∷ 0x0500000000000000000000 ∷ 0x0600000000000100000000 ∷ 0x0500000000000000000000 ∷ 0x0600000000000200000000 ∷ 0x0500000000000000000000 ∷ [])
    10 9 2 0 7
    -- J: spawn 1 {3}, call 2 {1, sync, 1}
    ∷ case (0x0300010000000000000000 ∷ 0x0600000000000300000000 ∷ 0x0500000000000000000000 ∷ 0x0200020000000000000000 ∷ 0x0600000000000100000000 ∷ 0x0400000000000000000000 ∷ 0x0600000000000100000000 ∷ 0x0500000000000000000000 ∷ 0x0500000000000000000000 ∷ [])
    5 3 0 3 0
    -- K: call 1 {1, call 1 {2}}
    ∷ case (0x0200010000000000000000 ∷ 0x0600000000000100000000 ∷ 0x0200010000000000000000 ∷ 0x0600000000000200000000 ∷ 0x0500000000000000000000 ∷ 0x0500000000000000000000 ∷ 0x0500000000000000000000 ∷ [])
    3 3 0 3 0
    -- L: spawn 1 {spawn 2 {6}, 1}, 2, sync, 1
    ∷ case (0x0300010000000000000000 ∷ 0x0300020000000000000000 ∷ 0x0600000000000600000000 ∷ 0x0500000000000000000000 ∷ 0x0600000000000100000000 ∷ 0x0500000000000000000000 ∷ 0x0600000000000200000000 ∷ 0x0400000000000000000000 ∷ 0x0600000000000100000000 ∷ 0x0500000000000000000000 ∷ [])
    10 7 1 0 6
    ∷ []

-- what the table says of one trace, with "D = 4, M = 2"
pub record Holds (c : Case) : Type 0 where
  pub t : List Frame
  pub is_accepted : verdict c.trace 4 2 true ≡ accepted t
  pub work_is : total t ≡ c.work
  pub span_is : Span t root c.span
  pub chain : List ℕ
  pub chosen : Chosen t chain
  pub on0_is : on_span t chain 0 ≡ c.on0
  pub on1_is : on_span t chain 1 ≡ c.on1
  pub on2_is : on_span t chain 2 ≡ c.on2
  -- 02, request l: "A kind 07 line ... carries its instructions in the value ...; without one they are zero."
  pub ilocal_is : (s : ℕ) → ilocal t s ≡ 0
  pub ion_span_is : (s : ℕ) → ion_span t chain s ≡ 0

abbrev pub AllHold : List Case → Type 0
AllHold [] = Unit {0}
AllHold (c ∷ l) = Holds c × AllHold l

abbrev pub K : Case
K = get_or twelve 10 (case [] 0 0 0 0 0)

-- "In K row 1 has calls 2, work 5, span 5, local 3."; 02, request c: "In K row 1's work and span become 3."
pub record RowOne (c : Case) (n w s l : ℕ) : Type 0 where
  pub t : List Frame
  pub is_accepted : verdict c.trace 4 2 true ≡ accepted t
  pub calls_is : calls t 1 ≡ n
  pub work_is : work t 1 ≡ w
  pub span_is : Spans t 1 s
  pub local_is : local t 1 ≡ l

-- "The twelve stand together in a single table under a single proved claim."
abbrev pub Claim : Type 0
Claim = AllHold twelve × RowOne K 2 3 3 3
