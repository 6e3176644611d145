-- The further traces of document 01, those of requests j and l and one for each refusal: the verdict, computed; the span
-- of a trace whose sites are met on the way; and the rows of one with 07 lines.
use mathlib.Core.Path.{◌≡◌, refl, subst}
use mathlib.Core.Bool.{Bool, true, false}
use mathlib.Core.List.{List, [], ◌∷◌, ◌++◌, map}
use Prim.Native.Nat.{ℕ}
use lib.ListN.{take, replicate}
use Rattle.line.specs.Family.{Base}
use Rattle.line.specs.declared.Frame.TheVariants.{Site, Spawn, Return, Cost, Instructions}
use Rattle.chain.specs.Plan.{choose}
use Rattle.chain.specs.Over.{lines_in}
use Rattle.trace.specs.Shape.{root}
use Rattle.trace.specs.Series.{Span, Chosen}
use Rattle.trace.specs.Rows.{local, on_span, ilocal, ion_span}
use Rattle.trace.specs.Refusals.{Verdict, accepted, refused, verdict}
use Rattle.trace.specs.Tree.{spawn, site, carry, spend, note, Body, done, leaf, child, lines_of}
use Rattle.trace.specs.Fold.{chain_of}
use Rattle.trace.specs.Twelve.{text}
use Rattle.trace.proofs.Computed.{span-here, chosen-here}

record Ask : Type 0 where
  trace : List ℕ
  D : ℕ
  M : ℕ
  room : Bool
  gives : Verdict

-- a text of whole lines, with room enough
abbrev ask : List ℕ → ℕ → ℕ → Verdict → Ask
ask l d m v = record { trace = text l; D = d; M = m; room = true; gives = v }

abbrev asks : List Ask
asks =
    -- "the empty file (14, line 0)", "a lone return (accepted)", "a well-formed line after it (7)"
    ask [] 4 2 (refused 14 0)
    ∷ ask (0x0500000000000000000000 ∷ []) 4 2 (accepted (Return ∷ []))
    ∷ ask (0x0500000000000000000000 ∷ 0x0600000000000100000000 ∷ []) 4 2 (refused 7 1)
    -- "call 2 with one site (11)", site 0, "D = 1 and a call (12)"
    ∷ ask (0x0100010000000a00010005 ∷ 0x0200020000000000000000 ∷ 0x0500000000000000000000 ∷ 0x0500000000000000000000 ∷ []) 4 2 (refused 11 1)
    ∷ ask (0x0200000000000000000000 ∷ []) 4 2 (refused 11 0)
    ∷ ask (0x0100010000000a00010005 ∷ 0x0200010000000000000000 ∷ 0x0500000000000000000000 ∷ 0x0500000000000000000000 ∷ []) 1 2 (refused 12 1)
    -- "M and M+1 sites"
    ∷ ask (0x0100010000000a00010005 ∷ 0x0500000000000000000000 ∷ []) 4 1 (accepted (Site 1 (record { file = 1; line = 10; column = 5 }) ∷ Return ∷ []))
    ∷ ask (0x0100010000000a00010005 ∷ 0x0100020000001400010009 ∷ 0x0500000000000000000000 ∷ []) 4 1 (refused 9 1)
    -- "cost 0 (6)", an unknown kind, a place without a column, an unused field
    ∷ ask (0x0600000000000000000000 ∷ []) 4 2 (refused 6 0)
    ∷ ask (0x0800000000000000000000 ∷ []) 4 2 (refused 6 0)
    ∷ ask (0x0100010000000a00010000 ∷ []) 4 2 (refused 6 0)
    ∷ ask (0x0500010000000000000000 ∷ []) 4 2 (refused 6 0)
    -- the same place again, a number again, a number passed over
    ∷ ask (0x0100010000000a00010005 ∷ 0x0100020000000a00010005 ∷ []) 4 2 (refused 10 1)
    ∷ ask (0x0100010000000a00010005 ∷ 0x0100010000000a00010006 ∷ []) 4 2 (refused 8 1)
    ∷ ask (0x0100010000000a00010005 ∷ 0x0600000000000100000000 ∷ 0x0100030000000a00010006 ∷ []) 4 4 (refused 8 2)
    -- 02, request j: a site line behind a cost, between a spawn and its first cost, and directly before the root's return
    ∷ ask (0x0600000000000100000000 ∷ 0x0100010000000a00010005 ∷ []) 4 2 (refused 14 2)
    ∷ ask (0x0100010000000a00010005 ∷ 0x0300010000000000000000 ∷ 0x0100020000001400010009 ∷ 0x0600000000000700000000 ∷ 0x0500000000000000000000 ∷ 0x0500000000000000000000 ∷ []) 4 2
    (accepted (Site 1 (record { file = 1; line = 10; column = 5 }) ∷ Spawn 1 ∷ Site 2 (record { file = 1; line = 20; column = 9 }) ∷ Cost 7 ∷ Return ∷ Return ∷ []))
    ∷ ask (0x0600000000000100000000 ∷ 0x0100010000000a00010005 ∷ 0x0500000000000000000000 ∷ []) 4 2 (accepted (Cost 1 ∷ Site 1 (record { file = 1; line = 10; column = 5 }) ∷ Return ∷ []))
    -- the call of a site that the next line declares; a place of before, behind another kind; a site line after the root's return
    ∷ ask (0x0200010000000000000000 ∷ 0x0100010000000a00010005 ∷ []) 4 2 (refused 11 0)
    ∷ ask (0x0100010000000a00010005 ∷ 0x0400000000000000000000 ∷ 0x0100020000000a00010005 ∷ []) 4 2 (refused 10 2)
    ∷ ask (0x0500000000000000000000 ∷ 0x0100010000000a00010005 ∷ []) 4 2 (refused 7 1)
    -- 02, request l: a 07 line first, behind a sync, behind another 07 line, behind a site line and behind a child's return
    ∷ ask (0x0700000000000100000000 ∷ []) 4 2 (refused 22 0)
    ∷ ask (0x0600000000000100000000 ∷ 0x0400000000000000000000 ∷ 0x0700000000000100000000 ∷ []) 4 2 (refused 22 2)
    ∷ ask (0x0600000000000100000000 ∷ 0x0700000000000100000000 ∷ 0x0700000000000100000000 ∷ []) 4 2 (refused 22 2)
    ∷ ask (0x0600000000000100000000 ∷ 0x0100010000000a00010005 ∷ 0x0700000000000100000000 ∷ []) 4 2 (refused 22 2)
    ∷ ask (0x0100010000000a00010005 ∷ 0x0200010000000000000000 ∷ 0x0600000000000100000000 ∷ 0x0500000000000000000000 ∷ 0x0700000000000100000000 ∷ []) 4 2 (refused 22 4)
    -- after the root's return, with nothing in it, with a site; behind the last cost before a return
    ∷ ask (0x0600000000000100000000 ∷ 0x0500000000000000000000 ∷ 0x0700000000000100000000 ∷ []) 4 2 (refused 7 2)
    ∷ ask (0x0600000000000100000000 ∷ 0x0700000000000000000000 ∷ []) 4 2 (refused 6 1)
    ∷ ask (0x0600000000000100000000 ∷ 0x0700010000000100000000 ∷ []) 4 2 (refused 6 1)
    ∷ ask (0x0600000000000100000000 ∷ 0x0700000000000500000000 ∷ 0x0500000000000000000000 ∷ []) 4 2 (accepted (Cost 1 ∷ Instructions 5 ∷ Return ∷ []))
    -- places that differ in the file, in the line or in the column alone
    ∷ ask (0x0100010000000a00010005 ∷ 0x0100020000000a00020005 ∷ 0x0100030000000b00010005 ∷ 0x0100040000000a00010006 ∷ []) 4 4 (refused 14 4)
    -- within a line the smallest number: 7 before 11, but 6 and 5 before 7; 8 before 9 and 10
    ∷ ask (0x0500000000000000000000 ∷ 0x0200000000000000000000 ∷ []) 4 2 (refused 7 1)
    ∷ ask (0x0500000000000000000000 ∷ 0x0600000000000000000000 ∷ []) 4 2 (refused 6 1)
    ∷ record { trace = text (0x0500000000000000000000 ∷ []) ++ (103 ∷ take 22 (text (0x0500000000000000000000 ∷ []))); D = 4; M = 2; room = true; gives = refused 5 1 }
    ∷ ask (0x0100010000000a00010005 ∷ 0x0100030000000a00010005 ∷ []) 4 1 (refused 8 1)
    -- no line feed
    ∷ record { trace = replicate 23 48; D = 4; M = 2; room = true; gives = refused 5 0 }
    -- the limits, then the length, then the room
    ∷ record { trace = 48 ∷ []; D = 0; M = 2; room = false; gives = refused 1 0 }
    ∷ ask [] 65 2 (refused 1 0)
    ∷ ask [] 64 256 (refused 1 0)
    ∷ record { trace = 48 ∷ []; D = 4; M = 2; room = false; gives = refused 2 0 }
    ∷ record { trace = []; D = 4; M = 2; room = false; gives = refused 4 0 }
    ∷ []

abbrev gives : Ask → Verdict
gives a = a.gives

abbrev given : Ask → Verdict
given a = verdict a.trace a.D a.M a.room

pub further : map given asks ≡ map gives asks
further = refl

-- 02, request j: "Site lines weigh nothing and join nothing". Case D with its second site behind the spawn: site 1,
-- spawn 1 {4}, site 2, cost 5.
abbrev met : Body
met =
    leaf (note (site 1 (record { file = 1; line = 10; column = 5 })))
    (child spawn 1 (leaf (spend 4) done) (leaf (note (site 2 (record { file = 1; line = 20; column = 9 }))) (leaf (spend 5) done)))

abbrev met_text : List ℕ
met_text =
    text (0x0100010000000a00010005 ∷ 0x0300010000000000000000 ∷ 0x0600000000000400000000 ∷ 0x0500000000000000000000 ∷ 0x0100020000001400010009 ∷ 0x0600000000000500000000 ∷ 0x0500000000000000000000 ∷ [])

pub still_parallel : (verdict met_text 4 2 true ≡ accepted (lines_of met)) × Span (lines_of met) root 5
still_parallel = (refl, span-here Base met_text 4 2 met refl refl)

-- 02, request l: "The chain is still chosen by cycles." Cost 1 with 10 instructions, spawn 1 {9 with 2}, cost 5 with 1000,
-- and a cost 1 with none: the child is on the chain, of fewer instructions than what is beside it.
abbrev carrying : Body
carrying =
    leaf (note (site 1 (record { file = 1; line = 10; column = 5 })))
    (leaf (spend 1) (leaf (note (carry 10)) (child spawn 1 (leaf (spend 9) (leaf (note (carry 2)) done))
    (leaf (spend 5) (leaf (note (carry 1000)) (leaf (spend 1) done))))))

abbrev carrying_text : List ℕ
carrying_text =
    text (0x0100010000000a00010005 ∷ 0x0600000000000100000000 ∷ 0x0700000000000a00000000 ∷ 0x0300010000000000000000 ∷ 0x0600000000000900000000 ∷ 0x0700000000000200000000 ∷ 0x0500000000000000000000 ∷ 0x0600000000000500000000 ∷ 0x070000000003e800000000 ∷ 0x0600000000000100000000 ∷ 0x0500000000000000000000 ∷ [])

-- lines 1 and 4 are on the chain
abbrev on_chain : List ℕ
on_chain = 1 ∷ 4 ∷ []

carrying-chain : lines_in (chain_of 0 0 carrying) ≡ on_chain
unfolding choose
carrying-chain = refl

pub by_cycles : (verdict carrying_text 4 2 true ≡ accepted (lines_of carrying)) × Span (lines_of carrying) root 10 × Chosen (lines_of carrying) on_chain
by_cycles = (refl, span-here Base carrying_text 4 2 carrying refl refl, subst (Chosen (lines_of carrying)) carrying-chain (chosen-here Base carrying_text 4 2 carrying refl refl))

-- columns 4 to 7 of both rows
abbrev columns_of : ℕ → List ℕ
columns_of s = local (lines_of carrying) s ∷ on_span (lines_of carrying) on_chain s ∷ ilocal (lines_of carrying) s ∷ ion_span (lines_of carrying) on_chain s ∷ []

pub root-row : columns_of 0 ≡ 7 ∷ 1 ∷ 1010 ∷ 10 ∷ []
root-row = refl

pub child-row : columns_of 1 ≡ 9 ∷ 9 ∷ 2 ∷ 2 ∷ []
child-row = refl
