-- Traces of the finish family by computing: two asyncs; an async in a call, which joins nothing; the same in a finish.
use mathlib.Core.Path.{◌≡◌, refl, subst}
use mathlib.Core.Bool.{true}
use mathlib.Core.List.{List, [], ◌∷◌}
use Prim.Native.Nat.{ℕ}
use Rattle.line.specs.Family.{Finishes}
use Rattle.chain.specs.Plan.{choose}
use Rattle.chain.specs.Over.{lines_in}
use Rattle.trace.specs.Shape.{root}
use Rattle.trace.specs.Async.{Parallel}
use Rattle.trace.specs.Series.{SpanOf, ChosenOf}
use Rattle.trace.specs.Refusals.{accepted, verdict_of}
use Rattle.trace.specs.Tree.{async, pass, finish, site, spend, note, Body, done, leaf, child, lines_of, span_of}
use Rattle.trace.specs.Fold.{chain_of}
use Rattle.trace.specs.Twelve.{text}
use Rattle.trace.proofs.Tree.{is_of}
use Rattle.trace.proofs.Computed.{span-here, chosen-here}

-- the text is a trace of this body, with this span and this chosen chain
abbrev Gives : List ℕ → Body → ℕ → List ℕ → Type 0
Gives s b n c = (verdict_of Finishes s 4 2 true ≡ accepted (lines_of b)) × SpanOf Finishes (lines_of b) root n × ChosenOf Finishes (lines_of b) c

gives : (s : List ℕ) (b : Body) (c : List ℕ) → is_of Finishes 0 b ≡ true → verdict_of Finishes s 4 2 true ≡ accepted (lines_of b) → lines_in (chain_of 0 0 b) ≡ c → Gives s b (span_of b) c
gives s b c o e k = (e, span-here Finishes s 4 2 b o e, subst (ChosenOf Finishes (lines_of b)) k (chosen-here Finishes s 4 2 b o e))

-- a body behind its one site
abbrev declared : Body → Body
declared b = leaf (note (site 1 (record { file = 1; line = 10; column = 5 }))) b

-- async 1 {4}, async 1 {5}, cost 2
abbrev two : Body
two = declared (child async 1 (leaf (spend 4) done) (child async 1 (leaf (spend 5) done) (leaf (spend 2) done)))

abbrev two_text : List ℕ
two_text =
    text (0x0100010000000a00010005 ∷ 0x1200010000000000000000 ∷ 0x0600000000000400000000 ∷ 0x0500000000000000000000 ∷ 0x1200010000000000000000 ∷ 0x0600000000000500000000 ∷ 0x0500000000000000000000 ∷ 0x0600000000000200000000 ∷ 0x0500000000000000000000 ∷ [])

two-chain : lines_in (chain_of 0 0 two) ≡ 5 ∷ []
unfolding choose
two-chain = refl

pub all-parallel : Gives two_text two 5 (5 ∷ [])
all-parallel = gives two_text two (5 ∷ []) refl refl two-chain

-- "a call joins nothing". Call 1 {async 1 {4}, cost 1}, cost 3: of the two chains of weight 4 "01's line-number rule
-- decides".
abbrev loose : Body
loose = declared (child pass 1 (child async 1 (leaf (spend 4) done) (leaf (spend 1) done)) (leaf (spend 3) done))

abbrev loose_text : List ℕ
loose_text =
    text (0x0100010000000a00010005 ∷ 0x0200010000000000000000 ∷ 0x1200010000000000000000 ∷ 0x0600000000000400000000 ∷ 0x0500000000000000000000 ∷ 0x0600000000000100000000 ∷ 0x0500000000000000000000 ∷ 0x0600000000000300000000 ∷ 0x0500000000000000000000 ∷ [])

loose-chain : lines_in (chain_of 0 0 loose) ≡ 3 ∷ []
unfolding choose
loose-chain = refl

pub call_passes : Gives loose_text loose 4 (3 ∷ []) × Parallel (lines_of loose) 3 7
call_passes =
    (gives loose_text loose (3 ∷ []) refl refl loose-chain, record { g = 2; site = 1; F = root; async = refl; contains = tt; without = λ h. h; nearest = tt; still_open = tt })

-- Finish {call 1 {async 1 {4}, cost 1}}, cost 3: the cost behind the finish is in series with the async's.
abbrev held : Body
held = declared (child finish 0 (child pass 1 (child async 1 (leaf (spend 4) done) (leaf (spend 1) done)) done) (leaf (spend 3) done))

abbrev held_text : List ℕ
held_text =
    text (0x0100010000000a00010005 ∷ 0x1300000000000000000000 ∷ 0x0200010000000000000000 ∷ 0x1200010000000000000000 ∷ 0x0600000000000400000000 ∷ 0x0500000000000000000000 ∷ 0x0600000000000100000000 ∷ 0x0500000000000000000000 ∷ 0x0500000000000000000000 ∷ 0x0600000000000300000000 ∷ 0x0500000000000000000000 ∷ [])

held-chain : lines_in (chain_of 0 0 held) ≡ 4 ∷ 9 ∷ []
unfolding choose
held-chain = refl

pub finish_joins : Gives held_text held 7 (4 ∷ 9 ∷ []) × (¬ Parallel (lines_of held) 4 9)
finish_joins = let h = gives held_text held (4 ∷ 9 ∷ []) refl refl held-chain in (h, h.2.chain.series.0.0.1)
