-- Two passes give the answer: one with the asked line raised above the whole work, whose marks show the first of the
-- heaviest chains through it, and one over plain costs that seeks the smallest line of the chosen chain that is not marked.
use mathlib.Core.Path.{◌≡◌, refl, sym, ◌∙◌, ap, subst}
use mathlib.Core.Logic.{◌⊎◌, inl, inr}
use mathlib.Core.Bool.{Bool, true, false, cond}
use mathlib.Core.List.{List, [], ◌∷◌}
use Prim.Native.Nat.{ℕ, ◌+◌, ◌-◌, ◌≤◌, ◌<◌}
use native.Mathlib.Omega.{arith}
use lib.Dec.{ltb}
use lib.ListN.{length}
use Rattle.line.specs.declared.Frame.{Frame}
use Rattle.line.specs.declared.Frame.TheVariants.{Cost}
use Rattle.chain.specs.Over.{EachTwo, Before, lines_in}
use Rattle.chain.proofs.Choose.{test}
use Rattle.trace.specs.Shape.{Is, root, has}
use Rattle.trace.specs.Series.{weight, Span, Chosen}
use Rattle.trace.specs.Rows.{total}
use Rattle.trace.specs.Refusals.{most_lines}
use Rattle.trace.specs.Tree.{Parts, span_of}
use Rattle.trace.specs.Fold.{chain_of}
use Rattle.trace.proofs.Open.{has-cases, has_here, has-later}
use Rattle.trace.proofs.Recurrence.{weight-chain}
use Rattle.trace.proofs.Root.{root-span, root-chosen}
use Rattle.weigh.proofs.AnyWeight.{heavy_body, raised_span}
use Rattle.agree.proofs.Picked.{Among, each_map}
use Rattle.agree.proofs.Shown.{chain-up, chain-within}
use Rattle.moves.specs.Moves.{On}
use Rattle.why.specs.Through.{Through}
use Rattle.why.specs.declared.Why.{Why}
use Rattle.why.specs.declared.Why.TheVariants.{OnChain, Slack, Tied}
use Rattle.why.specs.Why.{SmallestOff, True, Shown}
use Rattle.why.specs.declared.Seen.{Seen}
use Rattle.why.specs.Seek.{unmarked, sought, at_tie, answer_of}
use Rattle.why.proofs.Lines.{on_or_not, on-each}
use Rattle.why.proofs.Through.{in_root, span-through, through_unique, through-raised}
use Rattle.why.proofs.Unique.{on_chain, span-weight}
use Rattle.why.proofs.Seek.{unmarked_le, unmarked-on, unmarked-same, seek_is}

-- of ascending lines, the first of two lists has one that the second has not
before-off : (c g : List ℕ) → EachTwo (λ i j. i < j) c → EachTwo (λ i j. i < j) g → Before c g → ((j : ℕ) → On j c → On j g) → ⊥
before-off [] g u w h all = h
before-off (x ∷ c) [] u w h all = h
before-off (x ∷ c) (y ∷ g) u w (inl l) all = elim (has-cases x y g (all x (has_here x x c refl))) [ inl e ↦ omega arith | inr r ↦ omega (arith, on-each (λ z. y < z) g x w.0 r) ]
before-off (x ∷ c) (y ∷ g) u w (inr h) all =
    before-off c g u.1 w.1 h.1 (λ j m. elim (has-cases j y g (all j (has-later j x c m))) [ inl e ↦ absurd (omega (arith, h.0, on-each (λ z. x < z) c j u.0 m)) | inr r ↦ r ])

-- c is the chosen chain, g the first of the heaviest through line q, n the span
module _ (t : List Frame) (q : ℕ) (c g : List ℕ) (n : ℕ) (chosen : Chosen t c) (through : Through t q g) (span : Span t root n) (fits : length t ≤ most_lines) where
  abbrev Good : Why → Type 0
  Good a = True t q a × Shown t q a g

  -- the smallest line of c that is not on g
  abbrev off : ℕ
  off = unmarked (λ k. has k g) c

  -- where there is none, all of c is on g
  all-on : most_lines ≤ off → (j : ℕ) → On j c → On j g
  all-on l j m = elim (on_or_not j g) [
    | inl h ↦ h
    | inr h ↦ absurd (omega (arith, unmarked_le (λ k. has k g) c j m h, (on-each (Among 0 (length t)) c j (chain-within t c chosen.chain) m).1))
  ]

  -- and c is g
  same : most_lines ≤ off → (g ≡ c) ⊎ Before c g → g ≡ c
  same l (inl e) = e
  same l (inr b) = absurd (before-off c g (chain-up t c chosen.chain.series) (chain-up t g through.chain.series) b (all-on l))

  smallest : off < most_lines → SmallestOff off c g
  smallest l =
      let w = unmarked-on (λ k. has k g) c off refl l in
      record { on = w.0; off = w.1; smallest = λ j m o. unmarked_le (λ k. has k g) c j m o }

  -- where c is not all on g, line q is not on c
  not_on : SmallestOff off c g → ¬ On q c
  not_on x m = x.off (subst (On off) (through_unique t q c g (on_chain t q c chosen m) through) x.on)

  at_tie_lem : weight t g ≡ weight t c → Good (at_tie off)
  at_tie_lem w = go (test off most_lines)
    where
      go : ((off < most_lines) × (ltb off most_lines ≡ true)) ⊎ ((most_lines ≤ off) × (ltb off most_lines ≡ false)) → Good (at_tie off)
      go (inl l) =
          subst (λ (b : Bool). Good (cond b (Tied off) OnChain)) (sym l.1)
          (record { chosen = c; is_chosen = chosen; not_on = not_on (smallest l.0); through = g; is_through = through; as_heavy = w; smallest = smallest l.0 }, through)
      go (inr l) =
          let e = same l.0 (chosen.first g through.chain w) in
          subst (λ (b : Bool). Good (cond b (Tied off) OnChain)) (sym l.1)
          (record { chosen = c; is_chosen = chosen; on = subst (On q) e through.on }, subst (Chosen t) (sym e) chosen)

  -- LAW: the answer is the true one, and g is what the marks are to show
  pub two-numbers : True t q (answer_of (weight t g) n (unmarked (λ k. has k g) c)) × Shown t q (answer_of (weight t g) n (unmarked (λ k. has k g) c)) g
  two-numbers = go (test (weight t g) n)
    where
      go : ((weight t g < n) × (ltb (weight t g) n ≡ true)) ⊎ ((n ≤ weight t g) × (ltb (weight t g) n ≡ false)) → Good (answer_of (weight t g) n off)
      go (inl l) =
          subst (λ (b : Bool). Good (cond b (Slack (n - weight t g)) (at_tie off))) (sym l.1)
          (record { through = g; is_through = through; span = n; is_span = span; less = omega (arith, l.0); at_least_one = omega (arith, l.0) }, through)
      go (inr l) =
          subst (λ (b : Bool). Good (cond b (Slack (n - weight t g)) (at_tie off))) (sym l.1)
          (at_tie_lem (omega (arith, l.0, span-weight t c n chosen span, chosen.heaviest g through.chain)))

-- Line q of an accepted trace, a cost line, is raised by d, which is above the whole work. The marks are those of the chosen
-- chain then, and w is the span then, less d.
module _ (D : ℕ) (t : List Frame) (p : Parts D t) (fits : length t ≤ most_lines) (q v d : ℕ) (i : Is t q (Cost v)) (heavy : total t < d) where
  -- the chain that the first pass marks
  abbrev pub first_pass : List ℕ
  first_pass = lines_in (chain_of 0 0 (heavy_body D t p q d))

  module _ (marked : ℕ → Bool) (marks_are : (k : ℕ) → k < length t → marked k ≡ has k first_pass) (w : ℕ) (span_is : span_of (heavy_body D t p q d) ≡ w + d) where
    -- what the second pass sees
    abbrev second : Seen
    second = sought marked 0 p.body

    abbrev c : List ℕ
    c = lines_in (chain_of 0 0 p.body)

    through : Through t q first_pass
    through = through-raised D t p q v i d heavy

    weighs : w ≡ weight t first_pass
    weighs = omega (arith, span_is, span-through t q d (in_root D t p q v i) heavy first_pass (span_of (heavy_body D t p q d)) through (raised_span D t p q d))

    sees_span : second.weighs.0 ≡ span_of p.body
    sees_span = ap (λ (x : Seen). x.weighs.0) (seek_is marked p.body 0 0) ∙ weight-chain p.body 0 0

    sees_first : second.first ≡ unmarked (λ k. has k first_pass) c
    sees_first =
        ap (λ (x : Seen). x.first) (seek_is marked p.body 0 0)
        ∙ unmarked-same marked (λ k. has k first_pass) c
        (each_map (Among 0 (length t)) (λ k. marked k ≡ has k first_pass) (λ k m. marks_are k (omega (arith, m.1))) c (chain-within t c (root-chosen D t p).chain))

    -- LAW: the true answer, and the marks to show, from the marks and the span of the first pass and what the second one sees
    pub two-passes : True t q (answer_of w (sought marked 0 p.body).weighs.0 (sought marked 0 p.body).first) × Shown t q (answer_of w (sought marked 0 p.body).weighs.0 (sought marked 0 p.body).first) first_pass
    two-passes =
        let e : answer_of (weight t first_pass) (span_of p.body) (unmarked (λ k. has k first_pass) c) ≡ answer_of w second.weighs.0 second.first = rw (weighs, sees_span, sees_first) in
        subst (λ (a : Why). True t q a × Shown t q a first_pass) e (two-numbers t q c first_pass (span_of p.body) (root-chosen D t p) through (root-span D t p) fits)
