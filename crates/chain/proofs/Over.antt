-- The chain laws over line numbers, once for every rule that a plan fits; and there is one span and one chosen chain.
use mathlib.Core.Path.{◌≡◌, refl, sym, ◌∙◌, ap, subst}
use mathlib.Core.Logic.{◌⊎◌, inl, inr}
use mathlib.Core.List.{List, [], ◌∷◌, Memᴰ}
use Prim.Native.Nat.{ℕ, ◌<◌}
use native.Mathlib.Omega.{arith}
use Rattle.chain.specs.Plan.{CostLine, Plan, costs, All, Pairs, On, Apart}
use Rattle.chain.specs.Plan as P
use Rattle.chain.specs.Over.{Rule, Each, EachTwo, Series, Chain, weight, Span, Before, Chosen, lines_in}

-- one of these costs stands at this line and has this value
pub record Found (l : List CostLine) (k v : ℕ) : Type 0 where
  pub cost : CostLine
  pub on : Memᴰ cost l
  pub line_is : cost.line ≡ k
  pub value_is : cost.value ≡ v

-- the plan's costs are the rule's cost lines, and two are apart in the plan exactly where they are parallel by the rule
pub record Fits (r : Rule) (p : Plan) : Type 0 where
  pub found : (k : ℕ) → r.Cost k → Found (costs p) k (r.value k)
  pub on : (y : CostLine) → On p y → r.Cost y.line × (r.value y.line ≡ y.value)
  pub apart : (y z : CostLine) → On p y → On p z → y.line < z.line → Apart p y z → r.Parallel y.line z.line
  pub parallel : (y z : CostLine) → On p y → On p z → y.line < z.line → r.Parallel y.line z.line → Apart p y z

before-from : (c d : List CostLine) → P.Before c d → Before (lines_in c) (lines_in d)
before-from [] d h = absurd h
before-from (x ∷ c) [] h = absurd h
before-from (x ∷ c) (y ∷ d) (inl h) = inl h
before-from (x ∷ c) (y ∷ d) (inr h) = inr (h.0, before-from c d h.1)

module _ (r : Rule) (p : Plan) (f : Fits r p) where
  -- a chain's lines, found in the plan
  record Same (c : List ℕ) : Type 0 where
    pub chain : List CostLine
    pub lines_are : lines_in chain ≡ c
    pub on : All (On p) chain
    pub weighs : P.weight chain ≡ weight r.value c

  found_all : (c : List ℕ) → Each r.Cost c → Same c
  found_all [] h = record { chain = []; lines_are = refl; on = tt; weighs = refl }
  found_all (k ∷ c) h =
      let q = f.found k h.0 in
      let e = found_all c h.1 in
      record {
        chain = q.cost ∷ e.chain;
        lines_are = ap (λ (i : ℕ). i ∷ lines_in e.chain) q.line_is ∙ ap (λ (l : List ℕ). k ∷ l) e.lines_are;
        on = (q.on, e.on);
        weighs = omega (arith, q.value_is, e.weighs);
      }

  to-series : (y : CostLine) (d : List CostLine) → On p y → All (On p) d → Each (Series r.Parallel y.line) (lines_in d) → All (P.Series p y) d
  to-series y [] a h s = tt
  to-series y (z ∷ d) a h s = ((s.0.0, λ q. s.0.1 (f.apart y z a h.0 s.0.0 q)), to-series y d a h.1 s.1)

  to_pairs : (d : List CostLine) → All (On p) d → EachTwo (Series r.Parallel) (lines_in d) → Pairs (P.Series p) d
  to_pairs [] h s = tt
  to_pairs (y ∷ d) h s = (to-series y d h.0 h.1 s.0, to_pairs d h.1 s.1)

  chain-to : (c : List ℕ) → Chain r c → (e : Same c) × P.Chain p e.chain
  chain-to c h =
      let e = found_all c h.costs in
      (e, record { on = e.on; series = to_pairs e.chain e.on (subst (EachTwo (Series r.Parallel)) (sym e.lines_are) h.series) })

  from-costs : (d : List CostLine) → All (On p) d → Each r.Cost (lines_in d)
  from-costs [] h = tt
  from-costs (y ∷ d) h = ((f.on y h.0).0, from-costs d h.1)

  from-series : (y : CostLine) (d : List CostLine) → On p y → All (On p) d → All (P.Series p y) d → Each (Series r.Parallel y.line) (lines_in d)
  from-series y [] a h s = tt
  from-series y (z ∷ d) a h s = ((s.0.0, λ q. s.0.1 (f.parallel y z a h.0 s.0.0 q)), from-series y d a h.1 s.1)

  from_pairs : (d : List CostLine) → All (On p) d → Pairs (P.Series p) d → EachTwo (Series r.Parallel) (lines_in d)
  from_pairs [] h s = tt
  from_pairs (y ∷ d) h s = (from-series y d h.0 h.1 s.0, from_pairs d h.1 s.1)

  chain-from : (d : List CostLine) → P.Chain p d → Chain r (lines_in d)
  chain-from d h = record { costs = from-costs d h.on; series = from_pairs d h.on h.series }

  weight-from : (d : List CostLine) → All (On p) d → weight r.value (lines_in d) ≡ P.weight d
  weight-from [] h = refl
  weight-from (y ∷ d) h = let e = (f.on y h.0).1 in let q = weight-from d h.1 in omega arith

  module _ (b : List CostLine) (w : P.Chosen p b) where
    -- LAW: the chosen chain of the plan is the chosen chain by the rule
    pub chosen_by : Chosen r (lines_in b)
    chosen_by =
        let e = weight-from b w.chain.on in
        record {
          chain = chain-from b w.chain;
          heaviest = λ c h. (let q = chain-to c h in omega (arith, w.heaviest q.0.chain q.1, q.0.weighs));
          first = λ c h s. (let q = chain-to c h in go c q.0 (w.first q.0.chain q.1 (omega (arith, q.0.weighs))));
        }
      where
        go : (c : List ℕ) (e : Same c) → (e.chain ≡ b) ⊎ P.Before b e.chain → (c ≡ lines_in b) ⊎ Before (lines_in b) c
        go c e (inl q) = inl (sym e.lines_are ∙ ap lines_in q)
        go c e (inr q) = inr (subst (Before (lines_in b)) e.lines_are (before-from b e.chain q))

    -- LAW: and its weight is the span
    pub span-by : Span r (P.weight b)
    span-by =
        let e = weight-from b w.chain.on in
        record { chain = lines_in b; is_chain = chosen_by.chain; weighs = e; greatest = λ c h. omega (arith, chosen_by.heaviest c h) }

-- ── there is one ──

-- LAW
pub span_unique : (r : Rule) (m n : ℕ) → Span r m → Span r n → m ≡ n
span_unique r m n h k = omega (arith, h.greatest k.chain k.is_chain, k.greatest h.chain h.is_chain, h.weighs, k.weighs)

before_asym : (c d : List ℕ) → Before c d → Before d c → ⊥
before_asym [] d h k = h
before_asym (x ∷ c) [] h k = h
before_asym (x ∷ c) (y ∷ d) (inl h) (inl k) = omega arith
before_asym (x ∷ c) (y ∷ d) (inl h) (inr k) = omega arith
before_asym (x ∷ c) (y ∷ d) (inr h) (inl k) = omega arith
before_asym (x ∷ c) (y ∷ d) (inr h) (inr k) = before_asym c d h.1 k.1

-- LAW
pub chosen_unique : (r : Rule) (c d : List ℕ) → Chosen r c → Chosen r d → c ≡ d
chosen_unique r c d h k =
    let l = h.heaviest d k.chain in
    let m = k.heaviest c h.chain in
    go (h.first d k.chain (omega arith)) (k.first c h.chain (omega arith))
  where
    go : (d ≡ c) ⊎ Before c d → (c ≡ d) ⊎ Before d c → c ≡ d
    go (inl e) f = sym e
    go (inr e) (inl f) = f
    go (inr e) (inr f) = absurd (before_asym c d e f)
