-- The first of the heaviest chains through a line: it is the chosen chain where that line is raised above the whole work;
-- so there is one, and no other.
use mathlib.Core.Path.{◌≡◌, refl, sym, ◌∙◌, ap, subst}
use mathlib.Core.Logic.{◌⊎◌, ◌↔◌, inl, inr}
use mathlib.Core.Bool.{Bool, true, cond}
use mathlib.Core.List.{List, [], ◌∷◌}
use Prim.Native.Nat.{ℕ, suc, ◌+◌, ◌≤◌, ◌<◌}
use native.Mathlib.Omega.{arith}
use lib.Dec.{T}
use lib.ListN.{length}
use Rattle.line.specs.declared.Frame.{Frame}
use Rattle.line.specs.declared.Frame.TheVariants.{Cost}
use Rattle.chain.specs.Over.{lines_in}
use Rattle.trace.specs.Shape.{Is, root, step, walk, has}
use Rattle.trace.specs.Series.{value_at, CostIn, Chain, weight, Span, Chosen}
use Rattle.trace.specs.Rows.{cycles, sum_of, total}
use Rattle.trace.specs.Tree.{size, Parts}
use Rattle.trace.specs.Fold.{chain_of}
use Rattle.trace.proofs.Basics.{cond_le}
use Rattle.trace.proofs.Open.{has_here}
use Rattle.trace.proofs.Tree.{size_is}
use Rattle.trace.proofs.Chains.{is-length, value_is, inside}
use Rattle.trace.proofs.Invocations.{whole, root-ctx}
use Rattle.trace.proofs.AtMost.{on_chain}
use Rattle.trace.proofs.Unique.{span_unique, chosen_unique}
use Rattle.weigh.specs.Raised.{raised}
use Rattle.weigh.proofs.OneLine.{chain-raised, raised-chain, weight-raised}
use Rattle.weigh.proofs.AnyWeight.{heavy_body, raised-chosen}
use Rattle.agree.proofs.Shown.{chosen-span}
use Rattle.moves.specs.Moves.{On}
use Rattle.why.specs.Through.{Through}
use Rattle.why.proofs.Lines.{on_or_not, on-each, added, not_added}

-- ── no chain weighs more than the whole work ──

sum_le : (p : ℕ → List ℕ → Bool) (n : ℕ) (o : List ℕ) (u : List Frame) → sum_of cycles p n o u ≤ sum_of cycles (λ k o. true) n o u
sum_le p n o [] = omega arith
sum_le p n o (e ∷ u) = omega (arith, cond_le (p n o) (cycles e u), sum_le p (suc n) (step n e o) u)

-- LAW: of any invocation
pub chain-work : (t : List Frame) (F : ℕ) (c : List ℕ) → Chain t F c → weight t c ≤ total t
chain-work t F c h = omega (arith, on_chain t F c h, sum_le (λ k o. has k c) 0 (root ∷ []) t)

-- ── it is the chosen chain of the raised trace ──

module _ (t : List Frame) (q d : ℕ) (i : CostIn t root q) (heavy : total t < d) where
  abbrev u : List Frame
  u = raised t q d

  weighs : (c : List ℕ) → Chain t root c → weight u c ≡ weight t c + cond (has q c) d 0
  weighs = weight-raised t q (value_at t q) d i.is root

  with-line : (c : List ℕ) → Chain t root c → On q c → weight u c ≡ weight t c + d
  with-line c k h = omega (arith, weighs c k, added (has q c) d h)

  without : (c : List ℕ) → Chain t root c → ¬ On q c → weight u c < d
  without c k h = omega (arith, weighs c k, not_added (has q c) d h, chain-work t root c k)

  -- what weighs at least d has the line in it
  on_it_lem : (c : List ℕ) → Chain t root c → d ≤ weight u c → On q c
  on_it_lem c k l = elim (on_or_not q c) [ inl h ↦ h | inr h ↦ absurd (omega (arith, without c k h)) ]

  up : (c : List ℕ) → Chain t root c → Chain u root c
  up = chain-raised t q (value_at t q) d i.is root

  down : (c : List ℕ) → Chain u root c → Chain t root c
  down = raised-chain t q (value_at t q) d i.is root

  -- the line alone is a chain
  alone : Chain t root (q ∷ [])
  alone = record { costs = (i, tt); series = (tt, tt) }

  chosen-through : (c : List ℕ) → Chosen u c → Through t q c
  chosen-through c h =
      let k = down c h.chain in
      let m = on_it_lem c k (omega (arith, with-line (q ∷ []) alone (has_here q q [] refl), h.heaviest (q ∷ []) (up (q ∷ []) alone))) in
      let w = with-line c k m in
      record {
        chain = k;
        on = m;
        heaviest = λ e x y. omega (arith, with-line e x y, h.heaviest e (up e x));
        first = λ e x y z. h.first e (up e x) (omega (arith, with-line e x y));
      }

  through-chosen : (c : List ℕ) → Through t q c → Chosen u c
  through-chosen c h =
      record {
        chain = up c h.chain;
        heaviest = λ e x. most e (down e x) (on_or_not q e);
        first = λ e x z. (let m = on_it_lem e (down e x) (omega (arith, w)) in h.first e (down e x) m (omega (arith, w, with-line e (down e x) m)));
      }
    where
      w : weight u c ≡ weight t c + d
      w = with-line c h.chain h.on

      most : (e : List ℕ) → Chain t root e → On q e ⊎ (¬ On q e) → weight u e ≤ weight u c
      most e k (inl m) = omega (arith, w, with-line e k m, h.heaviest e k m)
      most e k (inr m) = omega (arith, w, without e k m)

  -- LAW: the first of the heaviest chains through a line is the chosen chain where the line is raised above the whole work
  pub through-is-chosen : (c : List ℕ) → Through t q c ↔ Chosen (raised t q d) c
  through-is-chosen c = (through-chosen c, chosen-through c)

  -- LAW: it weighs what the span is then, less d
  pub span-through : (c : List ℕ) (n : ℕ) → Through t q c → Span (raised t q d) root n → n ≡ weight t c + d
  span-through c n h s = span_unique u root n (weight u c) s (chosen-span u c (through-chosen c h)) ∙ with-line c h.chain h.on

-- ── there is one, and no other ──

-- the line that a chain goes through is a cost line
pub through-cost : (t : List Frame) (q : ℕ) (c : List ℕ) → Through t q c → CostIn t root q
through-cost t q c h = on-each (CostIn t root) c q h.chain.costs h.on

-- LAW: of any trace
pub through_unique : (t : List Frame) (q : ℕ) (c d : List ℕ) → Through t q c → Through t q d → c ≡ d
through_unique t q c d h k =
    let i = through-cost t q c h in
    chosen_unique (raised t q (suc (total t))) c d ((through-is-chosen t q (suc (total t)) i (omega arith) c).0 h) ((through-is-chosen t q (suc (total t)) i (omega arith) d).0 k)

module _ (D : ℕ) (t : List Frame) (p : Parts D t) (q v : ℕ) (i : Is t q (Cost v)) where
  -- a cost line is inside the root
  pub in_root : CostIn t root q
  in_root =
      let l : q < size p.body = omega (arith, is-length t q (Cost v) i, ap length p.lines, size_is p.body) in
      record {
        is = subst (λ (x : ℕ). Is t q (Cost x)) (sym (value_is t q v i)) i;
        inside = subst (λ (z : List Frame). T (has root (walk root (root ∷ []) z q))) (sym (whole D t p)) (inside t 0 root [] p.body [] (root-ctx D t p) q l);
      }

  -- LAW: by the tree, with the line raised above the whole work
  pub through-raised : (d : ℕ) → total t < d → Through t q (lines_in (chain_of 0 0 (heavy_body D t p q d)))
  through-raised d heavy = (through-is-chosen t q d in_root heavy (lines_in (chain_of 0 0 (heavy_body D t p q d)))).1 (raised-chosen D t p q d)

  -- LAW: through each cost line of an accepted trace
  pub through_exists : (c : List ℕ) × Through t q c
  through_exists = (_, through-raised (suc (total t)) (omega arith))
