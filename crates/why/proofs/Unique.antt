-- Of any trace and any line at most one of the four answers is true, and it asks for one list of lines to show.
use mathlib.Core.Path.{◌≡◌, refl, sym, ◌∙◌, ap, subst}
use mathlib.Core.List.{List}
use Prim.Native.Nat.{ℕ}
use native.Mathlib.Omega.{arith}
use Rattle.line.specs.declared.Frame.{Frame}
use Rattle.trace.specs.Shape.{root}
use Rattle.trace.specs.Series.{value_at, CostIn, Chain, weight, Span, Chosen}
use Rattle.trace.proofs.Unique.{span_unique, chosen_unique}
use Rattle.agree.proofs.Shown.{chosen-span}
use Rattle.moves.specs.Moves.{On}
use Rattle.why.specs.Through.{Through}
use Rattle.why.specs.declared.Why.{Why}
use Rattle.why.specs.declared.Why.TheVariants.{NotCost, OnChain, Slack, Tied}
use Rattle.why.specs.Why.{IsOnChain, HasSlack, SmallestOff, IsTied, True, Shown}
use Rattle.why.proofs.Lines.{on-each}
use Rattle.why.proofs.Through.{through_unique}

-- LAW: if a line is on the chosen chain, then the first of the heaviest chains through it is the chosen chain
pub on_chain : (t : List Frame) (q : ℕ) (c : List ℕ) → Chosen t c → On q c → Through t q c
on_chain t q c h m = record { chain = h.chain; on = m; heaviest = λ d k n. h.heaviest d k; first = λ d k n e. h.first d k e }

-- the span is what the chosen chain weighs
pub span-weight : (t : List Frame) (c : List ℕ) (n : ℕ) → Chosen t c → Span t root n → weight t c ≡ n
span-weight t c n h s = span_unique t root (weight t c) n (chosen-span t c h) s

pub smallest_unique : (j k : ℕ) (c g : List ℕ) → SmallestOff j c g → SmallestOff k c g → j ≡ k
smallest_unique j k c g x y = omega (arith, x.smallest k y.on y.off, y.smallest j x.on x.off)

module _ (t : List Frame) (q : ℕ) where
  chain_slack : (n : ℕ) → IsOnChain t q → HasSlack t q n → ⊥
  chain_slack n x y =
      omega (arith, y.less, y.at_least_one, span-weight t x.chosen y.span x.is_chosen y.is_span, y.is_through.heaviest x.chosen x.is_chosen.chain x.on)

  chain_tied : (k : ℕ) → IsOnChain t q → IsTied t q k → ⊥
  chain_tied k x y = y.not_on (subst (On q) (chosen_unique t x.chosen y.chosen x.is_chosen y.is_chosen) x.on)

  slack_tied : (n k : ℕ) → HasSlack t q n → IsTied t q k → ⊥
  slack_tied n k x y =
      let e = through_unique t q x.through y.through x.is_through y.is_through in
      omega (arith, x.less, x.at_least_one, ap (weight t) e, y.as_heavy, span-weight t y.chosen x.span y.is_chosen x.is_span)

  slack_slack : (m n : ℕ) → HasSlack t q m → HasSlack t q n → m ≡ n
  slack_slack m n x y =
      let e = through_unique t q x.through y.through x.is_through y.is_through in
      omega (arith, x.less, y.less, ap (weight t) e, span_unique t root x.span y.span x.is_span y.is_span)

  tied_tied : (j k : ℕ) → IsTied t q j → IsTied t q k → j ≡ k
  tied_tied j k x y =
      let e = through_unique t q x.through y.through x.is_through y.is_through in
      let f = chosen_unique t x.chosen y.chosen x.is_chosen y.is_chosen in
      smallest_unique j k y.chosen y.through (subst (SmallestOff j y.chosen) e (subst (λ (c : List ℕ). SmallestOff j c x.through) f x.smallest)) y.smallest

  -- a line on some chain is a cost line
  no_cost : {A : Type 0} (c : List ℕ) → True t q NotCost → Chain t root c → On q c → A
  no_cost c n h m = absurd (n (value_at t q) (on-each (CostIn t root) c q h.costs m).is)

  not_chain : {A : Type 0} → True t q NotCost → IsOnChain t q → A
  not_chain n x = no_cost x.chosen n x.is_chosen.chain x.on

  not_through : {A : Type 0} (c : List ℕ) → True t q NotCost → Through t q c → A
  not_through c n x = no_cost c n x.chain x.on

  -- LAW
  pub why_unique : (a b : Why) → True t q a → True t q b → a ≡ b
  why_unique NotCost NotCost x y = refl
  why_unique NotCost OnChain x y = not_chain x y
  why_unique NotCost (Slack n) x y = not_through y.through x y.is_through
  why_unique NotCost (Tied k) x y = not_through y.through x y.is_through
  why_unique OnChain NotCost x y = not_chain y x
  why_unique OnChain OnChain x y = refl
  why_unique OnChain (Slack n) x y = absurd (chain_slack n x y)
  why_unique OnChain (Tied k) x y = absurd (chain_tied k x y)
  why_unique (Slack m) NotCost x y = not_through x.through y x.is_through
  why_unique (Slack m) OnChain x y = absurd (chain_slack m y x)
  why_unique (Slack m) (Slack n) x y = ap Slack (slack_slack m n x y)
  why_unique (Slack m) (Tied k) x y = absurd (slack_tied m k x y)
  why_unique (Tied j) NotCost x y = not_through x.through y x.is_through
  why_unique (Tied j) OnChain x y = absurd (chain_tied j y x)
  why_unique (Tied j) (Slack n) x y = absurd (slack_tied n j y x)
  why_unique (Tied j) (Tied k) x y = ap Tied (tied_tied j k x y)

  -- LAW
  pub shown_unique : (a : Why) (c d : List ℕ) → Shown t q a c → Shown t q a d → c ≡ d
  shown_unique NotCost c d x y = x ∙ sym y
  shown_unique OnChain c d x y = chosen_unique t c d x y
  shown_unique (Slack n) c d x y = through_unique t q c d x y
  shown_unique (Tied k) c d x y = through_unique t q c d x y
