-- Request m: "Why isn't my step on the span?" Each of the four answers, when it is true, and what the marks show.
use Rattle.std.specs.Prelude.{ℕ, ◌+◌, ◌≤◌, ◌≡◌, List, []}
use Rattle.line.specs.declared.Frame.{Frame}
use Rattle.line.specs.declared.Frame.TheVariants.{Cost}
use Rattle.trace.specs.Shape.{Is, root}
use Rattle.trace.specs.Series.{weight, Span, Chosen}
use Rattle.moves.specs.Moves.{On}
use Rattle.why.specs.declared.Why.{Why}
use Rattle.why.specs.declared.Why.TheVariants.{NotCost, OnChain, Slack, Tied}
use Rattle.why.specs.Through.{Through}

-- "not a cost line"
abbrev pub IsNoCost : List Frame → ℕ → Type 0
IsNoCost t q = (v : ℕ) → ¬ Is t q (Cost v)

-- "on the chosen chain"
pub record IsOnChain (t : List Frame) (q : ℕ) : Type 0 where
  pub chosen : List ℕ
  pub is_chosen : Chosen t chosen
  pub on : On q chosen

-- "slack n, where the heaviest chain through it weighs n less than the span, n at least 1"
pub record HasSlack (t : List Frame) (q n : ℕ) : Type 0 where
  pub through : List ℕ
  pub is_through : Through t q through
  pub span : ℕ
  pub is_span : Span t root span
  pub less : weight t through + n ≡ span
  pub at_least_one : 1 ≤ n

-- "the smallest line that is on" c "and not on" g
pub record SmallestOff (k : ℕ) (c g : List ℕ) : Type 0 where
  pub on : On k c
  pub off : ¬ On k g
  pub smallest : (j : ℕ) → On j c → ¬ On j g → k ≤ j

-- "or tied, with the smallest line that is on the chosen chain and not on the first of the heaviest chains through the
-- asked line": it is not on the chosen chain, and the heaviest chain through it weighs no less
pub record IsTied (t : List Frame) (q k : ℕ) : Type 0 where
  pub chosen : List ℕ
  pub is_chosen : Chosen t chosen
  pub not_on : ¬ On q chosen
  pub through : List ℕ
  pub is_through : Through t q through
  pub as_heavy : weight t through ≡ weight t chosen
  pub smallest : SmallestOff k chosen through

-- the answer is "the true one"
abbrev pub True : List Frame → ℕ → Why → Type 0
True t q NotCost = IsNoCost t q
True t q OnChain = IsOnChain t q
True t q (Slack n) = HasSlack t q n
True t q (Tied k) = IsTied t q k

-- "For the last two the marks show that first chain through the asked line, for the second the chosen chain, and for a
-- line that is no cost all zeros": the lines that are marked
abbrev pub Shown : List Frame → ℕ → Why → List ℕ → Type 0
Shown t q NotCost c = c ≡ []
Shown t q OnChain c = Chosen t c
Shown t q (Slack n) c = Through t q c
Shown t q (Tied k) c = Through t q c

-- "Exactly one answer is given, and it is proved to be the true one": one is true, with the lines that the marks show
pub record ExactlyOne (t : List Frame) (q : ℕ) : Type 0 where
  pub answer : Why
  pub is_true : True t q answer
  pub only : (a : Why) → True t q a → a ≡ answer
  pub lines : List ℕ
  pub are_shown : Shown t q answer lines
  pub only_lines : (c : List ℕ) → Shown t q answer c → c ≡ lines
