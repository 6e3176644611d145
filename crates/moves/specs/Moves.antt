-- Request i: how far one cost can move the span, over the chains of the trace as it was.
use Rattle.std.specs.Prelude.{ℕ, ◌+◌, ◌≤◌, ◌≡◌, ◌↔◌, List, T}
use Rattle.line.specs.declared.Frame.{Frame}
use Rattle.trace.specs.Shape.{has}
use Rattle.trace.specs.Series.{Chain, weight}
use Rattle.weigh.specs.Raised.{lowered}

-- line k is one of the lines c
abbrev pub On : ℕ → List ℕ → Type 0
On k c = T (has k c)

-- "that line stands on some heaviest chain", of the lines inside invocation F
pub record OnSomeHeaviest (t : List Frame) (F k : ℕ) : Type 0 where
  pub chain : List ℕ
  pub is_chain : Chain t F chain
  pub on : On k chain
  -- no chain is heavier
  pub heaviest : (c : List ℕ) → Chain t F c → weight t c ≤ weight t chain

-- m is the span of invocation F, and n its span where cost line k weighs d more
pub record Moves (t : List Frame) (F k d m n : ℕ) : Type 0 where
  -- "The span then grows by at most d"
  pub at_most : n ≤ m + d
  -- "and never falls"
  pub never_falls : m ≤ n
  -- "and it grows by exactly d if and only if that line stands on some heaviest chain"
  pub exactly : (n ≡ m + d) ↔ OnSomeHeaviest t F k

-- The other way: m is the span of invocation F, and n its span where cost line k weighs d less. It falls by exactly d if
-- and only if the line still stands on some heaviest chain then.
pub record Falls (t : List Frame) (F k d m n : ℕ) : Type 0 where
  pub at_most : m ≤ n + d
  pub never_grows : n ≤ m
  pub exactly : (m ≡ n + d) ↔ OnSomeHeaviest (lowered t k d) F k
