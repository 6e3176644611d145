-- There is one span of an invocation, one chosen chain, and one sum of spans.
use mathlib.Core.Path.{◌≡◌}
use mathlib.Core.List.{List, [], ◌∷◌}
use Prim.Native.Nat.{ℕ}
use native.Mathlib.Omega.{arith}
use Rattle.line.specs.Family.{Family, Base}
use Rattle.line.specs.declared.Frame.{Frame}
use Rattle.chain.proofs.Over as Over
use Rattle.trace.specs.Shape.{root}
use Rattle.trace.specs.Series.{rule_of, SpanOf, ChosenOf, Span, Chosen}
use Rattle.trace.specs.Rows.{counted, Sum, SpansOf, Spans}

-- LAW
pub span_unique_of : (f : Family) (t : List Frame) (F m n : ℕ) → SpanOf f t F m → SpanOf f t F n → m ≡ n
span_unique_of f t F = Over.span_unique (rule_of f t F)

-- LAW
pub chosen_unique_of : (f : Family) (t : List Frame) (c d : List ℕ) → ChosenOf f t c → ChosenOf f t d → c ≡ d
chosen_unique_of f t = Over.chosen_unique (rule_of f t root)

pub sum_unique : (p : ℕ → ℕ → Type 0) → ((x a b : ℕ) → p x a → p x b → a ≡ b) → (l : List ℕ) (m n : ℕ) → Sum p l m → Sum p l n → m ≡ n
sum_unique p u [] m n h k = omega arith
sum_unique p u (x ∷ l) m n h k =
    let e = u x h.0 k.0 h.2 k.2 in
    let f = sum_unique p u l h.1 k.1 h.3 k.3 in
    omega (arith, h.4, k.4)

-- LAW
pub spans_unique_of : (f : Family) (t : List Frame) (s m n : ℕ) → SpansOf f t s m → SpansOf f t s n → m ≡ n
spans_unique_of f t s m n h k = sum_unique (SpanOf f t) (span_unique_of f t) (counted t s) m n h k

-- the same of document 01's traces
pub span_unique : (t : List Frame) (F m n : ℕ) → Span t F m → Span t F n → m ≡ n
span_unique = span_unique_of Base

pub chosen_unique : (t : List Frame) (c d : List ℕ) → Chosen t c → Chosen t d → c ≡ d
chosen_unique = chosen_unique_of Base

pub spans_unique : (t : List Frame) (s m n : ℕ) → Spans t s m → Spans t s n → m ≡ n
spans_unique = spans_unique_of Base
