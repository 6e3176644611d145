-- What a cost line weighs by what is asked. By the factors of the rows it stays in the table, and is as it stands where a
-- row has none; by a heavier line it is that line's weight alone that grows. Its instructions by the next line.
use mathlib.Core.Path.{◌≡◌, sym, ap, ◌∙◌, subst}
use mathlib.Core.Logic.{inl, inr}
use mathlib.Core.Bool.{Bool, cond}
use mathlib.Core.List.{List, []}
use Prim.Native.Nat.{ℕ, ◌+◌, ◌≤◌, ◌<◌}
use native.Mathlib.Omega.{arith}
use lib.ListN.{length, get_or, get_or-eq_default}
use borrow.Author.Tests.{lt-ltb, le-ltb, eq-eqb, ne_eqb}
use Rattle.line.specs.At.{kind_at, value_at}
use Rattle.trace.proofs.Basics.{below}
use Rattle.weigh.specs.Weighed.{Tabled}
use Rattle.forecast.specs.declared.Entry.{Entry}
use Rattle.forecast.specs.Rewritten.{divided}
use Rattle.forecast.specs.Asked.{asked as may_ask}
use Rattle.forecast.specs.Factors.{factor_table}
use Rattle.forecast.specs.ByRow.{row_factor, by_entries}
use Rattle.forecast.proofs.Asked.{factor_range, asked_good}
use Rattle.forecast.proofs.Table.{table_at, table-length}
use Rattle.forecast.proofs.Asked.{undeclared-row}
use Rattle.forecast.proofs.Divided.{divided-one, divided-least, divided-most}
use Rattle.walk.specs.Weight.{by_factors, by_line, asked_line, asked, by_asking, Factors, instructions_at}

-- LAW: a row behind the last factor weighs as it stands
pub weight-behind : (fs : List ℕ) (n s v : ℕ) → length fs ≤ s → by_factors fs n s v ≡ v
weight-behind fs n s v l = ap (divided v) (get_or-eq_default fs 1 {n = s} l) ∙ divided-one v

module _ (asking : List ℕ) (n s v : ℕ) where
  -- what is asked of a row that is among the numbers, and of one behind them
  pub asked-of : s < length asking → by_asking asking n s v ≡ asked asking n s v
  asked-of l = ap (λ (b : Bool). cond b (asked asking n s v) v) (lt-ltb s (length asking) l)

  pub unasked : length asking ≤ s → by_asking asking n s v ≡ v
  unasked l = ap (λ (b : Bool). cond b (asked asking n s v) v) (le-ltb s (length asking) l)

  -- a heavier line, or factors
  pub line-asked : length asking ≡ asked_line → asked asking n s v ≡ by_line (get_or asking 256 0) n s v
  line-asked e = ap (λ (b : Bool). cond b (by_line (get_or asking 256 0) n s v) (by_factors asking n s v)) (eq-eqb (length asking) asked_line e)

  pub factor_asked : (length asking ≡ asked_line → ⊥) → asked asking n s v ≡ by_factors asking n s v
  factor_asked h = ap (λ (b : Bool). cond b (by_line (get_or asking 256 0) n s v) (by_factors asking n s v)) (ne_eqb (length asking) asked_line h)

  -- LAW: weighed by factors
  pub asks_factors : (length asking ≡ asked_line → ⊥) → by_asking asking n s v ≡ by_factors asking n s v
  asks_factors h = elim (below (length asking) s) [
    | inl l ↦ asked-of l ∙ factor_asked h
    | inr b ↦ let l : length asking ≤ s = omega (arith, b.1) in unasked l ∙ sym (weight-behind asking n s v l)
  ]

  -- LAW: weighed by a heavier line, in each row that there is
  pub asks-line : length asking ≡ asked_line → s ≤ 255 → by_asking asking n s v ≡ by_line (get_or asking 256 0) n s v
  asks-line e l = asked-of (omega arith) ∙ line-asked e

-- LAW: a value of the table stays one
pub factors_tabled : (asking : List ℕ) → Factors asking → Tabled (by_asking asking)
factors_tabled asking h n s v l m =
    subst (λ (x : ℕ). (1 ≤ x) × (x ≤ 4294967295)) (sym (asks_factors asking n s v h.no_line))
    (divided-least v (get_or asking s 1) l (h.range s).0, omega (arith, divided-most v (get_or asking s 1) (h.range s).0))

-- LAW: with no factor all weighs as it stands
pub no_factors : Factors []
no_factors = record { no_line = λ e. omega arith; range = λ s. (omega arith, omega arith) }

pub weight-plain : (n s v : ℕ) → by_asking [] n s v ≡ v
weight-plain n s v = unasked [] n s v (omega arith)

-- ── the factors of the rows of a trace with m sites, by entries that may be asked ──

module _ (m : ℕ) (few : m ≤ 255) (es : List Entry) (may : may_ask m es ≡ 0) where
  factor_at_lem : (s : ℕ) → get_or (factor_table es) s 1 ≡ row_factor es s
  factor_at_lem s = elim (below 256 s) [
    | inl h ↦ table_at es s 1 h
    | inr h ↦ get_or-eq_default (factor_table es) 1 {n = s} (omega (arith, table-length es, h.1)) ∙ sym (undeclared-row m es s may (omega (arith, h.1)))
  ]

  no_line : length (factor_table es) ≡ asked_line → ⊥
  no_line e = omega (arith, table-length es)

  pub table_factors : Factors (factor_table es)
  table_factors =
      record {
        no_line = no_line;
        range = λ s. let r = factor_range es s (asked_good m es may).1 in (omega (arith, factor_at_lem s, r.0), omega (arith, factor_at_lem s, r.1));
      }

  -- LAW: weighed by them it is weighed by the entries
  pub table-weighs : (n s v : ℕ) → by_asking (factor_table es) n s v ≡ by_entries es n s v
  table-weighs n s v = asks_factors (factor_table es) n s v no_line ∙ ap (divided v) (factor_at_lem s)

-- the next line is of kind 07, or is not
pub next_carries : (s : List ℕ) (n k v : ℕ) → k ≡ kind_at s (n + 1) → k ≡ 7 → v ≡ value_at s (n + 1) → v ≡ instructions_at s n
next_carries s n k v e h q = q ∙ ap (λ (b : Bool). cond b (value_at s (n + 1)) 0) (sym (eq-eqb _ _ (sym e ∙ h)))
