-- An invocation returns: what columns 1 to 3 of its row come to, and that they fit.
use mathlib.Core.Path.{◌≡◌, refl, ap, ◌∙◌}
use mathlib.Core.Bool.{Bool, true, false, cond}
use mathlib.Core.List.{List}
use Prim.Native.Nat.{ℕ, ◌+◌, ◌^◌, ◌≤◌, ◌<◌}
use native.Mathlib.Omega.{arith}
use lib.Dec.{eqb}
use lib.ListN.{length, get_or}
use borrow.Author.Tests.{eqb-true}
use Rattle.trace.specs.Column.{Column, slot}
use Rattle.trace.specs.Tree.{Way, leaf_work, leaf_instructions, Body, done, leaf, child, invokes, work_of, span_of}
use Rattle.trace.proofs.Basics.{cond_le}
use Rattle.trace.proofs.Recurrence.{span_le, weight-chain}
use Rattle.walk.specs.declared.Open.{Open}
use Rattle.walk.specs.declared.Credit.{Credit}
use Rattle.walk.specs.Gain.{credit_of, ReturnFits, one_call, returned, Returned, cost_gain, gain, made, child_gain, most_gain, Grown}
use Rattle.walk.specs.Reader.{BodyDone}

-- no number comes to more than what bounds all three, and a call
returned_le : (s work span x i y : ℕ) → work ≤ y → span ≤ y → x ≤ y → returned s work span x i ≤ 1 + y
returned_le s work span x i y hw hs hx = go (eqb (slot s Column.span) i) (eqb (slot s Column.work) i)
  where
    go : (b c : Bool) → cond b span (cond c work (x + one_call s i)) ≤ 1 + y
    go true c = omega arith
    go false true = omega arith
    go false false = omega (arith, cond_le (eqb (slot s Column.calls) i) 1)

pub span-most : (g : Body) → span_of g ≤ work_of g
span-most g = omega (arith, span_le g 0 0 0)

pub cost_gain_le : (s v j i : ℕ) → cost_gain s v j i ≤ v + j
cost_gain_le s v j i = omega (arith, cond_le (eqb (slot s Column.local) i) v, cond_le (eqb (slot s Column.ilocal) i) j)

child-most : (w : Way) (s : ℕ) (g : Body) (i : ℕ) → gain s g i ≤ most_gain g → child_gain w s g i ≤ 1 + most_gain g
child-most w s g i h = go (invokes w)
  where
    go : (b : Bool) → cond b (made s g i) (gain s g i) ≤ 1 + most_gain g
    go true = returned_le s (work_of g) (span_of g) (gain s g i) i (most_gain g) (omega arith) (omega (arith, span-most g)) h
    go false = omega arith

-- LAW: no row number grows by more than the lines, the costs and the instructions of what is read
pub gain_le : (s : ℕ) (b : Body) (i : ℕ) → gain s b i ≤ most_gain b
gain_le s done i = omega arith
gain_le s (leaf l r) i = omega (arith, cost_gain_le s (leaf_work l) (leaf_instructions l r) i, gain_le s r i)
gain_le s (child w j g r) i = omega (arith, child-most w j g i (gain_le j g i), gain_le s r i)

pub child_gain_le : (w : Way) (s : ℕ) (g : Body) (i : ℕ) → child_gain w s g i ≤ 1 + most_gain g
child_gain_le w s g i = child-most w s g i (gain_le s g i)

-- what columns 2 and 3 held before stays, and what any number held
returned-more : (rows : List ℕ) (s work span x i : ℕ)
    → returned s ((credit_of rows s).work.0 + work) ((credit_of rows s).span.0 + span) (get_or rows i 0 + x) i ≡ get_or rows i 0 + returned s work span x i
returned-more rows s work span x i = go (eqb (slot s Column.span) i) (eqb-true (slot s Column.span) i) (eqb (slot s Column.work) i) (eqb-true (slot s Column.work) i)
  where
    go : (b : Bool) → (b ≡ true → slot s Column.span ≡ i) → (c : Bool) → (c ≡ true → slot s Column.work ≡ i)
        → cond b ((credit_of rows s).span.0 + span) (cond c ((credit_of rows s).work.0 + work) (get_or rows i 0 + x + one_call s i))
        ≡ get_or rows i 0 + cond b span (cond c work (x + one_call s i))
    go true e c f = ap (λ (j : ℕ). get_or rows j 0 + span) (e refl)
    go false e true f = ap (λ (j : ℕ). get_or rows j 0 + work) (f refl)
    go false e false f = omega arith

-- The body g of an invocation of row s was read over the rows, and left rows₁: its work and its span are these, and before
-- is what columns 2 and 3 of the row held.
pub record Came (s : ℕ) (g : Body) (rows : List ℕ) (before : Credit) (work span : ℕ) (rows₁ : List ℕ) : Type 0 where
  pub before_is : before ≡ credit_of rows s
  pub work_is : work ≡ work_of g
  pub span_is : span ≡ span_of g
  pub same_length : length rows₁ ≡ length rows
  pub inside : Grown rows (gain s g) rows₁

pub came : (n s : ℕ) (g : Body) (rows : List ℕ) (before : Credit) (r : Open) (rows₁ : List ℕ) → before ≡ credit_of rows s → length rows₁ ≡ length rows
    → BodyDone n s rows g r rows₁ → Came s g rows before r.work.0 r.prefix.0 rows₁
came n s g rows before r rows₁ b len d =
    record {
      before_is = b;
      work_is = ap (λ (x : Open). x.work.0) d.numbers_are;
      span_is = ap (λ (x : Open). x.prefix.0) d.numbers_are ∙ weight-chain g n s;
      same_length = len;
      inside = d.rows_are;
    }

module _ {s : ℕ} {g : Body} {rows : List ℕ} {before : Credit} {work span : ℕ} {rows₁ : List ℕ} (c : Came s g rows before work span rows₁) where
  pub return_fits : slot s Column.span < length rows → ((k : Column) → get_or rows (slot s k) 0 + (1 + most_gain g) < 2 ^ 64) → ReturnFits before rows₁ s work span
  return_fits there fits = (
    (omega (arith, c.same_length), omega (arith, c.inside (slot s Column.calls) (omega arith), gain_le s g (slot s Column.calls), fits Column.calls)),
    omega (arith, c.same_length),
    omega (arith, ap (λ (x : Credit). x.work.0) c.before_is, c.work_is, fits Column.work),
    omega (arith, ap (λ (x : Credit). x.span.0) c.before_is, c.span_is, span-most g, fits Column.span),
  )

  -- LAW: behind it, the rows have grown by the whole invocation
  pub made_grown : (rows₂ : List ℕ) → Returned before s work span rows₁ rows₂ → Grown rows (made s g) rows₂
  made_grown rows₂ back i l =
      back i (omega (arith, c.same_length))
      ∙ ap (λ (x : Credit). returned s (x.work.0 + work) (x.span.0 + span) (get_or rows₁ i 0) i) c.before_is
      ∙ ap (λ (x : ℕ). returned s ((credit_of rows s).work.0 + x) ((credit_of rows s).span.0 + span) (get_or rows₁ i 0) i) c.work_is
      ∙ ap (λ (x : ℕ). returned s ((credit_of rows s).work.0 + work_of g) ((credit_of rows s).span.0 + x) (get_or rows₁ i 0) i) c.span_is
      ∙ ap (λ (x : ℕ). returned s ((credit_of rows s).work.0 + work_of g) ((credit_of rows s).span.0 + span_of g) x i) (c.inside i l)
      ∙ returned-more rows s (work_of g) (span_of g) (gain s g i) i
