-- The tree of a trace without its places has the same numbers, chains and rows; and traces that differ only in places
-- have one such tree.
use mathlib.Core.Path.{◌≡◌, refl, sym, ◌∙◌, ap, ap₂, subst}
use mathlib.Core.Bool.{cond, ◌&&◌}
use mathlib.Core.List.{List}
use Prim.Native.Nat.{ℕ, zero, suc, ◌+◌}
use native.Mathlib.Omega.{arith}
use lib.Dec.{eqb}
use Rattle.line.specs.Family.{Family, Base, Finishes}
use Rattle.line.specs.declared.Frame.{Frame}
use Rattle.chain.specs.Plan.{weight}
use Rattle.chain.specs.Over.{lines_in}
use Rattle.trace.specs.Answer.{Answer, profiled}
use Rattle.trace.specs.Column.{Column}
use Rattle.trace.specs.Promise.{Engine, Lent, Marked}
use Rattle.trace.specs.Tree.{Way, call, spawn, async, pass, finish, invokes, opening, Note, site, carry, Leaf, spend, sync, note, line_of, leaf_work, Body, done, leaf, child, LeafOf, Of, lines_of, ahead, leaf_cycles, leaf_instructions, size, PartsOf, all_of, direct_of, work_of, local_of, ilocal_of, span_of, made_sum, row_sum, outer_sum, outer_row}
use Rattle.trace.specs.Fold.{its_cycles, its_instructions, Chains, nothing, joined, called, spawned, leaf_chains, child_chains, run, chain_of, on_row}
use Rattle.trace.specs.ByTree.{cell, ProfileBy}
use Rattle.trace.proofs.Tree.{body-one}
use Rattle.trace.proofs.Recurrence.{weight-chain}
use Rattle.trace.proofs.Unseen.{blank, blanks, ButPlaces, blanks-append}

abbrev pub blank_note : Note → Note
blank_note (site s p) = site s (record { file = 0; line = 0; column = 0 })
blank_note (carry v) = carry v

abbrev pub blank_leaf : Leaf → Leaf
blank_leaf (spend v) = spend v
blank_leaf sync = sync
blank_leaf (note x) = note (blank_note x)

abbrev pub blank_body : Body → Body
blank_body done = done
blank_body (leaf l r) = leaf (blank_leaf l) (blank_body r)
blank_body (child w s g r) = child w s (blank_body g) (blank_body r)

blank-leaf : (l : Leaf) → blank (line_of l) ≡ line_of (blank_leaf l)
blank-leaf (spend v) = refl
blank-leaf sync = refl
blank-leaf (note (site s p)) = refl
blank-leaf (note (carry v)) = refl

blank-opening : (w : Way) (s : ℕ) → blank (opening w s) ≡ opening w s
blank-opening call s = refl
blank-opening spawn s = refl
blank-opening async s = refl
blank-opening pass s = refl
blank-opening finish s = refl

blanks-lines : (b : Body) → blanks (lines_of b) ≡ lines_of (blank_body b)
blanks-lines done = refl
blanks-lines (leaf l r) = rw (blank-leaf l, blanks-lines r)
blanks-lines (child w s g r) = rw (blank-opening w s, blanks-append (lines_of g) (lines_of r), blanks-lines g, blanks-lines r)

-- what a leaf does without its place
work-leaf : (l : Leaf) → leaf_work (blank_leaf l) ≡ leaf_work l
work-leaf (spend v) = refl
work-leaf sync = refl
work-leaf (note x) = refl

chains_leaf : (l : Leaf) (n s i : ℕ) (k : Chains) → leaf_chains n s (blank_leaf l) i k ≡ leaf_chains n s l i k
chains_leaf (spend v) n s i k = refl
chains_leaf sync n s i k = refl
chains_leaf (note x) n s i k = refl

-- a 07 line has no place
ahead-blank : (b : Body) → ahead (blank_body b) ≡ ahead b
ahead-blank done = refl
ahead-blank (leaf (spend v) r) = refl
ahead-blank (leaf sync r) = refl
ahead-blank (leaf (note (site s p)) r) = refl
ahead-blank (leaf (note (carry v)) r) = refl
ahead-blank (child w s g r) = refl

cycles-leaf : (l : Leaf) (r : Body) → leaf_cycles (blank_leaf l) (blank_body r) ≡ leaf_cycles l r
cycles-leaf l r = work-leaf l

instructions-leaf : (l : Leaf) (r : Body) → leaf_instructions (blank_leaf l) (blank_body r) ≡ leaf_instructions l r
instructions-leaf (spend v) r = ahead-blank r
instructions-leaf sync r = refl
instructions-leaf (note x) r = refl

-- and a body
size-blank : (b : Body) → size (blank_body b) ≡ size b
size-blank done = refl
size-blank (leaf l r) = ap suc (size-blank r)
size-blank (child w s g r) = omega (arith, size-blank g, size-blank r)

module _ (m : Leaf → Body → ℕ) (same : (l : Leaf) (r : Body) → m (blank_leaf l) (blank_body r) ≡ m l r) where
  all-blank : (b : Body) → all_of m (blank_body b) ≡ all_of m b
  all-blank done = refl
  all-blank (leaf l r) = omega (arith, same l r, all-blank r)
  all-blank (child w s g r) = omega (arith, all-blank g, all-blank r)

  direct-blank : (b : Body) → direct_of m (blank_body b) ≡ direct_of m b
  direct-blank done = refl
  direct-blank (leaf l r) = omega (arith, same l r, direct-blank r)
  direct-blank (child w s g r) = ap₂ (λ (x y : ℕ). cond (invokes w) y (x + y)) (direct-blank g) (direct-blank r)

work-blank : (b : Body) → work_of (blank_body b) ≡ work_of b
work-blank = all-blank leaf_cycles cycles-leaf

child_chains_lem : (w : Way) (f h : Chains → Chains) (k : Chains) → ((c : Chains) → f c ≡ h c) → child_chains w f k ≡ child_chains w h k
child_chains_lem call f h k e = ap (λ (c : Chains). called (joined c).p k) (e nothing)
child_chains_lem spawn f h k e = ap (λ (c : Chains). spawned (joined c).p k) (e nothing)
child_chains_lem async f h k e = ap (λ (c : Chains). spawned (joined c).p k) (e nothing)
child_chains_lem pass f h k e = e k
child_chains_lem finish f h k e = ap (λ (c : Chains). called (joined c).p k) (e nothing)

run-blank : (b : Body) (n s : ℕ) (k : Chains) → run n s (blank_body b) k ≡ run n s b k
run-blank done n s k = refl
run-blank (leaf l r) n s k =
    run-blank r (suc n) s (leaf_chains n s (blank_leaf l) (ahead (blank_body r)) k)
    ∙ ap (run (suc n) s r) (chains_leaf l n s (ahead (blank_body r)) k ∙ ap (λ (i : ℕ). leaf_chains n s l i k) (ahead-blank r))
run-blank (child w i g r) n s k =
    ap (λ (m : ℕ). run (suc n + m) s (blank_body r) (child_chains w (run (suc n) i (blank_body g)) k)) (size-blank g)
    ∙ run-blank r (suc n + size g) s (child_chains w (run (suc n) i (blank_body g)) k)
    ∙ ap (run (suc n + size g) s r) (child_chains_lem w (run (suc n) i (blank_body g)) (run (suc n) i g) k (run-blank g (suc n) i))

chain-blank : (b : Body) → chain_of 0 0 (blank_body b) ≡ chain_of 0 0 b
chain-blank b = ap (λ (c : Chains). (joined c).p) (run-blank b 0 0 nothing)

span-blank : (b : Body) → span_of (blank_body b) ≡ span_of b
span-blank b = sym (weight-chain (blank_body b) 0 0) ∙ ap weight (chain-blank b) ∙ weight-chain b 0 0

-- sums over invocations of what does not see a place
module _ (h : Body → ℕ) (same : (b : Body) → h (blank_body b) ≡ h b) where
  made-blank : (s : ℕ) (b : Body) → made_sum h s (blank_body b) ≡ made_sum h s b
  made-blank s done = refl
  made-blank s (leaf l r) = made-blank s r
  made-blank s (child w i g r) = omega (arith, ap (λ (x : ℕ). cond (invokes w && eqb i s) x 0) (same g), made-blank s g, made-blank s r)

  outer_blank : (s : ℕ) (b : Body) → outer_sum h s (blank_body b) ≡ outer_sum h s b
  outer_blank s done = refl
  outer_blank s (leaf l r) = outer_blank s r
  outer_blank s (child w i g r) = omega (arith, ap₂ (λ (x y : ℕ). cond (invokes w && eqb i s) x y) (same g) (outer_blank s g), outer_blank s r)

  row-blank : (s : ℕ) (b : Body) → row_sum h s (blank_body b) ≡ row_sum h s b
  row-blank zero b = same b
  row-blank (suc s) b = made-blank (suc s) b

  outer_row_blank : (s : ℕ) (b : Body) → outer_row h s (blank_body b) ≡ outer_row h s b
  outer_row_blank zero b = same b
  outer_row_blank (suc s) b = outer_blank (suc s) b

cell-blank : (b : Body) (s : ℕ) (k : Column) → cell (blank_body b) s k ≡ cell b s k
cell-blank b s Column.calls = row-blank (λ g. 1) (λ g. refl) s b
cell-blank b s Column.work = outer_row_blank work_of work-blank s b
cell-blank b s Column.span = outer_row_blank span_of span-blank s b
cell-blank b s Column.local = row-blank local_of (direct-blank leaf_cycles cycles-leaf) s b
cell-blank b s Column.on_span = ap (on_row its_cycles s) (chain-blank b)
cell-blank b s Column.ilocal = row-blank ilocal_of (direct-blank leaf_instructions instructions-leaf) s b
cell-blank b s Column.ion_span = ap (on_row its_instructions s) (chain-blank b)

-- what comes back by a tree is what comes back by the tree without its places
module _ (e : Engine) (m : ℕ) (b : Body) (c : Lent) (q : Answer) (y : Lent) where
  answer-blank : profiled (work_of (blank_body b)) (span_of (blank_body b)) m (size (blank_body b)) ≡ profiled (work_of b) (span_of b) m (size b)
  answer-blank = rw (work-blank b, span-blank b, size-blank b)

  marked-blank : Marked e (size (blank_body b)) (lines_in (chain_of 0 0 (blank_body b))) c.marks y.marks ≡ Marked e (size b) (lines_in (chain_of 0 0 b)) c.marks y.marks
  marked-blank = rw (size-blank b, chain-blank b)

  pub to-blank : ProfileBy e m b c q y → ProfileBy e m (blank_body b) c q y
  to-blank h =
      record {
        answer = h.answer ∙ sym answer-blank;
        rows = record { same_length = h.rows.same_length; cells = λ s k l. h.rows.cells s k l ∙ sym (cell-blank b s k); rest = h.rows.rest };
        scratch = h.scratch;
        marked = subst (λ (A : Type 0). A) (sym marked-blank) h.marked;
      }

  pub from-blank : ProfileBy e m (blank_body b) c q y → ProfileBy e m b c q y
  from-blank h =
      record {
        answer = h.answer ∙ answer-blank;
        rows = record { same_length = h.rows.same_length; cells = λ s k l. h.rows.cells s k l ∙ cell-blank b s k; rest = h.rows.rest };
        scratch = h.scratch;
        marked = subst (λ (A : Type 0). A) marked-blank h.marked;
      }

-- it is a body of the same family
of-blank : (f : Family) (r : ℕ) (b : Body) → Of f r b → Of f r (blank_body b)
of-blank f r done h = tt
of-blank f r (leaf l b) h = (leaf-of f l h.0, of-blank f r b h.1)
  where
    leaf-of : (f : Family) (l : Leaf) → LeafOf f l → LeafOf f (blank_leaf l)
    leaf-of Base l h = tt
    leaf-of Finishes (spend v) h = tt
    leaf-of Finishes sync h = h
    leaf-of Finishes (note x) h = tt
of-blank f r (child w s g b) h = (h.0, of-blank f s g h.1, of-blank f r b h.2)

-- LAW: they have one tree but for places
pub same_parts : {f : Family} (D E : ℕ) (t u : List Frame) (p : PartsOf f D t) (q : PartsOf f E u) → ButPlaces t u → blank_body p.body ≡ blank_body q.body
same_parts {f = f} D E t u p q e =
    body-one f 0 (blank_body p.body) (blank_body q.body) (of-blank f 0 p.body p.of) (of-blank f 0 q.body q.of)
    (sym (ap blanks p.lines ∙ blanks-lines p.body) ∙ e ∙ ap blanks q.lines ∙ blanks-lines q.body)
