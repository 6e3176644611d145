-- One measure, cycles or instructions, as it is said of lines, of the leaves of a tree and of cost lines. What adds up
-- in one adds up in the other, so sums are proved of any.
use mathlib.Core.Path.{◌≡◌, refl}
use mathlib.Core.List.{List, ◌++◌}
use Prim.Native.Nat.{ℕ}
use Rattle.line.specs.declared.Frame.{Frame}
use Rattle.line.specs.declared.Frame.TheVariants.{Return}
use Rattle.chain.specs.Plan.{CostLine}
use Rattle.trace.specs.Rows.{cycles, carried, instructions}
use Rattle.trace.specs.Tree.{Way, call, spawn, async, pass, finish, opening, Note, site, carry, Leaf, spend, sync, note, line_of, Body, done, leaf, child, lines_of, ahead, leaf_cycles, leaf_instructions}
use Rattle.trace.specs.Fold.{cost_at, its_cycles, its_instructions}
use Rattle.trace.proofs.Tree.{leaf-value, opening-value}

pub record Measured : Type 0 where
  pub of_line : Frame → List Frame → ℕ
  pub of_leaf : Leaf → Body → ℕ
  pub of_cost : CostLine → ℕ
  pub leaf_line : (l : Leaf) (r : Body) (u : List Frame) → of_line (line_of l) (lines_of r ++ u) ≡ of_leaf l r
  pub opening_line : (w : Way) (s : ℕ) (u : List Frame) → of_line (opening w s) u ≡ 0
  pub return_line : (u : List Frame) → of_line Return u ≡ 0
  pub spend_cost : (n s v : ℕ) (r : Body) → of_leaf (spend v) r ≡ of_cost (cost_at n s v (ahead r))
  pub sync_none : (r : Body) → of_leaf sync r ≡ 0
  pub note_none : (x : Note) (r : Body) → of_leaf (note x) r ≡ 0

abbrev pub by_cycles : Measured
by_cycles =
    record {
      of_line = cycles;
      of_leaf = leaf_cycles;
      of_cost = its_cycles;
      leaf_line = λ l r u. leaf-value l;
      opening_line = λ w s u. opening-value w s;
      return_line = λ u. refl;
      spend_cost = λ n s v r. refl;
      sync_none = λ r. refl;
      note_none = λ x r. refl;
    }

-- LAW: the lines of a body carry for the cost before them what its first line carries
pub carried-lines : (b : Body) (u : List Frame) → carried (lines_of b ++ u) ≡ ahead b
carried-lines done u = refl
carried-lines (leaf (spend v) r) u = refl
carried-lines (leaf sync r) u = refl
carried-lines (leaf (note (site s p)) r) u = refl
carried-lines (leaf (note (carry v)) r) u = refl
carried-lines (child call s g r) u = refl
carried-lines (child spawn s g r) u = refl
carried-lines (child async s g r) u = refl
carried-lines (child pass s g r) u = refl
carried-lines (child finish s g r) u = refl

pub leaf-instructions : (l : Leaf) (r : Body) (u : List Frame) → instructions (line_of l) (lines_of r ++ u) ≡ leaf_instructions l r
leaf-instructions (spend v) r u = carried-lines r u
leaf-instructions sync r u = refl
leaf-instructions (note (site s p)) r u = refl
leaf-instructions (note (carry v)) r u = refl

pub opening-instructions : (w : Way) (s : ℕ) (u : List Frame) → instructions (opening w s) u ≡ 0
opening-instructions call s u = refl
opening-instructions spawn s u = refl
opening-instructions async s u = refl
opening-instructions pass s u = refl
opening-instructions finish s u = refl

abbrev pub by_instructions : Measured
by_instructions =
    record {
      of_line = instructions;
      of_leaf = leaf_instructions;
      of_cost = its_instructions;
      leaf_line = leaf-instructions;
      opening_line = opening-instructions;
      return_line = λ u. refl;
      spend_cost = λ n s v r. refl;
      sync_none = λ r. refl;
      note_none = λ x r. refl;
    }
