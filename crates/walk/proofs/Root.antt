-- An accepted trace, weighed: its root's body is read in the text, and no number that reading it comes to is too large. The
-- weights may go past the table.
use mathlib.Core.Path.{◌≡◌, subst}
use mathlib.Core.Bool.{Bool}
use mathlib.Core.List.{List, [], ◌∷◌}
use Prim.Native.Nat.{ℕ, suc, ◌+◌, ◌*◌, ◌-◌, ◌^◌, ◌≤◌, ◌<◌}
use native.Mathlib.Omega.{arith}
use lib.ListN.{length, get_or}
use Rattle.line.specs.Family.{Family}
use Rattle.line.specs.declared.Frame.{Frame}
use Rattle.line.specs.Read.{read_at_of, says}
use Rattle.trace.specs.Shape.{sites}
use Rattle.trace.specs.Rows.{columns}
use Rattle.trace.specs.Column.{Column, slot}
use Rattle.trace.specs.Refusals.{verdict_of, accepted}
use Rattle.trace.specs.ByTree.{cell}
use Rattle.trace.specs.Tree.{Leaf, spend, sync, note, LeafWithin, Body, done, leaf, child, size, Within, PartsOf}
use Rattle.trace.specs.Fold.{nothing}
use Rattle.trace.proofs.Slots.{slot_in}
use Rattle.trace.proofs.Scan.{Fine, accepted-reads-of}
use Rattle.trace.proofs.Parse.{parts}
use Rattle.trace.proofs.Outcome.{work-small, instructions-small, length-is}
use Rattle.weigh.specs.Weighed.{Weigh, Tabled, weighed_leaf, weighed, reweighed}
use Rattle.weigh.proofs.Weighed.{weighed-size}
use Rattle.weigh.proofs.Accepted.{reweighed_parts, reweighed-fine}
use Rattle.walk.specs.Stands.{Stands}
use Rattle.walk.specs.Reads.{Reads}
use Rattle.walk.specs.Numbers.{numbers}
use Rattle.walk.specs.Gain.{made, most_gain, Grown}
use Rattle.walk.specs.Nested.{Worth, Nested}
use Rattle.walk.specs.Reader.{Ready}
use Rattle.walk.proofs.Stands.{stands-all, stands-reads}
use Rattle.walk.proofs.Columns.{root-cell, root-out}

-- a value of the table stays at least 1
abbrev pub Weighty : Weigh → Type 0
Weighty w = (n s v : ℕ) → 1 ≤ v → v ≤ 4294967295 → 1 ≤ w n s v

module _ (w : Weigh) (some : Weighty w) where
  leaf-worth : (l : Leaf) (n s : ℕ) → LeafWithin l → Worth (weighed_leaf w n s l)
  leaf-worth (spend v) n s k = some n s v k.0 k.1
  leaf-worth sync n s k = tt
  leaf-worth (note x) n s k = tt

  pub weighed-nested : (m D d : ℕ) (b : Body) (n s : ℕ) → Within m D d b → Nested m D d (weighed w n s b)
  weighed-nested m D d done n s k = tt
  weighed-nested m D d (leaf l r) n s k = (leaf-worth l n s k.0, weighed-nested m D d r (suc n) s k.1)
  weighed-nested m D d (child v i g r) n s k = (k.0, k.1, k.2, weighed-nested m D (suc d) g (suc n) i k.3, weighed-nested m D d r (suc n + size g) s k.4)

  module _ {y : Family} (D M : ℕ) (t : List Frame) (fine : Fine y D M t) where
    -- the root's body so weighed
    abbrev pub root_body : Body
    root_body = weighed w 0 0 (parts D M t fine).body

    pub root-size : size root_body ≡ length t
    root-size = let p = parts D M t fine in omega (arith, weighed-size w p.body 0 0, length-is D t p)

    module _ (s : List ℕ) (room : Bool) (acc : verdict_of y s D M room ≡ accepted t) where
      pub root-reads : Reads y w s 0 0 root_body
      root-reads =
          let p = parts D M t fine in
          let all = stands-all y s t 0 (λ i f h. let z : i ≡ 0 + i = omega arith in subst (λ (k : ℕ). read_at_of y s k ≡ says k f) z (accepted-reads-of y s D M room t acc i f h)) in
          stands-reads y w s p.body 0 0 p.of (subst (Stands y s 0) p.lines all)

      -- what a reader asks for at the root of a trace of m sites, where its row numbers are zero
      pub root-ready : most_gain root_body < 2 ^ 56 → (m : ℕ) → sites t ≡ m → (rows : List ℕ) → columns * (m + 1) ≤ length rows → ((i : ℕ) → i < columns * (m + 1) → get_or rows i 0 ≡ 0)
          → Ready y w s 0 m (D - 1) (numbers 0 0 nothing) rows
      root-ready small m count rows long zeros =
          record {
            body = root_body;
            reads = root-reads;
            D = D;
            d = 1;
            nested = subst (λ (k : ℕ). Nested k D 1 root_body) count (weighed-nested (sites t) D 1 (parts D M t fine).body 0 0 (parts D M t fine).within);
            depth = omega (arith, fine.least);
            row_within = omega arith;
            rows_long = long;
            ends = omega (arith, root-size, fine.lines_most);
            work_fits = omega (arith, small);
            load_fits = omega (arith, small);
            rows_fit = λ i l. omega (arith, zeros i l, small);
          }

module _ {y : Family} (w : Weigh) (tabled : Tabled w) (D M : ℕ) (t : List Frame) (fine : Fine y D M t) where
  -- the trace so weighed
  abbrev pub other : List Frame
  other = reweighed w 0 (0 ∷ []) t

  abbrev pub tree : PartsOf y D other
  tree = reweighed_parts w tabled D M t (parts D M t fine)

  abbrev body : Body
  body = tree.body

  pub fine_too : Fine y D M other
  fine_too = reweighed-fine w tabled D M t fine

  -- its lines, its costs and its instructions together are few
  pub root-small : most_gain body < 2 ^ 56
  root-small = omega (arith, length-is D other tree, fine_too.lines_most, work-small D other tree M fine_too, instructions-small D other tree M fine_too)

-- The rows at the end, but for columns 5 and 7: what was zero is the tree's columns, and what stands behind the rows is as
-- it was.
module _ {y : Family} (D : ℕ) (t : List Frame) (x : PartsOf y D t) (rows₀ rows₂ : List ℕ) (long : columns * (sites t + 1) ≤ length rows₀)
    (zeros : (i : ℕ) → i < columns * (sites t + 1) → get_or rows₀ i 0 ≡ 0) (grown : Grown rows₀ (made 0 x.body) rows₂) where
  pub cells_are : (s : ℕ) (k : Column) → s ≤ sites t → (k ≡ Column.on_span → ⊥) → (k ≡ Column.ion_span → ⊥) → get_or rows₂ (slot s k) 0 ≡ cell x.body s k
  cells_are s k h l i₇ =
      let i = slot_in (sites t) s k h in
      omega (arith, grown (slot s k) (omega arith), zeros (slot s k) i, root-cell (sites t) D 1 x.body x.within y x.of s k l i₇)

  pub behind : (i : ℕ) → columns * (sites t + 1) ≤ i → i < length rows₀ → get_or rows₂ i 0 ≡ get_or rows₀ i 0
  behind i h l = omega (arith, grown i l, root-out (sites t) D 1 x.body x.within i h)
