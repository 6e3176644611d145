-- An accepted trace of which one line is asked heavier: its root's body is the one that weighs so, and reading it comes to no
-- number that is too large.
use mathlib.Core.Path.{◌≡◌, refl, ap, ◌∙◌, sym, subst}
use mathlib.Core.Logic.{inl, inr}
use mathlib.Core.Bool.{Bool, true, false, cond}
use mathlib.Core.List.{List}
use Prim.Native.Nat.{ℕ, suc, ◌+◌, ◌*◌, ◌-◌, ◌^◌, ◌≤◌, ◌<◌}
use native.Mathlib.Omega.{arith}
use lib.Dec.{eqb}
use lib.ListN.{length, get_or}
use borrow.Author.Tests.{ne_eqb}
use Rattle.line.specs.Family.{Family}
use Rattle.line.specs.declared.Frame.{Frame}
use Rattle.trace.specs.Shape.{sites}
use Rattle.trace.specs.Rows.{columns}
use Rattle.trace.specs.Refusals.{verdict_of, accepted}
use Rattle.trace.specs.Tree.{spend, sync, note, Leaf, leaf_work, leaf_instructions, Body, done, leaf, child, ahead, size, Within, work_of, instructions_of}
use Rattle.trace.specs.Fold.{nothing}
use Rattle.trace.proofs.Basics.{below}
use Rattle.trace.proofs.Scan.{Fine}
use Rattle.trace.proofs.Accept.{sites_le_M}
use Rattle.trace.proofs.Parse.{parts}
use Rattle.trace.proofs.Outcome.{work-small, instructions-small}
use Rattle.weigh.specs.Weighed.{Weigh, weighed_leaf, weighed}
use Rattle.weigh.proofs.AnyWeight.{heavier, heavy_body}
use Rattle.walk.specs.Weight.{more, asked_line, by_asking}
use Rattle.walk.specs.Numbers.{numbers}
use Rattle.walk.specs.Gain.{most_gain}
use Rattle.walk.specs.Reader.{Ready}
use Rattle.walk.proofs.Weight.{asked-of, unasked, line-asked, asks-line}
use Rattle.walk.proofs.Root.{Weighty, root_body, root-size, root-ready}

-- ── instructions stay as they are, however a body is weighed ──

module _ (w : Weigh) where
  ahead-weighed : (b : Body) (n s : ℕ) → ahead (weighed w n s b) ≡ ahead b
  ahead-weighed done n s = refl
  ahead-weighed (leaf (spend v) r) n s = refl
  ahead-weighed (leaf sync r) n s = refl
  ahead-weighed (leaf (note x) r) n s = refl
  ahead-weighed (child v i g r) n s = refl

  leaf-instructions : (l : Leaf) (r : Body) (n s : ℕ) → leaf_instructions (weighed_leaf w n s l) (weighed w (suc n) s r) ≡ leaf_instructions l r
  leaf-instructions (spend v) r n s = ahead-weighed r (suc n) s
  leaf-instructions sync r n s = refl
  leaf-instructions (note x) r n s = refl

  pub instructions-weighed : (b : Body) (n s : ℕ) → instructions_of (weighed w n s b) ≡ instructions_of b
  instructions-weighed done n s = refl
  instructions-weighed (leaf l r) n s = omega (arith, leaf-instructions l r n s, instructions-weighed r (suc n) s)
  instructions-weighed (child v i g r) n s = omega (arith, instructions-weighed g (suc n) i, instructions-weighed r (suc n + size g) s)

-- ── one line heavier: the work grows by no more than that line does ──

module _ (q d : ℕ) where
  abbrev w : Weigh
  w = heavier q d

  leaf-other : (l : Leaf) (n s : ℕ) → (n ≡ q → ⊥) → leaf_work (weighed_leaf w n s l) ≡ leaf_work l
  leaf-other (spend v) n s h = ap (λ (b : Bool). cond b (v + d) v) (ne_eqb n q h)
  leaf-other sync n s h = refl
  leaf-other (note x) n s h = refl

  leaf-most : (l : Leaf) (n s : ℕ) → leaf_work (weighed_leaf w n s l) ≤ leaf_work l + d
  leaf-most (spend v) n s = go (eqb n q)
    where
      go : (b : Bool) → cond b (v + d) v ≤ v + d
      go true = omega arith
      go false = omega arith
  leaf-most sync n s = omega arith
  leaf-most (note x) n s = omega arith

  -- where the line is not among those of a body, its work is as it was
  work-other : (b : Body) (n s : ℕ) → ((j : ℕ) → n ≤ j → j < n + size b → j ≡ q → ⊥) → work_of (weighed w n s b) ≡ work_of b
  work-other done n s h = refl
  work-other (leaf l r) n s h = omega (arith, leaf-other l n s (h n (omega arith) (omega arith)), work-other r (suc n) s (λ j a e. h j (omega arith) (omega arith)))
  work-other (child v i g r) n s h =
      omega (arith, work-other g (suc n) i (λ j a e. h j (omega arith) (omega arith)), work-other r (suc n + size g) s (λ j a e. h j (omega arith) (omega arith)))

  work-most : (b : Body) (n s : ℕ) → work_of (weighed w n s b) ≤ work_of b + d
  work-most done n s = omega arith
  work-most (leaf l r) n s = elim (below (suc n) q) [
    | inl h ↦ omega (arith, leaf-most l n s, work-other r (suc n) s (λ j a e z. omega arith))
    | inr h ↦ omega (arith, leaf-other l n s (λ z. omega (arith, h.1)), work-most r (suc n) s)
  ]
  work-most (child v i g r) n s = elim (below (suc n + size g) q) [
    | inl h ↦ omega (arith, work-most g (suc n) i, work-other r (suc n + size g) s (λ j a e z. omega arith))
    | inr h ↦ omega (arith, work-other g (suc n) i (λ j a e z. omega (arith, h.1)), work-most r (suc n + size g) s)
  ]

-- ── the same in every row that there is ──

module _ (w x : Weigh) (m D : ℕ) (same : (n s v : ℕ) → s ≤ m → w n s v ≡ x n s v) where
  leaf-same : (l : Leaf) (n s : ℕ) → s ≤ m → weighed_leaf w n s l ≡ weighed_leaf x n s l
  leaf-same (spend v) n s h = ap spend (same n s v h)
  leaf-same sync n s h = refl
  leaf-same (note y) n s h = refl

  weighed-same : (d : ℕ) (b : Body) (n s : ℕ) → s ≤ m → Within m D d b → weighed w n s b ≡ weighed x n s b
  weighed-same d done n s h k = refl
  weighed-same d (leaf l r) n s h k = rw (leaf-same l n s h, weighed-same d r (suc n) s h k.1)
  weighed-same d (child v i g r) n s h k = rw (weighed-same (suc d) g (suc n) i k.1 k.3, weighed-same d r (suc n + size g) s h k.4)

-- ── line q of an accepted trace is asked heavier ──

module _ (asking : List ℕ) (q : ℕ) (long : length asking ≡ asked_line) (line : get_or asking 256 0 ≡ q) where
  by-line : (n s v : ℕ) → s ≤ 255 → by_asking asking n s v ≡ heavier q more n s v
  by-line n s v h = asks-line asking n s v long h ∙ ap (λ (k : ℕ). heavier k more n s v) line

  heavier-some : (k n s v : ℕ) → 1 ≤ v → 1 ≤ heavier k more n s v
  heavier-some k n s v l = go (eqb n k)
    where
      go : (b : Bool) → 1 ≤ cond b (v + more) v
      go true = omega arith
      go false = l

  pub some : Weighty (by_asking asking)
  some n s v l h = elim (below (length asking) s) [
    | inl b ↦ subst (λ (x : ℕ). 1 ≤ x) (sym (asked-of asking n s v b ∙ line-asked asking n s v long)) (heavier-some (get_or asking 256 0) n s v l)
    | inr b ↦ subst (λ (x : ℕ). 1 ≤ x) (sym (unasked asking n s v (omega (arith, b.1)))) l
  ]

  module _ {y : Family} (D M : ℕ) (t : List Frame) (fine : Fine y D M t) where
    few : sites t ≤ 255
    few = omega (arith, sites_le_M D M t fine, fine.sites_most)

    -- LAW: what is read is the body with that line heavier
    pub heavy_is : root_body (by_asking asking) some D M t fine ≡ heavy_body D t (parts D M t fine) q more
    heavy_is =
        weighed-same (by_asking asking) (heavier q more) (sites t) D (λ n s v h. by-line n s v (omega (arith, few))) 1 (parts D M t fine).body 0 0 (omega arith) (parts D M t fine).within

    small : most_gain (root_body (by_asking asking) some D M t fine) < 2 ^ 56
    small =
        let p = parts D M t fine in
        omega (
          arith,
          ap work_of heavy_is,
          work-most q more p.body 0 0,
          work-small D t p M fine,
          instructions-weighed (by_asking asking) p.body 0 0,
          instructions-small D t p M fine,
          root-size (by_asking asking) some D M t fine,
          fine.lines_most,
        )

    -- LAW: what a reader asks for at the root, over row numbers that are zero
    pub heavy_ready : (s : List ℕ) (room : Bool) → verdict_of y s D M room ≡ accepted t → (rows : List ℕ) → columns * 256 ≤ length rows → ((i : ℕ) → get_or rows i 0 ≡ 0)
        → Ready y (by_asking asking) s 0 (sites t) (D - 1) (numbers 0 0 nothing) rows
    heavy_ready s room acc rows room-is zeros =
        root-ready (by_asking asking) some D M t fine s room acc small (sites t) refl rows (omega (arith, room-is, few)) (λ i l. zeros i)
