-- Frames that stand in a text, and the body that they are, weighed.
use mathlib.Core.Path.{◌≡◌, refl, subst}
use mathlib.Core.List.{List, [], ◌∷◌, ◌++◌}
use Prim.Native.Nat.{ℕ, suc, ◌+◌}
use native.Mathlib.Numerals.{add-one}
use native.Mathlib.Omega.{arith}
use lib.ListN.{length}
use Rattle.line.specs.Family.{Family, Base, Finishes}
use Rattle.line.specs.declared.Frame.{Frame}
use Rattle.line.specs.declared.Frame.TheVariants.{Sync}
use Rattle.line.specs.Read.{line_at, read_at_of, says}
use Rattle.trace.specs.Shape.{Is}
use Rattle.trace.specs.Tree.{Leaf, spend, sync, note, line_of, Body, done, leaf, child, LeafOf, Of, lines_of, size}
use Rattle.trace.proofs.Tree.{size_is}
use Rattle.trace.proofs.Scan.{read_line_lem}
use Rattle.weigh.specs.Weighed.{Weigh, weighed_leaf, weighed}
use Rattle.weigh.proofs.Weighed.{weighed-size}
use Rattle.walk.specs.Stands.{Stands}
use Rattle.walk.specs.Reads.{LeafReads, Reads}

-- lines that read as frames, one by one, stand in the text
pub stands-all : (y : Family) (s : List ℕ) (u : List Frame) (n : ℕ) → ((i : ℕ) (f : Frame) → Is u i f → read_at_of y s (n + i) ≡ says (n + i) f) → Stands y s n u
stands-all y s [] n h = tt
stands-all y s (f ∷ u) n h =
    let e : n + 0 ≡ n = omega arith in
    (subst (λ (k : ℕ). read_at_of y s k ≡ says k f) e (h 0 f refl), stands-all y s u (n + 1) (λ i g q. let z : n + suc i ≡ n + 1 + i = omega arith in subst (λ (k : ℕ). read_at_of y s k ≡ says k g) z (h (suc i) g q)))

-- lines that stand one behind the other
stands-left : (y : Family) (s : List ℕ) (u v : List Frame) (n : ℕ) → Stands y s n (u ++ v) → Stands y s n u
stands-left y s [] v n h = tt
stands-left y s (f ∷ u) v n h = (h.0, stands-left y s u v (n + 1) h.1)

stands_right : (y : Family) (s : List ℕ) (u v : List Frame) (n : ℕ) → Stands y s n (u ++ v) → Stands y s (n + length u) v
stands_right y s [] v n h = let e : n ≡ n + 0 = omega arith in subst (λ (k : ℕ). Stands y s k v) e h
stands_right y s (f ∷ u) v n h =
    let e : n + 1 + length u ≡ n + suc (length u) = omega arith in
    subst (λ (k : ℕ). Stands y s k v) e (stands_right y s u v (n + 1) h.1)

module _ (y : Family) (w : Weigh) (s : List ℕ) where
  leaf-reads : (l : Leaf) (n row : ℕ) → read_at_of y s n ≡ says n (line_of l) → LeafReads y w s n row (weighed_leaf w n row l)
  leaf-reads (spend v) n row h = (v, h, refl)
  leaf-reads sync n row h = h
  leaf-reads (note x) n row h = h

  -- LAW: where the lines of a body stand, the body is read as it is weighed
  pub stands-reads : (b : Body) (n row : ℕ) → Of y row b → Stands y s n (lines_of b) → Reads y w s n row (weighed w n row b)
  stands-reads done n row o h = h.0
  stands-reads (leaf l r) n row o h =
      (leaf-reads l n row h.0, subst (λ (k : ℕ). Reads y w s (n + 1) row (weighed w k row r)) (add-one n) (stands-reads r (n + 1) row o.1 h.1))
  stands-reads (child v j g r) n row o h =
      let inner = stands-reads g (n + 1) j o.1 (stands-left y s (lines_of g) (lines_of r) (n + 1) h.1) in
      let at : n + 1 + length (lines_of g) ≡ n + (1 + size (weighed w (suc n) j g)) = omega (arith, size_is g, weighed-size w g (suc n) j) in
      let same : n + 1 + length (lines_of g) ≡ suc n + size g = omega (arith, size_is g) in
      let outer = stands-reads r (n + 1 + length (lines_of g)) row o.2 (stands_right y s (lines_of g) (lines_of r) (n + 1) h.1) in (
        h.0,
        subst (λ (k : ℕ). Reads y w s (n + 1) j (weighed w k j g)) (add-one n) inner,
        subst (λ (k : ℕ). Reads y w s k row (weighed w (suc n + size g) row r)) at (subst (λ (k : ℕ). Reads y w s (n + 1 + length (lines_of g)) row (weighed w k row r)) same outer),
        o.0,
      )

  of_leaf : (y : Family) (l : Leaf) (n row : ℕ) → LeafReads y w s n row l → LeafOf y l
  of_leaf Base l n row h = tt
  of_leaf Finishes (spend v) n row h = tt
  of_leaf Finishes sync n row h = (read_line_lem Finishes (line_at s n) n n Sync h).1
  of_leaf Finishes (note x) n row h = tt

  -- LAW: a body that is read is one of the family's
  pub reads_of : (b : Body) (n row : ℕ) → Reads y w s n row b → Of y row b
  reads_of done n row h = tt
  reads_of (leaf l r) n row h = (of_leaf y l n row h.0, reads_of r (n + 1) row h.1)
  reads_of (child v j g r) n row h = (h.3, reads_of g (n + 1) j h.1, reads_of r (n + (1 + size g)) row h.2)
