-- Row numbers that grow, and those that are written anew.
use mathlib.Core.Path.{◌≡◌, refl, ap, sym}
use mathlib.Core.Bool.{Bool, true, false, cond}
use mathlib.Core.List.{List}
use Prim.Native.Nat.{ℕ, ◌+◌, ◌<◌}
use native.Mathlib.Omega.{arith}
use lib.Dec.{eqb}
use lib.ListN.{length, get_or, set}
use lib.Seq.{get_or-set_same, get_or-set_other}
use borrow.Author.Tests.{eqb-true, eqb-false, eq-eqb, ne_eqb}
use Rattle.walk.specs.Gain.{one, Grown}

pub one_same : (j v : ℕ) → one j v j ≡ v
one_same j v = ap (λ (b : Bool). cond b v 0) (eq-eqb j j refl)

pub one-other : (j v i : ℕ) → (j ≡ i → ⊥) → one j v i ≡ 0
one-other j v i h = ap (λ (b : Bool). cond b v 0) (ne_eqb j i h)

-- a number that was added to
pub grown_one : (a : List ℕ) (j v : ℕ) → Grown a (one j v) (set a j (get_or a j 0 + v))
grown_one a j v i l = go (eqb j i) refl
  where
    go : (b : Bool) → eqb j i ≡ b → get_or (set a j (get_or a j 0 + v)) i 0 ≡ get_or a i 0 + cond b v 0
    go true e = let q = eqb-true j i e in rw (← q) (get_or-set_same a j (get_or a j 0 + v) 0 (omega arith))
    go false e = omega (arith, get_or-set_other a j i (get_or a j 0 + v) 0 (λ q. eqb-false j i e (sym q)))

-- a number that was written
pub written_at : (a : List ℕ) (j v i : ℕ) → i < length a → get_or (set a j v) i 0 ≡ cond (eqb j i) v (get_or a i 0)
written_at a j v i l = go (eqb j i) refl
  where
    go : (b : Bool) → eqb j i ≡ b → get_or (set a j v) i 0 ≡ cond b v (get_or a i 0)
    go true e = let q = eqb-true j i e in rw (← q) (get_or-set_same a j v 0 (omega arith))
    go false e = get_or-set_other a j i v 0 (λ q. eqb-false j i e (sym q))

-- numbers that grew twice
pub grown_twice : (a b c : List ℕ) (g h : ℕ → ℕ) → length b ≡ length a → Grown a g b → Grown b h c → Grown a (λ i. g i + h i) c
grown_twice a b c g h e x y i l = omega (arith, x i l, y i (omega arith))
