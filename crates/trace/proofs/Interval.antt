-- The definitions of the shape, read another way: an invocation contains the lines from its body's first to its
-- return, and it has one return.
use mathlib.Core.Path.{◌≡◌, refl, sym, ◌∙◌, ap, subst}
use mathlib.Core.Logic.{inl, inr, ◌↔◌}
use mathlib.Core.List.{List, [], ◌∷◌, ◌++◌}
use Prim.Native.Nat.{ℕ, zero, suc, ◌+◌, ◌≤◌, ◌<◌}
use native.Mathlib.Omega.{arith}
use native.Mathlib.Nat.{le_dest}
use lib.ListN.{length, length-append}
use lib.Dec.{T}
use Rattle.line.specs.Family.{Family}
use Rattle.line.specs.declared.Frame.{Frame}
use Rattle.line.specs.declared.Frame.TheVariants.{Return}
use Rattle.trace.specs.Shape.{Is, closed, step, walk, open_at, has, first_is, Contains, Directly, Returns}
use Rattle.trace.specs.Tree.{Body, done, leaf, child, lines_of, size}
use Rattle.trace.proofs.Basics.{below}
use Rattle.trace.proofs.Tree.{size_is}
use Rattle.trace.proofs.Open.{first-has, first_of, first_eq, Below, Low, below_not}
use Rattle.trace.proofs.Context.{walk_start, Ctx, low-walk, has_le, at_open, open_here, first-is}
use Rattle.trace.proofs.Chains.{is-length, inside, within}
use Rattle.trace.proofs.Invocations.{ctx-leaf, ctx-child, ctx_skip, Inv}

-- the innermost invocation of a context is the one that its first line is directly in
first_in : (t : List Frame) (n c : ℕ) (o : List ℕ) (v : List Frame) → Ctx t n (c ∷ o) v → Directly t c n
first_in t n c o v x = subst (λ (l : List ℕ). T (first_is c l)) (sym (open_here t n (c ∷ o) v x)) (first_of c c o refl)

-- a body's last line is the return of its invocation
last_line : (t : List Frame) (b : Body) (n c : ℕ) (o : List ℕ) (u : List Frame) → Ctx t n (c ∷ o) (lines_of b ++ u) → (r : ℕ) → suc r ≡ n + size b → Returns t c r
last_line t done n c o u x r e =
    let q : n ≡ r = omega arith in
    subst (Returns t c) q (record { is = first-is t n (c ∷ o) Return u x; its_own = first_in t n c o (Return ∷ u) x })
last_line t (leaf l b) n c o u x r e = last_line t b (suc n) c o u (ctx-leaf t n c o l (lines_of b ++ u) x) r (omega arith)
last_line t (child w s a b) n c o u x r e = last_line t b (suc n + size a) c o u (ctx_skip t a (suc n) (suc n) (c ∷ o) (lines_of b ++ u) (ctx-child t n c o w s a b u x)) r (omega arith)

-- what is open one line further
open_suc : (n : ℕ) (o : List ℕ) (u : List Frame) (k : ℕ) (e : Frame) → Is u k e → walk n o u (suc k) ≡ step (n + k) e (walk n o u k)
open_suc n o [] k e h = absurd h
open_suc n o (f ∷ u) zero e h =
    let q : n ≡ n + 0 = omega arith in
    walk_start (suc n) (step n f o) u ∙ ap (λ (x : Frame). step n x o) h ∙ ap (λ (m : ℕ). step m e o) q
open_suc n o (f ∷ u) (suc k) e h =
    let q : suc n + k ≡ n + suc k = omega arith in
    open_suc (suc n) (step n f o) u k e h ∙ ap (λ (m : ℕ). step m e (walk (suc n) (step n f o) u k)) q

module _ {f : Family} (t : List Frame) (F : ℕ) (g : Body) (i : Inv f t F g) where
  abbrev lines : List Frame
  lines = lines_of g ++ i.post

  long : length t ≡ F + length lines
  long = ap length i.ctx.whole ∙ length-append i.ctx.pre lines ∙ ap (λ (m : ℕ). m + length lines) i.ctx.count

  -- LAW: the lines that an invocation contains, from its body's first line on
  pub contains_iff : (k : ℕ) → F ≤ k → k < length t → Contains t F k ↔ (k < F + size g)
  contains_iff k l lk = (to (le_dest l), from (le_dest l))
    where
      to : (j : ℕ) × (F + j ≡ k) → Contains t F k → k < F + size g
      to w h =
          let m = within t 0 F i.around g i.post i.ctx w.0 (omega (arith, w.1, long))
          (subst (λ (l : List ℕ). T (has F l)) (at_open t F (F ∷ i.around) lines i.ctx w.0) (subst (λ (z : ℕ). T (has F (open_at t z))) (sym w.1) h)) in
          omega (arith, w.1)

      from : (j : ℕ) × (F + j ≡ k) → k < F + size g → Contains t F k
      from w m =
          subst (λ (z : ℕ). T (has F (open_at t z))) w.1
          (subst (λ (l : List ℕ). T (has F l)) (sym (at_open t F (F ∷ i.around) lines i.ctx w.0)) (inside t 0 F i.around g i.post i.ctx w.0 (omega (arith, w.1))))

  -- LAW: its return is its last line, and no other
  pub return_iff : (r : ℕ) → Returns t F r ↔ (suc r ≡ F + size g)
  return_iff r = (to, last_line t g F F i.around i.post i.ctx r)
    where
      popped : (l : List ℕ) → Low (0 + r) l → T (first_is F l) → T (has F (closed l)) → ⊥
      popped [] w f h = f
      popped (c ∷ l) w f h = below_not F l (subst (λ (z : ℕ). Below z l) (sym (first_eq F c l f)) w.1) h

      gone : Is t r Return → Directly t F r → Contains t F (suc r) → ⊥
      gone a d h = popped (open_at t r) (low-walk 0 (0 ∷ []) t r (omega arith, tt, tt)) d (subst (λ (l : List ℕ). T (has F l)) (open_suc 0 (0 ∷ []) t r Return a) h)

      to : Returns t F r → suc r ≡ F + size g
      to h =
          let l = is-length t r Return h.is in
          let m = first-has F (open_at t r) h.its_own in
          elim (below F r) [
            | inl k ↦ absurd (omega (arith, has_le t r F m))
            | inr w ↦ elim (below (F + size g) (suc r)) [
              | inl k ↦ absurd (gone h.is h.its_own ((contains_iff (suc r) (omega (arith, w.1)) (omega (arith, long, length-append (lines_of g) i.post, size_is g))).1 k))
              | inr v ↦ (let q = (contains_iff r (omega (arith, w.1)) l).0 m in omega (arith, v.1))
            ]
          ]
