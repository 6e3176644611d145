-- Sums over a stretch of lines, and the work and the span of an invocation by its body.
use mathlib.Core.Path.{◌≡◌, refl, sym, ◌∙◌, ap, subst}
use mathlib.Core.Bool.{Bool, true, false, cond}
use mathlib.Core.List.{List, [], ◌∷◌, ◌++◌, append_assoc, append-nil}
use Prim.Native.Nat.{ℕ, zero, suc, ◌+◌, ◌<◌}
use native.Mathlib.Omega.{arith}
use lib.ListN.{length, length-append}
use lib.Dec.{T}
use Rattle.line.specs.Family.{Family}
use Rattle.line.specs.declared.Frame.{Frame}
use Rattle.line.specs.declared.Frame.TheVariants.{Return}
use Rattle.trace.specs.Shape.{Is, step, walk, open_at, has}
use Rattle.trace.specs.Series.{value, SpanOf}
use Rattle.trace.specs.Rows.{Measure, cycles, sum_of, inside}
use Rattle.trace.specs.Tree.{opening, line_of, Body, done, leaf, child, lines_of, all_of, work_of, span_of}
use Rattle.trace.proofs.Tree.{size_is}
use Rattle.trace.proofs.Measures.{Measured, by_cycles}
use Rattle.trace.proofs.Recurrence.{weight-chain}
use Rattle.trace.proofs.Context.{walk-append, has_le}
use Rattle.trace.proofs.Chains.{is-length, span-of}
use Rattle.trace.proofs.Chains as C
use Rattle.trace.proofs.Fits.{fits-of}
use Rattle.trace.proofs.Invocations.{Inv}

pub walk-left : (n : ℕ) (o : List ℕ) (u v : List Frame) (j : ℕ) → j < length u → walk n o (u ++ v) j ≡ walk n o u j
walk-left n o [] v j l = absurd (omega arith)
walk-left n o (e ∷ u) v zero l = refl
walk-left n o (e ∷ u) v (suc j) l = walk-left (suc n) (step n e o) u v j (omega arith)

pub sum-append : (p : ℕ → List ℕ → Bool) (n : ℕ) (o : List ℕ) (u v : List Frame) → sum_of cycles p n o (u ++ v) ≡ sum_of cycles p n o u + sum_of cycles p (n + length u) (walk n o u (length u)) v
sum-append p n o [] v = let e : n ≡ n + 0 = omega arith in omega (arith, ap (λ (k : ℕ). sum_of cycles p k o v) e)
sum-append p n o (e ∷ u) v =
    let q : suc n + length u ≡ n + suc (length u) = omega arith in
    omega (arith, sum-append p (suc n) (step n e o) u v, ap (λ (k : ℕ). sum_of cycles p k (walk (suc n) (step n e o) u (length u)) v) q)

module _ (p : ℕ → List ℕ → Bool) where
  -- what p says of the first line, and of the lines behind it
  here : (n : ℕ) (o : List ℕ) → T (p n o) → T (p (n + 0) o)
  here n o h = let e : n ≡ n + 0 = omega arith in subst (λ (k : ℕ). T (p k o)) e h

  there : (n j : ℕ) (o : List ℕ) → T (p (suc n + j) o) → T (p (n + suc j) o)
  there n j o h = let e : suc n + j ≡ n + suc j = omega arith in subst (λ (k : ℕ). T (p k o)) e h

  back : (n j : ℕ) (o : List ℕ) → T (p (n + suc j) o) → T (p (suc n + j) o)
  back n j o h = let e : n + suc j ≡ suc n + j = omega arith in subst (λ (k : ℕ). T (p k o)) e h

  -- no line that p picks weighs anything
  pub quiet : (n : ℕ) (o : List ℕ) (u : List Frame) → ((j : ℕ) (f : Frame) → Is u j f → T (p (n + j) (walk n o u j)) → value f ≡ 0) → sum_of cycles p n o u ≡ 0
  quiet n o [] h = refl
  quiet n o (e ∷ u) h = omega (arith, first (p n o) (λ k. h 0 e refl (here n o k)), quiet (suc n) (step n e o) u (λ j f i k. h (suc j) f i (there n j (walk (suc n) (step n e o) u j) k)))
    where
      first : (b : Bool) → (T b → value e ≡ 0) → cond b (value e) 0 ≡ 0
      first true f = f tt
      first false f = refl

  -- p picks every line
  pub every : (n : ℕ) (o : List ℕ) (u : List Frame) → ((j : ℕ) → j < length u → T (p (n + j) (walk n o u j))) → sum_of cycles p n o u ≡ sum_of cycles (λ k o. true) n o u
  every n o [] h = refl
  every n o (e ∷ u) h =
      omega (arith, first (p n o) (now (h 0 (omega arith))), every (suc n) (step n e o) u (λ j l. back n j (walk (suc n) (step n e o) u j) (h (suc j) (omega arith))))
    where
      now : T (p (n + 0) o) → T (p n o)
      now k = let q : n + 0 ≡ n = omega arith in subst (λ (i : ℕ). T (p i o)) q k

      first : (b : Bool) → T b → cond b (value e) 0 ≡ value e
      first true k = refl
      first false k = absurd k

-- where every line is picked, nothing hangs on where the lines begin
from-anywhere : (m : Measure) (n k : ℕ) (o q : List ℕ) (u : List Frame) → sum_of m (λ k o. true) n o u ≡ sum_of m (λ k o. true) k q u
from-anywhere m n k o q [] = refl
from-anywhere m n k o q (e ∷ u) = omega (arith, from-anywhere m (suc n) (suc k) (step n e o) (step k e q) u)

module _ (m : Measured) where
  -- all of a body's lines, and the lines behind it
  body-costs : (b : Body) (n : ℕ) (o : List ℕ) (u : List Frame)
      → sum_of m.of_line (λ k o. true) n o (lines_of b ++ u) ≡ all_of m.of_leaf b + sum_of m.of_line (λ k o. true) n o u
  body-costs done n o u = omega (arith, m.return_line u, from-anywhere m.of_line (suc n) n (step n Return o) o u)
  body-costs (leaf l r) n o u =
      let k = step n (line_of l) o in
      omega (arith, m.leaf_line l r u, body-costs r (suc n) k u, from-anywhere m.of_line (suc n) n k o u)
  body-costs (child w s g r) n o u =
      let k = step n (opening w s) o in
      omega (
        arith,
        m.opening_line w s ((lines_of g ++ lines_of r) ++ u),
        ap (sum_of m.of_line (λ k o. true) (suc n) k) (append_assoc (lines_of g) (lines_of r) u),
        body-costs g (suc n) k (lines_of r ++ u),
        body-costs r (suc n) k u,
        from-anywhere m.of_line (suc n) n k o u,
      )

  -- LAW: all that a body's lines come to is what its leaves come to
  pub all-costs : (b : Body) (n : ℕ) (o : List ℕ) → sum_of m.of_line (λ k o. true) n o (lines_of b) ≡ all_of m.of_leaf b
  all-costs b n o =
      omega (arith, ap (sum_of m.of_line (λ k o. true) n o) (append-nil (lines_of b)), body-costs b n o [])

module _ {f : Family} (t : List Frame) (F : ℕ) (g : Body) (i : Inv f t F g) where
  -- LAW: the span of an invocation is what Cilkprof's recurrence gives
  pub span_is : SpanOf f t F (span_of g)
  span_is = subst (SpanOf f t F) (weight-chain g F i.row) (span-of f t i.row F g (fits-of t i.row F i.around g i.post i.ctx f i.of) i.paid)

  abbrev in_it : ℕ → List ℕ → Bool
  in_it k o = has F o

  abbrev opened : List ℕ
  opened = walk F (F ∷ i.around) (lines_of g) (length (lines_of g))

  -- no line before its body is in it
  before : sum_of cycles in_it 0 (0 ∷ []) i.ctx.pre ≡ 0
  before = quiet in_it 0 (0 ∷ []) i.ctx.pre (λ j f h k. absurd (out j f h k))
    where
      out : (j : ℕ) (f : Frame) → Is i.ctx.pre j f → T (has F (walk 0 (0 ∷ []) i.ctx.pre j)) → ⊥
      out j f h k =
          let l = is-length i.ctx.pre j f h in
          let e : open_at t j ≡ walk 0 (0 ∷ []) i.ctx.pre j = ap (λ (z : List Frame). open_at z j) i.ctx.whole ∙ walk-left 0 (0 ∷ []) i.ctx.pre (lines_of g ++ i.post) j l in
          omega (arith, i.ctx.count, has_le t j F (subst (λ (l : List ℕ). T (has F l)) (sym e) k))

  within : sum_of cycles in_it F (F ∷ i.around) (lines_of g) ≡ work_of g
  within =
      every in_it F (F ∷ i.around) (lines_of g)
      (λ j l. subst (λ (l : List ℕ). T (has F l)) (walk-left F (F ∷ i.around) (lines_of g) i.post j l) (C.inside t 0 F i.around g i.post i.ctx j (omega (arith, size_is g))))
      ∙ all-costs by_cycles g F (F ∷ i.around)

  behind : sum_of cycles in_it (F + length (lines_of g)) opened i.post ≡ 0
  behind = quiet in_it (F + length (lines_of g)) opened i.post (λ j f h k. absurd (out j f h k))
    where
      out : (j : ℕ) (f : Frame) → Is i.post j f → T (has F (walk (F + length (lines_of g)) opened i.post j)) → ⊥
      out j f h k =
          let l = C.within t 0 F i.around g i.post i.ctx (length (lines_of g) + j) (omega (arith, is-length i.post j f h, length-append (lines_of g) i.post))
          (subst (λ (l : List ℕ). T (has F l)) (sym (walk-append F (F ∷ i.around) (lines_of g) i.post j)) k) in
          omega (arith, size_is g)

  -- LAW: all costs inside an invocation are those of its body
  pub inside_is : inside t F ≡ work_of g
  inside_is =
      let e : 0 + length i.ctx.pre ≡ F = omega (arith, i.ctx.count) in
      omega (
        arith,
        ap (λ (z : List Frame). sum_of cycles in_it 0 (0 ∷ []) z) i.ctx.whole,
        sum-append in_it 0 (0 ∷ []) i.ctx.pre (lines_of g ++ i.post),
        ap (λ (k : ℕ). sum_of cycles in_it k (walk 0 (0 ∷ []) i.ctx.pre (length i.ctx.pre)) (lines_of g ++ i.post)) e,
        ap (λ (o : List ℕ). sum_of cycles in_it F o (lines_of g ++ i.post)) i.ctx.opened,
        sum-append in_it F (F ∷ i.around) (lines_of g) i.post,
        before,
        within,
        behind,
      )
