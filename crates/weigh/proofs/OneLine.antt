-- A trace of which one cost line weighs otherwise: it differs in that line alone, keeps the rules where the new weight
-- is in the table, and every sum of costs grows by what the line does.
use mathlib.Core.Path.{◌≡◌, refl, sym, ◌∙◌, ap, subst}
use mathlib.Core.Bool.{Bool, true, false, cond}
use mathlib.Core.List.{List, [], ◌∷◌}
use Prim.Native.Nat.{ℕ, zero, suc, ◌+◌, ◌-◌, ◌≤◌, ◌<◌}
use native.Mathlib.Omega.{arith}
use lib.Dec.{eqb}
use lib.ListN.{length}
use borrow.Author.Tests.{eq-eqb, ne_eqb}
use Rattle.line.specs.Family.{Family}
use Rattle.line.specs.declared.Frame.{Frame}
use Rattle.line.specs.declared.Frame.TheVariants.{Cost}
use Rattle.trace.specs.Shape.{Is, root, step, walk, open_at, has, sites}
use Rattle.trace.specs.Series.{value, Chain, weight}
use Rattle.trace.specs.Rows.{cycles, sum_of, costs_where, total}
use Rattle.trace.proofs.Basics.{cond_add}
use Rattle.trace.proofs.AtMost.{on_chain}
use Rattle.trace.proofs.Scan.{Fine}
use Rattle.weigh.specs.Cost.{costing}
use Rattle.weigh.specs.Raised.{costing_at, raised, lowered}
use Rattle.weigh.specs.Weighed.{Weigh, Tabled, innermost, row_step, reweighed}
use Rattle.weigh.proofs.Alike.{ButCosts, alike_same, alike_sym, alike_length, step_alike, chain_alike}
use Rattle.weigh.proofs.Weighed.{same-costing, plain-costing}
use Rattle.weigh.proofs.Accepted.{costing-bare, reweighed-sites, reweighed-fine}

-- ── it differs in one line alone ──

pub one_alike : (g : ℕ → ℕ) (t : List Frame) (k : ℕ) → ButCosts t (costing_at g t k)
one_alike g [] k = tt
one_alike g (e ∷ t) zero = (costing-bare g e, alike_same t)
one_alike g (e ∷ t) (suc k) = (refl, one_alike g t k)

pub one-length : (g : ℕ → ℕ) (t : List Frame) (k : ℕ) → length (costing_at g t k) ≡ length t
one-length g t k = sym (alike_length t (costing_at g t k) (one_alike g t k))

-- LAW: line k is the cost so weighed
pub line-there : (g : ℕ → ℕ) (t : List Frame) (k v : ℕ) → Is t k (Cost v) → Is (costing_at g t k) k (Cost (g v))
line-there g [] k v i = absurd i
line-there g (e ∷ t) zero v i = ap (costing g) i
line-there g (e ∷ t) (suc k) v i = line-there g t k v i

-- LAW: every other line is as it was
pub line_elsewhere : (g : ℕ → ℕ) (t : List Frame) (k j : ℕ) (f : Frame) → (j ≡ k → ⊥) → Is (costing_at g t k) j f → Is t j f
line_elsewhere g [] k j f n i = absurd i
line_elsewhere g (e ∷ t) zero zero f n i = absurd (n refl)
line_elsewhere g (e ∷ t) zero (suc j) f n i = i
line_elsewhere g (e ∷ t) (suc k) zero f n i = i
line_elsewhere g (e ∷ t) (suc k) (suc j) f n i = line_elsewhere g t k j f (λ z. n (ap suc z)) i

-- what else gives that value gives that trace
one_same : (g h : ℕ → ℕ) (t : List Frame) (k v : ℕ) → Is t k (Cost v) → g v ≡ h v → costing_at g t k ≡ costing_at h t k
one_same g h [] k v i e = absurd i
one_same g h (f ∷ t) zero v i e = ap (λ (x : Frame). x ∷ t) (ap (costing g) i ∙ ap Cost e ∙ sym (ap (costing h) i))
one_same g h (f ∷ t) (suc k) v i e = ap (λ (u : List Frame). f ∷ u) (one_same g h t k v i e)

one_again : (g h : ℕ → ℕ) (t : List Frame) (k v : ℕ) → Is t k (Cost v) → h (g v) ≡ v → costing_at h (costing_at g t k) k ≡ t
one_again g h [] k v i e = absurd i
one_again g h (f ∷ t) zero v i e = ap (λ (x : Frame). x ∷ t) (ap (λ (x : Frame). costing h (costing g x)) i ∙ ap Cost e ∙ sym i)
one_again g h (f ∷ t) (suc k) v i e = ap (λ (u : List Frame). f ∷ u) (one_again g h t k v i e)

-- LAW: what was lowered and is raised again is as it was
pub raised-lowered : (t : List Frame) (k v d : ℕ) → Is t k (Cost v) → d ≤ v → raised (lowered t k d) k d ≡ t
raised-lowered t k v d i l = one_again (λ x. x - d) (λ x. x + d) t k v i (omega arith)

-- ── it keeps the rules ──

-- line k weighs g of its value, any other its value
abbrev pub on_line : ℕ → (ℕ → ℕ) → Weigh
on_line k g n s v = cond (eqb n k) (g v) v

module _ (g : ℕ → ℕ) where
  on-other : (k n s : ℕ) (f : Frame) → (n ≡ k → ⊥) → costing (on_line k g n s) f ≡ f
  on-other k n s f h = same-costing (on_line k g n s) (λ v. v) (λ v. ap (λ (b : Bool). cond b (g v) v) (ne_eqb n k h)) f ∙ plain-costing f

  -- lines behind it are as they were
  behind : (k n : ℕ) (o : List ℕ) (t : List Frame) → k < n → reweighed (on_line k g) n o t ≡ t
  behind k n o [] l = refl
  behind k n o (f ∷ t) l =
      ap (λ (e : Frame). e ∷ reweighed (on_line k g) (suc n) (row_step f o) t) (on-other k n (innermost o) f (λ z. omega arith))
      ∙ ap (λ (u : List Frame). f ∷ u) (behind k (suc n) (row_step f o) t (omega arith))

  one_from : (n : ℕ) (o : List ℕ) (t : List Frame) (k : ℕ) → reweighed (on_line (n + k) g) n o t ≡ costing_at g t k
  one_from n o [] k = refl
  one_from n o (f ∷ t) zero =
      let here : eqb n (n + 0) ≡ true = eq-eqb n (n + 0) (omega arith) in
      ap (λ (e : Frame). e ∷ reweighed (on_line (n + 0) g) (suc n) (row_step f o) t) (same-costing (on_line (n + 0) g n (innermost o)) g (λ v. ap (λ (b : Bool). cond b (g v) v) here) f)
      ∙ ap (λ (u : List Frame). costing g f ∷ u) (behind (n + 0) (suc n) (row_step f o) t (omega arith))
  one_from n o (f ∷ t) (suc k) =
      let next : n + suc k ≡ suc n + k = omega arith in
      ap (λ (e : Frame). e ∷ reweighed (on_line (n + suc k) g) (suc n) (row_step f o) t) (on-other (n + suc k) n (innermost o) f (λ z. omega arith))
      ∙ ap (λ (j : ℕ). f ∷ reweighed (on_line j g) (suc n) (row_step f o) t) next
      ∙ ap (λ (u : List Frame). f ∷ u) (one_from (suc n) (row_step f o) t k)

  -- LAW: it is the trace weighed by line
  pub one-weighed : (t : List Frame) (k : ℕ) → reweighed (on_line k g) 0 (0 ∷ []) t ≡ costing_at g t k
  one-weighed t k = let e : k ≡ 0 + k = omega arith in ap (λ (j : ℕ). reweighed (on_line j g) 0 (0 ∷ []) t) e ∙ one_from 0 (0 ∷ []) t k

-- LAW: it has the same sites
pub one-sites : (g : ℕ → ℕ) (t : List Frame) (k : ℕ) → sites (costing_at g t k) ≡ sites t
one-sites g t k = ap sites (sym (one-weighed g t k)) ∙ reweighed-sites (on_line k g) t 0 (0 ∷ [])

-- LAW: and keeps the rules within the same limits, where the new weight is in the table
pub one-fine : {f : Family} (g : ℕ → ℕ) (D M : ℕ) (t : List Frame) (k v : ℕ) → Fine f D M t → Is t k (Cost v) → 1 ≤ g v → g v ≤ 4294967295 → Fine f D M (costing_at g t k)
one-fine {f = f} g D M t k v h i low high =
    subst (Fine f D M) (one-weighed (λ x. g v) t k ∙ one_same (λ x. g v) g t k v i refl) (reweighed-fine (on_line k (λ x. g v)) tabled D M t h)
  where
    tabled : Tabled (on_line k (λ x. g v))
    tabled n s x a b = go (eqb n k)
      where
        go : (c : Bool) → (1 ≤ cond c (g v) x) × (cond c (g v) x ≤ 4294967295)
        go true = (low, high)
        go false = (a, b)

-- ── what is added up ──

sum-from : (d : ℕ) (p : ℕ → List ℕ → Bool) (n : ℕ) (o : List ℕ) (t : List Frame) (k v : ℕ) → Is t k (Cost v) → sum_of cycles p n o (raised t k d) ≡ sum_of cycles p n o t + cond (p (n + k) (walk n o t k)) d 0
sum-from d p n o [] k v i = absurd i
sum-from d p n o (e ∷ t) zero v i =
    let first : n + 0 ≡ n = omega arith in
    omega (
      arith,
      ap (λ (f : Frame). cond (p n o) (value (costing (λ x. x + d) f)) 0) i,
      ap (λ (f : Frame). cond (p n o) (value f) 0) i,
      cond_add (p n o) v d,
      ap (λ (j : ℕ). cond (p j o) d 0) first,
      ap (λ (q : List ℕ). sum_of cycles p (suc n) q t) (step_alike n e (costing (λ x. x + d) e) o (costing-bare (λ x. x + d) e)),
    )
sum-from d p n o (e ∷ t) (suc k) v i =
    let next : n + suc k ≡ suc n + k = omega arith in
    omega (arith, sum-from d p (suc n) (step n e o) t k v i, ap (λ (j : ℕ). cond (p j (walk (suc n) (step n e o) t k)) d 0) next)

module _ (t : List Frame) (k v d : ℕ) (i : Is t k (Cost v)) where
  -- LAW: a sum of costs over lines grows by d where line k is one of them
  pub costs-raised : (p : ℕ → List ℕ → Bool) → costs_where cycles (raised t k d) p ≡ costs_where cycles t p + cond (p k (open_at t k)) d 0
  costs-raised p = let e : 0 + k ≡ k = omega arith in sum-from d p 0 (root ∷ []) t k v i ∙ ap (λ (j : ℕ). costs_where cycles t p + cond (p j (open_at t k)) d 0) e

  -- LAW: so does the total work
  pub total-raised : total (raised t k d) ≡ total t + d
  total-raised = costs-raised (λ j o. true)

  -- LAW: the chains are the same, and a chain weighs d more where line k is on it, and else what it did
  pub chain-raised : (F : ℕ) (c : List ℕ) → Chain t F c → Chain (raised t k d) F c
  chain-raised F c = chain_alike t (raised t k d) (one_alike (λ x. x + d) t k) F c

  pub raised-chain : (F : ℕ) (c : List ℕ) → Chain (raised t k d) F c → Chain t F c
  raised-chain F c = chain_alike (raised t k d) t (alike_sym t (raised t k d) (one_alike (λ x. x + d) t k)) F c

  pub weight-raised : (F : ℕ) (c : List ℕ) → Chain t F c → weight (raised t k d) c ≡ weight t c + cond (has k c) d 0
  weight-raised F c h =
      sym (on_chain (raised t k d) F c (chain-raised F c h)) ∙ costs-raised (λ j o. has j c) ∙ ap (λ (w : ℕ). w + cond (has k c) d 0) (on_chain t F c h)
