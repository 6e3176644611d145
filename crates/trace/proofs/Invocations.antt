-- Every invocation of a trace has a body and stands in its context; and sums over the invocations of a row, by the tree.
use mathlib.Core.Path.{◌≡◌, refl, sym, ◌∙◌, ap, subst}
use mathlib.Core.Logic.{inl, inr}
use mathlib.Core.Bool.{Bool, true, false, cond, ◌&&◌}
use mathlib.Core.List.{List, [], ◌∷◌, ◌++◌, append_assoc, append-nil}
use Prim.Native.Nat.{ℕ, zero, suc, ◌+◌}
use native.Mathlib.Omega.{arith}
use lib.ListN.{length, length-append}
use lib.Seq.{append_snoc}
use lib.Dec.{eqb}
use Rattle.line.specs.Family.{Family}
use Rattle.line.specs.declared.Frame.{Frame}
use Rattle.line.specs.declared.Frame.TheVariants.{Return}
use Rattle.trace.specs.Shape.{Is, root, step, walk, sites}
use Rattle.trace.specs.Rows.{made, of_row, Sum}
use Rattle.trace.specs.Tree.{Way, opening, Leaf, line_of, Body, done, leaf, child, lines_of, Of, size, PartsOf, invokes, made_sum, row_sum}
use Rattle.trace.proofs.Basics.{below}
use Rattle.trace.proofs.Tree.{size_is, leaf-step, opening-step, leaf-makes, opening-makes, return_not_opening, leaf_not_opening}
use Rattle.trace.proofs.Scan.{now}
use Rattle.trace.proofs.Recurrence.{Paid, paid}
use Rattle.trace.proofs.Parallels.{Alive, low_step}
use Rattle.trace.proofs.Context.{Ctx, rooted-step, is-append}
use Rattle.trace.proofs.Chains.{is-left}

-- ── contexts ──

alive : (b : Body) (n c : ℕ) (o : List ℕ) (u : List Frame) → Alive (n + size b) o u → Alive n (c ∷ o) (lines_of b ++ u)
alive done n c o u h = let e : n + 1 ≡ suc n = omega arith in subst (λ (k : ℕ). Alive k o u) e h
alive (leaf l r) n c o u h =
    let e : n + suc (size r) ≡ suc n + size r = omega arith in
    subst (λ (x : List ℕ). Alive (suc n) x (lines_of r ++ u)) (sym (leaf-step l n (c ∷ o))) (alive r (suc n) c o u (subst (λ (k : ℕ). Alive k o u) e h))
alive (child w s g r) n c o u h =
    let e : n + suc (size g + size r) ≡ suc n + size g + size r = omega arith in
    subst (λ (x : List ℕ). Alive (suc n) x ((lines_of g ++ lines_of r) ++ u)) (sym (opening-step w s n (c ∷ o)))
    (subst (Alive (suc n) (suc n ∷ c ∷ o)) (sym (append_assoc (lines_of g) (lines_of r) u))
    (alive g (suc n) (suc n) (c ∷ o) (lines_of r ++ u) (alive r (suc n + size g) c o u (subst (λ (k : ℕ). Alive k o u) e h))))

module _ (t : List Frame) where
  -- one line further
  ctx-step : (n c : ℕ) (o : List ℕ) (e : Frame) (v : List Frame) → Ctx t n (c ∷ o) (e ∷ v) → Ctx t (suc n) (step n e (c ∷ o)) v
  ctx-step n c o e v x =
      record {
        pre = x.pre ++ e ∷ [];
        whole = x.whole ∙ sym (append_snoc x.pre e v);
        count = omega (arith, x.count, length-append x.pre (e ∷ []));
        opened = now x.pre e ∙ ap (λ (k : ℕ). step k e (walk 0 (0 ∷ []) x.pre (length x.pre))) x.count ∙ ap (step n e) x.opened;
        low = low_step n e (c ∷ o) x.low;
        rooted = rooted-step n e c o x.rooted;
        alive = x.alive;
      }

  -- behind a leaf line
  pub ctx-leaf : (n c : ℕ) (o : List ℕ) (l : Leaf) (v : List Frame) → Ctx t n (c ∷ o) (line_of l ∷ v) → Ctx t (suc n) (c ∷ o) v
  ctx-leaf n c o l v x = subst (λ (k : List ℕ). Ctx t (suc n) k v) (leaf-step l n (c ∷ o)) (ctx-step n c o (line_of l) v x)

  -- into the body of a child
  pub ctx-child : (n c : ℕ) (o : List ℕ) (w : Way) (s : ℕ) (g r : Body) (u : List Frame) → Ctx t n (c ∷ o) (lines_of (child w s g r) ++ u) → Ctx t (suc n) (suc n ∷ c ∷ o) (lines_of g ++ (lines_of r ++ u))
  ctx-child n c o w s g r u x =
      subst (Ctx t (suc n) (suc n ∷ c ∷ o)) (append_assoc (lines_of g) (lines_of r) u)
      (subst (λ (k : List ℕ). Ctx t (suc n) k ((lines_of g ++ lines_of r) ++ u)) (opening-step w s n (c ∷ o)) (ctx-step n c o (opening w s) ((lines_of g ++ lines_of r) ++ u) x))

  -- a whole body further
  pub ctx_skip : (b : Body) (n c : ℕ) (o : List ℕ) (u : List Frame) → Ctx t n (c ∷ o) (lines_of b ++ u) → Ctx t (n + size b) o u
  ctx_skip done n c o u x = let e : suc n ≡ n + 1 = omega arith in subst (λ (k : ℕ). Ctx t k o u) e (ctx-step n c o Return u x)
  ctx_skip (leaf l r) n c o u x =
      let e : suc n + size r ≡ n + suc (size r) = omega arith in
      subst (λ (k : ℕ). Ctx t k o u) e (ctx_skip r (suc n) c o u (ctx-leaf n c o l (lines_of r ++ u) x))
  ctx_skip (child w s g r) n c o u x =
      let e : suc n + size g + size r ≡ n + suc (size g + size r) = omega arith in
      subst (λ (k : ℕ). Ctx t k o u) e (ctx_skip r (suc n + size g) c o u (ctx_skip g (suc n) (suc n) (c ∷ o) (lines_of r ++ u) (ctx-child n c o w s g r u x)))

-- ── invocations ──

-- The invocation F has the body g, which begins at line F, and is of a row.
pub record Inv (f : Family) (t : List Frame) (F : ℕ) (g : Body) : Type 0 where
  pub row : ℕ
  pub of : Of f row g
  pub around : List ℕ
  pub post : List Frame
  pub ctx : Ctx t F (F ∷ around) (lines_of g ++ post)
  pub paid : Paid g

-- one that a line opened
pub inner : {f : Family} (t : List Frame) (n : ℕ) (o : List ℕ) (g : Body) (u : List Frame) (s : ℕ) → Of f s g → Ctx t (suc n) (suc n ∷ o) (lines_of g ++ u) → Paid g → Inv f t (suc n) g
inner t n o g u s y x h = record { row = s; of = y; around = o; post = u; ctx = x; paid = h }

module _ {f : Family} (D : ℕ) (t : List Frame) (p : PartsOf f D t) where
  pub whole : t ≡ lines_of p.body ++ []
  whole = p.lines ∙ sym (append-nil (lines_of p.body))

  pub root-ctx : Ctx t root (root ∷ []) (lines_of p.body ++ [])
  root-ctx =
      record {
        pre = [];
        whole = whole;
        count = refl;
        opened = refl;
        low = (omega arith, tt, tt);
        rooted = refl;
        alive = alive p.body root root [] [] tt;
      }

  pub root-paid : Paid p.body
  root-paid = paid (sites t) D 1 p.body p.within

  -- LAW: the root is an invocation with the trace's body
  pub root_inv : Inv f t root p.body
  root_inv = record { row = 0; of = p.of; around = []; post = []; ctx = root-ctx; paid = root-paid }

-- ── the invocation that a line opens ──

abbrev Makes : List Frame → ℕ → ℕ → Type 0
Makes u k i = (w : Way) × Is u k (opening w i)

module _ (f : Family) (t : List Frame) where
  abbrev Opens : Body → Type 0
  Opens b = (s n c : ℕ) (o : List ℕ) (u : List Frame) → Of f s b → Ctx t n (c ∷ o) (lines_of b ++ u) → Paid b → (k i : ℕ) → Makes (lines_of b) k i → (g : Body) × Inv f t (suc (n + k)) g

  found_at : (m k : ℕ) → m ≡ k → (g : Body) × Inv f t (suc m) g → (g : Body) × Inv f t (suc k) g
  found_at m k e w = subst (λ (j : ℕ). (g : Body) × Inv f t (suc j) g) e w

  opens_two : (g r : Body) → Opens g → Opens r → (v s n c : ℕ) (o : List ℕ) (u : List Frame) → Of f v g → Of f s r → Ctx t (suc n) (suc n ∷ c ∷ o) (lines_of g ++ (lines_of r ++ u)) → Paid g → Paid r
      → (k i : ℕ) → Makes (lines_of g ++ lines_of r) k i → (b : Body) × Inv f t (suc (n + suc k)) b
  opens_two g r p q v s n c o u y z x pg pr k i h = elim (below (size g) k) [
    | inl l ↦ found_at (suc n + k) (n + suc k) (omega arith) (p v (suc n) (suc n) (c ∷ o) (lines_of r ++ u) y x pg k i (h.0, is-left (lines_of g) (lines_of r) k (opening h.0 i) (omega (arith, size_is g)) h.1))
    | inr w ↦ found_at (suc n + size g + w.0) (n + suc k) (omega (arith, w.1)) (q s (suc n + size g) c o u z (ctx_skip t g (suc n) (suc n) (c ∷ o) (lines_of r ++ u) x) pr w.0 i (h.0, right w))
  ]
    where
      right : (w : (j : ℕ) × (k ≡ size g + j)) → Is (lines_of r) w.0 (opening h.0 i)
      right w =
          let e : k ≡ length (lines_of g) + w.0 = omega (arith, w.1, size_is g) in
          subst (λ (A : Type 0). A) (is-append (lines_of g) (lines_of r) w.0 (opening h.0 i)) (subst (λ (j : ℕ). Is (lines_of g ++ lines_of r) j (opening h.0 i)) e h.1)

  opens : (b : Body) → Opens b
  opens done s n c o u y x h zero i m = return_not_opening m.0 i m.1
  opens done s n c o u y x h (suc k) i m = absurd m.1
  opens (leaf l r) s n c o u y x h zero i m = leaf_not_opening l m.0 i m.1
  opens (leaf l r) s n c o u y x h (suc k) i m = found_at (suc n + k) (n + suc k) (omega arith) (opens r s (suc n) c o u y.1 (ctx-leaf t n c o l (lines_of r ++ u) x) h.1 k i m)
  opens (child w v g r) s n c o u y x h zero i m = found_at n (n + 0) (omega arith) (g, inner t n (c ∷ o) g (lines_of r ++ u) v y.1 (ctx-child t n c o w v g r u x) h.0)
  opens (child w v g r) s n c o u y x h (suc k) i m = opens_two g r (opens g) (opens r) v s n c o u y.1 y.2 (ctx-child t n c o w v g r u x) h.0 h.1 k i m

-- LAW: every line that opens something opens it with a body
pub made_inv : {f : Family} (D : ℕ) (t : List Frame) → PartsOf f D t → (k i : ℕ) → Makes t k i → (g : Body) × Inv f t (suc k) g
made_inv {f = f} D t p k i m =
    found_at f t (root + k) k (omega arith)
    (opens f t p.body 0 root root [] [] p.of (root-ctx D t p) (root-paid D t p) k i (m.0, subst (λ (z : List Frame). Is z k (opening m.0 i)) p.lines m.1))

-- ── sums over the invocations of a row ──

module _ (f : Family) (t : List Frame) (s : ℕ) (p : ℕ → ℕ → Type 0) (h : Body → ℕ) (is : (F : ℕ) (g : Body) → Inv f t F g → p F (h g)) where
  abbrev Adds : Body → Type 0
  Adds b = (v n c : ℕ) (o : List ℕ) (u : List Frame) (q : ℕ) → Of f v b → Paid b → Ctx t n (c ∷ o) (lines_of b ++ u) → Sum p (made (n + size b) u s) q → Sum p (made n (lines_of b ++ u) s) (made_sum h s b + q)

  move : (m k : ℕ) (u : List Frame) (q : ℕ) → m ≡ k → Sum p (made m u s) q → Sum p (made k u s) q
  move m k u q e w = subst (λ (j : ℕ). Sum p (made j u s) q) e w

  one_more : (b : Bool) (F a q : ℕ) (l : List ℕ) → p F a → Sum p l q → Sum p (cond b (F ∷ l) l) (cond b a 0 + q)
  one_more true F a q l x y = (a, q, x, y, refl)
  one_more false F a q l x y = let e : q ≡ 0 + q = omega arith in subst (Sum p l) e y

  pub made-leaf : (l : Leaf) (n : ℕ) (u : List Frame) → made n (line_of l ∷ u) s ≡ made (suc n) u s
  made-leaf l n u = ap (λ (b : Bool). cond b (suc n ∷ made (suc n) u s) (made (suc n) u s)) (leaf-makes (λ i. eqb i s) false l)

  pub made-opening : (w : Way) (i n : ℕ) (u : List Frame) → made n (opening w i ∷ u) s ≡ cond (invokes w && eqb i s) (suc n ∷ made (suc n) u s) (made (suc n) u s)
  made-opening w i n u = ap (λ (b : Bool). cond b (suc n ∷ made (suc n) u s) (made (suc n) u s)) (opening-makes (λ i. eqb i s) w i)

  adds : (b : Body) → Adds b
  adds done v n c o u q y pd x w =
      let e : q ≡ 0 + q = omega arith in
      subst (Sum p (made (suc n) u s)) e (move (n + 1) (suc n) u q (omega arith) w)
  adds (leaf l r) v n c o u q y pd x w =
      subst (λ (z : List ℕ). Sum p z (made_sum h s r + q)) (sym (made-leaf l n (lines_of r ++ u)))
      (adds r v (suc n) c o u q y.1 pd.1 (ctx-leaf t n c o l (lines_of r ++ u) x) (move (n + suc (size r)) (suc n + size r) u q (omega arith) w))
  adds (child m i g r) v n c o u q z pd x w =
      let y = ctx-child t n c o m i g r u x in
      let k = (lines_of g ++ lines_of r) ++ u in
      let t' = invokes m && eqb i s in
      let a = adds r v (suc n + size g) c o u q z.2 pd.1 (ctx_skip t g (suc n) (suc n) (c ∷ o) (lines_of r ++ u) y) (move (n + suc (size g + size r)) (suc n + size g + size r) u q (omega arith) w) in
      let b = adds g i (suc n) (suc n) (c ∷ o) (lines_of r ++ u) (made_sum h s r + q) z.1 pd.0 y a in
      let d = subst (λ (l : List Frame). Sum p (made (suc n) l s) (made_sum h s g + (made_sum h s r + q))) (sym (append_assoc (lines_of g) (lines_of r) u)) b in
      let e : cond t' (h g) 0 + (made_sum h s g + (made_sum h s r + q)) ≡ cond t' (h g) 0 + (made_sum h s g + made_sum h s r) + q = omega arith in
      subst (λ (l : List ℕ). Sum p l (made_sum h s (child m i g r) + q)) (sym (made-opening m i n k))
      (subst (Sum p (cond t' (suc n ∷ made (suc n) k s) (made (suc n) k s))) e
      (one_more t' (suc n) (h g) (made_sum h s g + (made_sum h s r + q)) (made (suc n) k s) (is (suc n) g (inner t n (c ∷ o) g (lines_of r ++ u) i z.1 y pd.0)) d))

-- LAW: what is said of each invocation by its body adds up over a row as it does over the tree
pub row-sum : {f : Family} (D : ℕ) (t : List Frame) (x : PartsOf f D t) (p : ℕ → ℕ → Type 0) (h : Body → ℕ) → ((F : ℕ) (g : Body) → Inv f t F g → p F (h g)) → (s : ℕ) → Sum p (of_row t s) (row_sum h s x.body)
row-sum D t x p h is zero = (h x.body, 0, is root x.body (root_inv D t x), refl, omega arith)
row-sum {f = y} D t x p h is (suc s) =
    let f : made_sum h (suc s) x.body + 0 ≡ made_sum h (suc s) x.body = omega arith in
    subst (λ (z : List Frame). Sum p (made 0 z (suc s)) (made_sum h (suc s) x.body)) (sym (whole D t x))
    (subst (Sum p (made 0 (lines_of x.body ++ []) (suc s))) f (adds y t (suc s) p h is x.body 0 root root [] [] 0 x.of (root-paid D t x) (root-ctx D t x) refl))
