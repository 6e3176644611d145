-- Sums over the outermost invocations of a row, by the tree: columns 2 and 3; and no row above the whole.
use mathlib.Core.Path.{◌≡◌, refl, sym, ◌∙◌, ap, ap₂, subst}
use mathlib.Core.Bool.{Bool, true, false, cond, ◌||◌, ◌&&◌}
use mathlib.Core.List.{List, [], ◌∷◌, ◌++◌, append_assoc}
use Prim.Native.Nat.{ℕ, zero, suc, ◌+◌, ◌≤◌}
use native.Mathlib.Omega.{arith}
use lib.Dec.{eqb}
use Rattle.line.specs.Family.{Family}
use Rattle.line.specs.declared.Frame.{Frame}
use Rattle.trace.specs.Shape.{Is, root, has}
use Rattle.trace.specs.Series.{SpanOf}
use Rattle.trace.specs.Rows.{made, has_of, enclosed, unenclosed, outermost, total, inside, Sum, work, SpansOf}
use Rattle.trace.specs.Refusals.{accepted, verdict_of}
use Rattle.trace.specs.Tree.{Way, invokes, opening, Body, done, leaf, child, Of, lines_of, size, PartsOf, work_of, span_of, outer_sum, outer_row, work_in, spans_in}
use Rattle.trace.proofs.Sums.{not_made, has-made}
use Rattle.trace.proofs.Recurrence.{Paid}
use Rattle.trace.proofs.Context.{Ctx, open_here, first-is}
use Rattle.trace.proofs.Invocations.{Inv, inner, ctx-leaf, ctx-child, ctx_skip, root-ctx, root_inv, root-paid, made-leaf, made-opening, whole}
use Rattle.trace.proofs.Stretches.{span_is, inside_is}
use Rattle.trace.proofs.Parse.{accepted-parts-of}
use Rattle.trace.proofs.Columns.{sum-from, makes-at, total-tree}
use Rattle.trace.proofs.AtMost.{spans_le}

-- ── the sum over the tree ──

-- the invocation that line n makes is of row s exactly where its site is s; a finish is of none
pub of-site : (t : List Frame) (n i s : ℕ) (w : Way) → Is t n (opening w i) → has (suc n) (made 0 t s) ≡ (invokes w && eqb i s)
of-site t n i s w h =
    let q : suc n ≡ suc (0 + n) = omega arith in
    ap (λ (c : ℕ). has c (made 0 t s)) q ∙ has-made 0 t n s ∙ makes-at t n i s w h

-- the row of a site
module _ (f : Family) (t : List Frame) (s : ℕ) (p : ℕ → ℕ → Type 0) (h : Body → ℕ) (is : (F : ℕ) (g : Body) → Inv f t F g → p F (h g)) where
  abbrev row : ℕ
  row = suc s

  abbrev Outer : ℕ → List Frame → ℕ → Type 0
  Outer n u q = Sum p (unenclosed t row (made n u row)) q

  -- z: one of the row is open at the body's lines
  abbrev Adds : Body → Type 0
  Adds b = (v n c : ℕ) (o : List ℕ) (u : List Frame) (q : ℕ) (z : Bool) → Of f v b → Paid b → has_of t row (c ∷ o) ≡ z
      → Ctx t n (c ∷ o) (lines_of b ++ u) → Outer (n + size b) u q → Outer n (lines_of b ++ u) (cond z 0 (outer_sum h row b) + q)

  move : (m k : ℕ) (u : List Frame) (q : ℕ) → m ≡ k → Outer m u q → Outer k u q
  move m k u q e w = subst (λ (j : ℕ). Outer j u q) e w

  -- one more invocation F: it counts where it is of the row (b) and none of the row is open around it (z)
  one_more : (b z : Bool) (F a q : ℕ) (l : List ℕ) → enclosed t row F ≡ z → p F a → Sum p (unenclosed t row l) q
      → Sum p (unenclosed t row (cond b (F ∷ l) l)) (cond b (cond z 0 a) 0 + q)
  one_more true true F a q l e x y =
      let d : q ≡ 0 + q = omega arith in
      subst (λ (b : Bool). Sum p (cond b (unenclosed t row l) (F ∷ unenclosed t row l)) (0 + q)) (sym e) (subst (Sum p (unenclosed t row l)) d y)
  one_more true false F a q l e x y =
      subst (λ (b : Bool). Sum p (cond b (unenclosed t row l) (F ∷ unenclosed t row l)) (a + q)) (sym e) (a, q, x, y, refl)
  one_more false z F a q l e x y = let d : q ≡ 0 + q = omega arith in subst (Sum p (unenclosed t row l)) d y

  -- a child of the row (b) or not, where one of the row is open (z) or not
  together : (b z : Bool) (x y r q : ℕ) → cond b (cond z 0 x) 0 + (cond (b || z) 0 y + (cond z 0 r + q)) ≡ cond z 0 (cond b x y + r) + q
  together true true x y r q = omega arith
  together true false x y r q = omega arith
  together false true x y r q = omega arith
  together false false x y r q = omega arith

  adds : (b : Body) → Adds b
  adds done v n c o u q z y pd k x w = subst (Sum p (unenclosed t row (made (suc n) u row))) (nothing z) (move (n + 1) (suc n) u q (omega arith) w)
    where
      nothing : (z : Bool) → q ≡ cond z 0 0 + q
      nothing true = omega arith
      nothing false = omega arith
  adds (leaf l r) v n c o u q z y pd k x w =
      subst (λ (m : List ℕ). Sum p (unenclosed t row m) (cond z 0 (outer_sum h row r) + q)) (sym (made-leaf f t row p h is l n (lines_of r ++ u)))
      (adds r v (suc n) c o u q z y.1 pd.1 k (ctx-leaf t n c o l (lines_of r ++ u) x) (move (n + suc (size r)) (suc n + size r) u q (omega arith) w))
  adds (child m i g r) j n c o u q z f' pd k x w =
      let y = ctx-child t n c o m i g r u x in
      let v = (lines_of g ++ lines_of r) ++ u in
      let of = invokes m && eqb i row in
      let rest = cond z 0 (outer_sum h row r) + q in
      let is_of_row = of-site t n i row m (first-is t n (c ∷ o) (opening m i) v x) in
      let around = ap (has_of t row) (open_here t n (c ∷ o) (opening m i ∷ v) x) ∙ k in
      let a = adds r j (suc n + size g) c o u q z f'.2 pd.1 k (ctx_skip t g (suc n) (suc n) (c ∷ o) (lines_of r ++ u) y)
      (move (n + suc (size g + size r)) (suc n + size g + size r) u q (omega arith) w) in
      let b = adds g i (suc n) (suc n) (c ∷ o) (lines_of r ++ u) rest (of || z) f'.1 pd.0 (ap₂ (λ (v w : Bool). v || w) is_of_row k) y a in
      let d = subst (λ (l : List Frame). Outer (suc n) l (cond (of || z) 0 (outer_sum h row g) + rest))
      (sym (append_assoc (lines_of g) (lines_of r) u)) b in
      subst (λ (l : List ℕ). Sum p (unenclosed t row l) (cond z 0 (outer_sum h row (child m i g r)) + q)) (sym (made-opening f t row p h is m i n v))
      (subst (Sum p (unenclosed t row (cond of (suc n ∷ made (suc n) v row) (made (suc n) v row))))
      (together of z (h g) (outer_sum h row g) (outer_sum h row r) q)
      (one_more of z (suc n) (h g) (cond (of || z) 0 (outer_sum h row g) + rest) (made (suc n) v row) around
      (is (suc n) g (inner t n (c ∷ o) g (lines_of r ++ u) i f'.1 y pd.0)) d))

-- LAW: what is said of each invocation by its body adds up over the outermost of a row as it does over those of the tree
pub outer_sum_is : {f : Family} (D : ℕ) (t : List Frame) (x : PartsOf f D t) (p : ℕ → ℕ → Type 0) (h : Body → ℕ)
    → ((F : ℕ) (g : Body) → Inv f t F g → p F (h g)) → (s : ℕ) → Sum p (outermost t s) (outer_row h s x.body)
outer_sum_is D t x p h is zero = (h x.body, 0, is root x.body (root_inv D t x), refl, omega arith)
outer_sum_is {f = y} D t x p h is (suc s) =
    let f : outer_sum h (suc s) x.body + 0 ≡ outer_sum h (suc s) x.body = omega arith in
    let k : has_of t (suc s) (root ∷ []) ≡ false = ap (λ (b : Bool). b || false) (not_made 0 t (suc s) root (omega arith)) in
    subst (λ (z : List Frame). Sum p (unenclosed t (suc s) (made 0 z (suc s))) (outer_sum h (suc s) x.body)) (sym (whole D t x))
    (subst (Sum p (unenclosed t (suc s) (made 0 (lines_of x.body ++ []) (suc s)))) f
    (adds y t s p h is x.body 0 0 root [] [] 0 false x.of (root-paid D t x) k (root-ctx D t x) refl))

-- ── columns 2 and 3, and no row above the whole ──

either : (b : Bool) (x y z : ℕ) → x ≤ z → y ≤ z → cond b x y ≤ z
either true x y z l m = l
either false x y z l m = m

work-above : (s : ℕ) (b : Body) → outer_sum work_of s b ≤ work_of b
work-above s done = omega arith
work-above s (leaf l r) = omega (arith, work-above s r)
work-above s (child w i g r) =
    omega (arith, either (invokes w && eqb i s) (work_of g) (outer_sum work_of s g) (work_of g) (omega arith) (work-above s g), work-above s r)

row-above : (s : ℕ) (b : Body) → outer_row work_of s b ≤ work_of b
row-above zero b = omega arith
row-above (suc s) b = work-above (suc s) b

module _ {f : Family} (D : ℕ) (t : List Frame) (p : PartsOf f D t) (s : ℕ) where
  -- LAW
  pub work-tree : work t s ≡ work_in s p.body
  work-tree =
      sum-from (inside t) (outermost t s) (work_in s p.body)
      (outer_sum_is D t p (λ F a. inside t F ≡ a) work_of (λ F g i. inside_is t F g i) s)

  -- LAW
  pub spans_tree : SpansOf f t s (spans_in s p.body)
  spans_tree = outer_sum_is D t p (SpanOf f t) span_of (λ F g i. span_is t F g i) s

  -- LAW: no row's work exceeds the total work
  pub work_le : work t s ≤ total t
  work_le = omega (arith, work-tree, total-tree D t p, row-above s p.body)

  -- LAW: nor does a row's span
  pub spans_below : (n : ℕ) → SpansOf f t s n → n ≤ total t
  spans_below n h = omega (arith, spans_le f t s n h, work_le)

-- LAW: of an accepted trace
pub no_row_above : (f : Family) (u : List ℕ) (D M : ℕ) (b : Bool) (t : List Frame) → verdict_of f u D M b ≡ accepted t → (s : ℕ)
    → (work t s ≤ total t) × ((n : ℕ) → SpansOf f t s n → n ≤ total t)
no_row_above f u D M b t e s = let p = accepted-parts-of f u D M b t e in (work_le D t p s, spans_below D t p s)
