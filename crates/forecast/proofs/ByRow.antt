-- The rewritten trace by the rows of the open invocations: it is the trace weighed by the entries.
use mathlib.Core.Path.{◌≡◌, refl, sym, ◌∙◌, ap}
use mathlib.Core.Bool.{Bool, true, false, cond, ◌&&◌, ◌||◌}
use mathlib.Core.List.{List, [], ◌∷◌, ◌++◌, append_assoc, append-nil}
use Prim.Native.Nat.{ℕ, zero, suc, ◌+◌, ◌≤◌}
use native.Mathlib.Omega.{arith}
use lib.Dec.{eqb}
use borrow.Author.Tests.{eq-eqb, ne_eqb}
use Rattle.line.specs.Family.{Base}
use Rattle.line.specs.declared.Frame.{Frame}
use Rattle.line.specs.declared.Frame.TheVariants.{Return}
use Rattle.trace.specs.Shape.{Is, root, step, has, sites}
use Rattle.trace.specs.Rows.{of_row}
use Rattle.trace.specs.Tree.{Way, call, spawn, async, pass, finish, invokes, opening, line_of, Body, done, leaf, child, WayOf, Of, lines_of, size, Sited, Within, Parts}
use Rattle.trace.proofs.Tree.{leaf-step, opening-step}
use Rattle.trace.proofs.Sums.{not_made}
use Rattle.trace.proofs.Context.{Ctx, first-is}
use Rattle.trace.proofs.Invocations.{ctx-leaf, ctx-child, ctx_skip, root-ctx, whole}
use Rattle.trace.proofs.Outermost.{of-site}
use Rattle.weigh.specs.Cost.{costing}
use Rattle.weigh.specs.Weighed.{weighed_leaf, weighed, reweighed}
use Rattle.weigh.proofs.Weighed.{leaf-costing, opening-costing, reweighed-trace}
use Rattle.forecast.specs.declared.Entry.{Entry}
use Rattle.forecast.specs.Rewritten.{divided, factor_of, factor_at, rewritten_from, rewritten}
use Rattle.forecast.specs.ByRow.{row_factor, by_entries}

-- ── the row of an invocation ──

-- invocation F is of row s, and of no other
abbrev OfRow : List Frame → ℕ → ℕ → Type 0
OfRow t F s = (q : ℕ) → has F (of_row t q) ≡ eqb s q

of-root : (t : List Frame) → OfRow t root 0
of-root t zero = ap (λ (b : Bool). b || false) (eq-eqb 0 0 refl) ∙ sym (eq-eqb 0 0 refl)
of-root t (suc q) = not_made 0 t (suc q) root (omega arith) ∙ sym (ne_eqb 0 (suc q) (λ e. omega arith))

of-made : (t : List Frame) (n i : ℕ) (w : Way) → invokes w ≡ true → 1 ≤ i → Is t n (opening w i) → OfRow t (suc n) i
of-made t n i w y l h zero = ap (λ (b : Bool). b || false) (ne_eqb (suc n) root (λ e. omega arith)) ∙ sym (ne_eqb i 0 (λ e. omega arith))
of-made t n i w y l h (suc q) = of-site t n i (suc q) w h ∙ ap (λ (b : Bool). b && eqb i (suc q)) y

-- what a trace of document 01 opens is of the row of its site
of-child : (t : List Frame) (n s i : ℕ) (w : Way) → WayOf Base s w i → Sited w i → Is t n (opening w i) → OfRow t (suc n) i
of-child t n s i call y l h = of-made t n i call refl l h
of-child t n s i spawn y l h = of-made t n i spawn refl l h
of-child t n s i async y l h = absurd y
of-child t n s i pass y l h = absurd y
of-child t n s i finish y l h = absurd y

-- its factor
factor_same : (es : List Entry) (t : List Frame) (F s : ℕ) → OfRow t F s → factor_of es t F ≡ row_factor es s
factor_same [] t F s h = refl
factor_same (e ∷ es) t F s h =
    ap (λ (b : Bool). cond b e.factor (factor_of es t F)) (h e.row)
    ∙ ap (λ (k : ℕ). cond (eqb s e.row) e.factor k) (factor_same es t F s h)

-- ── the lines ──

module _ (es : List Entry) (t : List Frame) where
  same_line : (n F s : ℕ) (o : List ℕ) (f : Frame) → OfRow t F s → costing (λ v. divided v (factor_at es t (F ∷ o))) f ≡ costing (by_entries es n s) f
  same_line n F s o f h = ap (λ (k : ℕ). costing (λ v. divided v k) f) (factor_same es t F s h)

  lines-of : (m D d : ℕ) (b : Body) (n F s : ℕ) (o : List ℕ) (u : List Frame) → Of Base s b → Within m D d b → OfRow t F s → Ctx t n (F ∷ o) (lines_of b ++ u)
      → rewritten_from es t n (F ∷ o) (lines_of b ++ u) ≡ lines_of (weighed (by_entries es) n s b) ++ rewritten_from es t (n + size b) o u
  lines-of m D d done n F s o u f k h x = let e : suc n ≡ n + 1 = omega arith in ap (λ (j : ℕ). Return ∷ rewritten_from es t j o u) e
  lines-of m D d (leaf l r) n F s o u f k h x =
      let e : suc n + size r ≡ n + suc (size r) = omega arith in
      let w = by_entries es in
      let here = line_of (weighed_leaf w n s l) in
      ap (λ (f : Frame). f ∷ rewritten_from es t (suc n) (step n (line_of l) (F ∷ o)) (lines_of r ++ u)) (same_line n F s o (line_of l) h ∙ leaf-costing w l n s)
      ∙ ap (λ (p : List ℕ). here ∷ rewritten_from es t (suc n) p (lines_of r ++ u)) (leaf-step l n (F ∷ o))
      ∙ ap (λ (z : List Frame). here ∷ z) (lines-of m D d r (suc n) F s o u f.1 k.1 h (ctx-leaf t n F o l (lines_of r ++ u) x))
      ∙ ap (λ (j : ℕ). here ∷ (lines_of (weighed w (suc n) s r) ++ rewritten_from es t j o u)) e
  lines-of m D d (child y i g r) n F s o u f k h x =
      let e : suc n + size g + size r ≡ n + suc (size g + size r) = omega arith in
      let w = by_entries es in
      let inner = ctx-child t n F o y i g r u x in
      let made = of-child t n s i y f.0 k.0 (first-is t n (F ∷ o) (opening y i) ((lines_of g ++ lines_of r) ++ u) x) in
      ap (λ (f : Frame). f ∷ rewritten_from es t (suc n) (step n (opening y i) (F ∷ o)) ((lines_of g ++ lines_of r) ++ u)) (opening-costing (λ v. divided v (factor_at es t (F ∷ o))) y i)
      ∙ ap (λ (p : List ℕ). opening y i ∷ rewritten_from es t (suc n) p ((lines_of g ++ lines_of r) ++ u)) (opening-step y i n (F ∷ o))
      ∙ ap (λ (z : List Frame). opening y i ∷ rewritten_from es t (suc n) (suc n ∷ F ∷ o) z) (append_assoc (lines_of g) (lines_of r) u)
      ∙ ap (λ (z : List Frame). opening y i ∷ z) (lines-of m D (suc d) g (suc n) (suc n) i (F ∷ o) (lines_of r ++ u) f.1 k.3 made inner)
      ∙ ap (λ (z : List Frame). opening y i ∷ (lines_of (weighed w (suc n) i g) ++ z))
      (lines-of m D d r (suc n + size g) F s o u f.2 k.4 h (ctx_skip t g (suc n) (suc n) (F ∷ o) (lines_of r ++ u) inner))
      ∙ ap (λ (j : ℕ). opening y i ∷ (lines_of (weighed w (suc n) i g) ++ (lines_of (weighed w (suc n + size g) s r) ++ rewritten_from es t j o u))) e
      ∙ ap (λ (z : List Frame). opening y i ∷ z)
      (sym (append_assoc (lines_of (weighed w (suc n) i g)) (lines_of (weighed w (suc n + size g) s r)) (rewritten_from es t (n + suc (size g + size r)) o u)))

  -- LAW: the rewritten trace is the trace weighed by the entries
  pub rewritten-weighed : (D : ℕ) → Parts D t → rewritten es t ≡ reweighed (by_entries es) 0 (0 ∷ []) t
  rewritten-weighed D p =
      let w = by_entries es in
      ap (rewritten_from es t 0 (root ∷ [])) (whole D t p)
      ∙ lines-of (sites t) D 1 p.body 0 root 0 [] [] p.of p.within (of-root t) (root-ctx D t p)
      ∙ append-nil (lines_of (weighed w 0 0 p.body))
      ∙ sym (reweighed-trace Base w p.body p.of)
      ∙ ap (reweighed w 0 (0 ∷ [])) (sym p.lines)
