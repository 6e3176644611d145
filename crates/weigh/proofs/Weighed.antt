-- A weighed body: its size and its lines, which are the lines of the weighed trace.
use mathlib.Core.Path.{◌≡◌, refl, sym, ◌∙◌, ap}
use mathlib.Core.List.{List, [], ◌∷◌, ◌++◌, append_assoc, append-nil}
use Prim.Native.Nat.{ℕ, suc, ◌+◌}
use native.Mathlib.Omega.{arith}
use Rattle.line.specs.Family.{Family, Base, Finishes}
use Rattle.line.specs.declared.Frame.{Frame}
use Rattle.line.specs.declared.Frame.TheVariants.{Site, Call, Spawn, Sync, Return, Cost, Instructions, Async, Finish}
use Rattle.trace.specs.Tree.{Way, call, spawn, async, pass, finish, opening, site, carry, Leaf, spend, sync, note, line_of, LeafWithin, Body, done, leaf, child, LeafOf, WayOf, Of, lines_of, size, Within}
use Rattle.weigh.specs.Cost.{costing}
use Rattle.weigh.specs.Weighed.{Weigh, plainly, Tabled, weighed_leaf, weighed, innermost, row_step, reweighed}

pub weighed-size : (w : Weigh) (b : Body) (n s : ℕ) → size (weighed w n s b) ≡ size b
weighed-size w done n s = refl
weighed-size w (leaf l r) n s = ap suc (weighed-size w r (suc n) s)
weighed-size w (child y i g r) n s = omega (arith, weighed-size w g (suc n) i, weighed-size w r (suc n + size g) s)

plain-leaf : (l : Leaf) (n s : ℕ) → weighed_leaf plainly n s l ≡ l
plain-leaf (spend v) n s = refl
plain-leaf sync n s = refl
plain-leaf (note x) n s = refl

-- LAW: weighed as it stands, a body is as it was
pub weighed-plainly : (b : Body) (n s : ℕ) → weighed plainly n s b ≡ b
weighed-plainly done n s = refl
weighed-plainly (leaf l r) n s = rw (plain-leaf l n s, weighed-plainly r (suc n) s)
weighed-plainly (child y i g r) n s = rw (weighed-plainly g (suc n) i, weighed-plainly r (suc n + size g) s)

within-leaf : (w : Weigh) → Tabled w → (l : Leaf) (n s : ℕ) → LeafWithin l → LeafWithin (weighed_leaf w n s l)
within-leaf w h (spend v) n s k = h n s v k.0 k.1
within-leaf w h sync n s k = tt
within-leaf w h (note x) n s k = k

-- LAW: it keeps its sites and its depth, and its costs stay in the table
pub weighed-within : (w : Weigh) → Tabled w → (m D d : ℕ) (b : Body) (n s : ℕ) → Within m D d b → Within m D d (weighed w n s b)
weighed-within w h m D d done n s k = tt
weighed-within w h m D d (leaf l r) n s k = (within-leaf w h l n s k.0, weighed-within w h m D d r (suc n) s k.1)
weighed-within w h m D d (child y i g r) n s k =
    (k.0, k.1, k.2, weighed-within w h m D (suc d) g (suc n) i k.3, weighed-within w h m D d r (suc n + size g) s k.4)

of_leaf : (f : Family) (w : Weigh) (l : Leaf) (n s : ℕ) → LeafOf f l → LeafOf f (weighed_leaf w n s l)
of_leaf Base w l n s h = tt
of_leaf Finishes w (spend v) n s h = tt
of_leaf Finishes w sync n s h = h
of_leaf Finishes w (note x) n s h = tt

-- LAW: it is of the same family
pub weighed-of : (f : Family) (w : Weigh) (b : Body) (n s : ℕ) → Of f s b → Of f s (weighed w n s b)
weighed-of f w done n s h = tt
weighed-of f w (leaf l r) n s h = (of_leaf f w l n s h.0, weighed-of f w r (suc n) s h.1)
weighed-of f w (child y i g r) n s h = (h.0, weighed-of f w g (suc n) i h.1, weighed-of f w r (suc n + size g) s h.2)

-- ── its lines ──

pub leaf-costing : (w : Weigh) (l : Leaf) (n s : ℕ) → costing (w n s) (line_of l) ≡ line_of (weighed_leaf w n s l)
leaf-costing w (spend v) n s = refl
leaf-costing w sync n s = refl
leaf-costing w (note (site i p)) n s = refl
leaf-costing w (note (carry v)) n s = refl

leaf-rows : (l : Leaf) (o : List ℕ) → row_step (line_of l) o ≡ o
leaf-rows (spend v) o = refl
leaf-rows sync o = refl
leaf-rows (note (site i p)) o = refl
leaf-rows (note (carry v)) o = refl

pub opening-costing : (g : ℕ → ℕ) (y : Way) (i : ℕ) → costing g (opening y i) ≡ opening y i
opening-costing g call i = refl
opening-costing g spawn i = refl
opening-costing g async i = refl
opening-costing g pass i = refl
opening-costing g finish i = refl

opening-rows : (f : Family) (s : ℕ) (y : Way) (i : ℕ) (o : List ℕ) → WayOf f s y i → row_step (opening y i) (s ∷ o) ≡ i ∷ s ∷ o
opening-rows f s call i o h = refl
opening-rows f s spawn i o h = refl
opening-rows f s async i o h = refl
opening-rows f s pass i o h = refl
opening-rows Base s finish i o h = absurd h
opening-rows Finishes s finish i o h = ap (λ (r : ℕ). r ∷ s ∷ o) (sym h)

module _ (f : Family) (w : Weigh) where
  -- LAW: the lines of a weighed body are the lines weighed
  pub reweighed-lines : (b : Body) (n s : ℕ) (o : List ℕ) (u : List Frame) → Of f s b → reweighed w n (s ∷ o) (lines_of b ++ u) ≡ lines_of (weighed w n s b) ++ reweighed w (n + size b) o u
  reweighed-lines done n s o u h = let e : suc n ≡ n + 1 = omega arith in ap (λ (k : ℕ). Return ∷ reweighed w k o u) e
  reweighed-lines (leaf l r) n s o u h =
      let e : suc n + size r ≡ n + suc (size r) = omega arith in
      ap (λ (f : Frame). f ∷ reweighed w (suc n) (row_step (line_of l) (s ∷ o)) (lines_of r ++ u)) (leaf-costing w l n s)
      ∙ ap (λ (p : List ℕ). line_of (weighed_leaf w n s l) ∷ reweighed w (suc n) p (lines_of r ++ u)) (leaf-rows l (s ∷ o))
      ∙ ap (λ (k : List Frame). line_of (weighed_leaf w n s l) ∷ k) (reweighed-lines r (suc n) s o u h.1)
      ∙ ap (λ (k : ℕ). line_of (weighed_leaf w n s l) ∷ (lines_of (weighed w (suc n) s r) ++ reweighed w k o u)) e
  reweighed-lines (child y i g r) n s o u h =
      let e : suc n + size g + size r ≡ n + suc (size g + size r) = omega arith in
      ap (λ (f : Frame). f ∷ reweighed w (suc n) (row_step (opening y i) (s ∷ o)) ((lines_of g ++ lines_of r) ++ u)) (opening-costing (w n s) y i)
      ∙ ap (λ (p : List ℕ). opening y i ∷ reweighed w (suc n) p ((lines_of g ++ lines_of r) ++ u)) (opening-rows f s y i o h.0)
      ∙ ap (λ (k : List Frame). opening y i ∷ reweighed w (suc n) (i ∷ s ∷ o) k) (append_assoc (lines_of g) (lines_of r) u)
      ∙ ap (λ (k : List Frame). opening y i ∷ k) (reweighed-lines g (suc n) i (s ∷ o) (lines_of r ++ u) h.1)
      ∙ ap (λ (k : List Frame). opening y i ∷ (lines_of (weighed w (suc n) i g) ++ k)) (reweighed-lines r (suc n + size g) s o u h.2)
      ∙ ap (λ (k : ℕ). opening y i ∷ (lines_of (weighed w (suc n) i g) ++ (lines_of (weighed w (suc n + size g) s r) ++ reweighed w k o u))) e
      ∙ ap (λ (k : List Frame). opening y i ∷ k)
      (sym (append_assoc (lines_of (weighed w (suc n) i g)) (lines_of (weighed w (suc n + size g) s r)) (reweighed w (n + suc (size g + size r)) o u)))

  -- LAW: so of a whole trace
  pub reweighed-trace : (b : Body) → Of f 0 b → reweighed w 0 (0 ∷ []) (lines_of b) ≡ lines_of (weighed w 0 0 b)
  reweighed-trace b h =
      ap (reweighed w 0 (0 ∷ [])) (sym (append-nil (lines_of b))) ∙ reweighed-lines b 0 0 [] [] h ∙ append-nil (lines_of (weighed w 0 0 b))

-- ── by what else the lines are weighed ──

pub same-costing : (g h : ℕ → ℕ) → ((v : ℕ) → g v ≡ h v) → (f : Frame) → costing g f ≡ costing h f
same-costing g h k (Site s p) = refl
same-costing g h k (Call s) = refl
same-costing g h k (Spawn s) = refl
same-costing g h k Sync = refl
same-costing g h k Return = refl
same-costing g h k (Cost v) = ap Cost (k v)
same-costing g h k (Instructions v) = refl
same-costing g h k (Async s) = refl
same-costing g h k Finish = refl

-- LAW: the weighed trace is one where each line weighs the same
pub reweighed-same : (w x : Weigh) → ((n s v : ℕ) → w n s v ≡ x n s v) → (t : List Frame) (n : ℕ) (o : List ℕ) → reweighed w n o t ≡ reweighed x n o t
reweighed-same w x k [] n o = refl
reweighed-same w x k (f ∷ t) n o =
    ap (λ (e : Frame). e ∷ reweighed w (suc n) (row_step f o) t) (same-costing (w n (innermost o)) (x n (innermost o)) (k n (innermost o)) f)
    ∙ ap (λ (l : List Frame). costing (x n (innermost o)) f ∷ l) (reweighed-same w x k t (suc n) (row_step f o))

pub plain-costing : (f : Frame) → costing (λ v. v) f ≡ f
plain-costing (Site s p) = refl
plain-costing (Call s) = refl
plain-costing (Spawn s) = refl
plain-costing Sync = refl
plain-costing Return = refl
plain-costing (Cost v) = refl
plain-costing (Instructions v) = refl
plain-costing (Async s) = refl
plain-costing Finish = refl

-- LAW: weighed as it stands, a trace is as it was
pub reweighed-plainly : (t : List Frame) (n : ℕ) (o : List ℕ) → reweighed plainly n o t ≡ t
reweighed-plainly [] n o = refl
reweighed-plainly (f ∷ t) n o =
    ap (λ (e : Frame). e ∷ reweighed plainly (suc n) (row_step f o) t) (plain-costing f) ∙ ap (λ (l : List Frame). f ∷ l) (reweighed-plainly t (suc n) (row_step f o))
