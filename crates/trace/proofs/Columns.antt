-- Columns 1 and 4 to 7 by the tree: what an engine adds up. Columns 4 to 7 by the costs of the plan, each with its row,
-- once for both measures.
use mathlib.Core.Path.{◌≡◌, refl, sym, ◌∙◌, ap, subst}
use mathlib.Core.Bool.{Bool, true, false, cond, ◌&&◌, and-true}
use mathlib.Core.List.{List, [], ◌∷◌, ◌++◌, append_assoc}
use Prim.Native.Nat.{ℕ, zero, suc, ◌+◌, ◌≤◌}
use native.Mathlib.Omega.{arith}
use lib.ListN.{length}
use lib.Dec.{eqb}
use borrow.Author.Tests.{eq-eqb, ne_eqb}
use Rattle.line.specs.Family.{Family, Base, Finishes}
use Rattle.line.specs.declared.Frame.{Frame}
use Rattle.line.specs.declared.Frame.TheVariants.{Return, Finish}
use Rattle.chain.specs.Plan.{CostLine, costs}
use Rattle.trace.specs.Shape.{Is, root, step, has, sites}
use Rattle.trace.specs.Async.{is_finish, owner_is}
use Rattle.trace.specs.Rows.{makes, made, of_row, sum_of, costs_where, total, itotal, direct, direct_on, sum, Sum, calls, local, ilocal}
use Rattle.trace.specs.Tree.{Way, call, spawn, async, pass, finish, invokes, opening, WayOf, Of, Sited, Leaf, spend, sync, note, line_of, leaf_work, Body, done, leaf, child, lines_of, ahead, size, all_of, direct_of, Within, PartsOf, work_of, instructions_of, made_sum, row_sum, calls_in, local_in, ilocal_in}
use Rattle.trace.specs.Fold.{cost_at, plan}
use Rattle.trace.proofs.Basics.{cond_same, cond_add}
use Rattle.trace.proofs.Tree.{leaf-step, opening-step, opening-makes}
use Rattle.trace.proofs.Measures.{Measured, by_cycles, by_instructions}
use Rattle.trace.proofs.Plans.{costs-two}
use Rattle.trace.proofs.Sums.{not_made, makes_at, has-made, sum-made, sum-zero, sum-add, sum_same}
use Rattle.trace.proofs.Context.{Ctx, first-is}
use Rattle.trace.proofs.Invocations.{ctx-leaf, ctx-child, ctx_skip, root-ctx, whole, row-sum}
use Rattle.trace.proofs.Nearest.{finish-at}
use Rattle.trace.proofs.Stretches.{all-costs}

-- ── column 1 ──

pub sum-from : (f : ℕ → ℕ) (l : List ℕ) (n : ℕ) → Sum (λ F a. f F ≡ a) l n → sum f l ≡ n
sum-from f [] n h = sym h
sum-from f (x ∷ l) n h = omega (arith, h.2, h.4, sum-from f l h.1 h.3)

count-from : (l : List ℕ) (n : ℕ) → Sum (λ F a. a ≡ 1) l n → length l ≡ n
count-from [] n h = sym h
count-from (x ∷ l) n h = omega (arith, h.2, h.4, count-from l h.1 h.3)

module _ {f : Family} (D : ℕ) (t : List Frame) (p : PartsOf f D t) (s : ℕ) where
  -- LAW
  pub calls-tree : calls t s ≡ calls_in s p.body
  calls-tree = count-from (of_row t s) (calls_in s p.body) (row-sum D t p (λ F a. a ≡ 1) (λ g. 1) (λ F g i. refl) s)

-- ── the costs of the plan, picked by row and by line ──

abbrev pub sum_where : (CostLine → ℕ) → (CostLine → Bool) → List CostLine → ℕ
sum_where m w [] = 0
sum_where m w (x ∷ l) = cond (w x) (m x) 0 + sum_where m w l

where_append : (m : CostLine → ℕ) (w : CostLine → Bool) (l k : List CostLine) → sum_where m w (l ++ k) ≡ sum_where m w l + sum_where m w k
where_append m w [] k = omega arith
where_append m w (x ∷ l) k = omega (arith, where_append m w l k)

where_same : (m : CostLine → ℕ) (w v : CostLine → Bool) → ((x : CostLine) → w x ≡ v x) → (l : List CostLine) → sum_where m w l ≡ sum_where m v l
where_same m w v h [] = refl
where_same m w v h (x ∷ l) = omega (arith, ap (λ (b : Bool). cond b (m x) 0) (h x), where_same m w v h l)

-- a leaf line and the rest; a child's costs and the rest's
pub where_leaf : (m : Measured) (w : CostLine → Bool) (l : Leaf) (n s : ℕ) (r : Body)
    → sum_where m.of_cost w (costs (plan n s (leaf l r))) ≡ cond (w (cost_at n s (leaf_work l) (ahead r))) (m.of_leaf l r) 0 + sum_where m.of_cost w (costs (plan (suc n) s r))
where_leaf m w (spend v) n s r = omega (arith, ap (λ (x : ℕ). cond (w (cost_at n s v (ahead r))) x 0) (m.spend_cost n s v r))
where_leaf m w sync n s r =
    let b = w (cost_at n s 0 (ahead r)) in omega (arith, ap (λ (x : ℕ). cond b x 0) (m.sync_none r), cond_same b)
where_leaf m w (note x) n s r =
    let b = w (cost_at n s 0 (ahead r)) in omega (arith, ap (λ (y : ℕ). cond b y 0) (m.note_none x r), cond_same b)

pub where_two : (m : CostLine → ℕ) (w : CostLine → Bool) (k : Way) (n s i : ℕ) (g r : Body)
    → sum_where m w (costs (plan n s (child k i g r))) ≡ sum_where m w (costs (plan (suc n) i g)) + sum_where m w (costs (plan (suc n + size g) s r))
where_two m w k n s i g r =
    ap (sum_where m w) (costs-two k n s i g r) ∙ where_append m w (costs (plan (suc n) i g)) (costs (plan (suc n + size g) s r))

-- the invocation c is one of row r, once, and of no other row
abbrev Known : List Frame → ℕ → ℕ → Type 0
Known t c r = (s v : ℕ) (b : Bool) → sum (λ F. cond (eqb F c && b) v 0) (of_row t s) ≡ cond (eqb r s && b) v 0

known-root : (t : List Frame) → Known t root 0
known-root t zero v b = omega (arith, ap (λ (x : Bool). cond (x && b) v 0) (eq-eqb 0 0 refl))
known-root t (suc s) v b =
    sum-made 0 t (suc s) root v b ∙ ap (λ (x : Bool). cond (x && b) v 0) (not_made 0 t (suc s) root (omega arith)) ∙ sym (ap (λ (x : Bool). cond (x && b) v 0) (ne_eqb 0 (suc s) (λ q. omega arith)))

pub makes-at : (t : List Frame) (k i s : ℕ) (w : Way) → Is t k (opening w i) → makes_at t k s ≡ (invokes w && eqb i s)
makes-at [] k i s w h = absurd h
makes-at (e ∷ t) zero i s w h = ap (makes s) h ∙ opening-makes (λ j. eqb j s) w i
makes-at (e ∷ t) (suc k) i s w h = makes-at t k i s w h

known-made : (t : List Frame) (n i : ℕ) (w : Way) → invokes w ≡ true → 1 ≤ i → Is t n (opening w i) → Known t (suc n) i
known-made t n i w y l h zero v b =
    let a : cond (eqb root (suc n) && b) v 0 ≡ 0 = ap (λ (x : Bool). cond (x && b) v 0) (ne_eqb root (suc n) (λ q. omega arith)) in
    let z : cond (eqb i 0 && b) v 0 ≡ 0 = ap (λ (x : Bool). cond (x && b) v 0) (ne_eqb i 0 (λ q. omega arith)) in
    omega arith
known-made t n i w y l h (suc s) v b =
    let q : suc n ≡ suc (0 + n) = omega arith in
    let e : has (suc n) (made 0 t (suc s)) ≡ eqb i (suc s) = ap (λ (c : ℕ). has c (made 0 t (suc s))) q ∙ has-made 0 t n (suc s) ∙ makes-at t n i (suc s) w h ∙ ap (λ (x : Bool). x && eqb i (suc s)) y in
    sum-made 0 t (suc s) (suc n) v b ∙ ap (λ (x : Bool). cond (x && b) v 0) e

-- c is the innermost of the open things o that is no finish
abbrev Owner : List Frame → ℕ → List ℕ → Type 0
Owner t c o = (F : ℕ) → owner_is t F o ≡ eqb F c

-- what is opened is an invocation of row i, or its lines are those of the row around it
made_owner : (t : List Frame) (n i : ℕ) (w : Way) (o : List ℕ) → invokes w ≡ true → is_finish (opening w i) ≡ false → 1 ≤ i → Is t n (opening w i) → Known t (suc n) i × Owner t (suc n) (suc n ∷ o)
made_owner t n i w o y z l h = (known-made t n i w y l h, λ F. ap (λ (b : Bool). cond b (owner_is t F o) (eqb F (suc n))) (finish-at t n (opening w i) h ∙ z))

opened_owner : (f : Family) (t : List Frame) (n c r i : ℕ) (w : Way) (o : List ℕ) → WayOf f r w i → Sited w i → Known t c r → Owner t c o → Is t n (opening w i)
    → (d : ℕ) × Known t d i × Owner t d (suc n ∷ o)
opened_owner f t n c r i call o y l kn own h = let k = made_owner t n i call o refl refl l h in (suc n, k.0, k.1)
opened_owner f t n c r i spawn o y l kn own h = let k = made_owner t n i spawn o refl refl l h in (suc n, k.0, k.1)
opened_owner f t n c r i async o y l kn own h = let k = made_owner t n i async o refl refl l h in (suc n, k.0, k.1)
opened_owner f t n c r i pass o y l kn own h = let k = made_owner t n i pass o refl refl l h in (suc n, k.0, k.1)
opened_owner Base t n c r i finish o y l kn own h = absurd y
opened_owner Finishes t n c r i finish o y l kn own h =
    (c, subst (Known t c) (sym y) kn, λ F. ap (λ (b : Bool). cond b (owner_is t F o) (eqb F (suc n))) (finish-at t n Finish h) ∙ own F)

-- lines are picked by number, q, and for an invocation where they are directly in it
module _ (f : Family) (v : Measured) (t : List Frame) (s : ℕ) (q : ℕ → Bool) (pick : ℕ → ℕ → List ℕ → Bool) (is : (F k c : ℕ) (o : List ℕ) → Owner t c o → pick F k o ≡ (eqb F c && q k)) where
  abbrev in_row : ℕ → List ℕ → List Frame → ℕ
  in_row n o u = sum (λ F. sum_of v.of_line (pick F) n o u) (of_row t s)

  abbrev picked : CostLine → Bool
  picked x = eqb x.row s && q x.line

  -- a line of a known invocation counts once
  line : (n c r : ℕ) (o : List ℕ) (e : Frame) (u : List Frame) → Known t c r → Owner t c o → in_row n o (e ∷ u) ≡ cond (eqb r s && q n) (v.of_line e u) 0 + in_row (suc n) (step n e o) u
  line n c r o e u kn own =
      let a = v.of_line e u in
      sum-add (λ F. cond (pick F n o) a 0) (λ F. sum_of v.of_line (pick F) (suc n) (step n e o) u) (of_row t s)
      ∙ ap (λ (x : ℕ). x + in_row (suc n) (step n e o) u)
      (sum_same (λ F. cond (pick F n o) a 0) (λ F. cond (eqb F c && q n) a 0) (λ F. ap (λ (x : Bool). cond x a 0) (is F n c o own)) (of_row t s) ∙ kn s a (q n))

  move : (m k : ℕ) (o : List ℕ) (u : List Frame) → m ≡ k → in_row m o u ≡ in_row k o u
  move m k o u e = ap (λ (j : ℕ). in_row j o u) e

  abbrev Picks : Body → Type 0
  Picks b = (m D d n c r h : ℕ) (o : List ℕ) (u : List Frame) → Of f r b → Within m D d b → Known t c r → Owner t c (h ∷ o) → Ctx t n (h ∷ o) (lines_of b ++ u)
      → in_row n (h ∷ o) (lines_of b ++ u) ≡ sum_where v.of_cost picked (costs (plan n r b)) + in_row (n + size b) o u

  picks : (b : Body) → Picks b
  picks done m D d n c r h o u y w kn own x =
      omega (arith, line n c r (h ∷ o) Return u kn own, ap (λ (a : ℕ). cond (eqb r s && q n) a 0) (v.return_line u), cond_same (eqb r s && q n), move (suc n) (n + 1) o u (omega arith))
  picks (leaf l b) m D d n c r h o u y w kn own x =
      omega (
        arith,
        line n c r (h ∷ o) (line_of l) (lines_of b ++ u) kn own,
        ap (λ (a : ℕ). cond (eqb r s && q n) a 0) (v.leaf_line l b u),
        ap (λ (k : List ℕ). in_row (suc n) k (lines_of b ++ u)) (leaf-step l n (h ∷ o)),
        where_leaf v picked l n r b,
        picks b m D d (suc n) c r h o u y.1 w.1 kn own (ctx-leaf t n h o l (lines_of b ++ u) x),
        move (suc n + size b) (n + suc (size b)) o u (omega arith),
      )
  picks (child k i g b) m D d n c r h o u y w kn own x =
      let z = ctx-child t n h o k i g b u x in
      let (e, ke, oe) = opened_owner f t n c r i k (h ∷ o) y.0 w.0 kn own (first-is t n (h ∷ o) (opening k i) ((lines_of g ++ lines_of b) ++ u) x) in
      omega (
        arith,
        line n c r (h ∷ o) (opening k i) ((lines_of g ++ lines_of b) ++ u) kn own,
        ap (λ (a : ℕ). cond (eqb r s && q n) a 0) (v.opening_line k i ((lines_of g ++ lines_of b) ++ u)),
        cond_same (eqb r s && q n),
        ap (λ (z : List ℕ). in_row (suc n) z ((lines_of g ++ lines_of b) ++ u)) (opening-step k i n (h ∷ o)),
        ap (in_row (suc n) (suc n ∷ h ∷ o)) (append_assoc (lines_of g) (lines_of b) u),
        picks g m D (suc d) (suc n) e i (suc n) (h ∷ o) (lines_of b ++ u) y.1 w.3 ke oe z,
        picks b m D d (suc n + size g) c r h o u y.2 w.4 kn own (ctx_skip t g (suc n) (suc n) (h ∷ o) (lines_of b ++ u) z),
        where_two v.of_cost picked k n r i g b,
        move (suc n + size g + size b) (n + suc (size g + size b)) o u (omega arith),
      )

  pub column : (D : ℕ) (x : PartsOf f D t) → sum (λ F. costs_where v.of_line t (pick F)) (of_row t s) ≡ sum_where v.of_cost picked (costs (plan 0 0 x.body))
  column D x =
      omega (
        arith,
        ap (in_row 0 (root ∷ [])) (whole D t x),
        picks x.body (sites t) D 1 0 root 0 root [] [] x.of x.within (known-root t) (λ F. refl) (root-ctx D t x),
        sum-zero (of_row t s),
      )

-- ── columns 4 and 6 ──

-- no site is 0
pub not_zero : (w : Way) (i : ℕ) → Sited w i → (invokes w && eqb i 0) ≡ false
not_zero call i l = ne_eqb i 0 (λ q. omega arith)
not_zero spawn i l = ne_eqb i 0 (λ q. omega arith)
not_zero async i l = ne_eqb i 0 (λ q. omega arith)
not_zero pass i l = ne_eqb i 0 (λ q. omega arith)
not_zero finish i l = refl

pub none-from-root : (h : Body → ℕ) (m D d : ℕ) (b : Body) → Within m D d b → made_sum h 0 b ≡ 0
none-from-root h m D d done w = refl
none-from-root h m D d (leaf l r) w = none-from-root h m D d r w.1
none-from-root h m D d (child k i g r) w =
    omega (arith, ap (λ (b : Bool). cond b (h g) 0) (not_zero k i w.0), none-from-root h m D (suc d) g w.3, none-from-root h m D d r w.4)

made-below : (w x : Bool) (a b : ℕ) → cond (w && x) a 0 + cond w b (a + b) ≤ a + b
made-below true true a b = omega arith
made-below true false a b = omega arith
made-below false x a b = omega arith

-- what stands directly in an invocation is its row's, and in a finish that of the row around it
pub held : (f : Family) (w : Way) (i r : ℕ) → WayOf f r w i → (s a b : ℕ) → cond (eqb i s) a 0 + cond (eqb r s) b 0 ≡ cond (invokes w && eqb i s) a 0 + cond (eqb r s) (cond (invokes w) b (a + b)) 0
held f call i r y s a b = refl
held f spawn i r y s a b = refl
held f async i r y s a b = refl
held f pass i r y s a b = refl
held Base finish i r y s a b = absurd y
held Finishes finish i r y s a b = omega (arith, ap (λ (j : ℕ). cond (eqb j s) a 0) y, cond_add (eqb r s) a b)

module _ (v : Measured) where
  abbrev h : Leaf → Body → ℕ
  h = v.of_leaf

  -- the costs of a plan that stand in row s: those directly in the body, where that is its row, and those of the
  -- invocations made from s
  row-costs : (f : Family) (s : ℕ) (b : Body) (n r : ℕ) → Of f r b
      → sum_where v.of_cost (λ x. eqb x.row s) (costs (plan n r b)) ≡ cond (eqb r s) (direct_of h b) 0 + made_sum (direct_of h) s b
  row-costs f s done n r y = omega (arith, cond_same (eqb r s))
  row-costs f s (leaf l b) n r y = omega (arith, where_leaf v (λ x. eqb x.row s) l n r b, cond_add (eqb r s) (h l b) (direct_of h b), row-costs f s b (suc n) r y.1)
  row-costs f s (child m i g b) n r y =
      omega (
        arith,
        where_two v.of_cost (λ x. eqb x.row s) m n r i g b,
        row-costs f s g (suc n) i y.1,
        row-costs f s b (suc n + size g) r y.2,
        held f m i r y.0 s (direct_of h g) (direct_of h b),
      )

  -- what stands directly in a body, and in those made from a site inside it, is some of all of it
  local-below : (s : ℕ) (b : Body) → direct_of h b + made_sum (direct_of h) s b ≤ all_of h b
  local-below s done = omega arith
  local-below s (leaf l r) = omega (arith, local-below s r)
  local-below s (child w i g r) = omega (arith, made-below (invokes w) (eqb i s) (direct_of h g) (direct_of h r), local-below s g, local-below s r)

  row_below : (s : ℕ) (b : Body) → row_sum (direct_of h) s b ≤ all_of h b
  row_below zero b = omega (arith, local-below 0 b)
  row_below (suc s) b = omega (arith, local-below (suc s) b)

  module _ {f : Family} (D : ℕ) (t : List Frame) (p : PartsOf f D t) where
    pub direct-costs : (s : ℕ) → sum (direct v.of_line t) (of_row t s) ≡ sum_where v.of_cost (λ x. eqb x.row s && true) (costs (plan 0 0 p.body))
    direct-costs s = column f v t s (λ k. true) (λ F k o. owner_is t F o) (λ F k c o own. own F ∙ sym (and-true (eqb F c))) D p

    pub direct-on-costs : (c : List ℕ) (s : ℕ) → sum (direct_on v.of_line t c) (of_row t s) ≡ sum_where v.of_cost (λ x. eqb x.row s && has x.line c) (costs (plan 0 0 p.body))
    direct-on-costs c s = column f v t s (λ k. has k c) (λ F k o. owner_is t F o && has k c) (λ F k d o own. ap (λ (x : Bool). x && has k c) (own F)) D p

    plain : (s : ℕ) → sum_where v.of_cost (λ x. eqb x.row s && true) (costs (plan 0 0 p.body)) ≡ sum_where v.of_cost (λ x. eqb x.row s) (costs (plan 0 0 p.body))
    plain s = where_same v.of_cost (λ x. eqb x.row s && true) (λ x. eqb x.row s) (λ x. and-true (eqb x.row s)) (costs (plan 0 0 p.body))

    direct-tree : (s : ℕ) → sum (direct v.of_line t) (of_row t s) ≡ row_sum (direct_of h) s p.body
    direct-tree zero =
        omega (
          arith,
          direct-costs 0,
          plain 0,
          row-costs f 0 p.body 0 0 p.of,
          none-from-root (direct_of h) (sites t) D 1 p.body p.within,
          ap (λ (b : Bool). cond b (direct_of h p.body) 0) (eq-eqb 0 0 refl),
        )
    direct-tree (suc s) =
        omega (
          arith,
          direct-costs (suc s),
          plain (suc s),
          row-costs f (suc s) p.body 0 0 p.of,
          ap (λ (b : Bool). cond b (direct_of h p.body) 0) (ne_eqb 0 (suc s) (λ q. omega arith)),
        )

    pub all-tree : costs_where v.of_line t (λ k o. true) ≡ all_of h p.body
    all-tree = ap (sum_of v.of_line (λ k o. true) 0 (root ∷ [])) p.lines ∙ all-costs v p.body 0 (root ∷ [])

    direct_le : (s : ℕ) → sum (direct v.of_line t) (of_row t s) ≤ costs_where v.of_line t (λ k o. true)
    direct_le s = omega (arith, direct-tree s, all-tree, row_below s p.body)

module _ {f : Family} (D : ℕ) (t : List Frame) (p : PartsOf f D t) where
  -- LAW
  pub local-tree : (s : ℕ) → local t s ≡ local_in s p.body
  local-tree = direct-tree by_cycles D t p

  pub ilocal-tree : (s : ℕ) → ilocal t s ≡ ilocal_in s p.body
  ilocal-tree = direct-tree by_instructions D t p

  -- LAW: the total work is all that the root's body costs, and all instructions are those of its costs
  pub total-tree : total t ≡ work_of p.body
  total-tree = all-tree by_cycles D t p

  pub itotal-tree : itotal t ≡ instructions_of p.body
  itotal-tree = all-tree by_instructions D t p

  -- LAW: no row's local exceeds the total work, and none's instructions all instructions
  pub local_le : (s : ℕ) → local t s ≤ total t
  local_le = direct_le by_cycles D t p

  pub ilocal_le : (s : ℕ) → ilocal t s ≤ itotal t
  ilocal_le = direct_le by_instructions D t p
