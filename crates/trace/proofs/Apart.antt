-- In a body of document 01's family two costs of the plan are apart exactly where their lines are beside each other.
use mathlib.Core.Path.{◌≡◌, refl, sym, ap, subst, subst₂}
use mathlib.Core.Logic.{◌⊎◌, inl, inr, ⊎_map}
use mathlib.Core.List.Memᴰ
use mathlib.Core.List.{List, ◌∷◌, ◌++◌, append_assoc, Memᴰ}
use Prim.Native.Nat.{ℕ, zero, suc, ◌+◌, ◌<◌}
use native.Mathlib.Nat.{le_dest}
use native.Mathlib.Omega.{arith}
use Rattle.line.specs.Family.{Base}
use Rattle.line.specs.declared.Frame.{Frame}
use Rattle.chain.specs.Plan.{CostLine, Plan, costs, Less, On, Apart}
use Rattle.chain.proofs.Parts.{apart-on}
use Rattle.trace.specs.Tree.{Way, call, spawn, async, pass, finish, opening, Leaf, spend, sync, note, line_of, Body, done, leaf, child, WayOf, Of, lines_of, size}
use Rattle.trace.specs.Fold.{nil, block, after, plan}
use Rattle.trace.proofs.Levels.{bsize, In, Past, Beside, beside_leaf, Spawning, spawning, beside_opening, opening_beside, in_lt, in_of, past-out, past_of, near_of, near_lt, beside_shift, beside_unshift, beside_within}
use Rattle.trace.proofs.Plans.{Between, on-two, on-leaf, rest-of-leaf, leaf-of-rest, on-range}

-- ── where a cost of the block stands, and one after it ──

-- a child's costs are in the block, with those of the block behind it
block-two : (w : Way) (n s v : ℕ) (g r : Body) → WayOf Base s w v
    → (costs (block n s (child w v g r)) ≡ costs (plan (suc n) v g) ++ costs (block (suc n + size g) s r)) × (after n s (child w v g r) ≡ after (suc n + size g) s r)
block-two call n s v g r h = (refl, refl)
block-two spawn n s v g r h = (refl, refl)
block-two async n s v g r h = absurd h
block-two pass n s v g r h = absurd h
block-two finish n s v g r h = absurd h

-- the block's lines come first, and then the lines after it
on-block : (b : Body) (n s : ℕ) (x : CostLine) → Of Base s b → On (block n s b) x → Between n (n + bsize b) x
on-block done n s x h m = absurd (Memᴰ.not-nil m)
on-block (leaf (spend v) r) n s x h m =
    elim (Memᴰ.cases_cons m) [ inl e ↦ (let l : x.line ≡ n = ap (λ (y : CostLine). y.line) e in omega arith) | inr k ↦ omega (arith, on-block r (suc n) s x h.1 k) ]
on-block (leaf sync r) n s x h m = absurd (Memᴰ.not-nil m)
on-block (leaf (note k) r) n s x h m = omega (arith, on-block r (suc n) s x h.1 m)
on-block (child w v g r) n s x h m =
    elim (Memᴰ.append_cases (costs (plan (suc n) v g)) (subst (λ (l : List CostLine). Memᴰ x l) (block-two w n s v g r h.0).0 m)) [
      | inl o ↦ omega (arith, on-range g (suc n) v x o)
      | inr o ↦ omega (arith, on-block r (suc n + size g) s x h.2 o)
    ]

on-after : (b : Body) (n s : ℕ) (x : CostLine) → Of Base s b → On (after n s b) x → Between (n + bsize b) (n + size b) x
on-after done n s x h m = absurd (Memᴰ.not-nil m)
on-after (leaf (spend v) r) n s x h m = omega (arith, on-after r (suc n) s x h.1 m)
on-after (leaf sync r) n s x h m = omega (arith, on-range r (suc n) s x m)
on-after (leaf (note k) r) n s x h m = omega (arith, on-after r (suc n) s x h.1 m)
on-after (child w v g r) n s x h m =
    omega (arith, on-after r (suc n + size g) s x h.2 (subst (λ (p : Plan). On p x) (block-two w n s v g r h.0).1 m))

-- the line number that belongs to a cost
abbrev At : ℕ → CostLine → ℕ → Type 0
At n x i = x.line ≡ n + i

-- past the body's first line the numbers are one less
enter : (e : Frame) (t : List Frame) (n : ℕ) (x y : CostLine) (i j : ℕ) → At n x i → At n y j → n < x.line → n < y.line
    → ((i j : ℕ) → At (suc n) x i → At (suc n) y j → Beside (e ∷ t) (suc i) (suc j)) → Beside (e ∷ t) i j
enter e t n x y zero j p q lx ly f = absurd (omega arith)
enter e t n x y (suc i) zero p q lx ly f = absurd (omega arith)
enter e t n x y (suc i) (suc j) p q lx ly f = f i j (omega arith) (omega arith)

-- ── apart in the plan, beside each other in the lines ──

abbrev To : Body → Type 0
To b = (n s : ℕ) → Of Base s b → (u : List Frame) (x y : CostLine) (i j : ℕ) → At n x i → At n y j → Apart (plan n s b) x y → Beside (lines_of b ++ u) i j

abbrev From : Body → Type 0
From b = (n s : ℕ) → Of Base s b → (u : List Frame) (x y : CostLine) (i j : ℕ) → At n x i → At n y j → On (plan n s b) x → On (plan n s b) y → Less x y → Beside (lines_of b ++ u) i j → Apart (plan n s b) x y

later : (n s v : ℕ) (g r : Body) (z : CostLine) → On (plan (suc n) v g) z ⊎ On (plan (suc n + size g) s r) z → n < z.line
later n s v g r z (inl o) = omega (arith, on-range g (suc n) v z o)
later n s v g r z (inr o) = omega (arith, on-range r (suc n + size g) s z o)

module _ (n s v : ℕ) (g r : Body) (hg : Of Base v g) (hr : Of Base s r) (x y : CostLine) where
  abbrev G : Plan
  G = plan (suc n) v g

  abbrev R : Plan
  R = plan (suc n + size g) s r

  abbrev B : Plan
  B = block (suc n + size g) s r

  -- apart: in the child and in its block, where it is spawned, or in one of the two
  two-of : (w : Way) → WayOf Base s w v → Apart (plan n s (child w v g r)) x y → Spawning w (On G x × On B y) ⊎ (Apart G x y ⊎ Apart R x y)
  two-of call h (inl (inl a)) = inr (inl a)
  two-of call h (inl (inr a)) = inr (inr (inl a))
  two-of call h (inr a) = inr (inr (inr a))
  two-of spawn h (inl (inl a)) = inl a
  two-of spawn h (inl (inr (inl a))) = inr (inl a)
  two-of spawn h (inl (inr (inr a))) = inr (inr (inl a))
  two-of spawn h (inr a) = inr (inr (inr a))
  two-of async h a = absurd h
  two-of pass h a = absurd h
  two-of finish h a = absurd h

  of_two : (w : Way) → WayOf Base s w v → Spawning w (On G x × On B y) ⊎ (Apart G x y ⊎ Apart R x y) → Apart (plan n s (child w v g r)) x y
  of_two call h (inl a) = absurd a
  of_two call h (inr (inl a)) = inl (inl a)
  of_two call h (inr (inr (inl a))) = inl (inr a)
  of_two call h (inr (inr (inr a))) = inr a
  of_two spawn h (inl a) = inl (inl a)
  of_two spawn h (inr (inl a)) = inl (inr (inl a))
  of_two spawn h (inr (inr (inl a))) = inl (inr (inr a))
  of_two spawn h (inr (inr (inr a))) = inr a
  of_two async h a = absurd h
  of_two pass h a = absurd h
  of_two finish h a = absurd h

  module _ (u : List Frame) (i j : ℕ) (p : At (suc n) x i) (q : At (suc n) y j) where
    abbrev lines : List Frame
    lines = lines_of g ++ (lines_of r ++ u)

    to-two : To g → To r → Apart G x y ⊎ Apart R x y → Beside lines i j
    to-two f f' (inl a) = f (suc n) v hg (lines_of r ++ u) x y i j p q a
    to-two f f' (inr a) =
        let on = apart-on R x y a in
        let lx = on-range r (suc n + size g) s x on.0 in
        let ly = on-range r (suc n + size g) s y on.1 in
        let ei : (m : ℕ) × (size g + m ≡ i) = le_dest (omega arith) in
        let ej : (m : ℕ) × (size g + m ≡ j) = le_dest (omega arith) in
        subst₂ (λ (a b : ℕ). Beside lines a b) ei.1 ej.1
        (beside_unshift g (lines_of r ++ u) ei.0 ej.0 (f' (suc n + size g) s hr u x y ei.0 ej.0 (omega (arith, ei.1)) (omega (arith, ej.1)) a))

    to-here : On G x × On B y → In lines i × Past lines j
    to-here a =
        let lx = on-range g (suc n) v x a.0 in
        let ly = on-block r (suc n + size g) s y hr a.1 in
        let ej : (m : ℕ) × (size g + m ≡ j) = le_dest (omega arith) in
        (in_of g (lines_of r ++ u) i (omega arith), subst (Past lines) ej.1 (past_of g (lines_of r ++ u) ej.0 (near_of r u ej.0 (omega (arith, ej.1)))))

    -- lines of two bodies, one after the other
    from-two : From g → From r → On G x ⊎ On R x → On G y ⊎ On R y → Less x y → Beside lines i j → Apart G x y ⊎ Apart R x y
    from-two f f' (inl ox) (inl oy) l a = inl (f (suc n) v hg (lines_of r ++ u) x y i j p q ox oy l a)
    from-two f f' (inl ox) (inr oy) l a =
        let lx = on-range g (suc n) v x ox in
        let ly = on-range r (suc n + size g) s y oy in
        absurd (omega (arith, beside_within g (lines_of r ++ u) i j (omega arith) a))
    from-two f f' (inr ox) (inl oy) l a =
        let lx = on-range r (suc n + size g) s x ox in
        let ly = on-range g (suc n) v y oy in
        absurd (omega arith)
    from-two f f' (inr ox) (inr oy) l a =
        let lx = on-range r (suc n + size g) s x ox in
        let ly = on-range r (suc n + size g) s y oy in
        let ei : (m : ℕ) × (size g + m ≡ i) = le_dest (omega arith) in
        let ej : (m : ℕ) × (size g + m ≡ j) = le_dest (omega arith) in
        let a' = subst₂ (λ (a b : ℕ). Beside lines a b) (sym ei.1) (sym ej.1) a in
        inr (f' (suc n + size g) s hr u x y ei.0 ej.0 (omega (arith, ei.1)) (omega (arith, ej.1)) ox oy l (beside_shift g (lines_of r ++ u) ei.0 ej.0 a'))

    -- the spawned body has the one line, and the block that follows it the other
    from-here : On G x ⊎ On R x → On G y ⊎ On R y → In lines i × Past lines j → On G x × On B y
    from-here ox oy a =
        let w = past-out g (lines_of r ++ u) j a.1 in
        let li = in_lt g (lines_of r ++ u) i a.0 in
        let lj = near_lt r u w.0 w.2 in
        (left ox li, right oy w.0 w.1 lj)
      where
        left : On G x ⊎ On R x → i < size g → On G x
        left (inl o) li = o
        left (inr o) li = absurd (omega (arith, on-range r (suc n + size g) s x o))

        in_block : On B y ⊎ On (after (suc n + size g) s r) y → (m : ℕ) → j ≡ size g + m → m < bsize r → On B y
        in_block (inl o) m e l = o
        in_block (inr o) m e l = absurd (omega (arith, on-after r (suc n + size g) s y hr o))

        right : On G y ⊎ On R y → (m : ℕ) → j ≡ size g + m → m < bsize r → On B y
        right (inl o) m e l = absurd (omega (arith, on-range g (suc n) v y o))
        right (inr o) m e l = in_block (Memᴰ.append_cases (costs B) o) m e l

-- ── a leaf line, and the rest ──

on-rest : (l : Leaf) (n s i : ℕ) (r : Body) (x : CostLine) → At n x (suc i) → On (plan n s (leaf l r)) x → On (plan (suc n) s r) x
on-rest l n s i r x p m = elim (on-leaf l n s r x m) [ inl e ↦ absurd (omega arith) | inr o ↦ o ]

-- LAW
pub apart_beside : (b : Body) → To b
apart_beside done n s h u x y i j p q (inl a) = absurd a
apart_beside done n s h u x y i j p q (inr a) = absurd a
apart_beside (leaf l r) n s h u x y i j p q a =
    let a' = rest-of-leaf l n s r nil x y a in
    let on = apart-on (plan (suc n) s r) x y a' in
    enter (line_of l) (lines_of r ++ u) n x y i j p q (on-range r (suc n) s x on.0).0 (on-range r (suc n) s y on.1).0
    (λ i' j' p' q'. rw (beside_leaf l (lines_of r ++ u) i' j') (apart_beside r (suc n) s h.1 u x y i' j' p' q' a'))
apart_beside (child w v g r) n s h u x y i j p q a =
    let on = apart-on (plan n s (child w v g r)) x y a in
    subst (λ (t : List Frame). Beside (opening w v ∷ t) i j) (sym (append_assoc (lines_of g) (lines_of r) u))
    (enter (opening w v) (lines_of g ++ (lines_of r ++ u)) n x y i j p q (later n s v g r x (on-two w n s v g r x on.0)) (later n s v g r y (on-two w n s v g r y on.1))
    (λ i' j' p' q'. beside_opening w v (lines_of g ++ (lines_of r ++ u)) i' j'
    (⊎_map (spawning w (to-here n s v g r h.1 h.2 x y u i' j' p' q')) (to-two n s v g r h.1 h.2 x y u i' j' p' q' (apart_beside g) (apart_beside r))
    (two-of n s v g r h.1 h.2 x y w h.0 a))))

-- LAW
pub beside_apart : (b : Body) → From b
beside_apart done n s h u x y i j p q ox oy l a = absurd (Memᴰ.not-nil ox)
beside_apart (leaf k r) n s h u x y zero j p q ox oy l a = absurd a
beside_apart (leaf k r) n s h u x y (suc i) zero p q ox oy l a = absurd a
beside_apart (leaf k r) n s h u x y (suc i) (suc j) p q ox oy l a =
    leaf-of-rest k n s r nil x y
    (beside_apart r (suc n) s h.1 u x y i j (omega arith) (omega arith) (on-rest k n s i r x p ox) (on-rest k n s j r y q oy) l (rw (beside_leaf k (lines_of r ++ u) i j) at a))
beside_apart (child w v g r) n s h u x y zero j p q ox oy l a = absurd a
beside_apart (child w v g r) n s h u x y (suc i) zero p q ox oy l a = absurd a
beside_apart (child w v g r) n s h u x y (suc i) (suc j) p q ox oy l a =
    let ox' = on-two w n s v g r x ox in
    let oy' = on-two w n s v g r y oy in
    of_two n s v g r h.1 h.2 x y w h.0
    (⊎_map (spawning w (from-here n s v g r h.1 h.2 x y u i j (omega arith) (omega arith) ox' oy'))
    (from-two n s v g r h.1 h.2 x y u i j (omega arith) (omega arith) (beside_apart g) (beside_apart r) ox' oy' l)
    (opening_beside w v (lines_of g ++ (lines_of r ++ u)) i j (rw (append_assoc (lines_of g) (lines_of r) u) at a)))
