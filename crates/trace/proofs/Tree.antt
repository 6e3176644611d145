-- The lines of a tree: how many they are, and whose they are.
use mathlib.Core.Path.{◌≡◌, refl, sym, ◌∙◌, ap, subst}
use mathlib.Core.Bool.{Bool, true, false, cond, ◌&&◌}
use mathlib.Core.List.{List, [], ◌∷◌, ◌++◌, append_assoc, append-nil}
use Prim.Native.Nat.{ℕ, suc}
use native.Mathlib.Omega.{arith}
use lib.ListN.{length, length-append}
use lib.Dec.{eqb}
use borrow.Author.Tests.{eqb-true}
use Rattle.line.specs.Family.{Family, Base, Finishes}
use Rattle.line.specs.declared.Frame.{Frame}
use Rattle.line.specs.declared.Frame.TheVariants.{Site, Call, Spawn, Sync, Return, Cost, Instructions, Async, Finish}
use Rattle.trace.specs.Shape.{if_makes, if_opens, step}
use Rattle.trace.specs.Async.{is_finish}
use Rattle.trace.specs.Series.{value}
use Rattle.trace.specs.Tree.{Way, call, spawn, async, pass, finish, invokes, opening, Note, site, carry, note_line, Leaf, spend, sync, note, line_of, leaf_work, Body, done, leaf, child, LeafOf, WayOf, Of, lines_of, size}
use Rattle.trace.proofs.Basics.{clash, both}

pub size_is : (b : Body) → length (lines_of b) ≡ size b
size_is done = refl
size_is (leaf l r) = ap suc (size_is r)
size_is (child w s g r) = omega (arith, size_is g, size_is r, length-append (lines_of g) (lines_of r))

-- what an item's first line does to the open invocations
pub leaf-step : (l : Leaf) (n : ℕ) (o : List ℕ) → step n (line_of l) o ≡ o
leaf-step (spend v) n o = refl
leaf-step sync n o = refl
leaf-step (note (site i p)) n o = refl
leaf-step (note (carry v)) n o = refl

pub opening-step : (w : Way) (s n : ℕ) (o : List ℕ) → step n (opening w s) o ≡ suc n ∷ o
opening-step call s n o = refl
opening-step spawn s n o = refl
opening-step async s n o = refl
opening-step pass s n o = refl
opening-step finish s n o = refl

-- which site it makes an invocation of, where it makes one
pub leaf-makes : {A : Type 0} (a : ℕ → A) (b : A) (l : Leaf) → if_makes a b (line_of l) ≡ b
leaf-makes a b (spend v) = refl
leaf-makes a b sync = refl
leaf-makes a b (note (site i p)) = refl
leaf-makes a b (note (carry v)) = refl

pub opening-makes : (a : ℕ → Bool) (w : Way) (s : ℕ) → if_makes a false (opening w s) ≡ (invokes w && a s)
opening-makes a call s = refl
opening-makes a spawn s = refl
opening-makes a async s = refl
opening-makes a pass s = refl
opening-makes a finish s = refl

-- whether it opens anything
pub leaf_opens : {A : Type 0} (a b : A) (l : Leaf) → if_opens a b (line_of l) ≡ b
leaf_opens a b (spend v) = refl
leaf_opens a b sync = refl
leaf_opens a b (note (site i p)) = refl
leaf_opens a b (note (carry v)) = refl

pub opening_opens : {A : Type 0} (a b : A) (w : Way) (s : ℕ) → if_opens a b (opening w s) ≡ a
opening_opens a b call s = refl
opening_opens a b spawn s = refl
opening_opens a b async s = refl
opening_opens a b pass s = refl
opening_opens a b finish s = refl

-- what it weighs
pub leaf-value : (l : Leaf) → value (line_of l) ≡ leaf_work l
leaf-value (spend v) = refl
leaf-value sync = refl
leaf-value (note (site i p)) = refl
leaf-value (note (carry v)) = refl

pub opening-value : (w : Way) (s : ℕ) → value (opening w s) ≡ 0
opening-value call s = refl
opening-value spawn s = refl
opening-value async s = refl
opening-value pass s = refl
opening-value finish s = refl

-- ── which item a frame is ──

-- a return 0, a leaf line 1, an opening 2
abbrev sort : Frame → ℕ
sort (Site s p) = 1
sort (Call s) = 2
sort (Spawn s) = 2
sort Sync = 1
sort Return = 0
sort (Cost v) = 1
sort (Instructions v) = 1
sort (Async s) = 2
sort Finish = 2

leaf-sort : (l : Leaf) → sort (line_of l) ≡ 1
leaf-sort (spend v) = refl
leaf-sort sync = refl
leaf-sort (note (site i p)) = refl
leaf-sort (note (carry v)) = refl

opening-sort : (w : Way) (s : ℕ) → sort (opening w s) ≡ 2
opening-sort call s = refl
opening-sort spawn s = refl
opening-sort async s = refl
opening-sort pass s = refl
opening-sort finish s = refl

pub return_not_leaf : {A : Type 0} (l : Leaf) → Return ≡ line_of l → A
return_not_leaf l e = absurd (omega (arith, ap sort e, leaf-sort l))

pub return_not_opening : {A : Type 0} (w : Way) (s : ℕ) → Return ≡ opening w s → A
return_not_opening w s e = absurd (omega (arith, ap sort e, opening-sort w s))

pub leaf_not_opening : {A : Type 0} (l : Leaf) (w : Way) (s : ℕ) → line_of l ≡ opening w s → A
leaf_not_opening l w s e = absurd (omega (arith, ap sort e, leaf-sort l, opening-sort w s))

-- the leaf that a line is, a sync where it is none
abbrev leaf_of : Frame → Leaf
leaf_of (Site i p) = note (site i p)
leaf_of (Call i) = sync
leaf_of (Spawn i) = sync
leaf_of Sync = sync
leaf_of Return = sync
leaf_of (Cost v) = spend v
leaf_of (Instructions v) = note (carry v)
leaf_of (Async i) = sync
leaf_of Finish = sync

leaf-back : (l : Leaf) → leaf_of (line_of l) ≡ l
leaf-back (spend v) = refl
leaf-back sync = refl
leaf-back (note (site i p)) = refl
leaf-back (note (carry v)) = refl

leaf-one : (l k : Leaf) → line_of l ≡ line_of k → l ≡ k
leaf-one l k e = sym (leaf-back l) ∙ ap leaf_of e ∙ leaf-back k

-- a cost is no note
pub spend_not_note : {A : Type 0} (v : ℕ) (x : Note) → Cost v ≡ note_line x → A
spend_not_note v (site i p) e = clash (cc)
spend_not_note v (carry i) e = clash (cc)

-- a: the way of a spawn or an async; b: that of any other line
abbrev if_spawn : Way → Way → Frame → Way
if_spawn a b (Site s p) = b
if_spawn a b (Call s) = b
if_spawn a b (Spawn s) = a
if_spawn a b Sync = b
if_spawn a b Return = b
if_spawn a b (Cost v) = b
if_spawn a b (Instructions v) = b
if_spawn a b (Async s) = a
if_spawn a b Finish = b

-- the way and the site that an opening has in a body of row r, whatever another line has
abbrev way_in : Family → Frame → Way
way_in Base f = if_spawn spawn call f
way_in Finishes f = if_spawn async (cond (is_finish f) finish pass) f

abbrev site_in : ℕ → Frame → ℕ
site_in r f = if_makes (λ s. s) r f

way_back : (f : Family) (r : ℕ) (w : Way) (s : ℕ) → WayOf f r w s → (way_in f (opening w s) ≡ w) × (site_in r (opening w s) ≡ s)
way_back Base r call s h = (refl, refl)
way_back Base r spawn s h = (refl, refl)
way_back Base r async s h = absurd h
way_back Base r pass s h = absurd h
way_back Base r finish s h = absurd h
way_back Finishes r call s h = absurd h
way_back Finishes r spawn s h = absurd h
way_back Finishes r async s h = (refl, refl)
way_back Finishes r pass s h = (refl, refl)
way_back Finishes r finish s h = (refl, sym h)

opening-one : (f : Family) (r : ℕ) (w x : Way) (s i : ℕ) → WayOf f r w s → WayOf f r x i → opening w s ≡ opening x i → (w ≡ x) × (s ≡ i)
opening-one f r w x s i a b e =
    let p = way_back f r w s a in
    let q = way_back f r x i b in
    (sym p.0 ∙ ap (way_in f) e ∙ q.0, sym p.1 ∙ ap (site_in r) e ∙ q.1)

-- lines are those of one body of a family and a row at most, and of one rest
pub lines-one : (f : Family) (o : ℕ) (b c : Body) (u v : List Frame) → Of f o b → Of f o c → lines_of b ++ u ≡ lines_of c ++ v → (b ≡ c) × (u ≡ v)
lines-one f o done done u v x y e = (refl, cc)
lines-one f o done (leaf k q) u v x y e = return_not_leaf k (cc)
lines-one f o done (child z i h q) u v x y e = return_not_opening z i (cc)
lines-one f o (leaf l r) done u v x y e = return_not_leaf l (cc)
lines-one f o (leaf l r) (leaf k q) u v x y e =
    let a = leaf-one l k (cc) in
    let w = lines-one f o r q u v x.1 y.1 (cc) in
    let m = w.0 in
    (cc, w.1)
lines-one f o (leaf l r) (child z i h q) u v x y e = leaf_not_opening l z i (cc)
lines-one f o (child w s g r) done u v x y e = return_not_opening w s (cc)
lines-one f o (child w s g r) (leaf k q) u v x y e = leaf_not_opening k w s (cc)
lines-one f o (child w s g r) (child z i h q) u v x y e =
    let a = opening-one f o w z s i x.0 y.0 (cc) in
    let d : (lines_of g ++ lines_of r) ++ u ≡ (lines_of h ++ lines_of q) ++ v = cc in
    let k = lines-one f s g h (lines_of r ++ u) (lines_of q ++ v) x.1 (subst (λ (j : ℕ). Of f j h) (sym a.1) y.1) (sym (append_assoc (lines_of g) (lines_of r) u) ∙ d ∙ append_assoc (lines_of h) (lines_of q) v) in
    let l = lines-one f o r q u v x.2 y.2 k.1 in
    let a' = a.0 in
    let a'' = a.1 in
    let m = k.0 in
    let n = l.0 in
    (cc, l.1)

-- LAW: lines are those of one body at most
pub body-one : (f : Family) (o : ℕ) (b c : Body) → Of f o b → Of f o c → lines_of b ≡ lines_of c → b ≡ c
body-one f o b c x y e = (lines-one f o b c [] [] x y (append-nil (lines_of b) ∙ e ∙ sym (append-nil (lines_of c)))).0

-- ── which bodies a family has, by a test ──

abbrev leaf_is : Family → Leaf → Bool
leaf_is Base l = true
leaf_is Finishes (spend v) = true
leaf_is Finishes sync = false
leaf_is Finishes (note x) = true

abbrev way_is : Family → ℕ → Way → ℕ → Bool
way_is Base r call s = true
way_is Base r spawn s = true
way_is Base r async s = false
way_is Base r pass s = false
way_is Base r finish s = false
way_is Finishes r call s = false
way_is Finishes r spawn s = false
way_is Finishes r async s = true
way_is Finishes r pass s = true
way_is Finishes r finish s = eqb s r

abbrev pub is_of : Family → ℕ → Body → Bool
is_of f r done = true
is_of f r (leaf l b) = leaf_is f l && is_of f r b
is_of f r (child w s g b) = way_is f r w s && (is_of f s g && is_of f r b)

leaf-of : (f : Family) (l : Leaf) → leaf_is f l ≡ true → LeafOf f l
leaf-of Base l e = tt
leaf-of Finishes (spend v) e = tt
leaf-of Finishes sync e = clash (cc)
leaf-of Finishes (note x) e = tt

way_of : (f : Family) (r : ℕ) (w : Way) (s : ℕ) → way_is f r w s ≡ true → WayOf f r w s
way_of Base r call s e = tt
way_of Base r spawn s e = tt
way_of Base r async s e = clash (cc)
way_of Base r pass s e = clash (cc)
way_of Base r finish s e = clash (cc)
way_of Finishes r call s e = clash (cc)
way_of Finishes r spawn s e = clash (cc)
way_of Finishes r async s e = tt
way_of Finishes r pass s e = tt
way_of Finishes r finish s e = eqb-true s r e

pub is-of : (f : Family) (r : ℕ) (b : Body) → is_of f r b ≡ true → Of f r b
is-of f r done e = tt
is-of f r (leaf l b) e = let h = both (leaf_is f l) (is_of f r b) e in (leaf-of f l h.0, is-of f r b h.1)
is-of f r (child w s g b) e =
    let h = both (way_is f r w s) (is_of f s g && is_of f r b) e in
    let k = both (is_of f s g) (is_of f r b) h.1 in
    (way_of f r w s h.0, is-of f s g k.0, is-of f r b k.1)
