-- Each 07 line stands directly after a cost line, whose instructions it carries: refusal 22 applies to no line. Over
-- lines, over line numbers, and by the tree.
use mathlib.Core.Path.{◌≡◌, refl, sym, ap, subst}
use mathlib.Core.Logic.{◌⊎◌, inl, inr}
use mathlib.Core.Bool.{Bool, true, false, not}
use mathlib.Core.List.{List, [], ◌∷◌, ◌++◌, append_assoc}
use Prim.Native.Nat.{ℕ, zero, suc}
use borrow.Author.Tests.{not-false}
use Rattle.line.specs.Family.{Family, Base}
use Rattle.line.specs.declared.Frame.{Frame}
use Rattle.line.specs.declared.Frame.TheVariants.{Site, Call, Spawn, Sync, Return, Cost, Instructions, Async, Finish}
use Rattle.trace.specs.Shape.{if_instructions, Is}
use Rattle.trace.specs.Refusals.{is_cost, after_cost, stray, accepted, verdict_of, verdict}
use Rattle.trace.specs.Tree.{Way, call, spawn, async, pass, finish, opening, line_of, Body, done, leaf, child, lines_of}
use Rattle.trace.proofs.Basics.{no_way}
use Rattle.trace.proofs.Scan.{Clean, faultless, accepted-fine-of}

-- c: the line before this one is a cost line
abbrev OwnedLine : Bool → Frame → Type 0
OwnedLine c f = if_instructions (λ v. c) true f ≡ true

-- c: the line before the first of these is a cost line
abbrev pub Owned : Bool → List Frame → Type 0
Owned c [] = Unit {0}
Owned c (f ∷ t) = OwnedLine c f × Owned (is_cost f) t

-- ── refusal 22 ──

not_stray : (c : Bool) (f : Frame) → if_instructions (λ v. not c) false f ≡ false → OwnedLine c f
not_stray c (Site s p) e = refl
not_stray c (Call s) e = refl
not_stray c (Spawn s) e = refl
not_stray c Sync e = refl
not_stray c Return e = refl
not_stray c (Cost v) e = refl
not_stray c (Instructions v) e = not-false c e
not_stray c (Async s) e = refl
not_stray c Finish e = refl

stray_not : (c : Bool) (f : Frame) → OwnedLine c f → if_instructions (λ v. not c) false f ≡ false
stray_not c (Site s p) e = refl
stray_not c (Call s) e = refl
stray_not c (Spawn s) e = refl
stray_not c Sync e = refl
stray_not c Return e = refl
stray_not c (Cost v) e = refl
stray_not c (Instructions v) e = ap not e
stray_not c (Async s) e = refl
stray_not c Finish e = refl

pub after_snoc : (c : Bool) (b : List Frame) (f : Frame) → after_cost c (b ++ f ∷ []) ≡ is_cost f
after_snoc c [] f = refl
after_snoc c (e ∷ b) f = after_snoc (is_cost e) b f

-- LAW: 22 does not apply to the first of such lines, and those behind it are such lines
pub owned_head : (b : List Frame) (f : Frame) (t : List Frame) → Owned (after_cost false b) (f ∷ t) → (stray b f ≡ false) × Owned (after_cost false (b ++ f ∷ [])) t
owned_head b f t h =
    (stray_not (after_cost false b) f h.0, subst (λ (c : Bool). Owned c t) (sym (after_snoc false b f)) h.1)

-- LAW: lines that pass are such lines
pub clean-owned : (g : Family) (D M : ℕ) (before t : List Frame) → Clean g D M before t → Owned (after_cost false before) t
clean-owned g D M before [] c = tt
clean-owned g D M before (f ∷ t) c = (
  not_stray (after_cost false before) f (faultless D M before f c.0).not22,
  subst (λ (x : Bool). Owned x t) (after_snoc false before f) (clean-owned g D M (before ++ f ∷ []) t c.2),
)

-- ── by line numbers ──

-- the line before line k is a cost line
abbrev pub Behind : List Frame → ℕ → Type 0
Behind t k = (j : ℕ) × (w : ℕ) × (k ≡ suc j) × Is t j (Cost w)

cost-is : (f : Frame) → is_cost f ≡ true → (w : ℕ) × (f ≡ Cost w)
cost-is (Site s p) e = no_way e
cost-is (Call s) e = no_way e
cost-is (Spawn s) e = no_way e
cost-is Sync e = no_way e
cost-is Return e = no_way e
cost-is (Cost w) e = (w, refl)
cost-is (Instructions v) e = no_way e
cost-is (Async s) e = no_way e
cost-is Finish e = no_way e

owned-from : (c : Bool) (t : List Frame) → Owned c t → (k v : ℕ) → Is t k (Instructions v) → ((k ≡ 0) × (c ≡ true)) ⊎ Behind t k
owned-from c [] h k v i = absurd i
owned-from c (f ∷ t) h zero v i = inl (refl, subst (OwnedLine c) i h.0)
owned-from c (f ∷ t) h (suc k) v i = go (owned-from (is_cost f) t h.1 k v i)
  where
    go : ((k ≡ 0) × (is_cost f ≡ true)) ⊎ Behind t k → ((suc k ≡ 0) × (c ≡ true)) ⊎ Behind (f ∷ t) (suc k)
    go (inl w) = let x = cost-is f w.1 in inr (zero, x.0, ap suc w.0, x.1)
    go (inr w) = inr (suc w.0, w.1, ap suc w.2, w.3)

-- LAW: in such lines, before which there is none, each 07 line stands directly after a cost line
pub owned-behind : (t : List Frame) → Owned false t → (k v : ℕ) → Is t k (Instructions v) → Behind t k
owned-behind t h k v i = go (owned-from false t h k v i)
  where
    go : ((k ≡ 0) × (false ≡ true)) ⊎ Behind t k → Behind t k
    go (inl w) = no_way w.1
    go (inr w) = w

-- LAW: so it does in every accepted trace
pub accepted-owned-of : (g : Family) (s : List ℕ) (D M : ℕ) (room : Bool) (t : List Frame) → verdict_of g s D M room ≡ accepted t → Owned false t
accepted-owned-of g s D M room t e = clean-owned g D M [] t (accepted-fine-of g s D M room t e).clean

pub accepted-behind-of : (g : Family) (s : List ℕ) (D M : ℕ) (room : Bool) (t : List Frame) → verdict_of g s D M room ≡ accepted t → (k v : ℕ) → Is t k (Instructions v) → Behind t k
accepted-behind-of g s D M room t e = owned-behind t (accepted-owned-of g s D M room t e)

-- the same of document 01's traces
pub accepted-owned : (s : List ℕ) (D M : ℕ) (room : Bool) (t : List Frame) → verdict s D M room ≡ accepted t → Owned false t
accepted-owned = accepted-owned-of Base

pub accepted-behind : (s : List ℕ) (D M : ℕ) (room : Bool) (t : List Frame) → verdict s D M room ≡ accepted t → (k v : ℕ) → Is t k (Instructions v) → Behind t k
accepted-behind = accepted-behind-of Base

-- ── by the tree ──

-- c: the line before the body's first is a cost line
abbrev pub OwnedBody : Bool → Body → Type 0
OwnedBody c done = Unit {0}
OwnedBody c (leaf l r) = OwnedLine c (line_of l) × OwnedBody (is_cost (line_of l)) r
OwnedBody c (child w s g r) = OwnedBody false g × OwnedBody false r

opening-owned : (c : Bool) (w : Way) (s : ℕ) → OwnedLine c (opening w s)
opening-owned c call s = refl
opening-owned c spawn s = refl
opening-owned c async s = refl
opening-owned c pass s = refl
opening-owned c finish s = refl

opening_no_cost : (w : Way) (s : ℕ) → is_cost (opening w s) ≡ false
opening_no_cost call s = refl
opening_no_cost spawn s = refl
opening_no_cost async s = refl
opening_no_cost pass s = refl
opening_no_cost finish s = refl

-- LAW: the lines of a body that is so are such lines, where those behind them are
pub owned-lines : (b : Body) (c : Bool) (u : List Frame) → OwnedBody c b → Owned false u → Owned c (lines_of b ++ u)
owned-lines done c u h k = (refl, k)
owned-lines (leaf l r) c u h k = (h.0, owned-lines r (is_cost (line_of l)) u h.1 k)
owned-lines (child w s g r) c u h k = (
  opening-owned c w s,
  subst (λ (x : Bool). Owned x ((lines_of g ++ lines_of r) ++ u)) (sym (opening_no_cost w s))
      (subst (Owned false) (sym (append_assoc (lines_of g) (lines_of r) u)) (owned-lines g false (lines_of r ++ u) h.0 (owned-lines r false u h.1 k))),
)

-- LAW: and back
pub owned-body : (b : Body) (c : Bool) (u : List Frame) → Owned c (lines_of b ++ u) → OwnedBody c b × Owned false u
owned-body done c u h = (tt, h.1)
owned-body (leaf l r) c u h = let k = owned-body r (is_cost (line_of l)) u h.1 in ((h.0, k.0), k.1)
owned-body (child w s g r) c u h =
    let x = subst (Owned false) (append_assoc (lines_of g) (lines_of r) u) (subst (λ (y : Bool). Owned y ((lines_of g ++ lines_of r) ++ u)) (opening_no_cost w s) h.1) in
    let a = owned-body g false (lines_of r ++ u) x in
    let b = owned-body r false u a.1 in
    ((a.0, b.0), b.1)
