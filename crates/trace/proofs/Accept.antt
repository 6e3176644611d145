-- Lines pass exactly where they are the lines of a body within the limits that name their sites by the rules, each 07
-- line directly after a cost; and the same on characters.
use mathlib.Core.Path.{◌≡◌, refl, sym, ◌∙◌, ap, subst}
use mathlib.Core.Logic.{◌↔◌, inl, inr}
use mathlib.Core.Bool.{Bool, true, false, cond}
use mathlib.Core.List.{List, [], ◌∷◌, ◌++◌, append_assoc, append-nil}
use Prim.Native.Nat.{ℕ, suc, ◌%◌, ◌≤◌}
use native.Mathlib.Omega.{arith}
use lib.ListN.{length}
use lib.Seq.{append_snoc}
use lib.Dec.{ltb}
use borrow.Author.Tests.{eq-eqb, le-ltb, le-leb}
use Rattle.line.specs.Family.{Family, Base, Finishes}
use Rattle.line.specs.declared.Frame.{Frame}
use Rattle.line.specs.declared.Frame.TheVariants.{Return}
use Rattle.line.specs.Read.{Read}
use Rattle.trace.specs.Shape.{root, step, sites}
use Rattle.trace.specs.Refusals.{most_lines, line_count, checks, open_now, empty, after_cost, stray, too_deep, fault, accepted, refused, judged, scan, reads_of, verdict_of}
use Rattle.trace.specs.Tree.{Way, call, spawn, async, pass, finish, opening, site, carry, Leaf, spend, sync, note, line_of, LeafWithin, Body, done, leaf, child, LeafOf, WayOf, Of, lines_of, Within}
use Rattle.trace.proofs.Tree.{leaf-step, opening-step, leaf_opens, opening_opens}
use Rattle.trace.proofs.Checks.{by-checks}
use Rattle.trace.proofs.Scan.{InTable, Clean, Reads, reads-length, reads-from-length, Fine, Accepts, accepted-is-of, fault-zero, now}
use Rattle.trace.proofs.Sites.{numbered-start, clean-sites}
use Rattle.trace.proofs.Parse.{parts}
use Rattle.trace.proofs.Named.{NamedLine, Named, naming, named_head, clean-named}
use Rattle.trace.proofs.Owned.{Owned, owned_head, clean-owned}

pub record IsTrace (f : Family) (D M : ℕ) (t : List Frame) : Type 0 where
  pub body : Body
  pub of : Of f 0 body
  pub lines : t ≡ lines_of body
  pub named : Named M [] (naming t)
  pub owned : Owned false t
  pub within : Within (sites t) D 1 body

-- the lines of a family's body are in its table
leaf_in : (f : Family) (l : Leaf) → LeafOf f l → LeafWithin l → InTable f (line_of l)
leaf_in f (spend v) o h = h
leaf_in Base sync o h = tt
leaf_in Finishes sync o h = absurd o
leaf_in f (note (site s p)) o h = tt
leaf_in f (note (carry v)) o h = h

opening_in : (f : Family) (r : ℕ) (w : Way) (s : ℕ) → WayOf f r w s → InTable f (opening w s)
opening_in f r call s h = tt
opening_in Base r spawn s h = tt
opening_in Finishes r spawn s h = absurd h
opening_in Base r async s h = absurd h
opening_in Finishes r async s h = tt
opening_in f r pass s h = tt
opening_in Base r finish s h = absurd h
opening_in Finishes r finish s h = tt

module _ (x : Family) (D M m : ℕ) where
  -- a leaf line and an opening are not too deep
  leaf-deep : (before : List Frame) (l : Leaf) → too_deep D before (line_of l) ≡ false
  leaf-deep before l = leaf_opens (ltb D (suc (length (open_now before)))) false l

  opening-deep : (before : List Frame) (w : Way) (i c : ℕ) (o : List ℕ) → open_now before ≡ c ∷ o → suc (suc (length o)) ≤ D → too_deep D before (opening w i) ≡ false
  opening-deep before w i c o e l =
      opening_opens (ltb D (suc (length (open_now before)))) false w i ∙ le-ltb D (suc (length (open_now before))) (omega (arith, ap length e))

  -- a line of a body passes
  passes : (before : List Frame) (c : ℕ) (o : List ℕ) (f : Frame) → open_now before ≡ c ∷ o → stray before f ≡ false → NamedLine M before f → too_deep D before f ≡ false → fault D M before f ≡ 0
  passes before c o f e y n d = fault-zero D M before f (record { not7 = ap empty e; not22 = y; not8 = n.not8; not9 = n.not9; not10 = n.not10; not11 = n.not11; not12 = d })

  -- what is known behind lines, of the lines u that follow them
  record Behind (before : List Frame) (o : List ℕ) (u : List Frame) : Type 0 where
    opened : open_now before ≡ o
    names : Named M (naming before) (naming u)
    owned : Owned (after_cost false before) u

  behind : (before : List Frame) (o : List ℕ) (f : Frame) (u : List Frame) → Behind before o (f ∷ u) → Behind (before ++ f ∷ []) (step (length before) f o) u
  behind before o f u h =
      record {
        opened = now before f ∙ ap (step (length before) f) h.opened;
        names = (named_head M before f u h.names).1;
        owned = (owned_head before f u h.owned).1;
      }

  -- 22 does not apply to the first of them
  not_stray : (before : List Frame) (o : List ℕ) (f : Frame) (u : List Frame) → Behind before o (f ∷ u) → stray before f ≡ false
  not_stray before o f u h = (owned_head before f u h.owned).0

  -- the lines of a body pass where the lines behind it do
  abbrev Passes : Body → Type 0
  Passes b = (r : ℕ) (before : List Frame) (c : ℕ) (o : List ℕ) (u : List Frame) → Behind before (c ∷ o) (lines_of b ++ u) → Of x r b → Within m D (suc (length o)) b
      → (Behind (before ++ lines_of b) o u → Clean x D M (before ++ lines_of b) u) → Clean x D M before (lines_of b ++ u)

  -- the same lines before
  along : (b d : List Frame) (o : List ℕ) (u : List Frame) → b ≡ d → (Behind d o u → Clean x D M d u) → Behind b o u → Clean x D M b u
  along b d o u e k h = subst (λ (l : List Frame). Clean x D M l u) (sym e) (k (subst (λ (l : List Frame). Behind l o u) e h))

  clean-body : (b : Body) → Passes b
  clean-body done y before c o u h j g k =
      let n = (named_head M before Return u h.names).0 in
      (passes before c o Return h.opened (not_stray before (c ∷ o) Return u h) n refl, tt, k (behind before (c ∷ o) Return u h))
  clean-body (leaf l r) y before c o u h j g k =
      let f = line_of l in
      let v = lines_of r ++ u in
      let n = (named_head M before f v h.names).0 in
      let z = subst (λ (x : List ℕ). Behind (before ++ f ∷ []) x v) (leaf-step l (length before) (c ∷ o)) (behind before (c ∷ o) f v h) in (
        passes before c o f h.opened (not_stray before (c ∷ o) f v h) n (leaf-deep before l),
        leaf_in x l j.0 g.0,
        clean-body r y (before ++ f ∷ []) c o u z j.1 g.1 (along ((before ++ f ∷ []) ++ lines_of r) (before ++ (f ∷ lines_of r)) o u (append_snoc before f (lines_of r)) k),
      )
  clean-body (child w i a r) y before c o u h j g k =
      let f = opening w i in
      let v = lines_of a ++ (lines_of r ++ u) in
      let z = subst (λ (l : List Frame). Behind before (c ∷ o) (f ∷ l)) (append_assoc (lines_of a) (lines_of r) u) h in
      let n = (named_head M before f v z.names).0 in
      let q = subst (λ (x : List ℕ). Behind (before ++ f ∷ []) x v) (opening-step w i (length before) (c ∷ o)) (behind before (c ∷ o) f v z) in
      let e = append_assoc (before ++ f ∷ []) (lines_of a) (lines_of r) ∙ append_snoc before f (lines_of a ++ lines_of r) in (
        passes before c o f z.opened (not_stray before (c ∷ o) f v z) n (opening-deep before w i c o z.opened g.2),
        opening_in x y w i j.0,
        subst (Clean x D M (before ++ f ∷ [])) (sym (append_assoc (lines_of a) (lines_of r) u))
            (clean-body a i (before ++ f ∷ []) (suc (length before)) (c ∷ o) (lines_of r ++ u) q j.1 g.3
            (λ p. clean-body r y ((before ++ f ∷ []) ++ lines_of a) c o u p j.2 g.4
            (along (((before ++ f ∷ []) ++ lines_of a) ++ lines_of r) (before ++ (f ∷ (lines_of a ++ lines_of r))) o u e k))),
      )

tree-passes : (f : Family) (D M : ℕ) (t : List Frame) → IsTrace f D M t → Clean f D M [] t
tree-passes f D M t x =
    let e : t ≡ lines_of x.body ++ [] = x.lines ∙ sym (append-nil (lines_of x.body)) in
    subst (Clean f D M []) (sym e)
    (clean-body f D M (sites t) x.body 0 [] root [] [] (record { opened = refl; names = subst (λ (l : List Frame). Named M [] (naming l)) e x.named; owned = subst (Owned false) e x.owned }) x.of x.within (λ h. ap empty h.opened))

-- LAW: lines pass exactly where they are the lines of a body within the limits that name their sites by the rules, each
-- 07 line directly after a cost
pub fine-is-trace : {f : Family} (D M : ℕ) (t : List Frame) → Fine f D M t → IsTrace f D M t
fine-is-trace {f = g} D M t f =
    let p = parts D M t f in
    record { body = p.body; of = p.of; lines = p.lines; named = clean-named g D M [] t f.clean; owned = clean-owned g D M [] t f.clean; within = p.within }

-- LAW: an accepted trace has at most M sites
pub sites_le_M : {f : Family} (D M : ℕ) (t : List Frame) → Fine f D M t → sites t ≤ M
sites_le_M {f = g} D M t f = clean-sites g D M [] t f.clean numbered-start (omega arith)

pub trace-is-fine : {f : Family} (D M : ℕ) (t : List Frame) → 1 ≤ D → D ≤ 64 → M ≤ 255 → length t ≤ most_lines → IsTrace f D M t → Fine f D M t
trace-is-fine {f = f} D M t a b c d x = record { clean = tree-passes f D M t x; least = a; most = b; sites_most = c; lines_most = d }

-- ── and the characters ──

clean-accepted : (g : Family) (D M n : ℕ) (before : List Frame) (rs : List Read) (u : List Frame) → Reads n rs u → Clean g D M before u → scan D M before rs ≡ accepted (before ++ u)
clean-accepted g D M n before [] [] r c = ap (λ (b : Bool). cond b (accepted before) (refused 14 (length before))) c ∙ ap accepted (sym (append-nil before))
clean-accepted g D M n before [] (f ∷ u) r c = absurd r
clean-accepted g D M n before (l ∷ ls) [] r c = absurd r
clean-accepted g D M n before (l ∷ ls) (f ∷ u) r c =
    ap (λ (x : Read). judged D M before x (λ f. scan D M (before ++ f ∷ []) ls)) r.0
    ∙ ap (λ (b : Bool). cond b (scan D M (before ++ f ∷ []) ls) (refused (fault D M before f) n)) (eq-eqb (fault D M before f) 0 c.0)
    ∙ clean-accepted g D M (suc n) (before ++ f ∷ []) ls u r.1 c.2
    ∙ ap accepted (append_snoc before f u)

-- LAW: where the room is there, a text is accepted exactly if it is whole lines that read as frames that pass
pub accepts-accepted : {g : Family} (s : List ℕ) (D M : ℕ) (t : List Frame) → Accepts g s D M t → verdict_of g s D M true ≡ accepted t
accepts-accepted {g = g} s D M t h =
    let f = h.fine in
    let n : line_count s ≤ most_lines = omega (arith, f.lines_most, reads-length 0 (reads_of g s) t h.reads_as, reads-from-length g s 0 (line_count s)) in
    let pass : checks (length s) D M true ≡ 0 = simp (le-leb 1 D f.least, le-leb D 64 f.most, le-leb M 255 f.sites_most, eq-eqb (length s % 23) 0 h.whole_lines, le-ltb most_lines (line_count s) n) in
    elim (by-checks g s D M true) [ inl k ↦ k.1 ∙ clean-accepted g D M 0 [] (reads_of g s) t h.reads_as f.clean | inr k ↦ absurd (k.0 pass) ]

pub accepted_iff : (g : Family) (s : List ℕ) (D M : ℕ) (t : List Frame) → (verdict_of g s D M true ≡ accepted t) ↔ Accepts g s D M t
accepted_iff g s D M t = (λ e. (accepted-is-of g s D M true t e).1, accepts-accepted {g = g} s D M t)
