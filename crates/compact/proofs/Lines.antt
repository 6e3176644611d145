-- The compacted trace's lines are those of the compacted tree. Assumes nothing.
use mathlib.Core.Path.{◌≡◌, refl, sym, ◌∙◌, ap, ap₂}
use mathlib.Core.Bool.{Bool, true, false, not, cond, ◌||◌}
use mathlib.Core.List.{List, [], ◌∷◌, ◌++◌, append_assoc, append-nil}
use Prim.Native.Nat.{ℕ, zero, suc, ◌+◌}
use Rattle.line.specs.declared.Frame.{Frame}
use Rattle.line.specs.declared.Frame.TheVariants.{Site, Call, Spawn, Sync, Return, Cost, Instructions, Async, Finish}
use Rattle.trace.specs.Rows.{carried}
use Rattle.trace.specs.Tree.{Way, call, spawn, async, pass, finish, opening, site, carry, spend, sync, note, Body, done, leaf, child, lines_of, ahead}
use Rattle.trace.proofs.Basics.{clash}
use Rattle.trace.proofs.Named.{naming, naming-append}
use Rattle.trace.proofs.Measures.{carried-lines}
use Rattle.trace.proofs.Owned.{Owned, OwnedBody, owned-lines}
use Rattle.compact.specs.Compact.{both_fit, summed, merged_from}
use Rattle.compact.specs.Fold.{since, only_syncs, idle_sync, kept_from, compact}
use Rattle.compact.specs.Tree.{ends, later, summed_b, packed, compact_b}
use Rattle.compact.proofs.Sums.{cost_either, sync_either}

ends_is : (b : Body) (u : List Frame) → only_syncs (lines_of b ++ u) ≡ ends b
ends_is done u = refl
ends_is (leaf (spend v) r) u = refl
ends_is (leaf sync r) u = ends_is r u
ends_is (leaf (note (site s p)) r) u = refl
ends_is (leaf (note (carry v)) r) u = refl
ends_is (child call s g r) u = refl
ends_is (child spawn s g r) u = refl
ends_is (child async s g r) u = refl
ends_is (child pass s g r) u = refl
ends_is (child finish s g r) u = refl

summed-lines : (h j : ℕ) (b : Body) (u : List Frame) → summed h j (lines_of b ++ u) ≡ lines_of (summed_b h j b) ++ u
summed-lines zero j b u = refl
summed-lines (suc h) zero b u = refl
summed-lines (suc h) (suc j) b u = refl

opened : (w : Way) (s h j : ℕ) (x : Bool) (o : List Bool) (l : List Frame)
    → merged_from h j (kept_from (x ∷ o) (opening w s ∷ l)) ≡ summed h j (opening w s ∷ merged_from 0 0 (kept_from (false ∷ later w x ∷ o) l))
opened call s h j x o l = refl
opened spawn s h j x o l = refl
opened async s h j x o l = refl
opened pass s h j x o l = refl
opened finish s h j x o l = refl

-- ── a 07 line stays directly after its cost ──

not_carried : (t : List Frame) → Owned false t → carried t ≡ 0
not_carried [] w = refl
not_carried (Site s p ∷ t) w = refl
not_carried (Call s ∷ t) w = refl
not_carried (Spawn s ∷ t) w = refl
not_carried (Sync ∷ t) w = refl
not_carried (Return ∷ t) w = refl
not_carried (Cost v ∷ t) w = refl
not_carried (Instructions v ∷ t) w = clash (let z = w.0 in cc)
not_carried (Async s ∷ t) w = refl
not_carried (Finish ∷ t) w = refl

-- LAW: what the lines carry for the cost before them, those that are kept carry for it
pub kept-carried : (t : List Frame) (c : Bool) (o : List Bool) → Owned c t → carried (kept_from o t) ≡ carried t
kept-carried [] c o w = refl
kept-carried (Site s p ∷ t) c o w = refl
kept-carried (Call s ∷ t) c o w = refl
kept-carried (Spawn s ∷ t) c o w = refl
kept-carried (Sync ∷ t) c o w = go (idle_sync o t) (kept-carried t false (since Sync o) w.1 ∙ not_carried t w.1)
  where
    go : (e : Bool) → carried (kept_from (since Sync o) t) ≡ 0 → carried (cond e (kept_from (since Sync o) t) (Sync ∷ kept_from (since Sync o) t)) ≡ 0
    go true h = h
    go false h = refl
kept-carried (Return ∷ t) c o w = refl
kept-carried (Cost v ∷ t) c o w = refl
kept-carried (Instructions v ∷ t) c o w = refl
kept-carried (Async s ∷ t) c o w = refl
kept-carried (Finish ∷ t) c o w = refl

-- ── the lines of a body ──

-- what becomes of the lines of a body, before the lines u
abbrev After : Body → List Bool → List Frame → List Frame
After b o u = lines_of b ++ merged_from 0 0 (kept_from o u)

-- LAW: the lines of a body, compacted, are the lines of the compacted body
pub packed-lines : (b : Body) (c x : Bool) (h j : ℕ) (o : List Bool) (u : List Frame) → OwnedBody c b → Owned false u → merged_from h j (kept_from (x ∷ o) (lines_of b ++ u)) ≡ After (packed x h j b) o u
packed-lines done c x h j o u w n = summed-lines h j done (merged_from 0 0 (kept_from o u))
packed-lines (leaf (spend v) r) c x h j o u w n =
    ap (λ (i : ℕ). cond (both_fit (h + v) (j + i)) (merged_from (h + v) (j + i) k) (summed h j (merged_from v i k))) is
    ∙ go (both_fit (h + v) (j + ahead r)) (packed-lines r true x (h + v) (j + ahead r) o u w.1 n) (packed-lines r true x v (ahead r) o u w.1 n)
  where
    k : List Frame
    k = kept_from (x ∷ o) (lines_of r ++ u)

    is : carried k ≡ ahead r
    is = kept-carried (lines_of r ++ u) true (x ∷ o) (owned-lines r true u w.1 n) ∙ carried-lines r u

    go : (e : Bool) → merged_from (h + v) (j + ahead r) k ≡ After (packed x (h + v) (j + ahead r) r) o u → merged_from v (ahead r) k ≡ After (packed x v (ahead r) r) o u
        → cond e (merged_from (h + v) (j + ahead r) k) (summed h j (merged_from v (ahead r) k)) ≡ After (cond e (packed x (h + v) (j + ahead r) r) (summed_b h j (packed x v (ahead r) r))) o u
    go true a b = a
    go false a b = ap (summed h j) b ∙ summed-lines h j (packed x v (ahead r) r) (merged_from 0 0 (kept_from o u))
packed-lines (leaf sync r) c x h j o u w n =
    ap (λ (e : Bool). merged_from h j (cond (not x || e) k (Sync ∷ k))) (ends_is r u)
    ∙ go (not x || ends r) (packed-lines r false false h j o u w.1 n) (packed-lines r false false 0 0 o u w.1 n)
  where
    k : List Frame
    k = kept_from (false ∷ o) (lines_of r ++ u)

    go : (e : Bool) → merged_from h j k ≡ After (packed false h j r) o u → merged_from 0 0 k ≡ After (packed false 0 0 r) o u
        → merged_from h j (cond e k (Sync ∷ k)) ≡ After (cond e (packed false h j r) (summed_b h j (leaf sync (packed false 0 0 r)))) o u
    go true a b = a
    go false a b = ap (λ (l : List Frame). summed h j (Sync ∷ l)) b ∙ summed-lines h j (leaf sync (packed false 0 0 r)) (merged_from 0 0 (kept_from o u))
packed-lines (leaf (note (site s p)) r) c x h j o u w n =
    ap (λ (l : List Frame). summed h j (Site s p ∷ l)) (packed-lines r false x 0 0 o u w.1 n) ∙ summed-lines h j (leaf (note (site s p)) (packed x 0 0 r)) (merged_from 0 0 (kept_from o u))
packed-lines (leaf (note (carry v)) r) c x h j o u w n = packed-lines r false x h j o u w.1 n
packed-lines (child y s g r) c x h j o u w n =
    let z = later y x in
    opened y s h j x o ((lines_of g ++ lines_of r) ++ u)
    ∙ ap (λ (l : List Frame). summed h j (opening y s ∷ l))
    (ap (λ (l : List Frame). merged_from 0 0 (kept_from (false ∷ z ∷ o) l)) (append_assoc (lines_of g) (lines_of r) u)
    ∙ packed-lines g false false 0 0 (z ∷ o) (lines_of r ++ u) w.0 (owned-lines r false u w.1 n)
    ∙ ap (λ (l : List Frame). lines_of (compact_b g) ++ l) (packed-lines r false z 0 0 o u w.1 n)
    ∙ sym (append_assoc (lines_of (compact_b g)) (lines_of (packed z 0 0 r)) (merged_from 0 0 (kept_from o u))))
    ∙ summed-lines h j (child y s (compact_b g) (packed z 0 0 r)) (merged_from 0 0 (kept_from o u))

-- LAW: the compacted trace's lines are those of the compacted tree
pub compact-lines : (b : Body) → OwnedBody false b → compact (lines_of b) ≡ lines_of (compact_b b)
compact-lines b w = ap compact (sym (append-nil (lines_of b))) ∙ packed-lines b false false 0 0 [] [] w tt ∙ append-nil (lines_of (compact_b b))

-- ── its sites ──

opening-naming : (w : Way) (s : ℕ) (t u : List Frame) → naming t ≡ naming u → naming (opening w s ∷ t) ≡ naming (opening w s ∷ u)
opening-naming call s t u e = ap (λ (l : List Frame). opening call s ∷ l) e
opening-naming spawn s t u e = ap (λ (l : List Frame). opening spawn s ∷ l) e
opening-naming async s t u e = ap (λ (l : List Frame). opening async s ∷ l) e
opening-naming pass s t u e = ap (λ (l : List Frame). opening pass s ∷ l) e
opening-naming finish s t u e = e

summed-naming : (h j : ℕ) (b : Body) → naming (lines_of (summed_b h j b)) ≡ naming (lines_of b)
summed-naming zero j b = refl
summed-naming (suc h) zero b = refl
summed-naming (suc h) (suc j) b = refl

packed-naming : (b : Body) (x : Bool) (h j : ℕ) → naming (lines_of (packed x h j b)) ≡ naming (lines_of b)
packed-naming done x h j = summed-naming h j done
packed-naming (leaf (spend v) r) x h j =
    cost_either (λ b. naming (lines_of b) ≡ naming (lines_of r)) x h j v r (λ q. packed-naming r x (h + v) (j + ahead r))
    (λ q. summed-naming h j (packed x v (ahead r) r) ∙ packed-naming r x v (ahead r))
packed-naming (leaf sync r) x h j =
    sync_either (λ b. naming (lines_of b) ≡ naming (lines_of r)) x h j r (packed-naming r false h j) (summed-naming h j (leaf sync (packed false 0 0 r)) ∙ packed-naming r false 0 0)
packed-naming (leaf (note (site s p)) r) x h j =
    summed-naming h j (leaf (note (site s p)) (packed x 0 0 r)) ∙ ap (λ (l : List Frame). Site s p ∷ l) (packed-naming r x 0 0)
packed-naming (leaf (note (carry v)) r) x h j = packed-naming r x h j
packed-naming (child w s g r) x h j =
    let y = later w x in
    summed-naming h j (child w s (compact_b g) (packed y 0 0 r))
    ∙ opening-naming w s (lines_of (compact_b g) ++ lines_of (packed y 0 0 r)) (lines_of g ++ lines_of r)
    (naming-append (lines_of (compact_b g)) (lines_of (packed y 0 0 r))
    ∙ ap₂ (λ (k l : List Frame). k ++ l) (packed-naming g false 0 0) (packed-naming r y 0 0)
    ∙ sym (naming-append (lines_of g) (lines_of r)))

-- LAW: it names its sites as it did
pub compact-naming : (t : List Frame) (b : Body) → t ≡ lines_of b → OwnedBody false b → naming (compact t) ≡ naming t
compact-naming t b e w = ap naming (ap compact e ∙ compact-lines b w) ∙ packed-naming b false 0 0 ∙ sym (ap naming e)
