-- The second pass: what each item asks for and comes to, and what the loop over a body's items keeps, with no code in sight.
use mathlib.Core.Path.{◌≡◌, refl, ap, ◌∙◌, sym, subst}
use mathlib.Core.Logic.{◌⊎◌, inl, inr}
use mathlib.Core.Bool.{Bool, true, false, cond}
use mathlib.Core.List.{List}
use Prim.Native.Nat.{ℕ, suc, ◌+◌, ◌-◌, ◌^◌, ◌≤◌, ◌<◌}
use native.Mathlib.Numerals.{add-one}
use native.Mathlib.Omega.{arith}
use lib.Dec.{ltb}
use lib.ListN.{length}
use Rattle.line.specs.Family.{Base}
use Rattle.line.specs.At.{kind_at, site_at, value_at}
use Rattle.trace.specs.Tree.{Way, call, spawn, async, pass, finish, Leaf, spend, sync, note, leaf_work, Body, done, leaf, child, size, work_of}
use Rattle.weigh.specs.Weighed.{plainly}
use Rattle.walk.specs.Stands.{Says, kind_of, site_of}
use Rattle.walk.specs.Reads.{Reads}
use Rattle.walk.specs.Nested.{Nested}
use Rattle.walk.specs.Item.{More, rest, item_size, item_work}
use Rattle.walk.proofs.Items.{size-item, size-some, item-some, work-item, reads-rest, nested-rest}
use Rattle.walk.proofs.Lines.{is-more, is-done, is-sync, is-note}
use Rattle.walk.proofs.Says.{kind-says, site-says, value-says}
use Rattle.walk.proofs.Child.{cost-is, call_is, spawn_is, Child, child-is, nested-child}
use Rattle.why.specs.declared.Seen.{Seen}
use Rattle.why.specs.declared.Sought.{Sought}
use Rattle.why.specs.declared.Reached.{Reached}
use Rattle.why.specs.declared.Returned.{Returned}
use Rattle.why.specs.Seek.{in_series, heavier_of, unseen, start, joined_seen, called_seen, spawned_seen, leaf_seen, ended_seen, child_seen, seek, sought}
use Rattle.why.specs.Second.{marked_in, line_seen, reached, returned, item_seen, load_seen, Asks, ItemAsks, ItemLeaves, ItemsLeave, BodyAsks, BodyLeaves}

-- ── what is seen weighs no more than what is read ──

-- of two, what is taken weighs no more than both
pub heavier_le : (a b : Seen) → (heavier_of a b).weighs.0 ≤ a.weighs.0 + b.weighs.0
heavier_le a b = go (ltb a.weighs.0 b.weighs.0)
  where
    go : (t : Bool) → (cond t b a).weighs.0 ≤ a.weighs.0 + b.weighs.0
    go true = omega arith
    go false = omega arith

spawned-load : (g : Seen) (k : Sought) → load_seen (spawned_seen g k) ≤ load_seen k + g.weighs.0
spawned-load g k = go (ltb k.l.weighs.0 (k.c.weighs.0 + g.weighs.0))
  where
    go : (t : Bool) → load_seen (cond t (record { p = in_series k.p k.c; l = g; c = unseen }) k) ≤ load_seen k + g.weighs.0
    go true = omega arith
    go false = omega arith

-- a child whose items add at most x to whatever is seen where they begin
module _ (f : Sought → Sought) (x : ℕ) (most : (k : Sought) → load_seen (f k) ≤ load_seen k + x) where
  ended-load : (ended_seen f).weighs.0 ≤ x
  ended-load = omega (arith, heavier_le (f start).l (f start).c, most start)

  child-load : (w : Way) (k : Sought) → load_seen (child_seen w f k) ≤ load_seen k + x
  child-load call k = omega (arith, ended-load)
  child-load spawn k = omega (arith, spawned-load (ended_seen f) k, ended-load)
  child-load async k = omega (arith, spawned-load (ended_seen f) k, ended-load)
  child-load pass k = most k
  child-load finish k = omega (arith, ended-load)

module _ (marked : ℕ → Bool) where
  leaf-load : (l : Leaf) (n : ℕ) (k : Sought) → load_seen (leaf_seen marked n l k) ≤ load_seen k + leaf_work l
  leaf-load (spend v) n k = omega arith
  leaf-load sync n k = omega (arith, heavier_le k.l k.c)
  leaf-load (note x) n k = omega arith

  seek-load : (b : Body) (n : ℕ) (k : Sought) → load_seen (seek marked n b k) ≤ load_seen k + work_of b
  seek-load done n k = omega arith
  seek-load (leaf l r) n k = omega (arith, seek-load r (suc n) (leaf_seen marked n l k), leaf-load l n k)
  seek-load (child w i g r) n k =
      let f = seek marked (suc n) g in
      omega (arith, seek-load r (suc n + size g) (child_seen w f k), child-load f (work_of g) (seek-load g (suc n)) w k)

  sought_le : (b : Body) (n : ℕ) → (sought marked n b).weighs.0 ≤ work_of b
  sought_le b n = ended-load (seek marked n b) (work_of b) (seek-load b n)

  item-load : (b : Body) (n : ℕ) (k : Sought) → load_seen (item_seen marked n b k) ≤ load_seen k + item_work b
  item-load done n k = omega arith
  item-load (leaf l r) n k = leaf-load l n k
  item-load (child w i g r) n k = child-load (seek marked (n + 1) g) (work_of g) (seek-load g (n + 1)) w k

  -- ── a body is its first item and the rest ──

  -- the line behind an item of one line and z more
  behind : (n z : ℕ) → n + (1 + z) ≡ suc n + z
  behind n z = omega arith

  seek-item : (b : Body) (n : ℕ) (k : Sought) → More b → seek marked n b k ≡ seek marked (n + item_size b) (rest b) (item_seen marked n b k)
  seek-item done n k h = absurd h
  seek-item (leaf l r) n k h = ap (λ (m : ℕ). seek marked m r (leaf_seen marked n l k)) (sym (add-one n))
  seek-item (child w i g r) n k h = rw (behind n (size g), add-one n)

-- ── the items ──

module _ {s m : List ℕ} {deep : ℕ} {f : Reached} (l : Asks s m deep f) where
  -- there is a line, it has a mark, and there is one behind it
  pub line_in_lem : f.at < length m
  line_in_lem = omega (arith, l.marks_long, size-some l.body)

  pub line-fits : f.at + 1 < 2 ^ 64
  line-fits = omega (arith, l.ends, size-some l.body)

  -- a sync, or the return
  pub join_asks : load_seen f.sought < 2 ^ 64
  join_asks = omega (arith, l.fits)

  module _ (kind : ℕ) (reads : kind ≡ kind_at s f.at) where
    says : Says Base kind_of s f.at kind
    says = kind-says Base s f.at f.at kind refl reads

    pub sync-leaves : kind ≡ 4 → (k : Sought) → k ≡ joined_seen f.sought → ItemLeaves s m f (reached (f.at + 1) k)
    sync-leaves k4 k e row b more h =
        let q = is-sync Base plainly s f.at row kind says b h k4 in
        ap (reached (f.at + 1)) e ∙ ap (λ (x : Body). reached (f.at + item_size x) (item_seen (marked_in m) f.at x f.sought)) (sym q.1)

    -- a line that weighs nothing and joins nothing
    pub note-leaves : (kind ≡ 1) ⊎ (kind ≡ 7) → ItemLeaves s m f (reached (f.at + 1) f.sought)
    note-leaves k17 row b more h =
        let q = is-note Base plainly s f.at row kind says b h k17 in
        ap (λ (x : Body). reached (f.at + item_size x) (item_seen (marked_in m) f.at x f.sought)) (sym q.2)

    -- a cost
    module _ (k6 : kind ≡ 6) where
      cost-here : (row : ℕ) (b : Body) → Reads Base plainly s f.at row b → (r : Body) × (b ≡ leaf (spend (value_at s f.at)) r)
      cost-here row = cost-is Base plainly s f.at row kind says (value_at s f.at) (value_at s f.at) (value-says Base s f.at f.at (value_at s f.at) refl refl) refl k6

      pub cost-asks : (x : Seen) → x ≡ line_seen s m f.at → f.sought.c.weighs.0 + x.weighs.0 < 2 ^ 64
      cost-asks x e = let q = cost-here l.row l.body l.reads in omega (arith, l.fits, ap work_of q.1, ap (λ (y : Seen). y.weighs.0) e)

      pub cost-leaves : (x : Seen) → x ≡ line_seen s m f.at → (k : Sought) → k ≡ called_seen x f.sought → ItemLeaves s m f (reached (f.at + 1) k)
      cost-leaves x e k c row b more h =
          let q = cost-here row b h in
          ap (reached (f.at + 1)) (c ∙ ap (λ (y : Seen). called_seen y f.sought) e)
          ∙ ap (λ (y : Body). reached (f.at + item_size y) (item_seen (marked_in m) f.at y f.sought)) (sym q.1)

-- the item is a call or a spawn
pub record Calls (s m : List ℕ) (kind deep : ℕ) (f : Reached) : Type 0 where
  pub asks : ItemAsks s m kind deep f
  pub no_cost : kind ≡ 6 → ⊥
  pub no_sync : kind ≡ 4 → ⊥
  pub no_instructions : kind ≡ 7 → ⊥
  pub no_note : kind ≡ 1 → ⊥

-- it is, by its kind
pub calls : {s m : List ℕ} {kind deep : ℕ} {f : Reached} → ItemAsks s m kind deep f → ((kind ≡ 6) ⊎ ((kind ≡ 4) ⊎ ((kind ≡ 1) ⊎ (kind ≡ 7))) → ⊥) → Calls s m kind deep f
calls asks other =
    record { asks = asks; no_cost = λ e. other (inl e); no_sync = λ e. other (inr (inl e)); no_note = λ e. other (inr (inr (inl e))); no_instructions = λ e. other (inr (inr (inr e))) }

module _ {s m : List ℕ} {kind deep : ℕ} {f : Reached} (h : Calls s m kind deep f) where
  abbrev l : Asks s m deep f
  l = h.asks.asks

  abbrev site : ℕ
  site = site_at s f.at

  kinded : Says Base kind_of s f.at kind
  kinded = kind-says Base s f.at f.at kind refl h.asks.kind_is

  sited : Says Base site_of s f.at site
  sited = site-says Base s f.at f.at site refl refl

  abbrev made : Child Base plainly s f.at site l.body
  made = child-is plainly s f.at l.row kind site kinded sited h.no_cost h.no_sync h.no_note h.no_instructions l.body l.reads h.asks.more

  in_it : (site ≤ l.sites) × (suc l.d ≤ l.D) × Nested l.sites l.D (suc l.d) made.g × (1 + size made.g ≤ size l.body)
  in_it = nested-child Base plainly s f.at site l.sites l.D l.d l.body made l.nested

  pub deeper : 1 ≤ deep
  deeper = omega (arith, in_it.1, l.depth)

  pub body-asks : BodyAsks s m (deep - 1) (f.at + 1)
  body-asks =
      record {
        row = site;
        body = made.g;
        reads = made.reads;
        sites = l.sites;
        D = l.D;
        d = suc l.d;
        nested = in_it.2;
        depth = omega (arith, l.depth, deeper);
        ends = omega (arith, l.ends, in_it.3);
        marks_long = omega (arith, l.marks_long, in_it.3);
        fits = omega (arith, l.fits, ap work_of made.is);
      }

  -- the child has returned
  module _ (c : Returned) (leaves : BodyLeaves s m (f.at + 1) c) where
    child_fits : load_seen f.sought + c.seen.weighs.0 < 2 ^ 64
    child_fits =
        omega (arith, l.fits, ap work_of made.is, ap (λ (x : Returned). x.seen.weighs.0) (leaves site made.g made.reads), sought_le (marked_in m) made.g (f.at + 1))

    pub called-asks : f.sought.c.weighs.0 + c.seen.weighs.0 < 2 ^ 64
    called-asks = omega (arith, child_fits)

    pub spawned-asks : (f.sought.c.weighs.0 + c.seen.weighs.0 < 2 ^ 64) × (f.sought.p.weighs.0 + f.sought.c.weighs.0 < 2 ^ 64)
    spawned-asks = (called-asks, omega (arith, child_fits))

    -- its body is g: what is seen behind it
    child-leaves : (y : Seen → Sought → Sought) (i : ℕ) (g : Body) → Reads Base plainly s (f.at + 1) i g → (k : Sought) → k ≡ y c.seen f.sought
        → reached c.at k ≡ reached (f.at + (1 + size g)) (y (sought (marked_in m) (f.at + 1) g) f.sought)
    child-leaves y i g r k e =
        let q = leaves i g r in
        let at : c.at ≡ f.at + (1 + size g) = omega (arith, ap (λ (x : Returned). x.at) q) in
        ap (λ (n : ℕ). reached n k) at ∙ ap (reached (f.at + (1 + size g))) (e ∙ ap (λ (x : Returned). y x.seen f.sought) q)

    pub call_leaves : kind ≡ 2 → (k : Sought) → k ≡ called_seen c.seen f.sought → ItemLeaves s m f (reached c.at k)
    call_leaves k2 k e row b more st =
        let q = call_is plainly s f.at row kind kinded site sited b st k2 in
        child-leaves called_seen site q.0 q.3 k e ∙ ap (λ (x : Body). reached (f.at + item_size x) (item_seen (marked_in m) f.at x f.sought)) (sym q.2)

    pub spawn_leaves : (kind ≡ 2 → ⊥) → (k : Sought) → k ≡ spawned_seen c.seen f.sought → ItemLeaves s m f (reached c.at k)
    spawn_leaves k2 k e row b more st =
        let q = spawn_is plainly s f.at row kind kinded site sited h.no_cost h.no_sync h.no_note h.no_instructions b st more k2 in
        child-leaves spawned_seen site q.0 q.3 k e ∙ ap (λ (x : Body). reached (f.at + item_size x) (item_seen (marked_in m) f.at x f.sought)) (sym q.2)

-- ── the loop over the items ──

-- the loop has come from f₀ to f, whose next line is of this kind: what is left of the body is seen as the whole from f₀ on
pub record Loop (s m : List ℕ) (deep : ℕ) (f₀ f : Reached) (kind : ℕ) : Type 0 where
  pub kind_is : kind ≡ kind_at s f.at
  pub asks : Asks s m deep f
  pub turns : (row : ℕ) (b : Body) → Reads Base plainly s f₀.at row b
      → (l : Body) × Reads Base plainly s f.at row l × (f.at + size l ≡ f₀.at + size b) × (seek (marked_in m) f.at l f.sought ≡ seek (marked_in m) f₀.at b f₀.sought)

pub loop-start : {s m : List ℕ} {deep : ℕ} {f : Reached} → Asks s m deep f → (kind : ℕ) → kind ≡ kind_at s f.at → Loop s m deep f f kind
loop-start asks kind k = record { kind_is = k; asks = asks; turns = λ row b h. (b, h, refl, refl) }

module _ {s m : List ℕ} {deep : ℕ} {f₀ f : Reached} {kind : ℕ} (o : Loop s m deep f₀ f kind) where
  told : Says Base kind_of s f.at kind
  told = kind-says Base s f.at f.at kind refl o.kind_is

  more_of : (kind ≡ 5 → ⊥) → (row : ℕ) (b : Body) → Reads Base plainly s f.at row b → More b
  more_of k5 row b h = is-more Base plainly s f.at row kind told b h k5

  pub loop-asks : (kind ≡ 5 → ⊥) → ItemAsks s m kind deep f
  loop-asks k5 = record { asks = o.asks; kind_is = o.kind_is; more = more_of k5 o.asks.row o.asks.body o.asks.reads }

  module _ (k5 : kind ≡ 5 → ⊥) (r : Reached) (leaves : ItemLeaves s m f r) where
    abbrev b : Body
    b = o.asks.body

    more : More b
    more = more_of k5 o.asks.row b o.asks.reads

    at_is : r.at ≡ f.at + item_size b
    at_is = ap (λ (x : Reached). x.at) (leaves o.asks.row b more o.asks.reads)

    pub loop-less : 65536 - r.at < 65536 - f.at
    loop-less = omega (arith, at_is, item-some b more, o.asks.ends, size-some b)

    asks_again : Asks s m deep r
    asks_again =
        record {
          row = o.asks.row;
          body = rest b;
          reads = subst (λ (n : ℕ). Reads Base plainly s n o.asks.row (rest b)) (sym at_is) (reads-rest Base plainly s f.at o.asks.row b more o.asks.reads);
          sites = o.asks.sites;
          D = o.asks.D;
          d = o.asks.d;
          nested = nested-rest o.asks.sites o.asks.D o.asks.d b o.asks.nested;
          depth = o.asks.depth;
          ends = omega (arith, at_is, size-item b more, o.asks.ends);
          marks_long = omega (arith, at_is, size-item b more, o.asks.marks_long);
          fits = omega (arith, ap (λ (x : Reached). load_seen x.sought) (leaves o.asks.row b more o.asks.reads), item-load (marked_in m) b f.at f.sought, work-item b, o.asks.fits);
        }

    pub loop_again : (next : ℕ) → next ≡ kind_at s r.at → Loop s m deep f₀ r next
    loop_again next k =
        record {
          kind_is = k;
          asks = asks_again;
          turns = λ row c h.
              let u = o.turns row c h in
              let x = more_of k5 row u.0 u.1 in
              let e = leaves row u.0 x u.1 in
              let at : r.at ≡ f.at + item_size u.0 = ap (λ (y : Reached). y.at) e in (
                rest u.0,
                subst (λ (n : ℕ). Reads Base plainly s n row (rest u.0)) (sym at) (reads-rest Base plainly s f.at row u.0 x u.1),
                omega (arith, at, size-item u.0 x, u.2),
                ap (λ (y : Reached). seek (marked_in m) y.at (rest u.0) y.sought) e ∙ sym (seek-item (marked_in m) u.0 f.at f.sought x) ∙ u.3,
              );
        }

  -- at the return
  pub loop-done : kind ≡ 5 → ItemsLeave s m deep f₀ f
  loop-done k5 =
      record {
        asks = o.asks;
        leaves = λ row c h.
            let u = o.turns row c h in
            let e = is-done Base plainly s f.at row kind told u.0 u.1 k5 in
            (omega (arith, u.2, ap size e), sym (ap (λ (y : Body). seek (marked_in m) f.at y f.sought) e) ∙ u.3);
      }

-- the items were read from the body's first line on, and the join at the return follows
pub body-leaves : {s m : List ℕ} {from deep : ℕ} {r : Reached} (k : Sought) → k ≡ start → ItemsLeave s m deep (reached from k) r → (x : Seen) → x ≡ (joined_seen r.sought).p
    → BodyLeaves s m from (returned (r.at + 1) x)
body-leaves {s} {m} {from} {deep} {r} k e i x j row b h =
    let o = i.leaves row b h in
    ap (λ (n : ℕ). returned n x) o.0 ∙ ap (returned (from + size b)) (j ∙ ap (λ (y : Sought). (joined_seen y).p) (o.1 ∙ ap (seek (marked_in m) from b) e))
