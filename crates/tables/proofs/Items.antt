-- The item reader: what each kind of item comes to, with no code in sight.
use mathlib.Core.Path.{◌≡◌, refl, ap, ◌∙◌, sym, subst}
use mathlib.Core.Bool.{Bool, true, false, cond}
use mathlib.Core.Logic.{◌⊎◌, inl, inr}
use mathlib.Core.List.{List, [], ◌++◌}
use Prim.Native.Nat.{ℕ, ◌+◌, ◌*◌, ◌-◌, ◌^◌, ◌≤◌, ◌<◌}
use native.Mathlib.Omega.{arith}
use lib.ListN.{length, get_or, take, drop}
use lib.Dec.{eqb}
use borrow.Author.Tests.{eqb-true, eqb-false}
use borrow.Rule.Slice.PartMut.{put_mid}
use Rattle.line.specs.At.{site_at, value_at}
use Rattle.line.specs.Family.{Family, Base}
use Rattle.trace.specs.Column.{Column, slot}
use Rattle.chain.specs.Plan.{CostLine, weight}
use Rattle.chain.proofs.Lists.{weight-append}
use Rattle.trace.specs.Tree.{Way, spawn, invokes, spend, sync, note, Body, leaf, child, ahead, size, work_of, instructions_of}
use Rattle.trace.specs.Fold.{cost_at, its_instructions, Chains, nothing, spent, called, spawned, ended, child_chains, run, chain_of, on_all}
use Rattle.trace.proofs.OnChain.{on-append}
use Rattle.weigh.specs.Weighed.{Weigh}
use Rattle.walk.specs.declared.Open.{Open}
use Rattle.walk.specs.declared.Credit.{Credit}
use Rattle.walk.specs.Stands.{Says, kind_by, kind_of, site_of}
use Rattle.walk.specs.Reads.{Reads}
use Rattle.walk.specs.Weight.{instructions_at}
use Rattle.walk.specs.Numbers.{numbers, passed_n, called_n, load, iload}
use Rattle.walk.specs.Gain.{ColumnFits, credit_of, ReturnFits, cost_gain, Returned, gain, made, Grown}
use Rattle.walk.specs.Item.{More, item_chains}
use Rattle.walk.specs.Nested.{Nested}
use Rattle.walk.specs.Reader.{ItemDone, alone, BodyDone}
use Rattle.walk.proofs.Items.{size-some, chain_le, chain-instructions}
use Rattle.walk.proofs.Says.{kind-says, site-says, value-says}
use Rattle.walk.proofs.Lines.{is-sync, is-note, instructions-ahead}
use Rattle.walk.proofs.Numbers.{called-numbers}
use Rattle.walk.proofs.Reader.{weightless}
use Rattle.walk.proofs.Child.{cost-is, call_is, spawn_is, Child, child-is, cost-fits, child-work, child-row, child-ready, child-body, count_fits, ChildDone, child-done}
use Rattle.walk.proofs.Child.{deeper as child-deeper}
use Rattle.tables.specs.Blocks.{Shows, since_at, part_at, child_at, Holds, behind, Asks, Spent, Joined, Spawned}
use Rattle.tables.specs.Reader.{Lent, ItemAsks, ItemLeaves, BodyAsks, BodyLeaves}
use Rattle.tables.proofs.Held.{child-called, child-spawned, opens}
use Rattle.tables.proofs.Parts.{standing, standing_le, part_in, part_length, child-none, child-back, since-shows, since-back, back-length, one_more}

module _ {y : Family} {how : Weigh} {s : List ℕ} {row deep : ℕ} {f : Open} {t rows : List ℕ} {n w : ℕ} (l : Lent y how s row deep f t rows n w) where
  -- there is a line behind this one
  pub line-fits : f.at + 1 < 2 ^ 64
  line-fits = omega (arith, l.ready.ends, size-some l.ready.body)

  -- the invocation's own blocks, and behind them the table of no chain
  own_room : n ≤ length t
  own_room = omega (arith, l.room)

  own-wide : (f.longest.0 ≡ 0 → ⊥) → 4 * n ≤ length t
  own-wide m = omega (arith, l.room, one_more l.rooms (3 * n) (l.opened m))

  -- where they begin can be said
  pub blocks-fit : 3 * n < 2 ^ 64
  blocks-fit = omega (arith, l.blocks, l.few)

  -- a step with no child beside the chains
  own-asks : (v j : ℕ) → v ≤ work_of l.ready.body → j ≤ instructions_of l.ready.body → Asks n w t f 0 v j
  own-asks v j h i =
      record {
        blocks = l.blocks;
        even = l.even;
        room = own_room;
        wide = own-wide;
        q = l.q;
        k = l.k;
        g = [];
        weighs = l.weighs;
        child = refl;
        holds = l.holds;
        fits = omega (arith, l.fits);
        ifits = omega (arith, l.ifits);
      }

  -- a sync, or the return
  pub join_asks : Asks n w t f 0 0 0 × (f.at + 1 < 2 ^ 64)
  join_asks = (own-asks 0 0 (omega arith) (omega arith), line-fits)

  pub sync-leaves : (kind : ℕ) → kind ≡ kind_by y s f.at → kind ≡ 4 → (r : Open) (t' : List ℕ) → Joined n w t f r t' → ItemLeaves y how s row f t rows n w r t' rows
  sync-leaves kind reads k4 r t' j b q k m h e sh =
      let z = is-sync y how s f.at row kind (kind-says y s f.at f.at kind refl reads) b h k4 in
      let d = j q k e sh in
      subst (λ (x : Body). ItemDone row f rows x k r rows × Holds n w t' (behind q (item_chains f.at row x k)) []) (sym z.1) (weightless row f rows sync z.0 k r refl refl d.0, d.1)

  -- a line that weighs nothing and joins nothing
  pub note-leaves : (kind : ℕ) → kind ≡ kind_by y s f.at → (kind ≡ 1) ⊎ (kind ≡ 7) → (r : Open) → r ≡ passed_n f → ItemLeaves y how s row f t rows n w r t rows
  note-leaves kind reads k1 r p b q k m h e sh =
      let z = is-note y how s f.at row kind (kind-says y s f.at f.at kind refl reads) b h k1 in
      subst (λ (x : Body). ItemDone row f rows x k r rows × Holds n w t (behind q (item_chains f.at row x k)) []) (sym z.2) (weightless row f rows (note z.0) z.1 k r refl refl (p ∙ ap passed_n e), sh)

-- the item is a cost of v with j instructions
pub record Costs (y : Family) (how : Weigh) (s : List ℕ) (kind row deep : ℕ) (f : Open) (t rows : List ℕ) (n w v j : ℕ) : Type 0 where
  pub asks : ItemAsks y how s kind row deep f t rows n w
  pub weight_is : v ≡ how f.at row (value_at s f.at)
  pub instructions_are : j ≡ instructions_at s f.at
  pub cost : kind ≡ 6

-- from what the steps before it say
pub costs : {y : Family} {how : Weigh} {s : List ℕ} {kind row deep : ℕ} {f : Open} {t rows : List ℕ} {n w v j : ℕ} → ItemAsks y how s kind row deep f t rows n w → v ≡ how f.at row (value_at s f.at) → j ≡ instructions_at s f.at → kind ≡ 6 → Costs y how s kind row deep f t rows n w v j
costs a v j k = record { asks = a; weight_is = v; instructions_are = j; cost = k }

module _ {y : Family} {how : Weigh} {s : List ℕ} {kind row deep : ℕ} {f : Open} {t rows : List ℕ} {n w v j : ℕ} (h : Costs y how s kind row deep f t rows n w v j) where
  begins : (b : Body) → Reads y how s f.at row b → (r : Body) × (b ≡ leaf (spend v) r)
  begins = cost-is y how s f.at row kind (kind-says y s f.at f.at kind refl h.asks.kind_is) (value_at s f.at) v (value-says y s f.at f.at (value_at s f.at) refl refl) h.weight_is h.cost

  -- whatever body stands here begins with it
  spend-is : (b : Body) → Reads y how s f.at row b → (r : Body) × (b ≡ leaf (spend v) r) × (j ≡ ahead r)
  spend-is b st =
      let z = begins b st in
      (z.0, z.1, h.instructions_are ∙ instructions-ahead y how s row f.at z.0 (subst (Reads y how s f.at row) z.1 st).1)

  here : (r : Body) × (h.asks.lent.ready.body ≡ leaf (spend v) r) × (j ≡ ahead r)
  here = let l = h.asks.lent in spend-is l.ready.body l.ready.reads

  -- it fits the rows and the work
  fit : (ColumnFits rows row Column.local v × ColumnFits rows row Column.ilocal j) × ((f.work.0 + v < 2 ^ 64) × (f.prefix.0 + (f.longest.0 + f.since.0) + v < 2 ^ 64))
  fit =
      let l = h.asks.lent in
      let z = cost-fits y how s row l.m deep f rows l.ready v here.0 here.1 in
      ((z.0.0, subst (ColumnFits rows row Column.ilocal) (sym here.2) z.0.1), z.1)

  pub rows-asks : ColumnFits rows row Column.local v × ColumnFits rows row Column.ilocal j
  rows-asks = fit.0

  -- it is at least 1
  some : 1 ≤ v
  some = let z = h.asks.lent.ready in (subst (Nested h.asks.lent.m z.D z.d) here.1 z.nested).0

  pub spend-asks : Asks n w t f 0 v j × ((2 * row + 2 ≤ w) × ((w ≤ 512) × ((1 ≤ v) × ((f.at + 1 < 2 ^ 64) × (f.work.0 + v < 2 ^ 64)))))
  spend-asks = let l = h.asks.lent in (own-asks l v j (omega (arith, ap work_of here.1)) (omega (arith, ap instructions_of here.1, here.2)), (omega (arith, l.ready.row_within, l.wide), (l.few, (some, (line-fits l, fit.1.0)))))

  -- what is left of it
  pub cost-leaves : (r : Open) (t' rows' : List ℕ) → Grown rows (cost_gain row v j) rows' → Spent n w row v j t f r t' → ItemLeaves y how s row f t rows n w r t' rows'
  cost-leaves r t' rows' grown sp b q k m st e sh =
      let z = spend-is b st in
      let d = subst (λ (x : ℕ). (r ≡ numbers (f.at + 1) (f.work.0 + v) (spent (cost_at f.at row v x) k)) × Holds n w t' (behind q (spent (cost_at f.at row v x) k)) []) z.2 (sp q k e sh) in
      subst (λ (x : Body). ItemDone row f rows x k r rows' × Holds n w t' (behind q (item_chains f.at row x k)) []) (sym z.1)
      (record { numbers_are = d.0; rows_are = subst (λ (x : ℕ). Grown rows (cost_gain row v x) rows') z.2 grown }, d.1)

-- Something opens whose row is site, and works in a part of its own: from the continuation's table on, as a called
-- child does, or behind the blocks in use, as a spawned one does.
pub record Parted {y : Family} {how : Weigh} {s : List ℕ} {row deep : ℕ} {f : Open} {t rows : List ℕ} {n w : ℕ} (l : Lent y how s row deep f t rows n w) (site o : ℕ) : Type 0 where
  pub child : Child y how s f.at site l.ready.body
  pub begins : (o ≡ since_at n f.longest.0) ⊎ (o ≡ part_at n f.longest.0)

module _ {y : Family} {how : Weigh} {s : List ℕ} {row deep : ℕ} {f : Open} {t rows : List ℕ} {n w : ℕ} {l : Lent y how s row deep f t rows n w} {site o : ℕ} (p : Parted l site o) where
  abbrev part : List ℕ
  part = take (length t - o) (drop o t)

  abbrev inner : Body
  inner = p.child.g

  -- one more may open, and its part begins inside the scratch
  pub deeper : 1 ≤ deep
  deeper = child-deeper y how s row l.m deep f rows l.ready site p.child

  room-below : o + (n + (l.rooms - 1) * (3 * n)) ≤ length t
  room-below = omega (arith, l.room, one_more l.rooms (3 * n) (omega (arith, deeper, l.for_deep)), part_in n f.longest.0 o p.begins)

  pub room : o ≤ length t
  room = omega (arith, room-below)

  -- whatever chains the invocation has come to: a called child's part begins with the continuation's table,
  module _ (q : List CostLine) (k : Chains) (e : f ≡ numbers f.at f.work.0 k) (sh : Holds n w t (behind q k) []) where
    called-shows : o ≡ since_at n f.longest.0 → Shows n w part (alone (standing (behind q k))) []
    called-shows at = since-shows n w l.blocks t f.longest.0 o at room (behind q k) (ap (λ (x : Open). x.longest.0) e) sh

    called-back : o ≡ since_at n f.longest.0 → (g : List CostLine) (z : List ℕ) → Shows n w z (alone (standing (behind q k) ++ g)) [] → Holds n w (put_mid o (length t - o) t z) (behind q (called g k)) []
    called-back at = since-back n w l.blocks t f.longest.0 o at room (behind q k) (ap (λ (x : Open). x.longest.0) e) sh

    -- and a spawned child's part is zero
    spawned-shows : o ≡ part_at n f.longest.0 → Shows n w part nothing []
    spawned-shows at = child-none n w l.blocks t f.longest.0 o at room (behind q k) (ap (λ (x : Open). x.longest.0) e) sh

    spawned-back : o ≡ part_at n f.longest.0 → (g : List CostLine) (z : List ℕ) → Shows n w z (alone g) [] → Holds n w (put_mid o (length t - o) t z) (behind q k) g
    spawned-back at = child-back n w l.blocks t f.longest.0 o at room (behind q k) (ap (λ (x : Open). x.longest.0) e) sh

  -- so it shows one chain, which comes to no more than what the invocation has come to
  front : (x : List CostLine) × (weight x ≤ weight l.q + load l.k) × (on_all its_instructions x ≤ on_all its_instructions l.q + iload l.k) × Shows n w part (alone x) []
  front = go p.begins
    where
      go : (o ≡ since_at n f.longest.0) ⊎ (o ≡ part_at n f.longest.0) → (x : List CostLine) × (weight x ≤ weight l.q + load l.k) × (on_all its_instructions x ≤ on_all its_instructions l.q + iload l.k) × Shows n w part (alone x) []
      go (inl at) = (
        standing (behind l.q l.k),
        omega (arith, standing_le weight weight-append (behind l.q l.k), weight-append l.q l.k.p),
        omega (arith, standing_le (on_all its_instructions) (on-append its_instructions) (behind l.q l.k), on-append its_instructions l.q l.k.p),
        called-shows l.q l.k l.weighs l.holds at,
      )
      go (inr at) = ([], omega arith, omega arith, spawned-shows l.q l.k l.weighs l.holds at)

  -- the child's reader may begin
  pub body-asks : BodyAsks y how s (f.at + 1) site (deep - 1) part rows n w
  body-asks =
      let is = child-body y how s row l.m deep f rows l.ready site p.child in
      record {
        m = l.m;
        ready = child-ready y how s row l.m deep f rows l.ready site p.child;
        blocks = l.blocks;
        even = l.even;
        wide = l.wide;
        few = l.few;
        rooms = l.rooms - 1;
        for_deep = omega (arith, l.for_deep);
        room = omega (arith, room-below, part_length o t room);
        opened = λ m. absurd (m refl);
        q = front.0;
        k = nothing;
        weighs = refl;
        holds = opens n w part front.0 front.3;
        fits = omega (arith, front.1, l.fits, ap work_of is, ap work_of p.child.is);
        ifits = omega (arith, front.2, l.ifits, ap instructions_of is, ap instructions_of p.child.is);
      }

  -- columns 2 and 3 of its row can be taken
  pub credit_asks : slot site Column.span < length rows
  credit_asks = child-row y how s row l.m deep f rows l.ready site p.child

  -- the child has returned: its numbers are c, and it left the part z and the rows rows₁
  pub record Back (c : Open) (z rows₁ : List ℕ) : Type 0 where
    pub part_long : length z ≡ length part
    pub rows_long : length rows₁ ≡ length rows
    pub leaves : BodyLeaves y how s (f.at + 1) site part rows n w c z rows₁

  pub came_back : {c : Open} {z rows₁ : List ℕ} → length z ≡ length part → length rows₁ ≡ length rows → BodyLeaves y how s (f.at + 1) site part rows n w c z rows₁ → Back c z rows₁
  came_back a b l = record { part_long = a; rows_long = b; leaves = l }

  module _ {c : Open} {z rows₁ : List ℕ} (u : Back c z rows₁) where
    abbrev pub back : List ℕ
    back = put_mid o (length t - o) t z

    pub back_long : length back ≡ length t
    back_long = back-length o t z u.part_long

    left : BodyDone (f.at + 1) site rows inner c rows₁
    left = (u.leaves inner front.0 p.child.reads front.3).0

    work_fits : f.work.0 + c.work.0 < 2 ^ 64
    work_fits = omega (arith, ap (λ (x : Open). x.work.0) left.numbers_are, (child-work y how s row l.m deep f rows l.ready site p.child).0)

    -- what the child came to, and what the invocation's tables may yet come to
    prefix_is : weight (chain_of (f.at + 1) site inner) ≡ c.prefix.0
    prefix_is = sym (ap (λ (x : Open). x.prefix.0) left.numbers_are)

    pub all_fit : weight l.q + load l.k + c.prefix.0 < 2 ^ 64
    all_fit = omega (arith, prefix_is, l.fits, ap work_of p.child.is, chain_le inner (f.at + 1) site)

    -- a called child's numbers can be taken
    pub called-asks : (f.work.0 + c.work.0 < 2 ^ 64) × (f.since.0 + c.prefix.0 < 2 ^ 64)
    called-asks = (work_fits, omega (arith, all_fit, ap (λ (x : Open). x.since.0) l.weighs))

    -- and a spawned child's chain
    pub spawned-asks : o ≡ part_at n f.longest.0 → Asks n w back f c.prefix.0 0 0 × (f.work.0 + c.work.0 < 2 ^ 64)
    spawned-asks at =
        let g = chain_of (f.at + 1) site inner in
        let d = u.leaves inner [] p.child.reads (spawned-shows l.q l.k l.weighs l.holds at) in (
          record {
            blocks = l.blocks;
            even = l.even;
            room = omega (arith, own_room l, back_long);
            wide = λ m. omega (arith, own-wide l m, back_long);
            q = l.q;
            k = l.k;
            g = g;
            weighs = l.weighs;
            child = prefix_is;
            holds = spawned-back l.q l.k l.weighs l.holds at g z d.1;
            fits = omega (arith, all_fit);
            ifits = omega (arith, l.ifits, ap instructions_of p.child.is, chain-instructions inner (f.at + 1) site);
          },
          work_fits,
        )

    -- what a child behind the blocks in use came to, whatever its body g
    pub parallel-done : o ≡ part_at n f.longest.0 → (g : Body) → Reads y how s (f.at + 1) site g → (q : List CostLine) (k : Chains) → f ≡ numbers f.at f.work.0 k → Holds n w t (behind q k) []
        → BodyDone (f.at + 1) site rows g c rows₁ × Shows n w z (alone (chain_of (f.at + 1) site g)) []
    parallel-done at g reads q k e sh = u.leaves g [] reads (spawned-shows q k e sh at)

    -- behind a child that goes on in the continuation's table, whatever its body g
    pub called-leaves : o ≡ since_at n f.longest.0 → (g : Body) → Reads y how s (f.at + 1) site g → (q : List CostLine) (k : Chains) → f ≡ numbers f.at f.work.0 k → Holds n w t (behind q k) []
        → BodyDone (f.at + 1) site rows g c rows₁ × Holds n w back (behind q (called (chain_of (f.at + 1) site g) k)) []
    called-leaves at g reads q k e sh =
        let d = u.leaves g (standing (behind q k)) reads (called-shows q k e sh at) in
        (d.0, called-back q k e sh at (chain_of (f.at + 1) site g) z d.1)

    -- columns 2 and 3 of its row were taken before it
    module _ {before : Credit} (taken : before ≡ credit_of rows site) where
      -- it can be counted
      pub count-asks : ReturnFits before rows₁ site c.work.0 c.prefix.0
      count-asks = count_fits y how s row l.m deep f rows l.ready site p.child before c rows₁ taken u.rows_long left

      -- and was
      module _ {rows₂ : List ℕ} (counts : Returned before site c.work.0 c.prefix.0 rows₁ rows₂) where
        -- the numbers and the rows behind it, where its body is g
        pub counted : (g : Body) → BodyDone (f.at + 1) site rows g c rows₁ → ChildDone f site rows g c rows₂
        counted g d = child-done f site rows before rows₁ rows₂ g c taken u.rows_long d counts

        -- behind one that is parallel to the continuation, in whatever row, and the step left r
        pub parallel-leaves : (at_row : ℕ) (v : Way) → ((x : Chains → Chains) (k : Chains) → child_chains v x k ≡ spawned (ended x) k) → invokes v ≡ true → o ≡ part_at n f.longest.0
            → ((b : Body) → Reads y how s f.at at_row b → More b → (g : Body) × (r : Body) × (b ≡ child v site g r) × Reads y how s (f.at + 1) site g)
            → (r : Open) (t₂ : List ℕ) → Spawned n w back f c r t₂ → ItemLeaves y how s at_row f t rows n w r t₂ rows₂
        parallel-leaves at_row v forks counts-it at is r t₂ step b q k m st e sh =
            let x = is b st m in
            let d = parallel-done at x.0 x.3 q k e sh in
            let j = counted x.0 d.0 in
            let g = chain_of (f.at + 1) site x.0 in
            let a = step q k g e j.chain (spawned-back q k e sh at g z d.1) in
            let same = sym (forks (run (f.at + 1) site x.0) k) in
            subst (λ (z : Body). ItemDone at_row f rows z k r rows₂ × Holds n w t₂ (behind q (item_chains f.at at_row z k)) []) (sym x.2) (
              record {
                numbers_are = a.0 ∙ j.numbers_are (spawned g k) ∙ ap (numbers (f.at + (1 + size x.0)) (f.work.0 + work_of x.0)) same;
                rows_are = λ i h. j.rows_are i h ∙ ap (λ (b : Bool). get_or rows i 0 + cond b (made site x.0 i) (gain site x.0 i)) (sym counts-it);
              },
              subst (λ (z : Chains). Holds n w t₂ (behind q z) []) same a.1,
            )

-- the item is a call or a spawn of site, and the child's part begins at o
pub record Calls (how : Weigh) (s : List ℕ) (kind row deep : ℕ) (f : Open) (t rows : List ℕ) (n w site o : ℕ) : Type 0 where
  pub asks : ItemAsks Base how s kind row deep f t rows n w
  pub site_is : site ≡ site_at s f.at
  pub no_cost : kind ≡ 6 → ⊥
  pub no_sync : kind ≡ 4 → ⊥
  pub no_note : kind ≡ 1 → ⊥
  pub no_carry : kind ≡ 7 → ⊥
  pub begins : o ≡ child_at kind n f.longest.0

-- from what the steps before it say
pub calls : {how : Weigh} {s : List ℕ} {kind row deep : ℕ} {f : Open} {t rows : List ℕ} {n w site o : ℕ} → ItemAsks Base how s kind row deep f t rows n w → site ≡ site_at s f.at → (kind ≡ 6 → ⊥) → (kind ≡ 4 → ⊥) → (kind ≡ 1 → ⊥) → (kind ≡ 7 → ⊥) → o ≡ child_at kind n f.longest.0
    → Calls how s kind row deep f t rows n w site o
calls a s k6 k4 k1 k7 o = record { asks = a; site_is = s; no_cost = k6; no_sync = k4; no_note = k1; no_carry = k7; begins = o }

module _ {how : Weigh} {s : List ℕ} {kind row deep : ℕ} {f : Open} {t rows : List ℕ} {n w site o : ℕ} (h : Calls how s kind row deep f t rows n w site o) where
  abbrev l : Lent Base how s row deep f t rows n w
  l = h.asks.lent

  says : Says Base kind_of s f.at kind
  says = kind-says Base s f.at f.at kind refl h.asks.kind_is

  sited : Says Base site_of s f.at site
  sited = site-says Base s f.at f.at site refl h.site_is

  -- a called child goes on in the continuation's table, and a spawned one works behind the blocks in use
  at-since : kind ≡ 2 → o ≡ since_at n f.longest.0
  at-since k2 = h.begins ∙ child-called kind n f.longest.0 k2

  pub at_part : (kind ≡ 2 → ⊥) → o ≡ part_at n f.longest.0
  at_part k2 = h.begins ∙ child-spawned kind n f.longest.0 k2

  pub parted : Parted l site o
  parted = record { child = child-is how s f.at row kind site says sited h.no_cost h.no_sync h.no_note h.no_carry l.ready.body l.ready.reads h.asks.more; begins = go (eqb kind 2) refl }
    where
      go : (b : Bool) → eqb kind 2 ≡ b → (o ≡ since_at n f.longest.0) ⊎ (o ≡ part_at n f.longest.0)
      go true e = inl (at-since (eqb-true kind 2 e))
      go false e = inr (at_part (eqb-false kind 2 e))

  -- the child has returned, and was counted; the step left r
  module _ {c : Open} {z rows₁ : List ℕ} (u : Back parted c z rows₁) {before : Credit} (taken : before ≡ credit_of rows site) {rows₂ : List ℕ} (counts : Returned before site c.work.0 c.prefix.0 rows₁ rows₂) (r : Open) where
    pub call_leaves : kind ≡ 2 → r ≡ called_n c f → ItemLeaves Base how s row f t rows n w r (back parted u) rows₂
    call_leaves k2 er b q k m st e sh =
        let x = call_is how s f.at row kind says site sited b st k2 in
        let d = called-leaves parted u (at-since k2) x.0 x.3 q k e sh in
        let v = counted parted u taken {rows₂ = rows₂} counts x.0 d.0 in
        let g = chain_of (f.at + 1) site x.0 in
        subst (λ (z : Body). ItemDone row f rows z k r rows₂ × Holds n w (back parted u) (behind q (item_chains f.at row z k)) []) (sym x.2)
        (record { numbers_are = er ∙ ap (called_n c) e ∙ called-numbers f.at f.work.0 k c g v.chain ∙ v.numbers_are (called g k); rows_are = v.rows_are }, d.1)

    pub spawn_leaves : (kind ≡ 2 → ⊥) → (t₂ : List ℕ) → Spawned n w (back parted u) f c r t₂ → ItemLeaves Base how s row f t rows n w r t₂ rows₂
    spawn_leaves k2 t₂ step = parallel-leaves parted u taken counts row spawn (λ x k. refl) refl (at_part k2) (λ b st m. spawn_is how s f.at row kind says site sited h.no_cost h.no_sync h.no_note h.no_carry b st m k2) r t₂ step
