-- The item reader: what each kind of item asks for and comes to, with no code in sight.
use mathlib.Core.Path.{◌≡◌, refl, ap, ◌∙◌, sym, subst}
use mathlib.Core.Logic.{◌⊎◌, inl, inr}
use mathlib.Core.List.{List}
use Prim.Native.Nat.{ℕ, ◌+◌, ◌-◌, ◌^◌, ◌≤◌, ◌<◌}
use native.Mathlib.Omega.{arith}
use lib.ListN.{length}
use Rattle.line.specs.Family.{Family, Base}
use Rattle.line.specs.At.{site_at, value_at}
use Rattle.chain.specs.Plan.{weight}
use Rattle.trace.specs.Column.{Column, slot}
use Rattle.trace.specs.Tree.{Way, call, spawn, spend, sync, note, Body, leaf, child as nested, ahead, size, work_of}
use Rattle.trace.specs.Fold.{Chains, nothing, child_chains, run, chain_of}
use Rattle.weigh.specs.Weighed.{Weigh}
use Rattle.walk.specs.declared.Open.{Open}
use Rattle.walk.specs.declared.Credit.{Credit}
use Rattle.walk.specs.Stands.{Says, kind_by, kind_of, site_of}
use Rattle.walk.specs.Weight.{instructions_at}
use Rattle.walk.specs.Reads.{Reads}
use Rattle.walk.specs.Numbers.{numbers}
use Rattle.walk.specs.Gain.{ColumnFits, credit_of, ReturnFits, cost_gain, made, child_gain, Returned, Grown}
use Rattle.walk.specs.Item.{item_chains}
use Rattle.walk.specs.Reader.{ItemDone}
use Rattle.walk.proofs.Items.{size-some, chain_le}
use Rattle.walk.proofs.Reader.{weightless}
use Rattle.walk.proofs.Lines.{is-sync, is-note, instructions-ahead}
use Rattle.walk.proofs.Says.{kind-says, site-says, value-says}
use Rattle.walk.proofs.Room.{lines_in_lem}
use Rattle.walk.proofs.Child.{cost-is, call_is, spawn_is, Child, child-is, cost-fits, child-work, deeper as child-deeper, child-row, child-ready, count_fits as child_fits, child-done}
use Rattle.marks.specs.declared.Zones.{Zones}
use Rattle.marks.specs.Shown.{Zone, Shows, Kept}
use Rattle.marks.specs.Park.{park, Zero}
use Rattle.marks.specs.Steps.{Fits, At, Spent, Passed, Joined, Called, Spawned}
use Rattle.marks.specs.Reader.{Lent, ItemAsks, ItemLeft, ItemLeaves, BodyAsks, BodyLeft, BodyLeaves}
use Rattle.marks.proofs.Park.{Stored}
use Rattle.marks.proofs.Shown.{zone-kept}
use Rattle.marks.proofs.Bodies.{shows-begun}

-- what a step leaves, as the item's
left_is : (n e w : ℕ) (b : Body) (k : Chains) (z : Zones) (m rows : List ℕ) (r : Zones) (m' rows' : List ℕ) → At n e w (item_chains z.own.at z.row b k) m z r m' → ItemDone z.row z.own rows b k r.own rows'
    → ItemLeft n b k z m rows r m' rows'
left_is n e w b k z m rows r m' rows' a done = record { done = done; same_row = a.same_row; shows = a.shows; kept = subst (λ (x : ℕ). Kept n x m m') (sym (ap (λ (x : Open). x.at) a.numbers_are)) a.kept }

-- marks behind the zones of an invocation changed
shows_kept : (n a e : ℕ) (m m₁ : List ℕ) (z : Zones) (k : Chains) → z.own.at ≤ a → Kept a e m m₁ → Shows n m z k → Shows n m₁ z k
shows_kept n a e m m₁ z k l kept s =
    record {
      begins = s.begins;
      then = s.then;
      ends = s.ends;
      P = zone-kept m m₁ n z.child k.p (λ i p q. kept i (λ x y. omega (arith, s.then, s.ends))) s.P;
      L = zone-kept m m₁ z.child z.after k.l (λ i p q. kept i (λ x y. omega (arith, s.ends))) s.L;
      C = zone-kept m m₁ z.after z.own.at k.c (λ i p q. kept i (λ x y. omega arith)) s.C;
    }

module _ {y : Family} {how : Weigh} {s : List ℕ} {deep : ℕ} {z : Zones} {t m rows : List ℕ} (l : Lent y how s deep z t m rows) where
  line_in_lem : z.own.at < length m
  line_in_lem = omega (arith, l.lines, lines_in_lem y how s z.own.at z.row l.ready.body l.ready.reads, size-some l.ready.body)

  -- whatever fits the chains
  step-asks : (v : ℕ) (m₁ : List ℕ) → length m₁ ≡ length m → z.own.prefix.0 + (z.own.longest.0 + z.own.since.0) + v < 2 ^ 64 → Fits m₁ z v
  step-asks v m₁ lm h = record { order = (l.shows.then, l.shows.ends); room = omega (arith, line_in_lem, lm); load = h }

  pub line-fits : z.own.at + 1 < 2 ^ 64
  line-fits = omega (arith, l.ready.ends, size-some l.ready.body)

  -- a sync, or the return
  pub join_asks : Fits m z 0
  join_asks = step-asks 0 m refl (omega (arith, l.ready.load_fits))

  pub sync-leaves : (kind : ℕ) → kind ≡ kind_by y s z.own.at → kind ≡ 4 → (r : Zones) (m' : List ℕ) → Joined m z r m' → ItemLeaves y how s z m rows r m' rows
  sync-leaves kind reads k4 r m' j b n k more h e sh =
      let q = is-sync y how s z.own.at z.row kind (kind-says y s z.own.at z.own.at kind refl reads) b h k4 in
      let d = j n k e sh in
      subst (λ (x : Body). ItemLeft n x k z m rows r m' rows) (sym q.1)
      (left_is n (z.own.at + 1) z.own.work.0 (leaf sync q.0) k z m rows r m' rows d (weightless z.row z.own rows sync q.0 k r.own refl refl d.numbers_are))

  -- a line that weighs nothing and joins nothing
  pub note-leaves : (kind : ℕ) → kind ≡ kind_by y s z.own.at → (kind ≡ 1) ⊎ (kind ≡ 7) → (r : Zones) (m' : List ℕ) → Passed m z r m' → ItemLeaves y how s z m rows r m' rows
  note-leaves kind reads passed r m' j b n k more h e sh =
      let q = is-note y how s z.own.at z.row kind (kind-says y s z.own.at z.own.at kind refl reads) b h passed in
      let d = j n k e sh in
      subst (λ (x : Body). ItemLeft n x k z m rows r m' rows) (sym q.2)
      (left_is n (z.own.at + 1) z.own.work.0 (leaf (note q.0) q.1) k z m rows r m' rows d (weightless z.row z.own rows (note q.0) q.1 k r.own refl refl d.numbers_are))

-- the item is a cost of v with w instructions
pub record Costs (y : Family) (how : Weigh) (s : List ℕ) (deep : ℕ) (z : Zones) (t m rows : List ℕ) (kind v w : ℕ) : Type 0 where
  pub asks : ItemAsks y how s kind deep z t m rows
  pub weight_is : v ≡ how z.own.at z.row (value_at s z.own.at)
  pub instructions_are : w ≡ instructions_at s z.own.at
  pub cost : kind ≡ 6

module _ {y : Family} {how : Weigh} {s : List ℕ} {deep : ℕ} {z : Zones} {t m rows : List ℕ} {kind v w : ℕ} (h : Costs y how s deep z t m rows kind v w) where
  pub line_is : (b : Body) → Reads y how s z.own.at z.row b → (r : Body) × (b ≡ leaf (spend v) r)
  line_is = cost-is y how s z.own.at z.row kind (kind-says y s z.own.at z.own.at kind refl h.asks.kind_is) (value_at s z.own.at) v (value-says y s z.own.at z.own.at (value_at s z.own.at) refl refl) h.weight_is h.cost

  spend-is : (b : Body) → Reads y how s z.own.at z.row b → (r : Body) × (b ≡ leaf (spend v) r) × (w ≡ ahead r)
  spend-is b st =
      let q = line_is b st in
      (q.0, q.1, h.instructions_are ∙ instructions-ahead y how s z.row z.own.at q.0 (subst (Reads y how s z.own.at z.row) q.1 st).1)

  fit : (ColumnFits rows z.row Column.local v × ColumnFits rows z.row Column.ilocal w) × ((z.own.work.0 + v < 2 ^ 64) × (z.own.prefix.0 + (z.own.longest.0 + z.own.since.0) + v < 2 ^ 64))
  fit =
      let x = h.asks.lent.ready in
      let q = spend-is x.body x.reads in
      let f = cost-fits y how s z.row h.asks.lent.sites deep z.own rows x v q.0 q.1 in
      ((f.0.0, subst (ColumnFits rows z.row Column.ilocal) (sym q.2) f.0.1), f.1)

  pub rows-asks : ColumnFits rows z.row Column.local v × ColumnFits rows z.row Column.ilocal w
  rows-asks = fit.0

  pub spend-asks : Fits m z v × (z.own.work.0 + v < 2 ^ 64)
  spend-asks = (step-asks h.asks.lent v m refl fit.1.1, fit.1.0)

  pub cost-leaves : (r : Zones) (m' rows' : List ℕ) → Grown rows (cost_gain z.row v w) rows' → Spent v m z r m' → ItemLeaves y how s z m rows r m' rows'
  cost-leaves r m' rows' grown sp b n k more st e sh =
      let q = spend-is b st in
      let d = sp (ahead q.0) n k e sh in
      subst (λ (x : Body). ItemLeft n x k z m rows r m' rows') (sym q.1)
      (left_is n (z.own.at + 1) (z.own.work.0 + v) (leaf (spend v) q.0) k z m rows r m' rows' d (record { numbers_are = d.numbers_are; rows_are = subst (λ (x : ℕ). Grown rows (cost_gain z.row v x) rows') q.2 grown }))

-- it is, by its kind
pub costs : {y : Family} {how : Weigh} {s : List ℕ} {deep : ℕ} {z : Zones} {t m rows : List ℕ} {kind v w : ℕ} → ItemAsks y how s kind deep z t m rows → v ≡ how z.own.at z.row (value_at s z.own.at) → w ≡ instructions_at s z.own.at
    → kind ≡ 6 → Costs y how s deep z t m rows kind v w
costs asks weight_is instructions_are cost = record { asks = asks; weight_is = weight_is; instructions_are = instructions_are; cost = cost }

-- something opens whose row is site
pub record Opens (y : Family) (how : Weigh) (s : List ℕ) (deep : ℕ) (z : Zones) (t m rows : List ℕ) (site : ℕ) : Type 0 where
  pub lent : Lent y how s deep z t m rows
  pub child : Child y how s z.own.at site lent.ready.body

module _ {y : Family} {how : Weigh} {s : List ℕ} {deep : ℕ} {z : Zones} {t m rows : List ℕ} {site : ℕ} (h : Opens y how s deep z t m rows site) where
  abbrev l : Lent y how s deep z t m rows
  l = h.lent

  abbrev child : Child y how s z.own.at site l.ready.body
  child = h.child

  pub deeper : 1 ≤ deep
  deeper = child-deeper y how s z.row l.sites deep z.own rows l.ready site child

  pub room : 8 ≤ length t
  room = omega (arith, l.room)

  pub body-asks : (part : List ℕ) → Zero part → length part ≡ length t - 8 → BodyAsks y how s (z.own.at + 1) site (deep - 1) part m rows
  body-asks part zero long =
      record {
        sites = l.sites;
        ready = child-ready y how s z.row l.sites deep z.own rows l.ready site child;
        lines = l.lines;
        zero = zero;
        room = omega (arith, l.room, long, deeper);
        n = z.own.at + 1;
        k = nothing;
        weighs = refl;
        shows = shows-begun (z.own.at + 1) site m;
      }

  -- it is stored meanwhile
  pub stored : {t₁ : List ℕ} → t₁ ≡ park z t → Stored z t t₁
  stored is = record { room = room; zero = l.zero; is = is }

  -- columns 2 and 3 of its row can be taken
  pub credit_asks : slot site Column.span < length rows
  credit_asks = child-row y how s z.row l.sites deep z.own rows l.ready site child

  -- The child has returned: its numbers are c, and it left the marks m₁ and the rows rows₁. Before it, columns 2 and 3 of
  -- its row were taken.
  pub record Back (before : Credit) (c : Open) (m₁ rows₁ : List ℕ) : Type 0 where
    pub taken : before ≡ credit_of rows site
    pub marks_long : length m₁ ≡ length m
    pub rows_long : length rows₁ ≡ length rows
    pub leaves : BodyLeaves y how s (z.own.at + 1) site m rows c m₁ rows₁

  -- it has, by what the reader leaves
  pub back : {before : Credit} {c : Open} {m₁ rows₁ : List ℕ} → before ≡ credit_of rows site → length m₁ ≡ length m → length rows₁ ≡ length rows → BodyLeaves y how s (z.own.at + 1) site m rows c m₁ rows₁ → Back before c m₁ rows₁
  back taken marks_long rows_long leaves = record { taken = taken; marks_long = marks_long; rows_long = rows_long; leaves = leaves }

  module _ {before : Credit} {c : Open} {m₁ rows₁ : List ℕ} (u : Back before c m₁ rows₁) where
    left : BodyLeft (z.own.at + 1) site child.g m rows c m₁ rows₁
    left = u.leaves child.g child.reads

    pub count-asks : ReturnFits before rows₁ site c.work.0 c.prefix.0
    count-asks = child_fits y how s z.row l.sites deep z.own rows l.ready site child before c rows₁ u.taken u.rows_long left.done

    both : (z.own.work.0 + work_of child.g < 2 ^ 64) × (z.own.prefix.0 + (z.own.longest.0 + z.own.since.0) + work_of child.g < 2 ^ 64)
    both = child-work y how s z.row l.sites deep z.own rows l.ready site child

    pub called-asks : Fits m₁ z c.prefix.0 × (z.own.work.0 + c.work.0 < 2 ^ 64)
    called-asks = (
      step-asks l c.prefix.0 m₁ u.marks_long (omega (arith, both.1, ap (λ (x : Open). x.prefix.0) left.done.numbers_are, chain_le child.g (z.own.at + 1) site)),
      omega (arith, both.0, ap (λ (x : Open). x.work.0) left.done.numbers_are),
    )

    pub spawned-asks : Fits m₁ z c.prefix.0 × ((z.own.work.0 + c.work.0 < 2 ^ 64) × ((z.own.at < c.at) × (c.at ≤ length m₁)))
    spawned-asks =
        let at = ap (λ (x : Open). x.at) left.done.numbers_are in
        (called-asks.0, (called-asks.1, (omega (arith, at), omega (arith, at, u.marks_long, l.lines, lines_in_lem y how s (z.own.at + 1) site child.g child.reads))))

    -- its body is g, and it was made in a way: what the step leaves, r, the marks m₂ and the rows rows₂, is the item's
    pub behind : (v : Way) (r : Zones) (m₂ rows₂ : List ℕ) (n : ℕ) (k : Chains) (g b : Body) → Reads y how s (z.own.at + 1) site g → Shows n m z k
        → (weight (chain_of (z.own.at + 1) site g) ≡ c.prefix.0 → Shows n m₁ z k → z.own.at < c.at → Zone m₁ (z.own.at + 1) c.at (chain_of (z.own.at + 1) site g)
        → At n c.at (z.own.work.0 + c.work.0) (child_chains v (run (z.own.at + 1) site g) k) m₁ z r m₂)
        → Grown rows (child_gain v site g) rows₂ → ItemLeft n (nested v site g b) k z m rows r m₂ rows₂
    behind v r m₂ rows₂ n k g b st sh step grown =
        let d = u.leaves g st in
        let at : c.at ≡ z.own.at + (1 + size g) = omega (arith, ap (λ (x : Open). x.at) d.done.numbers_are) in
        let work : c.work.0 ≡ work_of g = ap (λ (x : Open). x.work.0) d.done.numbers_are in
        let q = step (sym (ap (λ (x : Open). x.prefix.0) d.done.numbers_are)) (shows_kept n (z.own.at + 1) c.at m m₁ z k (omega arith) d.kept sh) (omega (arith, at)) d.zone in
        let x = child_chains v (run (z.own.at + 1) site g) k in
        record {
          done =
              record {
                numbers_are = q.numbers_are ∙ ap (λ (j : ℕ). numbers j (z.own.work.0 + c.work.0) x) at ∙ ap (λ (j : ℕ). numbers (z.own.at + (1 + size g)) (z.own.work.0 + j) x) work;
                rows_are = grown;
              };
          same_row = q.same_row;
          shows = q.shows;
          kept = λ j o.
              let to : r.own.at ≡ c.at = ap (λ (x : Open). x.at) q.numbers_are in
              q.kept j (λ p w. o p (omega (arith, to))) ∙ d.kept j (λ p w. o (omega (arith, sh.begins, sh.then, sh.ends)) (omega (arith, to)));
        }

    -- it was counted
    pub counted : (rows₂ : List ℕ) → Returned before site c.work.0 c.prefix.0 rows₁ rows₂ → (g : Body) → Reads y how s (z.own.at + 1) site g → Grown rows (made site g) rows₂
    counted rows₂ counts g st = (child-done z.own site rows before rows₁ rows₂ g c u.taken u.rows_long (u.leaves g st).done counts).rows_are

-- the item is a call or a spawn of site
pub record Calls (how : Weigh) (s : List ℕ) (deep : ℕ) (z : Zones) (t m rows : List ℕ) (kind site : ℕ) : Type 0 where
  pub asks : ItemAsks Base how s kind deep z t m rows
  pub site_is : site ≡ site_at s z.own.at
  pub no_cost : kind ≡ 6 → ⊥
  pub no_sync : kind ≡ 4 → ⊥
  pub no_instructions : kind ≡ 7 → ⊥
  pub no_note : kind ≡ 1 → ⊥

-- it is, by its kind
pub calls_site : {how : Weigh} {s : List ℕ} {deep : ℕ} {z : Zones} {t m rows : List ℕ} {kind site : ℕ} → ItemAsks Base how s kind deep z t m rows → site ≡ site_at s z.own.at
    → ((kind ≡ 6) ⊎ ((kind ≡ 4) ⊎ ((kind ≡ 1) ⊎ (kind ≡ 7))) → ⊥) → Calls how s deep z t m rows kind site
calls_site asks site_is other =
    record { asks = asks; site_is = site_is; no_cost = λ e. other (inl e); no_sync = λ e. other (inr (inl e)); no_note = λ e. other (inr (inr (inl e))); no_instructions = λ e. other (inr (inr (inr e))) }

module _ {how : Weigh} {s : List ℕ} {deep : ℕ} {z : Zones} {t m rows : List ℕ} {kind site : ℕ} (h : Calls how s deep z t m rows kind site) where
  says : Says Base kind_of s z.own.at kind
  says = kind-says Base s z.own.at z.own.at kind refl h.asks.kind_is

  sited : Says Base site_of s z.own.at site
  sited = site-says Base s z.own.at z.own.at site refl h.site_is

  pub opens : Opens Base how s deep z t m rows site
  opens =
      let l = h.asks.lent in
      record { lent = l; child = child-is how s z.own.at z.row kind site says sited h.no_cost h.no_sync h.no_note h.no_instructions l.ready.body l.ready.reads h.asks.more }

  module _ {before : Credit} {c : Open} {m₁ rows₁ rows₂ : List ℕ} (u : Back opens before c m₁ rows₁) (counts : Returned before site c.work.0 c.prefix.0 rows₁ rows₂) (r : Zones) (m₂ : List ℕ) where
    pub call_leaves : kind ≡ 2 → Called m₁ z c r m₂ → ItemLeaves Base how s z m rows r m₂ rows₂
    call_leaves k2 step b n k more st e sh =
        let q = call_is how s z.own.at z.row kind says site sited b st k2 in
        subst (λ (x : Body). ItemLeft n x k z m rows r m₂ rows₂) (sym q.2)
        (behind opens u call r m₂ rows₂ n k q.0 q.1 q.3 sh (step n k (chain_of (z.own.at + 1) site q.0) e) (counted opens u rows₂ counts q.0 q.3))

    pub spawn_leaves : (kind ≡ 2 → ⊥) → Spawned m₁ z c r m₂ → ItemLeaves Base how s z m rows r m₂ rows₂
    spawn_leaves k2 step b n k more st e sh =
        let q = spawn_is how s z.own.at z.row kind says site sited h.no_cost h.no_sync h.no_note h.no_instructions b st more k2 in
        subst (λ (x : Body). ItemLeft n x k z m rows r m₂ rows₂) (sym q.2)
        (behind opens u spawn r m₂ rows₂ n k q.0 q.1 q.3 sh (step n k (chain_of (z.own.at + 1) site q.0) e) (counted opens u rows₂ counts q.0 q.3))
