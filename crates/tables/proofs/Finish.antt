-- The item reader of the finish family: what each kind of item comes to, with no code in sight.
use mathlib.Core.Path.{◌≡◌, refl, ap, ◌∙◌, sym, subst}
use mathlib.Core.Logic.{◌⊎◌, inl, inr}
use mathlib.Core.List.{List, []}
use Prim.Native.Nat.{ℕ, ◌+◌, ◌-◌, ◌^◌, ◌≤◌, ◌<◌}
use native.Mathlib.Omega.{arith}
use lib.ListN.{length}
use Rattle.line.specs.Family.{Finishes}
use Rattle.line.specs.At.{site_at, both_at}
use Rattle.chain.specs.Plan.{CostLine}
use Rattle.trace.specs.Column.{Column, slot}
use Rattle.trace.specs.Tree.{async, pass, finish, spend, note, Body, leaf, child, work_of, instructions_of, larger, span_of}
use Rattle.trace.specs.Fold.{Chains, run}
use Rattle.trace.proofs.Recurrence.{weight-chain}
use Rattle.weigh.specs.Weighed.{Weigh}
use Rattle.walk.specs.declared.Open.{Open}
use Rattle.walk.specs.declared.Cycles.{Cycles}
use Rattle.walk.specs.declared.Credit.{Credit}
use Rattle.walk.specs.Measure.{cycles}
use Rattle.walk.specs.Stands.{Says, kind_of}
use Rattle.walk.specs.Reads.{Reads}
use Rattle.walk.specs.Numbers.{numbers, passed_n, called_n}
use Rattle.walk.specs.Gain.{credit_of, ReturnFits, Returned}
use Rattle.walk.specs.Item.{item_size, item_work, item_chains}
use Rattle.walk.specs.Reader.{ItemDone, ItemsDone}
use Rattle.walk.specs.Own.{Own, begins, own, own_item, reaching}
use Rattle.walk.proofs.Says.{kind-says, site-says}
use Rattle.walk.proofs.Stands.{reads_of}
use Rattle.walk.proofs.Lines.{is-spend, is-note, is-finish, finish-left}
use Rattle.walk.proofs.Child.{pass_is, async-is, finish-is, Child, as_child, child-row, pass_ready, pass_body, came_fits, finish-done, pass_work, pass_came, pass_done}
use Rattle.walk.proofs.Child.{deeper as child-deeper}
use Rattle.walk.proofs.Own.{in_series, own-span, own-series, own_again}
use Rattle.tables.specs.declared.Reach.{Reach}
use Rattle.tables.specs.Blocks.{since_at, part_at, Holds, behind, Spawned}
use Rattle.tables.specs.Reader.{Lent, ItemAsks, ItemLeaves, ItemsLeave}
use Rattle.tables.specs.Reach.{ItemReaches, ItemsReach}
use Rattle.tables.proofs.Bodies.{Keeps}
use Rattle.tables.proofs.Items.{line-fits, Parted, Back, back, all_fit, called-leaves, parallel-done, parallel-leaves}

-- how far what is left of a body reaches, from f on
abbrev pub reach_of : Reach → Body → ℕ
reach_of f b = (own (reaching f.around f.far.0) b).far

-- behind an item it is as far as the body reached with it
pub item-keeps : (how : Weigh) (s : List ℕ) (row : ℕ) (f r : Reach) (t rows rows' : List ℕ) (n w : ℕ) → ItemReaches how s row f t n w r → Keeps Finishes how s row f.around t n w r.around rows rows' (reach_of f) (reach_of r)
item-keeps how s row f r t rows rows' n w reaches b q k m h e sh d =
    ap (λ (x : Own). x.far)
    (own_again b row f.far.0 r.far.0 f.around r.around k (f.around.at + item_size b) (f.around.work.0 + item_work b) (reads_of Finishes how s b f.around.at row h) e d.numbers_are (reaches b q k m h e sh))

-- what is known of the kind of an item
module _ {how : Weigh} {s : List ℕ} {kind row deep : ℕ} {f : Open} {t rows : List ℕ} {n w : ℕ} (a : ItemAsks Finishes how s kind row deep f t rows n w) where
  pub asks-kind : (v : ℕ) → kind ≡ v → ItemAsks Finishes how s v row deep f t rows n w
  asks-kind v e = record { lent = a.lent; kind_is = sym e ∙ a.kind_is; more = a.more }

  pub asks-finish : (kind ≡ 6 → ⊥) → (kind ≡ 7 → ⊥) → (kind ≡ 1 → ⊥) → (kind ≡ 2 → ⊥) → (kind ≡ 0x12 → ⊥) → kind ≡ 0x13
  asks-finish k6 k7 k1 k2 k12 = finish-left how s f.at row kind (kind-says Finishes s f.at f.at kind refl a.kind_is) a.lent.ready.body a.lent.ready.reads k1 k2 k6 k7 k12 a.more

-- an item in which no async begins, which comes to the numbers z: behind it, it reaches as far as f does
module _ (how : Weigh) (s : List ℕ) (row : ℕ) (f : Reach) (t : List ℕ) (n w kind : ℕ) (is : kind ≡ both_at s f.around.at) (z : Open) where
  abbrev says : Says Finishes kind_of s f.around.at kind
  says = kind-says Finishes s f.around.at f.around.at kind refl is

  abbrev Still : Type 0
  Still = ItemReaches how s row f t n w (record { around = z; far = f.far })

  still : (b x : Body) → b ≡ x → (own_item (reaching f.around f.far.0) x).far ≡ f.far.0 → f.far.0 ≡ (own_item (reaching f.around f.far.0) b).far
  still b x is e = sym e ∙ sym (ap (λ (y : Body). (own_item (reaching f.around f.far.0) y).far) is)

  pub cost-reaches : kind ≡ 6 → Still
  cost-reaches k6 b q k m h e sh = let x = is-spend Finishes how s f.around.at row kind says b h k6 in still b (leaf (spend x.0) x.1) x.2 refl

  pub note-reaches : (kind ≡ 1) ⊎ (kind ≡ 7) → Still
  note-reaches k1 b q k m h e sh = let x = is-note Finishes how s f.around.at row kind says b h k1 in still b (leaf (note x.0) x.1) x.2 refl

  pub finish-reaches : kind ≡ 0x13 → Still
  finish-reaches k b q c m h e sh = let x = is-finish how s f.around.at row kind says b h k in still b (child finish row x.0 x.1) x.2 refl

-- the item is a call of site
pub record Passes (how : Weigh) (s : List ℕ) (row deep : ℕ) (f : Open) (t rows : List ℕ) (n w site : ℕ) : Type 0 where
  pub asks : ItemAsks Finishes how s 2 row deep f t rows n w
  pub site_is : site ≡ site_at s f.at

-- from what the steps before it say
pub passes : {how : Weigh} {s : List ℕ} {row deep : ℕ} {f : Open} {t rows : List ℕ} {n w site : ℕ} → ItemAsks Finishes how s 2 row deep f t rows n w → site ≡ site_at s f.at → Passes how s row deep f t rows n w site
passes a s = record { asks = a; site_is = s }

module _ {how : Weigh} {s : List ℕ} {row deep : ℕ} {f : Open} {t rows : List ℕ} {n w site : ℕ} (h : Passes how s row deep f t rows n w site) where
  abbrev l : Lent Finishes how s row deep f t rows n w
  l = h.asks.lent

  -- whatever body stands here begins with it, in whatever row
  call_here : (at_row : ℕ) (b : Body) → Reads Finishes how s f.at at_row b → (g : Body) × (r : Body) × (b ≡ child pass site g r) × Reads Finishes how s (f.at + 1) site g
  call_here at_row b st =
      pass_is how s f.at at_row 2 (kind-says Finishes s f.at f.at 2 refl h.asks.kind_is) site (site-says Finishes s f.at f.at site refl h.site_is) b st refl

  abbrev here : Child Finishes how s f.at site l.ready.body
  here = as_child Finishes how s f.at site l.ready.body pass (call_here row l.ready.body l.ready.reads)

  -- where it begins, from the beginning of what is around on
  abbrev start : ℕ
  start = f.prefix.0 + f.since.0

  pub start_fits : start < 2 ^ 64
  start_fits = omega (arith, l.ready.load_fits)

  -- one more may open, and columns 2 and 3 of its row can be taken
  pub call_deeper : 1 ≤ deep
  call_deeper = child-deeper Finishes how s row l.m deep f rows l.ready site here

  pub call_credit : slot site Column.span < length rows
  call_credit = child-row Finishes how s row l.m deep f rows l.ready site here

  -- its items may be read, one line on
  callee-lent : Lent Finishes how s site (deep - 1) (passed_n f) t rows n w
  callee-lent =
      let is = pass_body Finishes how s row l.m deep f rows l.ready site here in
      record {
        m = l.m;
        ready = pass_ready Finishes how s row l.m deep f rows l.ready site here;
        blocks = l.blocks;
        even = l.even;
        wide = l.wide;
        few = l.few;
        rooms = l.rooms;
        for_deep = omega (arith, l.for_deep);
        room = l.room;
        opened = l.opened;
        q = l.q;
        k = l.k;
        weighs = ap passed_n l.weighs;
        holds = l.holds;
        fits = omega (arith, l.fits, ap work_of is, ap work_of here.is);
        ifits = omega (arith, l.ifits, ap instructions_of is, ap instructions_of here.is);
      }

  pub callee-is : (a : Open) (b : Cycles) → a ≡ passed_n f → b ≡ cycles start → ◌≡◌ {A = Reach} (record { around = a; far = b }) (record { around = passed_n f; far = cycles start })
  callee-is a b ea eb = ap (λ (x : Open). record { around = x; far = b }) ea ∙ ap (λ (x : Cycles). record { around = passed_n f; far = x }) eb

  pub callee-asks : (a : Open) → a ≡ passed_n f → Lent Finishes how s site (deep - 1) a t rows n w
  callee-asks a e = subst (λ (x : Open). Lent Finishes how s site (deep - 1) x t rows n w) (sym e) callee-lent

  -- they were read from a on, which is the caller's numbers one line further, and left r
  pub record Passed (a : Reach) (r : Reach) (t₁ rows₁ : List ℕ) : Type 0 where
    pub from_is : a ≡ record { around = passed_n f; far = cycles start }
    pub rows_long : length rows₁ ≡ length rows
    pub leaves : ItemsLeave Finishes how s site (deep - 1) a.around t rows n w r.around t₁ rows₁
    pub reaches : ItemsReach how s site a t n w r

  pub has_passed : {a r : Reach} {t₁ rows₁ : List ℕ} → a ≡ record { around = passed_n f; far = cycles start } → length rows₁ ≡ length rows → ItemsLeave Finishes how s site (deep - 1) a.around t rows n w r.around t₁ rows₁ → ItemsReach how s site a t n w r → Passed a r t₁ rows₁
  has_passed a b l m = record { from_is = a; rows_long = b; leaves = l; reaches = m }

  module _ {a r : Reach} {t₁ rows₁ : List ℕ} (u : Passed a r t₁ rows₁) where
    abbrev end : Open
    end = r.around

    -- where they end, in series
    abbrev stop : ℕ
    stop = end.prefix.0 + end.since.0

    pub stop-fits : stop < 2 ^ 64
    stop-fits = omega (arith, u.leaves.lent.ready.load_fits)

    pub end_fits : end.at + 1 < 2 ^ 64
    end_fits = line-fits u.leaves.lent

    -- whatever body g they are of
    module _ (g : Body) (reads : Reads Finishes how s (f.at + 1) site g) (q : List CostLine) (k : Chains) (e : f ≡ numbers f.at f.work.0 k) (sh : Holds n w t (behind q k) []) where
      items : ItemsDone site (passed_n f) rows g k end rows₁ × Holds n w t₁ (behind q (run (f.at + 1) site g k)) []
      items = (subst (λ (x : Reach). ItemsLeave Finishes how s site (deep - 1) x.around t rows n w end t₁ rows₁) u.from_is u.leaves).leaves g q k reads (ap passed_n e) sh

      far-is : r.far.0 ≡ (own (begins start) g).far
      far-is = subst (λ (x : Reach). ItemsReach how s site x t n w r) u.from_is u.reaches g q k reads (ap passed_n e) sh

      series_is : stop ≡ (own (begins start) g).series
      series_is =
          let z = items.0.numbers_are in
          let there : stop ≡ in_series (run (f.at + 1) site g k) = ap (λ (x : Open). x.prefix.0 + x.since.0) z in
          let from : start ≡ in_series k = ap (λ (x : Open). x.prefix.0 + x.since.0) e in
          there ∙ sym (own-series g (f.at + 1) site start k (reads_of Finishes how s g (f.at + 1) site reads)) ∙ ap (λ (x : ℕ). (own (record { series = x; far = start }) g).series) (sym from)

      -- LAW: its span is how far they come from where it begins
      span_is : larger r.far.0 stop ≡ start + span_of g
      span_is =
          ap (λ (x : ℕ). larger x stop) far-is ∙ ap (λ (x : ℕ). larger (own (begins start) g).far x) series_is
          ∙ own-span g start site (reads_of Finishes how s g (f.at + 1) site reads)

    abbrev its : ItemsDone site (passed_n f) rows here.g l.k end rows₁
    its = (items here.g here.reads l.q l.k l.weighs l.holds).0

    -- the caller's work is part of theirs, and where it begins is not behind where they come to
    pub work-before : f.work.0 ≤ end.work.0
    work-before = omega (arith, pass_work f site rows here.g l.k end rows₁ its)

    pub span-before : start ≤ larger r.far.0 stop
    span-before = omega (arith, span_is here.g here.reads l.q l.k l.weighs l.holds)

    -- columns 2 and 3 of its row were taken before it; it is counted with what is added to the caller's work, and its
    -- span
    module _ {before : Credit} (taken : before ≡ credit_of rows site) {work span : ℕ} (work_is : work ≡ end.work.0 - f.work.0) (from_start : span ≡ larger r.far.0 stop - start) where
      spans : (g : Body) → larger r.far.0 stop ≡ start + span_of g → span ≡ span_of g
      spans g e = omega (arith, from_start, e)

      pub call_counts : ReturnFits before rows₁ site work span
      call_counts =
          came_fits Finishes how s row l.m deep f rows l.ready site here before work span rows₁
          (pass_came f site rows here.g l.k end rows₁ its before work span (omega (arith, work_is, work-before)) (spans here.g (span_is here.g here.reads l.q l.k l.weighs l.holds)) taken u.rows_long)

      pub pass_leaves : {rows₂ : List ℕ} → Returned before site work span rows₁ rows₂ → (x : Open) → x ≡ passed_n end → (at_row : ℕ) → ItemLeaves Finishes how s at_row f t rows n w x t₁ rows₂
      pass_leaves {rows₂} counts x is at_row b q k m st e sh =
          let z = call_here at_row b st in
          let d = items z.0 z.3 q k e sh in
          let done = pass_done f site rows z.0 k end rows₁ d.0 before work span (omega (arith, work_is, work-before)) (spans z.0 (span_is z.0 z.3 q k e sh)) taken u.rows_long at_row z.1 rows₂ counts in
          subst (λ (b : Body). ItemDone at_row f rows b k x rows₂ × Holds n w t₁ (behind q (item_chains f.at at_row b k)) []) (sym z.2)
          (subst (λ (x : Open). ItemDone at_row f rows (child pass site z.0 z.1) k x rows₂) (sym is) done, d.1)

    -- and how far the caller reaches behind it
    pub pass_reaches : (far : Cycles) (x : Reach) → x.far ≡ cycles (larger far.0 r.far.0) → (at_row : ℕ) → ItemReaches how s at_row (record { around = f; far = far }) t n w x
    pass_reaches far x is at_row b q k m st e sh =
        let z = call_here at_row b st in
        ap (λ (c : Cycles). c.0) is
        ∙ ap (larger far.0) (far-is z.0 z.3 q k e sh)
        ∙ sym (ap (λ (b : Body). (own_item (reaching f far.0) b).far) z.2)

-- the item is an async of site, whose part begins behind the blocks in use
pub record Forks (how : Weigh) (s : List ℕ) (row deep : ℕ) (f : Open) (t rows : List ℕ) (n w site o : ℕ) : Type 0 where
  pub asks : ItemAsks Finishes how s 0x12 row deep f t rows n w
  pub site_is : site ≡ site_at s f.at
  pub begins : o ≡ part_at n f.longest.0

-- from what the steps before it say
pub forks : {how : Weigh} {s : List ℕ} {row deep : ℕ} {f : Open} {t rows : List ℕ} {n w site o : ℕ} → ItemAsks Finishes how s 0x12 row deep f t rows n w → site ≡ site_at s f.at → o ≡ part_at n f.longest.0 → Forks how s row deep f t rows n w site o
forks a s o = record { asks = a; site_is = s; begins = o }

module _ {how : Weigh} {s : List ℕ} {row deep : ℕ} {f : Open} {t rows : List ℕ} {n w site o : ℕ} (h : Forks how s row deep f t rows n w site o) where
  abbrev forking : Lent Finishes how s row deep f t rows n w
  forking = h.asks.lent

  async-here : (at_row : ℕ) (b : Body) → Reads Finishes how s f.at at_row b → (g : Body) × (r : Body) × (b ≡ child async site g r) × Reads Finishes how s (f.at + 1) site g
  async-here at_row b st =
      async-is how s f.at at_row 0x12 (kind-says Finishes s f.at f.at 0x12 refl h.asks.kind_is) site (site-says Finishes s f.at f.at site refl h.site_is) b st refl

  pub forked : Parted forking site o
  forked = record { child = as_child Finishes how s f.at site forking.ready.body async (async-here row forking.ready.body forking.ready.reads); begins = inr h.begins }

  -- it has returned
  module _ {c : Open} {z rows₁ : List ℕ} (u : Back forked c z rows₁) where
    -- where it begins, and where it reaches to
    pub reached-fits : f.prefix.0 + f.since.0 + c.prefix.0 < 2 ^ 64
    reached-fits = omega (arith, all_fit forked u, ap (λ (x : Open). x.prefix.0) forking.weighs, ap (λ (x : Open). x.since.0) forking.weighs)

    pub async-leaves : {before : Credit} → before ≡ credit_of rows site → {rows₂ : List ℕ} → Returned before site c.work.0 c.prefix.0 rows₁ rows₂
        → (r : Open) (t₂ : List ℕ) → Spawned n w (back forked u) f c r t₂ → (at_row : ℕ) → ItemLeaves Finishes how s at_row f t rows n w r t₂ rows₂
    async-leaves taken {rows₂} counts r t₂ step at_row = parallel-leaves forked u taken {rows₂ = rows₂} counts at_row async (λ x k. refl) refl h.begins (λ b st m. async-here at_row b st) r t₂ step

    pub async-reaches : (far : Cycles) (x : Reach) → x.far ≡ cycles (larger far.0 (f.prefix.0 + f.since.0 + c.prefix.0)) → (at_row : ℕ) → ItemReaches how s at_row (record { around = f; far = far }) t n w x
    async-reaches far x is at_row b q k m st e sh =
        let z = async-here at_row b st in
        let d = parallel-done forked u h.begins z.0 z.3 q k e sh in
        let span : c.prefix.0 ≡ span_of z.0 = ap (λ (x : Open). x.prefix.0) d.0.numbers_are ∙ weight-chain z.0 (f.at + 1) site in
        ap (λ (y : Cycles). y.0) is
        ∙ ap (λ (y : ℕ). larger far.0 (f.prefix.0 + f.since.0 + y)) span
        ∙ sym (ap (λ (b : Body). (own_item (reaching f far.0) b).far) z.2)

-- the item is a finish, whose part begins with the continuation's table
pub record Nests (how : Weigh) (s : List ℕ) (row deep : ℕ) (f : Open) (t rows : List ℕ) (n w o : ℕ) : Type 0 where
  pub asks : ItemAsks Finishes how s 0x13 row deep f t rows n w
  pub begins : o ≡ since_at n f.longest.0

-- from what the steps before it say
pub nests : {how : Weigh} {s : List ℕ} {row deep : ℕ} {f : Open} {t rows : List ℕ} {n w o : ℕ} → ItemAsks Finishes how s 0x13 row deep f t rows n w → o ≡ since_at n f.longest.0 → Nests how s row deep f t rows n w o
nests a o = record { asks = a; begins = o }

module _ {how : Weigh} {s : List ℕ} {row deep : ℕ} {f : Open} {t rows : List ℕ} {n w o : ℕ} (h : Nests how s row deep f t rows n w o) where
  abbrev nesting : Lent Finishes how s row deep f t rows n w
  nesting = h.asks.lent

  finish-here : (b : Body) → Reads Finishes how s f.at row b → (g : Body) × (r : Body) × (b ≡ child finish row g r) × Reads Finishes how s (f.at + 1) row g
  finish-here b st = finish-is how s f.at row 0x13 (kind-says Finishes s f.at f.at 0x13 refl h.asks.kind_is) b st refl

  pub nested : Parted nesting row o
  nested = record { child = as_child Finishes how s f.at row nesting.ready.body finish (finish-here nesting.ready.body nesting.ready.reads); begins = inl h.begins }

  -- it has returned, and nothing is counted
  pub finish-leaves : {c : Open} {z rows₁ : List ℕ} (u : Back nested c z rows₁) (r : Open) → r ≡ called_n c f → ItemLeaves Finishes how s row f t rows n w r (back nested u) rows₁
  finish-leaves {c} {z} {rows₁} u r is b q k m st e sh =
      let x = finish-here b st in
      let d = called-leaves nested u h.begins x.0 x.3 q k e sh in
      subst (λ (b : Body). ItemDone row f rows b k r rows₁ × Holds n w (back nested u) (behind q (item_chains f.at row b k)) []) (sym x.2)
      (subst (λ (y : Open). ItemDone row f rows (child finish row x.0 x.1) k y rows₁) (sym is) (finish-done f row rows rows₁ x.0 x.1 k c e d.0), d.1)
