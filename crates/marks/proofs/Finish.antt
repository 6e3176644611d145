-- The items of the finish family: what each asks for and comes to, and how far a call's asyncs reach, with no code in
-- sight.
use mathlib.Core.Path.{◌≡◌, refl, ap, ◌∙◌, sym, subst}
use mathlib.Core.Logic.{◌⊎◌, inl, inr}
use mathlib.Core.Bool.{Bool, true, false, cond}
use mathlib.Core.List.{List}
use Prim.Native.Nat.{ℕ, ◌+◌, ◌-◌, ◌^◌, ◌≤◌, ◌<◌}
use native.Mathlib.Omega.{arith}
use lib.Dec.{eqb}
use lib.ListN.{length}
use borrow.Author.Tests.{eqb-true, eqb-false, eq-eqb, ne_eqb}
use Rattle.line.specs.Family.{Finishes}
use Rattle.line.specs.At.{site_at}
use Rattle.trace.specs.Tree.{async, pass, finish, Body, child as nested, work_of, larger, span_of}
use Rattle.trace.specs.Fold.{Chains, run, chain_of}
use Rattle.trace.proofs.Recurrence.{weight-chain}
use Rattle.weigh.specs.Weighed.{Weigh}
use Rattle.walk.specs.declared.Open.{Open}
use Rattle.walk.specs.declared.Credit.{Credit}
use Rattle.walk.specs.Stands.{Says, kind_by, kind_of, site_of}
use Rattle.walk.specs.Reads.{Reads}
use Rattle.walk.specs.Numbers.{numbers, passed_n}
use Rattle.walk.specs.Gain.{credit_of, ReturnFits, Returned}
use Rattle.walk.specs.Item.{More, rest, item_size, item_work}
use Rattle.walk.specs.Reader.{Ready, ItemsDone}
use Rattle.walk.specs.Own.{Own, begins, own, own_item}
use Rattle.walk.proofs.Items.{size-some, reads-rest}
use Rattle.walk.proofs.Stands.{reads_of}
use Rattle.walk.proofs.Says.{kind-says, site-says}
use Rattle.walk.proofs.Lines.{is-more, is-done, is-note, finish-left}
use Rattle.walk.proofs.Reader.{own-numbers}
use Rattle.walk.proofs.Own.{own-ends, own_again}
use Rattle.walk.proofs.Child.{pass_is, async-is, finish-is, Child, as_child, pass_ready, came_fits, pass_work, pass_came, pass_done}
use Rattle.marks.specs.declared.Zones.{Zones}
use Rattle.marks.specs.declared.Reach.{Reach}
use Rattle.marks.specs.Shown.{Shows}
use Rattle.marks.specs.Steps.{Passed, Called, Spawned}
use Rattle.marks.specs.Reader.{Lent, ItemAsks, ItemLeft, ItemLeaves, ItemsLeft, ItemsLeave}
use Rattle.marks.specs.Reach.{row_of, of_row, own_of, ItemReach, ItemsReach}
use Rattle.marks.proofs.Bodies.{kept_on, Loop, Next, loop_again}
use Rattle.marks.proofs.Items.{Costs, line_is, Opens, Back, called-asks, behind, counted}

-- What opens at a line.

pub row-around : (s : List ℕ) (n kind row : ℕ) → kind ≡ 0x13 → row_of s n kind row ≡ row
row-around s n kind row e = ap (λ (x : Bool). cond x row (site_at s n)) (eq-eqb kind 0x13 e)

pub row_named : (s : List ℕ) (n kind row : ℕ) → (kind ≡ 0x13 → ⊥) → row_of s n kind row ≡ site_at s n
row_named s n kind row e = ap (λ (x : Bool). cond x row (site_at s n)) (ne_eqb kind 0x13 e)

module _ (how : Weigh) (s : List ℕ) (n row kind : ℕ) (kind_is : kind ≡ kind_by Finishes s n) where
  says : Says Finishes kind_of s n kind
  says = kind-says Finishes s n n kind refl kind_is

  sited : (kind ≡ 0x13 → ⊥) → Says Finishes site_of s n (row_of s n kind row)
  sited e = site-says Finishes s n n (row_of s n kind row) refl (row_named s n kind row e)

  -- a call
  pub is-passed : kind ≡ 2 → (b : Body) → Reads Finishes how s n row b → (g : Body) × (r : Body) × (b ≡ nested pass (row_of s n kind row) g r) × Reads Finishes how s (n + 1) (row_of s n kind row) g
  is-passed k b h = pass_is how s n row kind says (row_of s n kind row) (sited (λ e. omega arith)) b h k

  -- an async
  pub is-forked : kind ≡ 0x12 → (b : Body) → Reads Finishes how s n row b → (g : Body) × (r : Body) × (b ≡ nested async (row_of s n kind row) g r) × Reads Finishes how s (n + 1) (row_of s n kind row) g
  is-forked k b h = async-is how s n row kind says (row_of s n kind row) (sited (λ e. omega arith)) b h k

  -- a finish
  pub is-joined : kind ≡ 0x13 → (b : Body) → Reads Finishes how s n row b → (g : Body) × (r : Body) × (b ≡ nested finish (row_of s n kind row) g r) × Reads Finishes how s (n + 1) (row_of s n kind row) g
  is-joined k b h =
      subst (λ (x : ℕ). (g : Body) × (r : Body) × (b ≡ nested finish x g r) × Reads Finishes how s (n + 1) x g) (sym (row-around s n kind row k))
      (finish-is how s n row kind says b h k)

  module _ (k6 : kind ≡ 6 → ⊥) (k7 : kind ≡ 7 → ⊥) (k1 : kind ≡ 1 → ⊥) (b : Body) (h : Reads Finishes how s n row b) (more : More b) where
    -- one of the three
    pub is-opened : Child Finishes how s n (row_of s n kind row) b
    is-opened = first (eqb kind 2) refl
      where
        last : (kind ≡ 2 → ⊥) → (t : Bool) → eqb kind 0x12 ≡ t → Child Finishes how s n (row_of s n kind row) b
        last k2 true e = as_child Finishes how s n (row_of s n kind row) b async (is-forked (eqb-true kind 0x12 e) b h)
        last k2 false e = as_child Finishes how s n (row_of s n kind row) b finish (is-joined (finish-left how s n row kind says b h k1 k2 k6 k7 (eqb-false kind 0x12 e) more) b h)

        first : (t : Bool) → eqb kind 2 ≡ t → Child Finishes how s n (row_of s n kind row) b
        first true e = as_child Finishes how s n (row_of s n kind row) b pass (is-passed (eqb-true kind 2 e) b h)
        first false e = last (eqb-false kind 2 e) (eqb kind 0x12) refl

-- An item that is no call.

module _ (how : Weigh) (s : List ℕ) (a : Reach) where
  -- a cost
  pub cost-reach : {deep : ℕ} {t m rows : List ℕ} {kind v w : ℕ} → Costs Finishes how s deep a.zones t m rows kind v w → (r : Reach) → r.far.0 ≡ a.far.0 → ItemReach how s a r
  cost-reach h r e b more st = e ∙ sym (ap (λ (x : Body). (own_item (own_of a) x).far) (line_is h b st).1)

  -- a line that weighs nothing and joins nothing
  pub note-reach : (kind : ℕ) → kind ≡ kind_by Finishes s a.zones.own.at → (kind ≡ 1) ⊎ (kind ≡ 7) → (r : Reach) → r.far.0 ≡ a.far.0 → ItemReach how s a r
  note-reach kind kind_is passed r e b more st =
      let n = a.zones.own.at in
      let q = is-note Finishes how s n a.zones.row kind (says how s n a.zones.row kind kind_is) b st passed in
      e ∙ sym (ap (λ (x : Body). (own_item (own_of a) x).far) q.2)

-- the item is an async or a finish, of a row
pub record Enters (how : Weigh) (s : List ℕ) (deep : ℕ) (a : Reach) (t m rows : List ℕ) (kind row : ℕ) : Type 0 where
  pub asks : ItemAsks Finishes how s kind deep a.zones t m rows
  pub row_is : row ≡ row_of s a.zones.own.at kind a.zones.row
  pub no_cost : kind ≡ 6 → ⊥
  pub no_instructions : kind ≡ 7 → ⊥
  pub no_note : kind ≡ 1 → ⊥
  pub no_call : kind ≡ 2 → ⊥

-- it is, by its kind
pub enters_row : {how : Weigh} {s : List ℕ} {deep : ℕ} {a : Reach} {t m rows : List ℕ} {kind row : ℕ} → ItemAsks Finishes how s kind deep a.zones t m rows → row ≡ row_of s a.zones.own.at kind a.zones.row
    → ((kind ≡ 6) ⊎ ((kind ≡ 1) ⊎ ((kind ≡ 7) ⊎ (kind ≡ 2))) → ⊥) → Enters how s deep a t m rows kind row
enters_row asks row_is other =
    record { asks = asks; row_is = row_is; no_cost = λ e. other (inl e); no_note = λ e. other (inr (inl e)); no_instructions = λ e. other (inr (inr (inl e))); no_call = λ e. other (inr (inr (inr e))) }

module _ {how : Weigh} {s : List ℕ} {deep : ℕ} {a : Reach} {t m rows : List ℕ} {kind row : ℕ} (h : Enters how s deep a t m rows kind row) where
  abbrev z : Zones
  z = a.zones

  pub enters : Opens Finishes how s deep z t m rows row
  enters =
      let l = h.asks.lent in
      record {
        lent = l;
        child =
            subst (λ (x : ℕ). Child Finishes how s z.own.at x l.ready.body) (sym h.row_is)
            (is-opened how s z.own.at z.row kind h.asks.kind_is h.no_cost h.no_instructions h.no_note l.ready.body l.ready.reads h.asks.more);
      }

  module _ {before : Credit} {c : Open} {m₁ rows₁ : List ℕ} (u : Back enters before c m₁ rows₁) where
    -- an async
    module _ (k12 : kind ≡ 0x12) where
      forked : (b : Body) → Reads Finishes how s z.own.at z.row b → (g : Body) × (r : Body) × (b ≡ nested async row g r) × Reads Finishes how s (z.own.at + 1) row g
      forked b st =
          subst (λ (x : ℕ). (g : Body) × (r : Body) × (b ≡ nested async x g r) × Reads Finishes how s (z.own.at + 1) x g) (sym h.row_is)
          (is-forked how s z.own.at z.row kind h.asks.kind_is k12 b st)

      -- how far it reaches fits
      pub fork_fits : z.own.prefix.0 + z.own.since.0 + c.prefix.0 < 2 ^ 64
      fork_fits = omega (arith, (called-asks enters u).0.load)

      pub async-leaves : (rows₂ : List ℕ) → Returned before row c.work.0 c.prefix.0 rows₁ rows₂ → (r : Zones) (m₂ : List ℕ) → Spawned m₁ z c r m₂ → ItemLeaves Finishes how s z m rows r m₂ rows₂
      async-leaves rows₂ counts r m₂ step b n k more st e sh =
          let q = forked b st in
          subst (λ (x : Body). ItemLeft n x k z m rows r m₂ rows₂) (sym q.2)
          (behind enters u async r m₂ rows₂ n k q.0 q.1 q.3 sh (step n k (chain_of (z.own.at + 1) row q.0) e) (counted enters u rows₂ counts q.0 q.3))

      pub async-reach : (r : Reach) → r.far.0 ≡ larger a.far.0 (z.own.prefix.0 + z.own.since.0 + c.prefix.0) → ItemReach how s a r
      async-reach r e b more st =
          let q = forked b st in
          let span : c.prefix.0 ≡ span_of q.0 = ap (λ (x : Open). x.prefix.0) (u.leaves q.0 q.3).done.numbers_are ∙ weight-chain q.0 (z.own.at + 1) row in
          e ∙ ap (λ (x : ℕ). larger a.far.0 (z.own.prefix.0 + z.own.since.0 + x)) span ∙ sym (ap (λ (x : Body). (own_item (own_of a) x).far) q.2)

    -- a finish
    module _ (k12 : kind ≡ 0x12 → ⊥) where
      joined : (b : Body) → More b → Reads Finishes how s z.own.at z.row b → (g : Body) × (r : Body) × (b ≡ nested finish row g r) × Reads Finishes how s (z.own.at + 1) row g
      joined b more st =
          let n = z.own.at in
          let k13 = finish-left how s n z.row kind (says how s n z.row kind h.asks.kind_is) b st h.no_note h.no_call h.no_cost h.no_instructions k12 more in
          subst (λ (x : ℕ). (g : Body) × (r : Body) × (b ≡ nested finish x g r) × Reads Finishes how s (n + 1) x g) (sym h.row_is) (is-joined how s n z.row kind h.asks.kind_is k13 b st)

      pub finish-leaves : (r : Zones) (m₂ : List ℕ) → Called m₁ z c r m₂ → ItemLeaves Finishes how s z m rows r m₂ rows₁
      finish-leaves r m₂ step b n k more st e sh =
          let q = joined b more st in
          subst (λ (x : Body). ItemLeft n x k z m rows r m₂ rows₁) (sym q.2)
          (behind enters u finish r m₂ rows₁ n k q.0 q.1 q.3 sh (step n k (chain_of (z.own.at + 1) row q.0) e) (u.leaves q.0 q.3).done.rows_are)

      pub finish-reach : (r : Reach) → r.far.0 ≡ a.far.0 → ItemReach how s a r
      finish-reach r e b more st = e ∙ sym (ap (λ (x : Body). (own_item (own_of a) x).far) (joined b more st).2)

-- A call.

-- zones are the same for any row
shows-row : {n : ℕ} {m : List ℕ} {z : Zones} {k : Chains} (row : ℕ) → Shows n m z k → Shows n m (of_row row z) k
shows-row row s = record { begins = s.begins; then = s.then; ends = s.ends; P = s.P; L = s.L; C = s.C }

-- the item is a call of site
pub record Passes (how : Weigh) (s : List ℕ) (deep : ℕ) (a : Reach) (t m rows : List ℕ) (site : ℕ) : Type 0 where
  pub asks : ItemAsks Finishes how s 2 deep a.zones t m rows
  pub site_is : site ≡ site_at s a.zones.own.at

module _ {how : Weigh} {s : List ℕ} {deep : ℕ} {a : Reach} {t m rows : List ℕ} {site : ℕ} (h : Passes how s deep a t m rows site) where
  abbrev caller : Zones
  caller = a.zones

  abbrev l : Lent Finishes how s deep caller t m rows
  l = h.asks.lent

  abbrev f : Open
  f = caller.own

  passes : (b : Body) → Reads Finishes how s f.at caller.row b → (g : Body) × (r : Body) × (b ≡ nested pass site g r) × Reads Finishes how s (f.at + 1) site g
  passes b st = pass_is how s f.at caller.row 2 (kind-says Finishes s f.at f.at 2 refl h.asks.kind_is) site (site-says Finishes s f.at f.at site refl h.site_is) b st refl

  abbrev item : Child Finishes how s f.at site l.ready.body
  item = as_child Finishes how s f.at site l.ready.body pass (passes l.ready.body l.ready.reads)

  pub calls : Opens Finishes how s deep caller t m rows site
  calls = record { lent = l; child = item }

  -- its line was passed, and the callee's items go on from there
  module _ {z₁ : Zones} {m₁ : List ℕ} (step : Passed m caller z₁ m₁) (marks_long : length m₁ ≡ length m) where
    abbrev callee : Zones
    callee = of_row site z₁

    own_is : z₁.own ≡ passed_n f
    own_is = (step l.n l.k l.weighs l.shows).numbers_are ∙ sym (ap passed_n l.weighs)

    at_is : z₁.own.at ≡ f.at + 1
    at_is = ap (λ (x : Open). x.at) own_is

    weighs-on : (n : ℕ) (k : Chains) → f ≡ numbers f.at f.work.0 k → Shows n m caller k → z₁.own ≡ numbers z₁.own.at z₁.own.work.0 k
    weighs-on n k e sh = own-numbers z₁.own (f.at + 1) f.work.0 k (step n k e sh).numbers_are

    pub items_asks : Lent Finishes how s (deep - 1) callee t m₁ rows
    items_asks =
        record {
          sites = l.sites;
          ready = subst (λ (x : Open). Ready Finishes how s site l.sites (deep - 1) x rows) (sym own_is) (pass_ready Finishes how s caller.row l.sites deep f rows l.ready site item);
          lines = omega (arith, l.lines, marks_long);
          zero = l.zero;
          room = omega (arith, l.room);
          n = l.n;
          k = l.k;
          weighs = weighs-on l.n l.k l.weighs l.shows;
          shows = shows-row site (step l.n l.k l.weighs l.shows).shows;
        }

    -- they were read, and left q
    pub record Ended (from q : Reach) (m₂ rows₁ : List ℕ) : Type 0 where
      pub from_is : from.zones ≡ callee
      pub start_is : from.far.0 ≡ f.prefix.0 + f.since.0
      pub rows_long : length rows₁ ≡ length rows
      pub left : ItemsLeave Finishes how s (deep - 1) from.zones t m₁ rows q.zones m₂ rows₁
      pub reach : ItemsReach how s from q

    module _ {from q : Reach} {m₂ rows₁ : List ℕ} (u : Ended from q m₂ rows₁) where
      abbrev r : Open
      r = q.zones.own

      abbrev start : ℕ
      start = from.far.0

      -- whatever body the callee has, of whatever chains
      items_left : (n : ℕ) (k : Chains) (g : Body) → Reads Finishes how s (f.at + 1) site g → f ≡ numbers f.at f.work.0 k → Shows n m caller k → ItemsLeft n g k callee m₁ rows q.zones m₂ rows₁
      items_left n k g st e sh =
          (subst (λ (x : Zones). ItemsLeave Finishes how s (deep - 1) x t m₁ rows q.zones m₂ rows₁) u.from_is u.left).leaves g n k (subst (λ (j : ℕ). Reads Finishes how s j site g) (sym at_is) st)
          (weighs-on n k e sh) (shows-row site (step n k e sh).shows)

      items_done : (n : ℕ) (k : Chains) (g : Body) → Reads Finishes how s (f.at + 1) site g → f ≡ numbers f.at f.work.0 k → Shows n m caller k → ItemsDone site (passed_n f) rows g k r rows₁
      items_done n k g st e sh = subst (λ (x : Open). ItemsDone site x rows g k r rows₁) own_is (items_left n k g st e sh).done

      first_done : (g : Body) → Reads Finishes how s (f.at + 1) site g → ItemsDone site (passed_n f) rows g l.k r rows₁
      first_done g st = items_done l.n l.k g st l.weighs l.shows

      far-is : (g : Body) → Reads Finishes how s (f.at + 1) site g → q.far.0 ≡ (own (begins (f.prefix.0 + f.since.0)) g).far
      far-is g st =
          let x : from.zones.own ≡ passed_n f = ap (λ (z : Zones). z.own) u.from_is ∙ own_is in
          let i : from.zones.own.at ≡ f.at + 1 = ap (λ (z : Open). z.at) x in
          let j : from.zones.row ≡ site = ap (λ (z : Zones). z.row) u.from_is in
          u.reach g (subst (λ (i : ℕ). Reads Finishes how s i from.zones.row g) (sym i) (subst (λ (j : ℕ). Reads Finishes how s (f.at + 1) j g) (sym j) st))
          ∙ ap (λ (z : Open). (own (record { series = z.prefix.0 + z.since.0; far = start }) g).far) x
          ∙ ap (λ (z : ℕ). (own (record { series = f.prefix.0 + f.since.0; far = z }) g).far) u.start_is

      -- it reaches its span further than where it began
      reach-is : (g : Body) → Reads Finishes how s (f.at + 1) site g → larger q.far.0 (r.prefix.0 + r.since.0) ≡ start + span_of g
      reach-is g st =
          omega (arith, u.start_is, own-ends g (f.at + 1) site q.far.0 f r l.k f.at r.at f.work.0 (f.work.0 + work_of g) (reads_of Finishes how s g (f.at + 1) site st) l.weighs (first_done g st).numbers_are (far-is g st))

      abbrev first : Body
      first = item.g

      pub work-less : f.work.0 ≤ r.work.0
      work-less = omega (arith, pass_work f site rows first l.k r rows₁ (first_done first item.reads))

      pub start-less : start ≤ larger q.far.0 (r.prefix.0 + r.since.0)
      start-less = omega (arith, reach-is first item.reads)

      -- its work and its span
      module _ {before : Credit} {work span : ℕ} (taken : before ≡ credit_of rows site) (work_is : work ≡ r.work.0 - f.work.0) (span_is : span ≡ larger q.far.0 (r.prefix.0 + r.since.0) - start) where
        spans : (g : Body) → Reads Finishes how s (f.at + 1) site g → span ≡ span_of g
        spans g st = omega (arith, span_is, reach-is g st)

        pub call_counts : ReturnFits before rows₁ site work span
        call_counts =
            let st = item.reads in
            came_fits Finishes how s caller.row l.sites deep f rows l.ready site item before work span rows₁
            (pass_came f site rows first l.k r rows₁ (first_done first st) before work span work_is (spans first st) taken u.rows_long)

        -- it was counted, and its return was passed
        pub call_leaves : {rows₂ : List ℕ} → Returned before site work span rows₁ rows₂ → {z₃ : Zones} {m₃ : List ℕ} → Passed m₂ q.zones z₃ m₃ → (z₄ : Zones) → z₄ ≡ of_row caller.row z₃
            → ItemLeaves Finishes how s caller m rows z₄ m₃ rows₂
        call_leaves {rows₂} back {z₃} {m₃} last z₄ same b n k more st e sh =
            let p = passes b st in
            let g = p.0 in
            let i = items_left n k g p.3 e sh in
            let d = items_done n k g p.3 e sh in
            let c = run (f.at + 1) site g k in
            let w = own-numbers r r.at (f.work.0 + work_of g) c d.numbers_are in
            let shown = subst (λ (x : ℕ). Shows n m₂ q.zones (run x site g k)) at_is i.shows in
            let x = last n c w shown in
            let own : z₃.own ≡ passed_n r = x.numbers_are ∙ sym (ap passed_n w) in
            let to : z₃.own.at ≡ r.at + 1 = ap (λ (y : Open). y.at) own in
            rw same
            (subst (λ (y : Body). ItemLeft n y k caller m rows (of_row caller.row z₃) m₃ rows₂) (sym p.2)
            (record {
              done = rw own (pass_done f site rows g k r rows₁ d before work span work_is (spans g p.3) taken u.rows_long caller.row p.1 rows₂ back);
              same_row = refl;
              shows = shows-row caller.row x.shows;
              kept =
                  rw to
                  (kept_on n r.at (r.at + 1) m m₂ m₃ (omega arith)
                  (kept_on n (f.at + 1) r.at m m₁ m₂ (omega (arith, d.at_is, size-some g)) (step n k e sh).kept i.kept) x.kept);
            }))

      pub call_reach : (z₄ : Reach) → z₄.far.0 ≡ larger a.far.0 q.far.0 → ItemReach how s a z₄
      call_reach z₄ e b more st =
          let p = passes b st in
          e ∙ ap (larger a.far.0) (far-is p.0 p.3) ∙ sym (ap (λ (x : Body). (own_item (own_of a) x).far) p.2)

-- The loop.

-- it has come from a₀ to a, whose next line is of this kind
pub record ReachLoop (how : Weigh) (s : List ℕ) (deep : ℕ) (a₀ : Reach) (t₀ m₀ rows₀ t m rows : List ℕ) (a : Reach) (kind : ℕ) : Type 0 where
  pub loop : Loop Finishes how s deep a₀.zones t₀ m₀ rows₀ t m rows a.zones kind
  pub reach : (b : Body) → Reads Finishes how s a₀.zones.own.at a₀.zones.row b → (x : Body) × Reads Finishes how s a.zones.own.at a₀.zones.row x × (own (own_of a) x ≡ own (own_of a₀) b)

module _ {how : Weigh} {s : List ℕ} {deep : ℕ} {a₀ : Reach} {t₀ m₀ rows₀ t m rows : List ℕ} {a : Reach} {kind : ℕ} (l : ReachLoop how s deep a₀ t₀ m₀ rows₀ t m rows a kind) where
  line-says : Says Finishes kind_of s a.zones.own.at kind
  line-says = kind-says Finishes s a.zones.own.at a.zones.own.at kind refl l.loop.kind_is

  pub reach_again : {r : Reach} {t' m' rows' : List ℕ} → Next l.loop r.zones t' m' rows' → ItemReach how s a r → (next : ℕ) → next ≡ kind_by Finishes s r.zones.own.at → ReachLoop how s deep a₀ t₀ m₀ rows₀ t' m' rows' r next
  reach_again {r} i far next k =
      record {
        loop = loop_again l.loop i next k;
        reach = λ b st.
            let u = l.reach b st in
            let x = u.0 in
            let z = a.zones in
            let c = l.loop.lent in
            let here = subst (λ (j : ℕ). Reads Finishes how s z.own.at j x) (sym l.loop.row_is) u.1 in
            let more = is-more Finishes how s z.own.at z.row kind line-says x here i.more_lines in
            let d = (i.leaves x c.n c.k more here c.weighs c.shows).done.numbers_are in
            let at : r.zones.own.at ≡ z.own.at + item_size x = ap (λ (y : Open). y.at) d in (
              rest x,
              subst (λ (j : ℕ). Reads Finishes how s j a₀.zones.row (rest x)) (sym at) (reads-rest Finishes how s z.own.at a₀.zones.row x more u.1),
              own_again x z.row a.far.0 r.far.0 z.own r.zones.own c.k (z.own.at + item_size x) (z.own.work.0 + item_work x) (reads_of Finishes how s x z.own.at z.row here) c.weighs d (far x more here) ∙ u.2,
            );
      }

  pub reach-done : kind ≡ 5 → ItemsReach how s a₀ a
  reach-done k5 b st =
      let u = l.reach b st in
      let e = is-done Finishes how s a.zones.own.at a₀.zones.row kind line-says u.0 u.1 k5 in
      ap (λ (x : Own). x.far) (sym (ap (own (own_of a)) e) ∙ u.2)
