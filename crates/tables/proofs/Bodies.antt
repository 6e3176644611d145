-- The body reader: what its loop keeps from item to item, with no code in sight.
use mathlib.Core.Path.{◌≡◌, refl, ap, ◌∙◌, sym, subst}
use mathlib.Core.List.{List, [], ◌++◌}
use Prim.Native.Nat.{ℕ, ◌+◌, ◌-◌, ◌≤◌, ◌<◌}
use native.Mathlib.Omega.{arith}
use lib.ListN.{length}
use Rattle.line.specs.Family.{Family}
use Rattle.chain.specs.Plan.{CostLine, weight}
use Rattle.trace.specs.Tree.{spend, sync, note, Body, done, leaf, child, work_of, instructions_of}
use Rattle.trace.specs.Fold.{Chains, nothing, run, chain_of}
use Rattle.weigh.specs.Weighed.{Weigh}
use Rattle.walk.specs.declared.Open.{Open}
use Rattle.walk.specs.Stands.{Says, kind_by, kind_of}
use Rattle.walk.specs.Reads.{Reads}
use Rattle.walk.specs.Numbers.{numbers}
use Rattle.walk.specs.Item.{More, rest, item_size, item_work, item_chains}
use Rattle.walk.specs.Nested.{Nested}
use Rattle.walk.specs.Reader.{ItemDone, ItemsDone, Turn}
use Rattle.walk.proofs.Items.{size-some, work-item, instructions-item, load-item, iload-item}
use Rattle.walk.proofs.Says.{kind-says}
use Rattle.walk.proofs.Lines.{is-more, is-done}
use Rattle.walk.proofs.Reader.{own-numbers, farther, ready_again, again_body, turn-start, turn_again, turn-done, body-done}
use Rattle.tables.specs.Blocks.{Holds, behind, Joined}
use Rattle.tables.specs.Reader.{Lent, ItemAsks, ItemLeaves, ItemsLeave, BodyAsks, BodyLeaves}
use Rattle.tables.proofs.Held.{opens, alone-shows}

-- where the first item of a body leaves a child the longest, it made it, or one was before
longest_made : (b : Body) (m D d deep rooms n s : ℕ) (k : Chains) → Nested m D d b → d + deep ≡ D → deep ≤ rooms → ((weight k.l ≡ 0 → ⊥) → 1 ≤ rooms) → (weight (item_chains n s b k).l ≡ 0 → ⊥) → 1 ≤ rooms
longest_made done m D d deep rooms n s k h e few before = before
longest_made (leaf (spend v) r) m D d deep rooms n s k h e few before = before
longest_made (leaf sync r) m D d deep rooms n s k h e few before = λ z. absurd (z refl)
longest_made (leaf (note x) r) m D d deep rooms n s k h e few before = before
longest_made (child w j g r) m D d deep rooms n s k h e few before = λ z. omega (arith, h.2)

-- behind an item that left r, how far a body reaches is as far as what is left of it does
abbrev pub Keeps : (y : Family) (how : Weigh) (s : List ℕ) (row : ℕ) (f : Open) (t : List ℕ) (n w : ℕ) (r : Open) (rows rows' : List ℕ) (reach reach' : Body → ℕ) → Type 0
Keeps y how s row f t n w r rows rows' reach reach' = (b : Body) (q : List CostLine) (k : Chains) → More b → Reads y how s f.at row b → f ≡ numbers f.at f.work.0 k → Holds n w t (behind q k) []
    → ItemDone row f rows b k r rows' → reach' (rest b) ≡ reach b

-- in document 01's traces nothing of the kind is told
abbrev pub untold : Body → ℕ
untold b = 0

module _ (y : Family) (how : Weigh) (s : List ℕ) (row deep n w : ℕ) where
  -- The loop has come from f₀ to f: what is left of the body, and what it comes to, are as from f₀ on; and so is how
  -- far it reaches, by a number that is told from either.
  abbrev Turns : (f₀ : Open) (t₀ rows₀ : List ℕ) (reach₀ : Body → ℕ) (f : Open) (t rows : List ℕ) (reach : Body → ℕ) → Type 0
  Turns f₀ t₀ rows₀ reach₀ f t rows reach = (b : Body) (q : List CostLine) (k₀ : Chains) → Reads y how s f₀.at row b → f₀ ≡ numbers f₀.at f₀.work.0 k₀ → Holds n w t₀ (behind q k₀) []
      → (l : Body) × (k : Chains) × Turn y how s row f₀ rows₀ b k₀ f rows l k × Holds n w t (behind q k) [] × (reach l ≡ reach₀ b)

  turns-start : (f : Open) (t rows : List ℕ) (reach : Body → ℕ) → Turns f t rows reach f t rows reach
  turns-start f t rows reach b q k h e sh = (b, k, turn-start y how s row f rows b k h e, sh, refl)

  module _ (kind : ℕ) (f : Open) (t rows : List ℕ) (says : Says y kind_of s f.at kind) where
    more : (kind ≡ 5 → ⊥) → (l : Lent y how s row deep f t rows n w) → More l.ready.body
    more k5 l = is-more y how s f.at row kind says l.ready.body l.ready.reads k5

    module _ (l : Lent y how s row deep f t rows n w) (k5 : kind ≡ 5 → ⊥) (r : Open) (t' rows' : List ℕ) (lt : length t' ≡ length t) (lr : length rows' ≡ length rows)
        (done : ItemLeaves y how s row f t rows n w r t' rows') where
      left : ItemDone row f rows l.ready.body l.k r rows' × Holds n w t' (behind l.q (item_chains f.at row l.ready.body l.k)) []
      left = done l.ready.body l.q l.k (more k5 l) l.ready.reads l.weighs l.holds

      goes_on : f.at < r.at
      goes_on = farther y how s row l.m deep f rows l.ready (more k5 l) l.k l.weighs r rows' lr left.0

      lent_again : Lent y how s row deep r t' rows' n w
      lent_again =
          let b = l.ready.body in
          record {
            m = l.m;
            ready = ready_again y how s row l.m deep f rows l.ready (more k5 l) l.k l.weighs r rows' lr left.0;
            blocks = l.blocks;
            even = l.even;
            wide = l.wide;
            few = l.few;
            rooms = l.rooms;
            for_deep = l.for_deep;
            room = omega (arith, l.room, lt);
            opened = λ x.
                longest_made b l.m l.ready.D l.ready.d deep l.rooms f.at row l.k l.ready.nested l.ready.depth l.for_deep (λ y. l.opened (λ z. y (sym (ap (λ (o : Open). o.longest.0) l.weighs) ∙ z)))
                (λ y. x (ap (λ (o : Open). o.longest.0) left.0.numbers_are ∙ y));
            q = l.q;
            k = item_chains f.at row b l.k;
            weighs = own-numbers r (f.at + item_size b) (f.work.0 + item_work b) (item_chains f.at row b l.k) left.0.numbers_are;
            holds = left.1;
            fits = omega (arith, l.fits, load-item b f.at row l.k, work-item b, ap work_of (again_body y how s row l.m deep f rows l.ready (more k5 l) l.k l.weighs r rows' lr left.0));
            ifits = omega (arith, l.ifits, iload-item b f.at row l.k, instructions-item b, ap instructions_of (again_body y how s row l.m deep f rows l.ready (more k5 l) l.k l.weighs r rows' lr left.0));
          }

      turns_again : (f₀ : Open) (t₀ rows₀ : List ℕ) (reach₀ reach reach' : Body → ℕ) → length rows ≡ length rows₀ → Keeps y how s row f t n w r rows rows' reach reach'
          → Turns f₀ t₀ rows₀ reach₀ f t rows reach → Turns f₀ t₀ rows₀ reach₀ r t' rows' reach'
      turns_again f₀ t₀ rows₀ reach₀ reach reach' len keeps turns b q k₀ h e sh =
          let u = turns b q k₀ h e sh in
          let m = is-more y how s f.at row kind says u.0 u.2.reads k5 in
          let d = done u.0 q u.1 m u.2.reads u.2.weighs u.3 in
          (rest u.0, item_chains f.at row u.0 u.1, turn_again y how s row f₀ rows₀ b k₀ f rows u.0 u.1 u.2 len r rows' m d.0, d.1, keeps u.0 q u.1 m u.2.reads u.2.weighs u.3 d.0 ∙ u.4)

    turns-done : (f₀ : Open) (t₀ rows₀ : List ℕ) (reach₀ reach : Body → ℕ) → length rows ≡ length rows₀ → Turns f₀ t₀ rows₀ reach₀ f t rows reach → kind ≡ 5 → (b : Body) (q : List CostLine) (k₀ : Chains) → Reads y how s f₀.at row b
        → f₀ ≡ numbers f₀.at f₀.work.0 k₀ → Holds n w t₀ (behind q k₀) [] → (ItemsDone row f₀ rows₀ b k₀ f rows × Holds n w t (behind q (run f₀.at row b k₀)) []) × (reach done ≡ reach₀ b)
    turns-done f₀ t₀ rows₀ reach₀ reach len turns k5 b q k₀ h e sh =
        let u = turns b q k₀ h e sh in
        let z = is-done y how s f.at row kind says u.0 u.2.reads k5 in
        let c : u.1 ≡ run f₀.at row b k₀ = sym (ap (λ (x : Body). run f.at row x u.1) z) ∙ u.2.same_chains in
        ((turn-done y how s row f₀ rows₀ b k₀ f rows u.0 u.1 u.2 len z, subst (λ (x : Chains). Holds n w t (behind q x) []) c u.3), sym (ap reach z) ∙ u.4)

-- the loop has come from f₀ to f, whose next line is of this kind
pub record Loop (y : Family) (how : Weigh) (s : List ℕ) (row deep : ℕ) (f₀ : Open) (t₀ rows₀ t rows : List ℕ) (n w : ℕ) (f : Open) (kind : ℕ) (reach₀ reach : Body → ℕ) : Type 0 where
  pub kind_is : kind ≡ kind_by y s f.at
  pub scratch_long : length t ≡ length t₀
  pub rows_long : length rows ≡ length rows₀
  pub lent : Lent y how s row deep f t rows n w
  pub turns : Turns y how s row deep n w f₀ t₀ rows₀ reach₀ f t rows reach

pub loop-start : {y : Family} {how : Weigh} {s : List ℕ} {row deep : ℕ} {f : Open} {t rows : List ℕ} {n w : ℕ} → Lent y how s row deep f t rows n w → (kind : ℕ) → kind ≡ kind_by y s f.at → (reach : Body → ℕ) → Loop y how s row deep f t rows t rows n w f kind reach reach
loop-start {y} {how} {s} {row} {deep} {f} {t} {rows} {n} {w} asks kind k reach = record { kind_is = k; scratch_long = refl; rows_long = refl; lent = asks; turns = turns-start y how s row deep n w f t rows reach }

module _ {y : Family} {how : Weigh} {s : List ℕ} {row deep : ℕ} {f₀ : Open} {t₀ rows₀ t rows : List ℕ} {n w : ℕ} {f : Open} {kind : ℕ} {reach₀ reach : Body → ℕ} (l : Loop y how s row deep f₀ t₀ rows₀ t rows n w f kind reach₀ reach) where
  says : Says y kind_of s f.at kind
  says = kind-says y s f.at f.at kind refl l.kind_is

  pub loop-asks : (kind ≡ 5 → ⊥) → ItemAsks y how s kind row deep f t rows n w
  loop-asks k5 = record { lent = l.lent; kind_is = l.kind_is; more = more y how s row deep n w kind f t rows says k5 l.lent }

  -- an item was read: r, and the room behind it
  pub record Next (r : Open) (t' rows' : List ℕ) (reach' : Body → ℕ) : Type 0 where
    pub more_lines : kind ≡ 5 → ⊥
    pub scratch_long : length t' ≡ length t
    pub rows_long : length rows' ≡ length rows
    pub leaves : ItemLeaves y how s row f t rows n w r t' rows'
    pub keeps : Keeps y how s row f t n w r rows rows' reach reach'

  module _ {r : Open} {t' rows' : List ℕ} {reach' : Body → ℕ} (i : Next r t' rows' reach') where
    pub loop-less : 65536 - r.at < 65536 - f.at
    loop-less =
        let h = goes_on y how s row deep n w kind f t rows says l.lent i.more_lines r t' rows' i.scratch_long i.rows_long i.leaves in
        omega (arith, l.lent.ready.ends, size-some l.lent.ready.body)

    pub loop_again : (next : ℕ) → next ≡ kind_by y s r.at → Loop y how s row deep f₀ t₀ rows₀ t' rows' n w r next reach₀ reach'
    loop_again next k =
        record {
          kind_is = k;
          scratch_long = i.scratch_long ∙ l.scratch_long;
          rows_long = i.rows_long ∙ l.rows_long;
          lent = lent_again y how s row deep n w kind f t rows says l.lent i.more_lines r t' rows' i.scratch_long i.rows_long i.leaves;
          turns = turns_again y how s row deep n w kind f t rows says l.lent i.more_lines r t' rows' i.scratch_long i.rows_long i.leaves f₀ t₀ rows₀ reach₀ reach reach' l.rows_long i.keeps l.turns;
        }

  pub loop-done : kind ≡ 5 → ItemsLeave y how s row deep f₀ t₀ rows₀ n w f t rows
  loop-done k5 = record { lent = l.lent; leaves = λ b q k h e sh. (turns-done y how s row deep n w kind f t rows says f₀ t₀ rows₀ reach₀ reach l.rows_long l.turns k5 b q k h e sh).0 }

  pub loop-reaches : kind ≡ 5 → (b : Body) (q : List CostLine) (k : Chains) → Reads y how s f₀.at row b → f₀ ≡ numbers f₀.at f₀.work.0 k → Holds n w t₀ (behind q k) [] → reach done ≡ reach₀ b
  loop-reaches k5 b q k h e sh = (turns-done y how s row deep n w kind f t rows says f₀ t₀ rows₀ reach₀ reach l.rows_long l.turns k5 b q k h e sh).1

-- the body may be read from its first line on
pub begins : {y : Family} {how : Weigh} {s : List ℕ} {from row deep : ℕ} {t rows : List ℕ} {n w : ℕ} (f : Open) → f ≡ numbers from 0 nothing → BodyAsks y how s from row deep t rows n w → Lent y how s row deep f t rows n w
begins {y} {how} {s} {from} {row} {deep} {t} {rows} {n} {w} f e a = subst (λ (x : Open). Lent y how s row deep x t rows n w) (sym e) a

-- its items were read from there on, and the join at the return follows
pub body-leaves : {y : Family} {how : Weigh} {s : List ℕ} {from row deep : ℕ} {t rows : List ℕ} {n w : ℕ} {f : Open} {t₁ rows₁ : List ℕ} (f₀ : Open) → f₀ ≡ numbers from 0 nothing → ItemsLeave y how s row deep f₀ t rows n w f t₁ rows₁
    → (r : Open) (t₂ : List ℕ) → Joined n w t₁ f r t₂ → BodyLeaves y how s from row t rows n w r t₂ rows₁
body-leaves {y} {how} {s} {from} {row} {deep} {t} {rows} {n} {w} {f} {t₁} {rows₁} f₀ e₀ i r t₂ j b q h sh =
    let o = (subst (λ (x : Open). ItemsLeave y how s row deep x t rows n w f t₁ rows₁) e₀ i).leaves b q nothing h refl (opens n w t q sh) in
    let weighs = own-numbers f f.at (0 + work_of b) (run from row b nothing) o.0.numbers_are in
    let d = j q (run from row b nothing) weighs o.1 in
    (body-done from row rows b f rows₁ o.0 r d.0, alone-shows n w t₂ (q ++ chain_of from row b) d.1)
