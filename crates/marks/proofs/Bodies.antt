-- The body reader: what its loop keeps from item to item, with no code in sight.
use mathlib.Core.Path.{◌≡◌, refl, ap, ◌∙◌, sym, subst}
use mathlib.Core.List.{List, []}
use Prim.Native.Nat.{ℕ, ◌+◌, ◌-◌, ◌≤◌, ◌<◌}
use native.Mathlib.Omega.{arith}
use lib.ListN.{length}
use Rattle.line.specs.Family.{Family}
use Rattle.chain.specs.Plan.{CostLine}
use Rattle.trace.specs.Tree.{Body, work_of}
use Rattle.trace.specs.Fold.{Chains, nothing, run, chain_of}
use Rattle.weigh.specs.Weighed.{Weigh}
use Rattle.walk.specs.declared.Open.{Open}
use Rattle.walk.specs.Stands.{Says, kind_by, kind_of}
use Rattle.walk.specs.Reads.{Reads}
use Rattle.walk.specs.Numbers.{numbers}
use Rattle.walk.specs.Item.{More, rest, item_size, item_work, item_chains}
use Rattle.walk.specs.Reader.{Ready, ItemDone, alone, Turn}
use Rattle.walk.proofs.Items.{size-some}
use Rattle.walk.proofs.Says.{kind-says}
use Rattle.walk.proofs.Lines.{is-more, is-done}
use Rattle.walk.proofs.Reader.{own-numbers, farther, ready_again, turn-start, turn_again, turn-done, body-done}
use Rattle.marks.specs.declared.Zones.{Zones}
use Rattle.marks.specs.Shown.{Zone, Shows, Kept}
use Rattle.marks.specs.Steps.{Joined}
use Rattle.marks.specs.Reader.{Lent, ItemAsks, ItemLeft, ItemLeaves, ItemsLeft, ItemsLeave, begun, BodyAsks, BodyLeaves}
use Rattle.marks.proofs.Shown.{zone-none, zone_lost_right}

-- a body that begins has no marks yet
pub shows-begun : (from row : ℕ) (m : List ℕ) → Shows from m (begun from row) nothing
shows-begun from row m = record { begins = omega arith; then = omega arith; ends = omega arith; P = zone-none m from; L = zone-none m from; C = zone-none m from }

-- an invocation that has come to one chain: the three zones are one
pub zone-whole : (n : ℕ) (m : List ℕ) (z : Zones) (c : List CostLine) → Shows n m z (alone c) → Zone m n z.own.at c
zone-whole n m z c s =
    zone_lost_right m n z.child z.own.at c s.begins (omega (arith, s.then, s.ends)) s.P
    (zone_lost_right m z.child z.after z.own.at [] s.then s.ends s.L s.C)

-- changes of one part of the marks, and then of a longer one
pub kept_on : (n a e : ℕ) (m m₁ m₂ : List ℕ) → a ≤ e → Kept n a m m₁ → Kept n e m₁ m₂ → Kept n e m m₂
kept_on n a e m m₁ m₂ l x y j o = y j o ∙ x j (λ p q. o p (omega arith))

module _ (y : Family) (how : Weigh) (s : List ℕ) (deep : ℕ) where
  -- the loop has come from z₀ to z: what is left of the body, and what it comes to, are as from z₀ on
  abbrev Turns : (z₀ : Zones) (m₀ rows₀ : List ℕ) (z : Zones) (m rows : List ℕ) → Type 0
  Turns z₀ m₀ rows₀ z m rows = (b : Body) (n : ℕ) (k₀ : Chains) → Reads y how s z₀.own.at z₀.row b → z₀.own ≡ numbers z₀.own.at z₀.own.work.0 k₀ → Shows n m₀ z₀ k₀
      → (l : Body) × (k : Chains) × Turn y how s z₀.row z₀.own rows₀ b k₀ z.own rows l k × Shows n m z k × Kept n z.own.at m₀ m

  turns-start : (z : Zones) (m rows : List ℕ) → Turns z m rows z m rows
  turns-start z m rows b n k h e sh = (b, k, turn-start y how s z.row z.own rows b k h e, sh, λ j o. refl)

  module _ (kind : ℕ) (z : Zones) (t m rows : List ℕ) (says : Says y kind_of s z.own.at kind) where
    more : (kind ≡ 5 → ⊥) → (l : Lent y how s deep z t m rows) → More l.ready.body
    more k5 l = is-more y how s z.own.at z.row kind says l.ready.body l.ready.reads k5

    module _ (l : Lent y how s deep z t m rows) (k5 : kind ≡ 5 → ⊥) (r : Zones) (m' rows' : List ℕ) (lm : length m' ≡ length m) (lr : length rows' ≡ length rows) (done : ItemLeaves y how s z m rows r m' rows') where
      left : ItemLeft l.n l.ready.body l.k z m rows r m' rows'
      left = done l.ready.body l.n l.k (more k5 l) l.ready.reads l.weighs l.shows

      row_again : r.row ≡ z.row
      row_again = left.same_row

      goes_on : z.own.at < r.own.at
      goes_on = farther y how s z.row l.sites deep z.own rows l.ready (more k5 l) l.k l.weighs r.own rows' lr left.done

      lent_again : Lent y how s deep r t m' rows'
      lent_again =
          let b = l.ready.body in
          record {
            sites = l.sites;
            ready = subst (λ (x : ℕ). Ready y how s x l.sites deep r.own rows') (sym left.same_row) (ready_again y how s z.row l.sites deep z.own rows l.ready (more k5 l) l.k l.weighs r.own rows' lr left.done);
            lines = omega (arith, l.lines, lm);
            zero = l.zero;
            room = l.room;
            n = l.n;
            k = item_chains z.own.at z.row b l.k;
            weighs = own-numbers r.own (z.own.at + item_size b) (z.own.work.0 + item_work b) (item_chains z.own.at z.row b l.k) left.done.numbers_are;
            shows = left.shows;
          }

      turns_again : (z₀ : Zones) (m₀ rows₀ : List ℕ) → z.row ≡ z₀.row → length rows ≡ length rows₀ → Turns z₀ m₀ rows₀ z m rows → Turns z₀ m₀ rows₀ r m' rows'
      turns_again z₀ m₀ rows₀ same len turns b n k₀ h e sh =
          let u = turns b n k₀ h e sh in
          let more = is-more y how s z.own.at z₀.row kind says u.0 u.2.reads k5 in
          let d = done u.0 n u.1 more (subst (λ (x : ℕ). Reads y how s z.own.at x u.0) (sym same) u.2.reads) u.2.weighs u.3 in (
            rest u.0,
            item_chains z.own.at z₀.row u.0 u.1,
            turn_again y how s z₀.row z₀.own rows₀ b k₀ z.own rows u.0 u.1 u.2 len r.own rows' more (subst (λ (x : ℕ). ItemDone x z.own rows u.0 u.1 r.own rows') same d.done),
            subst (λ (x : ℕ). Shows n m' r (item_chains z.own.at x u.0 u.1)) same d.shows,
            kept_on n z.own.at r.own.at m₀ m m' (omega (arith, goes_on)) u.4 d.kept,
          )

    turns-done : (z₀ : Zones) (m₀ rows₀ : List ℕ) → length rows ≡ length rows₀ → Turns z₀ m₀ rows₀ z m rows → kind ≡ 5 → (b : Body) (n : ℕ) (k₀ : Chains) → Reads y how s z₀.own.at z₀.row b
        → z₀.own ≡ numbers z₀.own.at z₀.own.work.0 k₀ → Shows n m₀ z₀ k₀ → ItemsLeft n b k₀ z₀ m₀ rows₀ z m rows
    turns-done z₀ m₀ rows₀ len turns k5 b n k₀ h e sh =
        let u = turns b n k₀ h e sh in
        let q = is-done y how s z.own.at z₀.row kind says u.0 u.2.reads k5 in
        let c : u.1 ≡ run z₀.own.at z₀.row b k₀ = sym (ap (λ (x : Body). run z.own.at z₀.row x u.1) q) ∙ u.2.same_chains in
        record { done = turn-done y how s z₀.row z₀.own rows₀ b k₀ z.own rows u.0 u.1 u.2 len q; shows = subst (Shows n m z) c u.3; kept = u.4 }

-- the loop has come from z₀ to z, whose next line is of this kind
pub record Loop (y : Family) (how : Weigh) (s : List ℕ) (deep : ℕ) (z₀ : Zones) (t₀ m₀ rows₀ t m rows : List ℕ) (z : Zones) (kind : ℕ) : Type 0 where
  pub kind_is : kind ≡ kind_by y s z.own.at
  pub row_is : z.row ≡ z₀.row
  pub same_scratch : t ≡ t₀
  pub marks_long : length m ≡ length m₀
  pub rows_long : length rows ≡ length rows₀
  pub lent : Lent y how s deep z t m rows
  pub turns : Turns y how s deep z₀ m₀ rows₀ z m rows

pub loop-start : {y : Family} {how : Weigh} {s : List ℕ} {deep : ℕ} {z : Zones} {t m rows : List ℕ} → Lent y how s deep z t m rows → (kind : ℕ) → kind ≡ kind_by y s z.own.at → Loop y how s deep z t m rows t m rows z kind
loop-start {y} {how} {s} {deep} {z} {t} {m} {rows} asks kind k =
    record { kind_is = k; row_is = refl; same_scratch = refl; marks_long = refl; rows_long = refl; lent = asks; turns = turns-start y how s deep z m rows }

module _ {y : Family} {how : Weigh} {s : List ℕ} {deep : ℕ} {z₀ : Zones} {t₀ m₀ rows₀ t m rows : List ℕ} {z : Zones} {kind : ℕ} (l : Loop y how s deep z₀ t₀ m₀ rows₀ t m rows z kind) where
  says : Says y kind_of s z.own.at kind
  says = kind-says y s z.own.at z.own.at kind refl l.kind_is

  pub loop-asks : (kind ≡ 5 → ⊥) → ItemAsks y how s kind deep z t m rows
  loop-asks k5 = record { lent = l.lent; kind_is = l.kind_is; more = more y how s deep kind z t m rows says k5 l.lent }

  -- an item was read: r, and the room behind it
  pub record Next (r : Zones) (t' m' rows' : List ℕ) : Type 0 where
    pub more_lines : kind ≡ 5 → ⊥
    pub same_scratch : t' ≡ t
    pub marks_long : length m' ≡ length m
    pub rows_long : length rows' ≡ length rows
    pub leaves : ItemLeaves y how s z m rows r m' rows'

  module _ {r : Zones} {t' m' rows' : List ℕ} (i : Next r t' m' rows') where
    pub loop-less : 65536 - r.own.at < 65536 - z.own.at
    loop-less =
        let h = goes_on y how s deep kind z t m rows says l.lent i.more_lines r m' rows' i.marks_long i.rows_long i.leaves in
        omega (arith, l.lent.ready.ends, size-some l.lent.ready.body)

    pub loop_again : (next : ℕ) → next ≡ kind_by y s r.own.at → Loop y how s deep z₀ t₀ m₀ rows₀ t' m' rows' r next
    loop_again next k =
        record {
          kind_is = k;
          row_is = row_again y how s deep kind z t m rows says l.lent i.more_lines r m' rows' i.marks_long i.rows_long i.leaves ∙ l.row_is;
          same_scratch = i.same_scratch ∙ l.same_scratch;
          marks_long = i.marks_long ∙ l.marks_long;
          rows_long = i.rows_long ∙ l.rows_long;
          lent = rw i.same_scratch (lent_again y how s deep kind z t m rows says l.lent i.more_lines r m' rows' i.marks_long i.rows_long i.leaves);
          turns = turns_again y how s deep kind z t m rows says l.lent i.more_lines r m' rows' i.marks_long i.rows_long i.leaves z₀ m₀ rows₀ l.row_is l.rows_long l.turns;
        }

  pub loop-done : kind ≡ 5 → ItemsLeave y how s deep z₀ t₀ m₀ rows₀ z m rows × (t ≡ t₀)
  loop-done k5 = (
    record { lent = subst (λ (x : List ℕ). Lent y how s deep z x m rows) l.same_scratch l.lent; same_row = l.row_is; leaves = turns-done y how s deep kind z t m rows says z₀ m₀ rows₀ l.rows_long l.turns k5 },
    l.same_scratch,
  )

-- the body may be read from its first line on
pub begins : {y : Family} {how : Weigh} {s : List ℕ} {from row deep : ℕ} {t m rows : List ℕ} (z : Zones) → z ≡ begun from row → BodyAsks y how s from row deep t m rows → Lent y how s deep z t m rows
begins {y} {how} {s} {from} {row} {deep} {t} {m} {rows} z e a = subst (λ (x : Zones). Lent y how s deep x t m rows) (sym e) a

-- its items were read from there on, and the join at the return follows
pub body-leaves : {y : Family} {how : Weigh} {s : List ℕ} {from row deep : ℕ} {t m rows : List ℕ} {z : Zones} {m₁ rows₁ : List ℕ} (z₀ : Zones) → z₀ ≡ begun from row → ItemsLeave y how s deep z₀ t m rows z m₁ rows₁
    → (r : Zones) (m₂ : List ℕ) → Joined m₁ z r m₂ → BodyLeaves y how s from row m rows r.own m₂ rows₁
body-leaves {y} {how} {s} {from} {row} {deep} {t} {m} {rows} {z} {m₁} {rows₁} z₀ e₀ i r m₂ j b h =
    let o = (subst (λ (x : Zones). ItemsLeave y how s deep x t m rows z m₁ rows₁) e₀ i).leaves b from nothing h refl (shows-begun from row m) in
    let weighs = own-numbers z.own z.own.at (0 + work_of b) (run from row b nothing) o.done.numbers_are in
    let d = j from (run from row b nothing) weighs o.shows in
    let at : r.own.at ≡ z.own.at + 1 = ap (λ (x : Open). x.at) d.numbers_are in
    record {
      done = body-done from row rows b z.own rows₁ o.done r.own d.numbers_are;
      zone = zone-whole from m₂ r (chain_of from row b) d.shows;
      kept = rw at (kept_on from z.own.at (z.own.at + 1) m m₁ m₂ (omega arith) o.kept d.kept);
    }
