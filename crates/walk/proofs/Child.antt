-- A cost, and what opens something, by what its line says; and a child's body, which a reader may read where it may
-- read the item.
use mathlib.Core.Path.{◌≡◌, refl, ap, ◌∙◌, sym, subst}
use mathlib.Core.Bool.{Bool, true, false}
use mathlib.Core.List.{List}
use Prim.Native.Nat.{ℕ, suc, ◌+◌, ◌*◌, ◌-◌, ◌^◌, ◌≤◌, ◌<◌}
use native.Mathlib.Omega.{arith}
use lib.Dec.{eqb}
use lib.ListN.{length, get_or}
use borrow.Author.Tests.{eqb-true, eqb-false}
use Rattle.line.specs.Family.{Family, Base, Finishes}
use Rattle.line.specs.declared.Frame.TheVariants.{Cost}
use Rattle.chain.specs.Plan.{weight}
use Rattle.trace.specs.Rows.{columns}
use Rattle.trace.specs.Column.{Column, slot}
use Rattle.trace.specs.Tree.{Way, call, spawn, async, pass, finish, opening, spend, Body, leaf, child, ahead, size, work_of, instructions_of, span_of}
use Rattle.trace.specs.Fold.{Chains, nothing, called, run, chain_of}
use Rattle.trace.proofs.Slots.{slot_in}
use Rattle.weigh.specs.Weighed.{Weigh}
use Rattle.walk.specs.declared.Open.{Open}
use Rattle.walk.specs.declared.Credit.{Credit}
use Rattle.walk.specs.Stands.{Says, kind_of, site_of, value_of}
use Rattle.walk.specs.Reads.{Reads}
use Rattle.walk.specs.Numbers.{numbers, passed_n, called_n}
use Rattle.walk.specs.Gain.{ColumnFits, credit_of, ReturnFits, Returned, made, most_gain}
use Rattle.walk.specs.Item.{More}
use Rattle.walk.specs.Nested.{Nested}
use Rattle.walk.specs.Reader.{Ready, ItemDone, ItemsDone, BodyDone}
use Rattle.walk.proofs.Lines.{is-spend, is_call, is_spawn, is_pass, is-async, is-finish}
use Rattle.walk.proofs.Return.{Came, came, return_fits, made_grown}
use Rattle.walk.proofs.Numbers.{called-numbers}

-- what is at line n, where a line of this kind is
module _ (y : Family) (w : Weigh) (s : List ℕ) (n row kind : ℕ) (says : Says y kind_of s n kind) where
  -- a cost, whose value weighs v
  pub cost-is : (x v : ℕ) → Says y value_of s n x → v ≡ w n row x → kind ≡ 6 → (b : Body) → Reads y w s n row b → (r : Body) × (b ≡ leaf (spend v) r)
  cost-is x v valued weighs k6 b h =
      let e = is-spend y w s n row kind says b h k6 in
      let z = (subst (Reads y w s n row) e.2 h).0 in
      let q : v ≡ e.0 = weighs ∙ ap (w n row) (valued (Cost z.0) z.1) ∙ sym z.2 in
      (e.1, e.2 ∙ ap (λ (x : ℕ). leaf (spend x) e.1) (sym q))

  -- an invocation of site, by a way whose line names its site
  module _ (site : ℕ) (sited : Says y site_of s n site) (v : Way) (named : (j : ℕ) → site_of (opening v j) ≡ j) where
    sited-is : (b : Body) → Reads y w s n row b → (j : ℕ) × (g : Body) × (r : Body) × (b ≡ child v j g r) → (g : Body) × (r : Body) × (b ≡ child v site g r) × Reads y w s (n + 1) site g
    sited-is b h e =
        let z = subst (Reads y w s n row) e.3 h in
        let q : site ≡ e.0 = sited (opening v e.0) z.0 ∙ named e.0 in
        (e.1, e.2, e.3 ∙ ap (λ (x : ℕ). child v x e.1 e.2) (sym q), subst (λ (x : ℕ). Reads y w s (n + 1) x e.1) (sym q) z.1)

-- a call or a spawn of site
module _ (w : Weigh) (s : List ℕ) (n row kind : ℕ) (says : Says Base kind_of s n kind) (site : ℕ) (sited : Says Base site_of s n site) where
  pub call_is : (b : Body) → Reads Base w s n row b → kind ≡ 2 → (g : Body) × (r : Body) × (b ≡ child call site g r) × Reads Base w s (n + 1) site g
  call_is b h k2 = sited-is Base w s n row kind says site sited call (λ j. refl) b h (is_call w s n row kind says b h k2)

  module _ (k6 : kind ≡ 6 → ⊥) (k4 : kind ≡ 4 → ⊥) (k1 : kind ≡ 1 → ⊥) (k7 : kind ≡ 7 → ⊥) where
    pub spawn_is : (b : Body) → Reads Base w s n row b → More b → (kind ≡ 2 → ⊥) → (g : Body) × (r : Body) × (b ≡ child spawn site g r) × Reads Base w s (n + 1) site g
    spawn_is b h m k2 = sited-is Base w s n row kind says site sited spawn (λ j. refl) b h (is_spawn w s n row kind says b h k1 k2 k4 k6 k7 m)

-- a call or an async of the other family
module _ (w : Weigh) (s : List ℕ) (n row kind : ℕ) (says : Says Finishes kind_of s n kind) where
  module _ (site : ℕ) (sited : Says Finishes site_of s n site) where
    pub pass_is : (b : Body) → Reads Finishes w s n row b → kind ≡ 2 → (g : Body) × (r : Body) × (b ≡ child pass site g r) × Reads Finishes w s (n + 1) site g
    pass_is b h k = sited-is Finishes w s n row kind says site sited pass (λ j. refl) b h (is_pass w s n row kind says b h k)

    pub async-is : (b : Body) → Reads Finishes w s n row b → kind ≡ 0x12 → (g : Body) × (r : Body) × (b ≡ child async site g r) × Reads Finishes w s (n + 1) site g
    async-is b h k = sited-is Finishes w s n row kind says site sited async (λ j. refl) b h (is-async w s n row kind says b h k)

  -- a finish, whose lines are of the row around it
  pub finish-is : (b : Body) → Reads Finishes w s n row b → kind ≡ 0x13 → (g : Body) × (r : Body) × (b ≡ child finish row g r) × Reads Finishes w s (n + 1) row g
  finish-is b h k = let e = is-finish w s n row kind says b h k in (e.0, e.1, e.2, (subst (Reads Finishes w s n row) e.2 h).1)

-- the first item of b, at line n, opens something whose row is site: its body g, and what stands behind it
pub record Child (y : Family) (w : Weigh) (s : List ℕ) (n site : ℕ) (b : Body) : Type 0 where
  pub way : Way
  pub g : Body
  pub r : Body
  pub is : b ≡ child way site g r
  pub reads : Reads y w s (n + 1) site g

-- by what is known of one way
abbrev pub as_child : (y : Family) (w : Weigh) (s : List ℕ) (n site : ℕ) (b : Body) (v : Way) → (g : Body) × (r : Body) × (b ≡ child v site g r) × Reads y w s (n + 1) site g → Child y w s n site b
as_child y w s n site b v q = record { way = v; g = q.0; r = q.1; is = q.2; reads = q.3 }

pub child-is : (w : Weigh) (s : List ℕ) (n row kind site : ℕ) → Says Base kind_of s n kind → Says Base site_of s n site → (kind ≡ 6 → ⊥) → (kind ≡ 4 → ⊥) → (kind ≡ 1 → ⊥) → (kind ≡ 7 → ⊥) → (b : Body) → Reads Base w s n row b → More b
    → Child Base w s n site b
child-is w s n row kind site says sited k6 k4 k1 k7 b h m = go (eqb kind 2) refl
  where
    go : (t : Bool) → eqb kind 2 ≡ t → Child Base w s n site b
    go true e = as_child Base w s n site b call (call_is w s n row kind says site sited b h (eqb-true kind 2 e))
    go false e = as_child Base w s n site b spawn (spawn_is w s n row kind says site sited k6 k4 k1 k7 b h m (eqb-false kind 2 e))

-- a child's lines are among the item's, and it is one more thing that is open
pub nested-child : (y : Family) (w : Weigh) (s : List ℕ) (n site m D d : ℕ) (b : Body) (c : Child y w s n site b) → Nested m D d b → (site ≤ m) × (suc d ≤ D) × Nested m D (suc d) c.g × (1 + size c.g ≤ size b)
nested-child y w s n site m D d b c k = let h = subst (Nested m D d) c.is k in (h.1, h.2, h.3, omega (arith, ap size c.is))

module _ (y : Family) (w : Weigh) (s : List ℕ) (row m deep : ℕ) (f : Open) (rows : List ℕ) (h : Ready y w s row m deep f rows) where
  -- a cost of v fits the rows with its instructions, the work and the chains
  pub cost-fits : (v : ℕ) (r : Body) → h.body ≡ leaf (spend v) r
      → (ColumnFits rows row Column.local v × ColumnFits rows row Column.ilocal (ahead r)) × ((f.work.0 + v < 2 ^ 64) × (f.prefix.0 + (f.longest.0 + f.since.0) + v < 2 ^ 64))
  cost-fits v r e = (
    (
      (omega (arith, h.row_within, h.rows_long), omega (arith, h.rows_fit (slot row Column.local) (slot_in m row Column.local h.row_within), ap work_of e)),
      (omega (arith, h.row_within, h.rows_long), omega (arith, h.rows_fit (slot row Column.ilocal) (slot_in m row Column.ilocal h.row_within), ap instructions_of e)),
    ),
    (omega (arith, h.work_fits, ap work_of e), omega (arith, h.load_fits, ap work_of e)),
  )

  -- something opens
  module _ (site : ℕ) (c : Child y w s f.at site h.body) where
    abbrev inner : Body
    inner = c.g

    pub child-work : (f.work.0 + work_of inner < 2 ^ 64) × (f.prefix.0 + (f.longest.0 + f.since.0) + work_of inner < 2 ^ 64)
    child-work = (omega (arith, h.work_fits, ap work_of c.is), omega (arith, h.load_fits, ap work_of c.is))

    in_it : (site ≤ m) × (suc h.d ≤ h.D) × Nested m h.D (suc h.d) inner × (1 + size inner ≤ size h.body)
    in_it = nested-child y w s f.at site m h.D h.d h.body c h.nested

    pub deeper : 1 ≤ deep
    deeper = omega (arith, in_it.1, h.depth)

    pub child-ends : f.at + 1 + size inner ≤ f.at + size h.body
    child-ends = omega (arith, in_it.3)

    child_fits : (i : ℕ) → i < columns * (m + 1) → get_or rows i 0 + (1 + most_gain inner) < 2 ^ 64
    child_fits i l = omega (arith, h.rows_fit i l, in_it.3, ap work_of c.is, ap instructions_of c.is)

    -- its row is there
    pub child-row : slot site Column.span < length rows
    child-row = omega (arith, slot_in m site Column.span in_it.0, h.rows_long)

    -- its items may be read one line on, from numbers that are no larger
    abbrev from : (f' : Open) → f'.at ≡ f.at + 1 → f'.work.0 ≤ f.work.0 → f'.prefix.0 + (f'.longest.0 + f'.since.0) ≤ f.prefix.0 + (f.longest.0 + f.since.0)
        → Ready y w s site m (deep - 1) f' rows
    from f' at work load =
        record {
          body = inner;
          reads = subst (λ (n : ℕ). Reads y w s n site inner) (sym at) c.reads;
          D = h.D;
          d = suc h.d;
          nested = in_it.2;
          depth = omega (arith, h.depth, deeper);
          row_within = in_it.0;
          rows_long = h.rows_long;
          ends = omega (arith, child-ends, h.ends, at);
          work_fits = omega (arith, child-work.0, work);
          load_fits = omega (arith, child-work.1, load);
          rows_fit = λ i l. omega (arith, child_fits i l);
        }

    pub child-ready : Ready y w s site m (deep - 1) (numbers (f.at + 1) 0 nothing) rows
    child-ready = from (numbers (f.at + 1) 0 nothing) refl (omega arith) (omega arith)

    pub child-body : child-ready.body ≡ inner
    unfolding child-ready
    child-body = refl

    -- those of a call of the finish family go on from the caller's
    pub pass_ready : Ready y w s site m (deep - 1) (passed_n f) rows
    pass_ready = from (passed_n f) refl (omega arith) (omega arith)

    pub pass_body : pass_ready.body ≡ inner
    unfolding pass_ready
    pass_body = refl

    -- what the child came to can be counted
    pub came_fits : (before : Credit) (work span : ℕ) (rows₁ : List ℕ) → Came site inner rows before work span rows₁ → ReturnFits before rows₁ site work span
    came_fits before work span rows₁ u = return_fits u child-row (λ k. child_fits (slot site k) (slot_in m site k in_it.0))

    pub count_fits : (before : Credit) (r : Open) (rows₁ : List ℕ) → before ≡ credit_of rows site → length rows₁ ≡ length rows
        → BodyDone (f.at + 1) site rows inner r rows₁ → ReturnFits before rows₁ site r.work.0 r.prefix.0
    count_fits before r rows₁ b len done = came_fits before r.work.0 r.prefix.0 rows₁ (came (f.at + 1) site inner rows before r rows₁ b len done)

-- the numbers and the rows behind a child that was counted, whatever body it is
pub record ChildDone (f : Open) (site : ℕ) (rows : List ℕ) (g : Body) (r : Open) (rows₂ : List ℕ) : Type 0 where
  pub at_is : r.at ≡ f.at + (1 + size g)
  pub work_is : r.work.0 ≡ work_of g
  pub chain : weight (chain_of (f.at + 1) site g) ≡ r.prefix.0
  pub rows_are : (i : ℕ) → i < length rows → get_or rows₂ i 0 ≡ get_or rows i 0 + made site g i
  pub numbers_are : (k : Chains) → numbers r.at (f.work.0 + r.work.0) k ≡ numbers (f.at + (1 + size g)) (f.work.0 + work_of g) k

pub child-done : (f : Open) (site : ℕ) (rows : List ℕ) (before : Credit) (rows₁ rows₂ : List ℕ) (g : Body) (r : Open) → before ≡ credit_of rows site
    → length rows₁ ≡ length rows → BodyDone (f.at + 1) site rows g r rows₁ → Returned before site r.work.0 r.prefix.0 rows₁ rows₂ → ChildDone f site rows g r rows₂
child-done f site rows before rows₁ rows₂ g r b len done back =
    let c = came (f.at + 1) site g rows before r rows₁ b len done in
    let a : r.at ≡ f.at + (1 + size g) = omega (arith, ap (λ (x : Open). x.at) done.numbers_are) in
    record {
      at_is = a;
      work_is = c.work_is;
      chain = sym (ap (λ (x : Open). x.prefix.0) done.numbers_are);
      rows_are = made_grown c rows₂ back;
      numbers_are = λ k. ap (λ (j : ℕ). numbers j (f.work.0 + r.work.0) k) a ∙ ap (λ (j : ℕ). numbers (f.at + (1 + size g)) (f.work.0 + j) k) c.work_is;
    }

-- LAW: behind a finish with the body g, of which nothing is counted
pub finish-done : (f : Open) (row : ℕ) (rows rows₁ : List ℕ) (g b : Body) (k : Chains) (c : Open) → f ≡ numbers f.at f.work.0 k → BodyDone (f.at + 1) row rows g c rows₁
    → ItemDone row f rows (child finish row g b) k (called_n c f) rows₁
finish-done f row rows rows₁ g b k c e done =
    let x = chain_of (f.at + 1) row g in
    let chain : weight x ≡ c.prefix.0 = sym (ap (λ (z : Open). z.prefix.0) done.numbers_are) in
    let at : c.at ≡ f.at + (1 + size g) = omega (arith, ap (λ (z : Open). z.at) done.numbers_are) in
    let work : c.work.0 ≡ work_of g = ap (λ (z : Open). z.work.0) done.numbers_are in
    record {
      numbers_are =
          ap (called_n c) e ∙ called-numbers f.at f.work.0 k c x chain
          ∙ ap (λ (j : ℕ). numbers j (f.work.0 + c.work.0) (called x k)) at
          ∙ ap (λ (j : ℕ). numbers (f.at + (1 + size g)) (f.work.0 + j) (called x k)) work;
      rows_are = done.rows_are;
    }

-- A call of the finish family with the body g: its items were read from the caller's numbers f on, one line further, and
-- left r and rows₁.
module _ (f : Open) (site : ℕ) (rows : List ℕ) (g : Body) (k : Chains) (r : Open) (rows₁ : List ℕ) (left : ItemsDone site (passed_n f) rows g k r rows₁) where
  -- its work is what was added to the caller's
  pub pass_work : r.work.0 ≡ f.work.0 + work_of g
  pass_work = ap (λ (z : Open). z.work.0) left.numbers_are

  module _ (before : Credit) (work span : ℕ) (worked : work ≡ r.work.0 - f.work.0) (spans : span ≡ span_of g) (taken : before ≡ credit_of rows site) (len : length rows₁ ≡ length rows) where
    pub pass_came : Came site g rows before work span rows₁
    pass_came = record { before_is = taken; work_is = omega (arith, worked, pass_work); span_is = spans; same_length = len; inside = left.rows_are }

    -- LAW: behind it, where it was counted
    pub pass_done : (row : ℕ) (b : Body) (rows₂ : List ℕ) → Returned before site work span rows₁ rows₂ → ItemDone row f rows (child pass site g b) k (passed_n r) rows₂
    pass_done row b rows₂ back =
        let z = run (f.at + 1) site g k in
        let at : r.at + 1 ≡ f.at + (1 + size g) = omega (arith, left.at_is) in
        record {
          numbers_are = ap passed_n left.numbers_are ∙ ap (λ (j : ℕ). numbers j (f.work.0 + work_of g) z) at;
          rows_are = made_grown pass_came rows₂ back;
        }
