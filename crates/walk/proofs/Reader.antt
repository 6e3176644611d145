-- One item further: what a reader asks for holds again, and the outcome is the same.
use mathlib.Core.Path.{◌≡◌, refl, ap, ◌∙◌, sym, subst}
use mathlib.Core.List.{List}
use Prim.Native.Nat.{ℕ, ◌+◌, ◌<◌}
use native.Mathlib.Omega.{arith}
use lib.ListN.{length}
use Rattle.line.specs.Family.{Family}
use Rattle.trace.specs.Tree.{Leaf, leaf_work, leaf_instructions, Body, done, leaf, ahead, size, work_of}
use Rattle.trace.specs.Fold.{Chains, nothing, joined, leaf_chains, run}
use Rattle.weigh.specs.Weighed.{Weigh}
use Rattle.walk.specs.declared.Open.{Open}
use Rattle.walk.specs.Reads.{Reads}
use Rattle.walk.specs.Numbers.{numbers, load}
use Rattle.walk.specs.Gain.{gain}
use Rattle.walk.specs.Item.{More, rest, item_size, item_work, item_chains}
use Rattle.walk.specs.Reader.{Ready, ItemDone, ItemsDone, BodyDone, Turn}
use Rattle.walk.proofs.Return.{cost_gain_le}
use Rattle.walk.proofs.Items.{size-item, item-some, work-item, instructions-item, gain-item, item_gain_le, run-item, load-item, reads-rest, nested-rest}

-- what the numbers of f are, where they are those of chains
pub load_is : (f : Open) (k : Chains) → f ≡ numbers f.at f.work.0 k → f.prefix.0 + (f.longest.0 + f.since.0) ≡ load k
load_is f k e = omega (arith, ap (λ (x : Open). x.prefix.0) e, ap (λ (x : Open). x.longest.0) e, ap (λ (x : Open). x.since.0) e)

-- the numbers of chains at some line and work are so at their own
pub own-numbers : (f : Open) (n w : ℕ) (k : Chains) → f ≡ numbers n w k → f ≡ numbers f.at f.work.0 k
own-numbers f n w k e = e ∙ ap (λ (j : ℕ). numbers j w k) (sym (ap (λ (x : Open). x.at) e)) ∙ ap (λ (j : ℕ). numbers f.at j k) (sym (ap (λ (x : Open). x.work.0) e))

-- behind a leaf that weighs nothing: one line further, and the rows are as they were
pub weightless : (row : ℕ) (f : Open) (rows : List ℕ) (l : Leaf) (b : Body) (k : Chains) (r : Open) → leaf_work l ≡ 0 → leaf_instructions l b ≡ 0
    → r ≡ numbers (f.at + 1) f.work.0 (leaf_chains f.at row l (ahead b) k) → ItemDone row f rows (leaf l b) k r rows
weightless row f rows l b k r z y e =
    let w : f.work.0 ≡ f.work.0 + leaf_work l = omega (arith, z) in
    record {
      numbers_are = e ∙ ap (λ (x : ℕ). numbers (f.at + 1) x (leaf_chains f.at row l (ahead b) k)) w;
      rows_are = λ i h. omega (arith, cost_gain_le row (leaf_work l) (leaf_instructions l b) i, z, y);
    }

module _ (y : Family) (w : Weigh) (s : List ℕ) (row m deep : ℕ) (f : Open) (rows : List ℕ) (r : Ready y w s row m deep f rows) (more : More r.body)
    (k : Chains) (weighs : f ≡ numbers f.at f.work.0 k) (f' : Open) (rows' : List ℕ) (len : length rows' ≡ length rows)
    (h : ItemDone row f rows r.body k f' rows') where
  at_is : f'.at ≡ f.at + item_size r.body
  at_is = ap (λ (x : Open). x.at) h.numbers_are

  pub farther : f.at < f'.at
  farther = omega (arith, at_is, item-some r.body more)

  pub ready_again : Ready y w s row m deep f' rows'
  ready_again =
      let b = r.body in
      record {
        body = rest b;
        reads = subst (λ (n : ℕ). Reads y w s n row (rest b)) (sym at_is) (reads-rest y w s f.at row b more r.reads);
        D = r.D;
        d = r.d;
        nested = nested-rest m r.D r.d b r.nested;
        depth = r.depth;
        row_within = r.row_within;
        rows_long = omega (arith, r.rows_long, len);
        ends = omega (arith, at_is, size-item b more, r.ends);
        work_fits = omega (arith, ap (λ (x : Open). x.work.0) h.numbers_are, work-item b, r.work_fits);
        load_fits = omega (arith, ap (λ (x : Open). x.prefix.0) h.numbers_are, ap (λ (x : Open). x.longest.0) h.numbers_are, ap (λ (x : Open). x.since.0) h.numbers_are, load-item b f.at row k, load_is f k weighs, work-item b, r.load_fits);
        rows_fit = λ i l. omega (arith, h.rows_are i (omega (arith, r.rows_long)), item_gain_le row b more i, size-item b more, work-item b, instructions-item b, r.rows_fit i l);
      }

  pub again_body : ready_again.body ≡ rest r.body
  unfolding ready_again
  again_body = refl

module _ (y : Family) (w : Weigh) (s : List ℕ) (row : ℕ) (f₀ : Open) (rows₀ : List ℕ) (b : Body) (k₀ : Chains) where
  pub turn-start : Reads y w s f₀.at row b → f₀ ≡ numbers f₀.at f₀.work.0 k₀ → Turn y w s row f₀ rows₀ b k₀ f₀ rows₀ b k₀
  turn-start h e = record { reads = h; weighs = e; same_end = refl; same_work = refl; same_chains = refl; same_rows = λ i l. refl }

  module _ (f : Open) (rows : List ℕ) (l : Body) (k : Chains) (u : Turn y w s row f₀ rows₀ b k₀ f rows l k) (len : length rows ≡ length rows₀) where
    pub turn_again : (f' : Open) (rows' : List ℕ) → More l → ItemDone row f rows l k f' rows' → Turn y w s row f₀ rows₀ b k₀ f' rows' (rest l) (item_chains f.at row l k)
    turn_again f' rows' more h =
        let at : f'.at ≡ f.at + item_size l = ap (λ (x : Open). x.at) h.numbers_are in
        record {
          reads = subst (λ (j : ℕ). Reads y w s j row (rest l)) (sym at) (reads-rest y w s f.at row l more u.reads);
          weighs = own-numbers f' (f.at + item_size l) (f.work.0 + item_work l) (item_chains f.at row l k) h.numbers_are;
          same_end = omega (arith, at, size-item l more, u.same_end);
          same_work = omega (arith, ap (λ (x : Open). x.work.0) h.numbers_are, work-item l, u.same_work);
          same_chains = ap (λ (j : ℕ). run j row (rest l) (item_chains f.at row l k)) at ∙ sym (run-item l f.at row k more) ∙ u.same_chains;
          same_rows = λ i q. omega (arith, h.rows_are i (omega (arith, len)), gain-item l row i, u.same_rows i q);
        }

    -- at the return
    pub turn-done : l ≡ done → ItemsDone row f₀ rows₀ b k₀ f rows
    turn-done e =
        let c : k ≡ run f₀.at row b k₀ = sym (ap (λ (x : Body). run f.at row x k) e) ∙ u.same_chains in
        let v : f.work.0 ≡ f₀.work.0 + work_of b = omega (arith, u.same_work, ap work_of e) in
        record {
          at_is = omega (arith, u.same_end, ap size e);
          numbers_are = u.weighs ∙ ap (λ (x : ℕ). numbers f.at x k) v ∙ ap (numbers f.at (f₀.work.0 + work_of b)) c;
          rows_are = λ i q. omega (arith, u.same_rows i q, ap (λ (x : Body). gain row x i) e);
        }

-- a body that was read from its first line on, and the join at its return
pub body-done : (n row : ℕ) (rows : List ℕ) (b : Body) (f : Open) (rows' : List ℕ) → ItemsDone row (numbers n 0 nothing) rows b nothing f rows' → (r : Open)
    → r ≡ numbers (f.at + 1) f.work.0 (joined (run n row b nothing)) → BodyDone n row rows b r rows'
body-done n row rows b f rows' d r e =
    let w : f.work.0 ≡ work_of b = omega (arith, ap (λ (x : Open). x.work.0) d.numbers_are) in
    record {
      numbers_are = e ∙ ap (λ (j : ℕ). numbers j f.work.0 (joined (run n row b nothing))) d.at_is ∙ ap (λ (x : ℕ). numbers (n + size b) x (joined (run n row b nothing))) w;
      rows_are = d.rows_are;
    }
