-- Which chains' tables are in which blocks, as long as no child is the longest and from then on.
use mathlib.Core.Path.{◌≡◌, refl, ap, ◌∙◌, sym, subst}
use mathlib.Core.Bool.{Bool, true, false, cond}
use mathlib.Core.List.{List, [], ◌++◌, append-nil, append_assoc}
use Prim.Native.Nat.{ℕ, ◌+◌, ◌*◌}
use lib.Dec.{ltb}
use borrow.Author.Tests.{eq-eqb, ne_eqb}
use Rattle.chain.specs.Plan.{CostLine, weight, choose}
use Rattle.trace.specs.Fold.{Chains, nothing, joined, spawned}
use Rattle.walk.specs.declared.Open.{Open}
use Rattle.walk.specs.Numbers.{numbers}
use Rattle.walk.specs.Reader.{alone}
use Rattle.tables.specs.Blocks.{Shows, since_at, part_at, child_at, Holds, behind}
use Rattle.tables.proofs.Number.{number_light}

-- where the continuation's table is and where a child's part begins: as long as no child is the longest, and from then on
pub since-first : (n v : ℕ) → v ≡ 0 → since_at n v ≡ 0
since-first n v e = ap (λ (b : Bool). cond b 0 (2 * n)) (eq-eqb v 0 e)

pub since-later : (n v : ℕ) → (v ≡ 0 → ⊥) → since_at n v ≡ 2 * n
since-later n v e = ap (λ (b : Bool). cond b 0 (2 * n)) (ne_eqb v 0 e)

pub part-first : (n v : ℕ) → v ≡ 0 → part_at n v ≡ n
part-first n v e = ap (λ (b : Bool). cond b n (3 * n)) (eq-eqb v 0 e)

pub part-later : (n v : ℕ) → (v ≡ 0 → ⊥) → part_at n v ≡ 3 * n
part-later n v e = ap (λ (b : Bool). cond b n (3 * n)) (ne_eqb v 0 e)

pub child-called : (kind n v : ℕ) → kind ≡ 2 → child_at kind n v ≡ since_at n v
child-called kind n v e = ap (λ (b : Bool). cond b (since_at n v) (part_at n v)) (eq-eqb kind 2 e)

pub child-spawned : (kind n v : ℕ) → (kind ≡ 2 → ⊥) → child_at kind n v ≡ part_at n v
child-spawned kind n v e = ap (λ (b : Bool). cond b (since_at n v) (part_at n v)) (ne_eqb kind 2 e)

-- what a join and a spawned child make of the chains, they make of them behind q
pub behind-joined : (q : List CostLine) (k : Chains) → joined (behind q k) ≡ behind q (joined k)
behind-joined q k = ap alone (append_assoc q k.p (choose k.l k.c))

pub behind-spawned : (q g : List CostLine) (k : Chains) → spawned g (behind q k) ≡ behind q (spawned g k)
behind-spawned q g k = go (ltb (weight k.l) (weight k.c + weight g))
  where
    go : (b : Bool) → cond {A = Chains} b (record { p = (q ++ k.p) ++ k.c; l = g; c = [] }) (behind q k) ≡ behind q (cond b (record { p = k.p ++ k.c; l = g; c = [] }) k)
    go true = ap (λ (x : List CostLine). record { p = x; l = g; c = [] }) (append_assoc q k.p k.c)
    go false = refl

-- an open invocation's numbers say whether a child is the longest
pub none_longest : (f : Open) (k : Chains) → f ≡ numbers f.at f.work.0 k → f.longest.0 ≡ 0 → weight k.l ≡ 0
none_longest f k e z = sym (ap (λ (x : Open). x.longest.0) e) ∙ z

pub some_longest : (f : Open) (k : Chains) → f ≡ numbers f.at f.work.0 k → (f.longest.0 ≡ 0 → ⊥) → weight k.l ≡ 0 → ⊥
some_longest f k e m z = m (ap (λ (x : Open). x.longest.0) e ∙ z)

module _ (n w : ℕ) (t : List ℕ) where
  -- a longest child that weighs nothing is none
  pub light : (p l : List CostLine) → weight l ≡ 0 → Shows n w t (record { p = p; l = l; c = [] }) [] → Shows n w t (alone p) []
  light p l e s = record { P = s.P; L = λ i h. s.L i h ∙ number_light w l e i h; C = s.C; G = s.G; zero = s.zero }

  -- where the continuation is empty, each chain's table is in its own block
  pub holds-two : (p l : List CostLine) → Shows n w t (record { p = p; l = l; c = [] }) [] → Holds n w t (record { p = p; l = l; c = [] }) []
  holds-two p l s = record { first = λ e. subst (λ (x : List CostLine). Shows n w t (alone x) []) (sym (append-nil p)) (light p l e s); later = λ e. s }

  -- an invocation that has come to nothing behind the chain at the front of its part
  pub opens : (q : List CostLine) → Shows n w t (alone q) [] → Holds n w t (behind q nothing) []
  opens q s = holds-two (q ++ []) [] (subst (λ (x : List CostLine). Shows n w t (alone x) []) (sym (append-nil q)) s)

  -- an invocation that has come to one chain
  pub alone-shows : (p : List CostLine) → Holds n w t (alone p) [] → Shows n w t (alone p) []
  alone-shows p h = subst (λ (x : List CostLine). Shows n w t (alone x) []) (append-nil p) (h.first refl)
