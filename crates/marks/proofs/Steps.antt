-- What each step's stores come to in zones and chains.
use mathlib.Core.Path.{◌≡◌, refl, ap, ◌∙◌, sym, subst}
use mathlib.Core.Bool.{Bool, true, false}
use mathlib.Core.List.{List, [], ◌∷◌}
use Prim.Native.Nat.{ℕ, ◌+◌, ◌≤◌, ◌<◌}
use native.Mathlib.Omega.{arith}
use lib.ListN.{length, get_or, set}
use lib.Seq.{get_or-set_same, get_or-set_other}
use Rattle.chain.specs.Plan.{CostLine, choose}
use Rattle.trace.specs.Fold.{cost_at, Chains, joined}
use Rattle.walk.specs.declared.Open.{Open}
use Rattle.walk.specs.Numbers.{numbers, spent_n, passed_n, later_heavier, joined_n, called_n, child_longer, spawned_n}
use Rattle.walk.proofs.Numbers.{spent-numbers, later-chosen, joined_numbers, called-numbers, child-chosen, spawned-numbers}
use Rattle.marks.specs.declared.Zones.{Zones}
use Rattle.marks.specs.Shown.{all_prefix, Zone, Shows, Kept, Wiped}
use Rattle.marks.specs.Steps.{At, Spent, Passed, Joined, Called, Spawned}
use Rattle.marks.proofs.Shown.{zone-append, zone-kept, zone-gone, zone-none, zone-cost, zone-lost-left, zone_lost_right, zone-before, zone-behind, zone_wiped}

-- the line behind a spawned child
spawned-at : (b : Bool) (c f : Open) → (spawned_n b c f).at ≡ c.at
spawned-at true c f = refl
spawned-at false c f = refl

-- one line marked v
module _ (m : List ℕ) (z : Zones) (v : ℕ) where
  abbrev stored : List ℕ
  stored = set m z.own.at v

  other : (j : ℕ) → (j ≡ z.own.at → ⊥) → get_or stored j 0 ≡ get_or m j 0
  other j q = get_or-set_other m z.own.at j v 0 q

  here : z.own.at < length m → get_or stored z.own.at 0 ≡ v
  here l = get_or-set_same m z.own.at v 0 l

  -- the zones before it are as they were
  before : (n : ℕ) (k : Chains) → Shows n m z k → Shows n stored z k
  before n k s =
      record {
        begins = s.begins;
        then = s.then;
        ends = s.ends;
        P = zone-kept m stored n z.child k.p (λ i l r. other i (λ q. omega (arith, s.then, s.ends))) s.P;
        L = zone-kept m stored z.child z.after k.l (λ i l r. other i (λ q. omega (arith, s.ends))) s.L;
        C = zone-kept m stored z.after z.own.at k.c (λ i l r. other i (λ q. omega arith)) s.C;
      }

  -- and it is one of its own
  line-gone : z.own.at < length m → v ≡ 0 → Zone stored z.own.at (z.own.at + 1) []
  line-gone l e = zone-gone stored z.own.at (z.own.at + 1) (λ i p q. let w : i ≡ z.own.at = omega arith in rw w (here l ∙ e))

module _ (m : List ℕ) (z : Zones) (room : z.own.at < length m) where
  pub spent-done : (v : ℕ) → Spent v m z (record { own = spent_n v z.own; row = z.row; child = z.child; after = z.after }) (set m z.own.at 1)
  spent-done v i n k e s =
      let b = before m z 1 n k s in
      record {
        numbers_are = ap (spent_n v) e ∙ spent-numbers z.own.at z.own.work.0 z.row v i k;
        same_row = refl;
        shows = record {
          begins = s.begins;
          then = s.then;
          ends = omega (arith, s.ends);
          P = b.P;
          L = b.L;
          C = zone-append (stored m z 1) z.after z.own.at (z.own.at + 1) k.c (cost_at z.own.at z.row v i ∷ []) s.ends (omega arith) b.C (zone-cost (stored m z 1) z.own.at z.row v i (here m z 1 room));
        };
        kept = λ j o. other m z 1 j (λ q. o (omega (arith, s.begins, s.then, s.ends)) (omega arith));
      }

  pub passed-done : Passed m z (record { own = passed_n z.own; row = z.row; child = z.child; after = z.after }) (set m z.own.at 0)
  passed-done n k e s =
      let b = before m z 0 n k s in
      record {
        numbers_are = ap passed_n e;
        same_row = refl;
        shows = record {
          begins = s.begins;
          then = s.then;
          ends = omega (arith, s.ends);
          P = b.P;
          L = b.L;
          C = zone_lost_right (stored m z 0) z.after z.own.at (z.own.at + 1) k.c s.ends (omega arith) b.C (line-gone m z 0 room refl);
        };
        kept = λ j o. other m z 0 j (λ q. o (omega (arith, s.begins, s.then, s.ends)) (omega arith));
      }

  -- a join, of which one zone was cleared
  module _ (m' : List ℕ) where
    abbrev joined_z : Bool → Zones
    joined_z later = all_prefix (joined_n later z.own) z.row

    -- all is the prefix's zone
    join_done : (b : Bool) → b ≡ later_heavier z.own → (n : ℕ) (k : Chains) → z.own ≡ numbers z.own.at z.own.work.0 k → n ≤ z.own.at → Zone m' n (z.own.at + 1) (joined k).p → Kept n (z.own.at + 1) m m'
        → At n (z.own.at + 1) z.own.work.0 (joined k) m z (joined_z b) m'
    join_done b q n k e l P kept =
        record {
          numbers_are = joined_numbers z.own k e b q;
          same_row = refl;
          shows = record { begins = omega arith; then = omega arith; ends = omega arith; P = P; L = zone-none m' (z.own.at + 1); C = zone-none m' (z.own.at + 1) };
          kept = kept;
        }

    -- the continuation was heavier
    pub join_since : Wiped z.child z.after (set m z.own.at 0) m' → (b : Bool) → b ≡ later_heavier z.own → b ≡ true → Joined m z (joined_z b) m'
    join_since w a q wins n k e s =
        let at = z.own.at in
        let m₁ = set m at 0 in
        let b = before m z 0 n k s in
        let taken : choose k.l k.c ≡ k.c = later-chosen z.own k e true (sym wins ∙ q) in
        let P = zone-before z.child z.after m₁ m' w n z.child k.p (omega arith) b.P in
        let C = zone-behind z.child z.after m₁ m' w z.after at k.c (omega arith) b.C in
        let G = zone-behind z.child z.after m₁ m' w at (at + 1) [] s.ends (line-gone m z 0 room refl) in
        let R = zone_lost_right m' z.after at (at + 1) k.c s.ends (omega arith) C G in
        let Q = zone-lost-left m' z.child z.after (at + 1) k.c s.then (omega (arith, s.ends)) (zone_wiped z.child z.after m₁ m' w) R in
        join_done a q n k e (omega (arith, s.begins, s.then, s.ends))
        (rw taken (zone-append m' n z.child (at + 1) k.p k.c s.begins (omega (arith, s.then, s.ends)) P Q))
        (λ j o. w.rest j (λ x y. o (omega (arith, s.begins)) (omega (arith, s.ends))) ∙ other m z 0 j (λ q. o (omega (arith, s.begins, s.then, s.ends)) (omega arith)))

    -- the longest child was, or they weigh the same
    pub join_longest : Wiped z.after z.own.at (set m z.own.at 0) m' → (b : Bool) → b ≡ later_heavier z.own → b ≡ false → Joined m z (joined_z b) m'
    join_longest w a q loses n k e s =
        let at = z.own.at in
        let m₁ = set m at 0 in
        let b = before m z 0 n k s in
        let taken : choose k.l k.c ≡ k.l = later-chosen z.own k e false (sym loses ∙ q) in
        let P = zone-before z.after at m₁ m' w n z.child k.p s.then b.P in
        let L = zone-before z.after at m₁ m' w z.child z.after k.l (omega arith) b.L in
        let G = zone-behind z.after at m₁ m' w at (at + 1) [] (omega arith) (line-gone m z 0 room refl) in
        let R = zone_lost_right m' z.after at (at + 1) [] s.ends (omega arith) (zone_wiped z.after at m₁ m' w) G in
        let Q = zone_lost_right m' z.child z.after (at + 1) k.l s.then (omega (arith, s.ends)) L R in
        join_done a q n k e (omega (arith, s.begins, s.then, s.ends))
        (rw taken (zone-append m' n z.child (at + 1) k.p k.l s.begins (omega (arith, s.then, s.ends)) P Q))
        (λ j o. w.rest j (λ x y. o (omega (arith, s.begins, s.then)) (omega arith)) ∙ other m z 0 j (λ q. o (omega (arith, s.begins, s.then, s.ends)) (omega arith)))

  -- a child has returned
  module _ (c : Open) where
    -- its zone, with the line of the call or spawn
    child-zone : (g : List CostLine) → z.own.at < c.at → Zone m (z.own.at + 1) c.at g → Zone (set m z.own.at 0) z.own.at c.at g
    child-zone g l G =
        zone-lost-left (set m z.own.at 0) z.own.at (z.own.at + 1) c.at g (omega arith) (omega arith) (line-gone m z 0 room refl)
        (zone-kept m (set m z.own.at 0) (z.own.at + 1) c.at g (λ i p q. other m z 0 i (λ e. omega arith)) G)

    pub called-done : Called m z c (record { own = called_n c z.own; row = z.row; child = z.child; after = z.after }) (set m z.own.at 0)
    called-done n k g e v s l G =
        let b = before m z 0 n k s in
        record {
          numbers_are = ap (called_n c) e ∙ called-numbers z.own.at z.own.work.0 k c g v;
          same_row = refl;
          shows = record {
            begins = s.begins;
            then = s.then;
            ends = omega (arith, s.ends);
            P = b.P;
            L = b.L;
            C = zone-append (set m z.own.at 0) z.after z.own.at c.at k.c g s.ends (omega arith) b.C (child-zone g l G);
          };
          kept = λ j o. other m z 0 j (λ q. o (omega (arith, s.begins, s.then, s.ends)) (omega arith));
        }

    -- the spawned child is the longest from now on
    pub spawned_longer : (m' : List ℕ) → Wiped z.child z.after (set m z.own.at 0) m' → (b : Bool) → b ≡ child_longer c z.own → b ≡ true
        → Spawned m z c (record { own = spawned_n b c z.own; row = z.row; child = z.own.at; after = c.at }) m'
    spawned_longer m' w a q wins n k g e v s l G =
        let at = z.own.at in
        let m₁ = set m at 0 in
        let b = before m z 0 n k s in
        let to = spawned-at a c z.own in
        let P = zone-before z.child z.after m₁ m' w n z.child k.p (omega arith) b.P in
        let C = zone-behind z.child z.after m₁ m' w z.after at k.c (omega arith) b.C in
        let Q = zone-lost-left m' z.child z.after at k.c s.then s.ends (zone_wiped z.child z.after m₁ m' w) C in
        record {
          numbers_are = spawned-numbers z.own k e c g v a q;
          same_row = refl;
          shows = subst (Shows n m' (record { own = spawned_n a c z.own; row = z.row; child = z.own.at; after = c.at })) (sym (child-chosen z.own k e c g v true (sym wins ∙ q)))
              (record {
                begins = omega (arith, s.begins, s.then, s.ends);
                then = omega arith;
                ends = omega (arith, to);
                P = zone-append m' n z.child at k.p k.c s.begins (omega (arith, s.then, s.ends)) P Q;
                L = zone-behind z.child z.after m₁ m' w at c.at g s.ends (child-zone g l G);
                C = rw to (zone-none m' c.at);
              });
          kept = λ j o. w.rest j (λ x y. o (omega (arith, s.begins)) (omega (arith, s.ends))) ∙ other m z 0 j (λ q. o (omega (arith, s.begins, s.then, s.ends)) (omega arith));
        }

  -- it is not: the child's zone was cleared, the line of the spawn with it
  pub spawned-shorter : (c : Open) (m' : List ℕ) → Wiped z.own.at c.at m m' → (b : Bool) → b ≡ child_longer c z.own → b ≡ false
      → Spawned m z c (record { own = spawned_n b c z.own; row = z.row; child = z.child; after = z.after }) m'
  spawned-shorter c m' w a q loses n k g e v s l G =
      let at = z.own.at in
      let to = spawned-at a c z.own in
      record {
        numbers_are = spawned-numbers z.own k e c g v a q;
        same_row = refl;
        shows = subst (Shows n m' (record { own = spawned_n a c z.own; row = z.row; child = z.child; after = z.after })) (sym (child-chosen z.own k e c g v false (sym loses ∙ q)))
            (record {
              begins = s.begins;
              then = s.then;
              ends = omega (arith, s.ends, to);
              P = zone-before at c.at m m' w n z.child k.p (omega (arith, s.then, s.ends)) s.P;
              L = zone-before at c.at m m' w z.child z.after k.l s.ends s.L;
              C = rw to (zone_lost_right m' z.after at c.at k.c s.ends (omega arith) (zone-before at c.at m m' w z.after at k.c (omega arith) s.C) (zone_wiped at c.at m m' w));
            });
        kept = λ j o. w.rest j (λ x y. o (omega (arith, s.begins, s.then, s.ends)) y);
      }
