-- Zones of marks: what keeps one, an empty one, one line, and two neighbours as one.
use mathlib.Core.Path.{◌≡◌, refl, ap, ◌∙◌, sym}
use mathlib.Core.Bool.{Bool, true, false, cond, ◌||◌}
use mathlib.Core.List.{List, [], ◌∷◌, ◌++◌, append-nil}
use Prim.Native.Nat.{ℕ, ◌+◌, ◌-◌, ◌≤◌, ◌<◌}
use native.Mathlib.Decide.{dec_lt}
use native.Mathlib.Omega.{arith}
use lib.Dec.{eqb}
use lib.ListN.{length, take, drop, get_or, replicate, length-replicate, get_or-replicate, get_or-append}
use lib.Seq.{get_or-take, get_or-drop, get_or-append-add, length-take-le}
use borrow.Author.Tests.{eq-eqb, ne_eqb}
use borrow.Rule.Slice.PartMut.{put_mid, take_put, drop_put}
use Rattle.chain.specs.Plan.{CostLine, All}
use Rattle.chain.specs.Over.{lines_in}
use Rattle.chain.proofs.Lists.{all_map, all_append}
use Rattle.trace.specs.Shape.{has}
use Rattle.trace.specs.Fold.{cost_at}
use Rattle.marks.specs.Shown.{Between, Zone, Wiped}

-- a line that is on neither side of a zone is on no chain of it
pub outside : (i a e : ℕ) (c : List CostLine) → All (Between a e) c → (a ≤ i → i < e → ⊥) → has i (lines_in c) ≡ false
outside i a e [] h o = refl
outside i a e (x ∷ c) h o =
    ap (λ (b : Bool). b || has i (lines_in c)) (ne_eqb i x.line (λ q. o (omega (arith, h.0.0)) (omega (arith, h.0.1)))) ∙ outside i a e c h.1 o

or_assoc : (a b c : Bool) → ((a || b) || c) ≡ (a || (b || c))
or_assoc true b c = refl
or_assoc false b c = refl

or-false : (a : Bool) → (a || false) ≡ a
or-false true = refl
or-false false = refl

has-append : (i : ℕ) (c d : List CostLine) → has i (lines_in (c ++ d)) ≡ (has i (lines_in c) || has i (lines_in d))
has-append i [] d = refl
has-append i (x ∷ c) d = ap (λ (b : Bool). eqb i x.line || b) (has-append i c d) ∙ sym (or_assoc (eqb i x.line) (has i (lines_in c)) (has i (lines_in d)))

wider : (a b e f : ℕ) (c : List CostLine) → a ≤ b → e ≤ f → All (Between b e) c → All (Between a f) c
wider a b e f c l r h = all_map {p = Between b e} {q = Between a f} (λ x k. (omega (arith, k.0), omega (arith, k.1))) c h

-- two neighbours
pub zone-append : (m : List ℕ) (a b e : ℕ) (c d : List CostLine) → a ≤ b → b ≤ e → Zone m a b c → Zone m b e d → Zone m a e (c ++ d)
zone-append m a b e c d ab be x y =
    record {
      marks_are = λ i l r. at i l r (dec_lt i b);
      inside = all_append (Between a e) c d (wider a a b e c (omega arith) be x.inside) (wider a b e e d ab (omega arith) y.inside);
    }
  where
    at : (i : ℕ) → a ≤ i → i < e → Dec (i < b) → get_or m i 0 ≡ cond (has i (lines_in (c ++ d))) 1 0
    at i l r (yes k) =
        x.marks_are i l k
        ∙ ap (λ (t : Bool). cond t 1 0) (sym (has-append i c d ∙ ap (λ (t : Bool). has i (lines_in c) || t) (outside i b e d y.inside (λ p q. omega arith)) ∙ or-false (has i (lines_in c))))
    at i l r (no k) =
        y.marks_are i (omega arith) r
        ∙ ap (λ (t : Bool). cond t 1 0) (sym (has-append i c d ∙ ap (λ (t : Bool). t || has i (lines_in d)) (outside i a b c x.inside (λ p q. omega arith))))

-- marks that are as they were
pub zone-kept : (m m' : List ℕ) (a e : ℕ) (c : List CostLine) → ((i : ℕ) → a ≤ i → i < e → get_or m' i 0 ≡ get_or m i 0) → Zone m a e c → Zone m' a e c
zone-kept m m' a e c same z = record { marks_are = λ i l r. same i l r ∙ z.marks_are i l r; inside = z.inside }

-- marks that were cleared
pub zone-gone : (m : List ℕ) (a e : ℕ) → ((i : ℕ) → a ≤ i → i < e → get_or m i 0 ≡ 0) → Zone m a e []
zone-gone m a e gone = record { marks_are = gone; inside = tt }

-- no lines
pub zone-none : (m : List ℕ) (a : ℕ) → Zone m a a []
zone-none m a = zone-gone m a a (λ i l r. absurd (omega arith))

-- a cost line that is marked
pub zone-cost : (m : List ℕ) (n s v j : ℕ) → get_or m n 0 ≡ 1 → Zone m n (n + 1) (cost_at n s v j ∷ [])
zone-cost m n s v j h =
    record {
      marks_are = λ i l r. let e : i ≡ n = omega arith in rw e (h ∙ ap (λ (b : Bool). cond (b || false) 1 0) (sym (eq-eqb n n refl)));
      inside = ((omega arith, omega arith), tt);
    }

-- a zone that lost, and its neighbour
pub zone-lost-left : (m : List ℕ) (a b e : ℕ) (c : List CostLine) → a ≤ b → b ≤ e → Zone m a b [] → Zone m b e c → Zone m a e c
zone-lost-left m a b e c ab be x y = zone-append m a b e [] c ab be x y

pub zone_lost_right : (m : List ℕ) (a b e : ℕ) (c : List CostLine) → a ≤ b → b ≤ e → Zone m a b c → Zone m b e [] → Zone m a e c
zone_lost_right m a b e c ab be x y = rw append-nil at (zone-append m a b e c [] ab be x y)

-- what clearing the lines from a on and before e leaves of the zones before and behind them, and what it makes of them
module _ (a e : ℕ) (m m' : List ℕ) (w : Wiped a e m m') where
  pub zone-before : (b f : ℕ) (c : List CostLine) → f ≤ a → Zone m b f c → Zone m' b f c
  zone-before b f c h = zone-kept m m' b f c (λ i l r. w.rest i (λ x y. omega arith))

  pub zone-behind : (b f : ℕ) (c : List CostLine) → e ≤ b → Zone m b f c → Zone m' b f c
  zone-behind b f c h = zone-kept m m' b f c (λ i l r. w.rest i (λ x y. omega arith))

  pub zone_wiped : Zone m' a e []
  zone_wiped = zone-gone m' a e w.gone

-- a part of the marks that came back all 0
module _ (m : List ℕ) (a e : ℕ) (ae : a ≤ e) (el : e ≤ length m) (y : List ℕ) (z : y ≡ replicate (e - a) 0) where
  pub wiped : Wiped a e m (put_mid a (e - a) m y)
  wiped = record { gone = λ i l r. inner i l r; rest = λ j o. outer j o (dec_lt j a) (dec_lt j e) }
    where
      long : length y ≡ e - a
      long = ap length z ∙ length-replicate (e - a) 0

      inner : (i : ℕ) → a ≤ i → i < e → get_or (put_mid a (e - a) m y) i 0 ≡ 0
      inner i l r =
          let q : i ≡ length (take a m) + (i - a) = omega (arith, length-take-le a m (omega arith)) in
          ap (λ (k : ℕ). get_or (put_mid a (e - a) m y) k 0) q
          ∙ get_or-append-add (take a m) (y ++ drop (e - a) (drop a m)) (i - a) 0
          ∙ get_or-append y (drop (e - a) (drop a m)) 0 (i - a) (omega (arith, long))
          ∙ ap (λ (k : List ℕ). get_or k (i - a) 0) z
          ∙ get_or-replicate (e - a) (i - a) 0 0 (omega arith)

      outer : (j : ℕ) → (a ≤ j → j < e → ⊥) → Dec (j < a) → Dec (j < e) → get_or (put_mid a (e - a) m y) j 0 ≡ get_or m j 0
      outer j o (yes l) d = sym (get_or-take a (put_mid a (e - a) m y) j 0 l) ∙ ap (λ (k : List ℕ). get_or k j 0) (take_put a (e - a) m y (omega arith)) ∙ get_or-take a m j 0 l
      outer j o (no l) (yes d) = absurd (o (omega arith) d)
      outer j o (no l) (no d) =
          let q : e + (j - e) ≡ j = omega arith in
          ap (λ (k : ℕ). get_or (put_mid a (e - a) m y) k 0) (sym q)
          ∙ sym (get_or-drop e (put_mid a (e - a) m y) (j - e) 0)
          ∙ ap (λ (k : List ℕ). get_or k (j - e) 0) (drop_put a e m y ae el long)
          ∙ get_or-drop e m (j - e) 0
          ∙ ap (λ (k : ℕ). get_or m k 0) q
