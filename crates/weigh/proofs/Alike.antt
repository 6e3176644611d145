-- Two traces that differ only in what their cost lines weigh have the same open invocations, parallel lines and chains.
use mathlib.Core.Path.{◌≡◌, refl, sym, ◌∙◌, ap, subst}
use mathlib.Core.List.{List, [], ◌∷◌}
use Prim.Native.Nat.{ℕ, zero, suc}
use lib.Dec.{T}
use lib.ListN.{length}
use Rattle.line.specs.declared.Frame.{Frame}
use Rattle.line.specs.declared.Frame.TheVariants.{Site, Call, Spawn, Sync, Return, Cost, Instructions, Async, Finish}
use Rattle.trace.specs.Shape.{Is, step, walk, open_at, has, first_is, Parallel}
use Rattle.chain.specs.Over.{Each, EachTwo}
use Rattle.trace.specs.Series.{Series, value_at, CostIn, Chain}
use Rattle.trace.proofs.Basics.{clash}

-- a frame without its cost
abbrev pub bare : Frame → Frame
bare (Site s p) = Site s p
bare (Call s) = Call s
bare (Spawn s) = Spawn s
bare Sync = Sync
bare Return = Return
bare (Cost v) = Cost 0
bare (Instructions v) = Instructions v
bare (Async s) = Async s
bare Finish = Finish

abbrev pub ButCosts : List Frame → List Frame → Type 0
ButCosts [] [] = Unit {0}
ButCosts [] (f ∷ u) = ⊥
ButCosts (e ∷ t) [] = ⊥
ButCosts (e ∷ t) (f ∷ u) = (bare e ≡ bare f) × ButCosts t u

pub alike_same : (t : List Frame) → ButCosts t t
alike_same [] = tt
alike_same (e ∷ t) = (refl, alike_same t)

pub alike_sym : (t u : List Frame) → ButCosts t u → ButCosts u t
alike_sym [] [] h = tt
alike_sym [] (f ∷ u) h = absurd h
alike_sym (e ∷ t) [] h = absurd h
alike_sym (e ∷ t) (f ∷ u) h = (sym h.0, alike_sym t u h.1)

pub alike_length : (t u : List Frame) → ButCosts t u → length t ≡ length u
alike_length [] [] h = refl
alike_length [] (f ∷ u) h = absurd h
alike_length (e ∷ t) [] h = absurd h
alike_length (e ∷ t) (f ∷ u) h = ap suc (alike_length t u h.1)

-- ── what is open ──

step-bare : (n : ℕ) (e : Frame) (o : List ℕ) → step n e o ≡ step n (bare e) o
step-bare n (Site s p) o = refl
step-bare n (Call s) o = refl
step-bare n (Spawn s) o = refl
step-bare n Sync o = refl
step-bare n Return o = refl
step-bare n (Cost v) o = refl
step-bare n (Instructions v) o = refl
step-bare n (Async s) o = refl
step-bare n Finish o = refl

pub step_alike : (n : ℕ) (e f : Frame) (o : List ℕ) → bare e ≡ bare f → step n e o ≡ step n f o
step_alike n e f o h = step-bare n e o ∙ ap (λ (g : Frame). step n g o) h ∙ sym (step-bare n f o)

pub walk_alike : (n : ℕ) (o : List ℕ) (t u : List Frame) (j : ℕ) → ButCosts t u → walk n o t j ≡ walk n o u j
walk_alike n o [] [] j h = refl
walk_alike n o [] (f ∷ u) j h = absurd h
walk_alike n o (e ∷ t) [] j h = absurd h
walk_alike n o (e ∷ t) (f ∷ u) zero h = refl
walk_alike n o (e ∷ t) (f ∷ u) (suc j) h = walk_alike (suc n) (step n e o) t u j h.1 ∙ ap (λ (k : List ℕ). walk (suc n) k u j) (step_alike n e f o h.0)

-- ── lines that are no costs, and costs ──

as_spawn : (s : ℕ) (f : Frame) → bare f ≡ Spawn s → f ≡ Spawn s
as_spawn s (Site i p) h = h
as_spawn s (Call i) h = h
as_spawn s (Spawn i) h = h
as_spawn s Sync h = h
as_spawn s Return h = h
as_spawn s (Cost v) h = clash (cc)
as_spawn s (Instructions v) h = h
as_spawn s (Async i) h = h
as_spawn s Finish h = h

as_sync : (f : Frame) → bare f ≡ Sync → f ≡ Sync
as_sync (Site i p) h = h
as_sync (Call i) h = h
as_sync (Spawn i) h = h
as_sync Sync h = h
as_sync Return h = h
as_sync (Cost v) h = clash (cc)
as_sync (Instructions v) h = h
as_sync (Async i) h = h
as_sync Finish h = h

as_return : (f : Frame) → bare f ≡ Return → f ≡ Return
as_return (Site i p) h = h
as_return (Call i) h = h
as_return (Spawn i) h = h
as_return Sync h = h
as_return Return h = h
as_return (Cost v) h = clash (cc)
as_return (Instructions v) h = h
as_return (Async i) h = h
as_return Finish h = h

-- the line of the other trace
pub is_alike : (t u : List Frame) (k : ℕ) (e : Frame) → ButCosts t u → Is t k e → (f : Frame) × Is u k f × (bare e ≡ bare f)
is_alike [] u k e h i = absurd i
is_alike (x ∷ t) [] k e h i = absurd h
is_alike (x ∷ t) (y ∷ u) zero e h i = (y, refl, ap bare (sym i) ∙ h.0)
is_alike (x ∷ t) (y ∷ u) (suc k) e h i = is_alike t u k e h.1 i

is_spawn : (t u : List Frame) (k s : ℕ) → ButCosts t u → Is t k (Spawn s) → Is u k (Spawn s)
is_spawn t u k s h i = let w = is_alike t u k (Spawn s) h i in subst (Is u k) (as_spawn s w.0 (sym w.2)) w.1

is-sync : (t u : List Frame) (k : ℕ) → ButCosts t u → Is t k Sync → Is u k Sync
is-sync t u k h i = let w = is_alike t u k Sync h i in subst (Is u k) (as_sync w.0 (sym w.2)) w.1

is_return : (t u : List Frame) (k : ℕ) → ButCosts t u → Is t k Return → Is u k Return
is_return t u k h i = let w = is_alike t u k Return h i in subst (Is u k) (as_return w.0 (sym w.2)) w.1

own-cost : (f : Frame) → bare f ≡ Cost 0 → f ≡ Cost (value_at (f ∷ []) 0)
own-cost (Site i p) h = clash (cc)
own-cost (Call i) h = clash (cc)
own-cost (Spawn i) h = clash (cc)
own-cost Sync h = clash (cc)
own-cost Return h = clash (cc)
own-cost (Cost v) h = refl
own-cost (Instructions v) h = clash (cc)
own-cost (Async i) h = clash (cc)
own-cost Finish h = clash (cc)

-- a cost line is one in the other trace
pub is-cost : (t u : List Frame) (k v : ℕ) → ButCosts t u → Is t k (Cost v) → Is u k (Cost (value_at u k))
is-cost [] u k v h i = absurd i
is-cost (x ∷ t) [] k v h i = absurd h
is-cost (x ∷ t) (y ∷ u) zero v h i = own-cost y (sym h.0 ∙ ap bare i)
is-cost (x ∷ t) (y ∷ u) (suc k) v h i = is-cost t u k v h.1 i

-- ── parallel lines and chains ──

module _ (t u : List Frame) (h : ButCosts t u) where
  pub open_alike : (j : ℕ) → open_at t j ≡ open_at u j
  open_alike j = walk_alike 0 (0 ∷ []) t u j h

  has-to : (F j : ℕ) → T (has F (open_at t j)) → T (has F (open_at u j))
  has-to F j k = subst (λ (o : List ℕ). T (has F o)) (open_alike j) k

  has-back : (F j : ℕ) → T (has F (open_at u j)) → T (has F (open_at t j))
  has-back F j k = subst (λ (o : List ℕ). T (has F o)) (sym (open_alike j)) k

  first_to : (F j : ℕ) → T (first_is F (open_at t j)) → T (first_is F (open_at u j))
  first_to F j k = subst (λ (o : List ℕ). T (first_is F o)) (open_alike j) k

  first_back : (F j : ℕ) → T (first_is F (open_at u j)) → T (first_is F (open_at t j))
  first_back F j k = subst (λ (o : List ℕ). T (first_is F o)) (sym (open_alike j)) k

  pub parallel_alike : (i j : ℕ) → Parallel t i j → Parallel u i j
  parallel_alike i j p =
      record {
        g = p.g;
        site = p.site;
        F = p.F;
        end = p.end;
        spawned = is_spawn t u p.g p.site h p.spawned;
        contains = has-to (suc p.g) i p.contains;
        without = λ k. p.without (has-back (suc p.g) j k);
        spawner = first_to p.F p.g p.spawner;
        still_open = has-to p.F j p.still_open;
        returned = record { is = is_return t u p.end h p.returned.is; its_own = first_to (suc p.g) p.end p.returned.its_own };
        unjoined = λ k s d l m. p.unjoined k (is-sync u t k (alike_sym t u h) s) (first_back p.F k d) l m;
      }

  pub cost_alike : (F k : ℕ) → CostIn t F k → CostIn u F k
  cost_alike F k c = record { is = is-cost t u k (value_at t k) h c.is; inside = has-to F k c.inside }

module _ (t u : List Frame) (h : ButCosts t u) where
  series_alike : (i j : ℕ) → Series t i j → Series u i j
  series_alike i j s = (s.0, λ p. s.1 (parallel_alike u t (alike_sym t u h) i j p))

  each-series : (i : ℕ) (c : List ℕ) → Each (Series t i) c → Each (Series u i) c
  each-series i [] s = tt
  each-series i (j ∷ c) s = (series_alike i j s.0, each-series i c s.1)

  two-series : (c : List ℕ) → EachTwo (Series t) c → EachTwo (Series u) c
  two-series [] s = tt
  two-series (i ∷ c) s = (each-series i c s.0, two-series c s.1)

  each-cost : (F : ℕ) (c : List ℕ) → Each (CostIn t F) c → Each (CostIn u F) c
  each-cost F [] s = tt
  each-cost F (i ∷ c) s = (cost_alike t u h F i s.0, each-cost F c s.1)

  -- LAW: the chains are the same
  pub chain_alike : (F : ℕ) (c : List ℕ) → Chain t F c → Chain u F c
  chain_alike F c k = record { costs = each-cost F c k.costs; series = two-series c k.series }
