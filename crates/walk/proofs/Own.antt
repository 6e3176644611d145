-- The span of a call of the finish family, by two numbers that its items make: what comes in series before what follows,
-- and how far its asyncs reach.
use mathlib.Core.Path.{◌≡◌, refl, ap, ◌∙◌, sym, subst}
use mathlib.Core.Logic.{◌⊎◌, inl, inr}
use mathlib.Core.Bool.{Bool, true, false, cond}
use mathlib.Core.List.{List, [], ◌∷◌, ◌++◌}
use Prim.Native.Nat.{ℕ, suc, ◌+◌, ◌≤◌, ◌<◌}
use native.Mathlib.Omega.{arith}
use lib.Dec.{ltb}
use Rattle.line.specs.Family.{Finishes}
use Rattle.chain.specs.Plan.{CostLine, weight}
use Rattle.chain.proofs.Lists.{weight-append}
use Rattle.chain.proofs.Choose.{test}
use Rattle.trace.specs.Tree.{Way, call, spawn, async, pass, finish, Leaf, spend, sync, note, leaf_work, Body, done, leaf, child, LeafOf, Of, ahead, size, work_of, larger, span_of}
use Rattle.trace.specs.Fold.{cost_at, Chains, nothing, spawned, leaf_chains, ended, child_chains, run}
use Rattle.trace.proofs.Recurrence.{weight-joined, weight-chain}
use Rattle.walk.specs.declared.Open.{Open}
use Rattle.walk.specs.Numbers.{numbers}
use Rattle.walk.specs.Item.{rest, item_work, item_chains}
use Rattle.walk.specs.Own.{Own, begins, further, reaches, child_own, own, own_item, most, reaching}
use Rattle.walk.proofs.Return.{span-most}

-- ── the larger of two numbers ──

module _ (l c : ℕ) where
  larger-cases : ((l < c) × (larger l c ≡ c)) ⊎ ((c ≤ l) × (larger l c ≡ l))
  larger-cases = go (test l c)
    where
      go : ((l < c) × (ltb l c ≡ true)) ⊎ ((c ≤ l) × (ltb l c ≡ false)) → ((l < c) × (larger l c ≡ c)) ⊎ ((c ≤ l) × (larger l c ≡ l))
      go (inl h) = inl (h.0, ap (λ (b : Bool). cond b c l) h.1)
      go (inr h) = inr (h.0, ap (λ (b : Bool). cond b c l) h.1)

  larger-least : (x : ℕ) → l ≤ x → c ≤ x → larger l c ≤ x
  larger-least x a b = elim larger-cases [ inl h ↦ omega (arith, h.1) | inr h ↦ omega (arith, h.1) ]

  larger-both : (l ≤ larger l c) × (c ≤ larger l c)
  larger-both = elim larger-cases [ inl h ↦ (omega (arith, h.1, h.0), omega (arith, h.1)) | inr h ↦ (omega (arith, h.1), omega (arith, h.1, h.0)) ]

larger_comm : (x y : ℕ) → larger x y ≡ larger y x
larger_comm x y =
    let a = larger-both x y in
    let b = larger-both y x in
    omega (arith, larger-least x y (larger y x) b.1 b.0, larger-least y x (larger x y) a.1 a.0)

larger_assoc : (x y z : ℕ) → larger (larger x y) z ≡ larger x (larger y z)
larger_assoc x y z =
    let a = larger-both x y in
    let b = larger-both (larger x y) z in
    let c = larger-both y z in
    let d = larger-both x (larger y z) in
    omega (
      arith,
      larger-least (larger x y) z (larger x (larger y z)) (larger-least x y (larger x (larger y z)) d.0 (omega (arith, c, d))) (omega (arith, c, d)),
      larger-least x (larger y z) (larger (larger x y) z) (omega (arith, a, b)) (larger-least y z (larger (larger x y) z) (omega (arith, a, b)) b.1),
    )

-- a smaller one besides
larger-drop : (x y z : ℕ) → z ≤ y → larger (larger x y) z ≡ larger x y
larger-drop x y z h = omega (arith, larger-both x y, larger-both (larger x y) z, larger-least (larger x y) z (larger x y) (omega arith) (omega (arith, larger-both x y)))

-- ── the numbers follow the chains of the finish around ──

-- what chains come to in series before what follows, and with the join
abbrev pub in_series : Chains → ℕ
in_series k = weight k.p + weight k.c

abbrev pub in_all : Chains → ℕ
in_all k = weight k.p + larger (weight k.l) (weight k.c)

-- both from o on
pub record Follows (o : ℕ) (a : Own) (k : Chains) : Type 0 where
  pub series_is : a.series ≡ o + in_series k
  pub most_is : most a ≡ o + in_all k

-- in series by v further, or besides
grown : (far s v o p l c : ℕ) → s ≡ o + (p + c) → larger far s ≡ o + (p + larger l c) → larger far (s + v) ≡ o + (p + larger l (c + v))
grown far s v o p l c e h =
    let a = larger-both far s in
    let b = larger-both far (s + v) in
    let d = larger-both l c in
    let m = larger-both l (c + v) in
    let up : larger l c ≤ larger l (c + v) = larger-least l c (larger l (c + v)) m.0 (omega (arith, m.1)) in
    let low : larger far (s + v) ≤ o + (p + larger l (c + v)) = larger-least far (s + v) (o + (p + larger l (c + v))) (omega (arith, a.0, h, up)) (omega (arith, e, m.1)) in
    let high : larger far s ≤ larger far (s + v) = larger-least far s (larger far (s + v)) b.0 (omega (arith, b.1)) in
    elim (larger-cases l (c + v)) [ inl q ↦ omega (arith, low, q.1, b.1, e) | inr q ↦ omega (arith, low, q.1, d.0, h, high) ]

module _ (o : ℕ) (a : Own) (k : Chains) (h : Follows o a k) where
  further-follows : (v : ℕ) (c : List CostLine) → weight c ≡ weight k.c + v → Follows o (further v a) (record { p = k.p; l = k.l; c = c })
  further-follows v c e =
      record {
        series_is = omega (arith, h.series_is, e);
        most_is =
            grown a.far a.series v o (weight k.p) (weight k.l) (weight k.c) h.series_is h.most_is
            ∙ ap (λ (x : ℕ). o + (weight k.p + larger (weight k.l) x)) (sym e);
      }

  -- an async with the chain x
  reaches-follows : (x : List CostLine) (v : ℕ) → weight x ≡ v → Follows o (reaches (a.series + v) a) (spawned x k)
  reaches-follows x v e = elim (test (weight k.l) (weight k.c + weight x)) [ inl t ↦ taken t | inr t ↦ passed t ]
    where
      all : most (reaches (a.series + v) a) ≡ o + (weight k.p + larger (weight k.l) (weight k.c + v))
      all =
          larger-drop a.far (a.series + v) a.series (omega arith)
          ∙ grown a.far a.series v o (weight k.p) (weight k.l) (weight k.c) h.series_is h.most_is

      taken : (weight k.l < weight k.c + weight x) × (ltb (weight k.l) (weight k.c + weight x) ≡ true) → Follows o (reaches (a.series + v) a) (spawned x k)
      taken t =
          let q : record { p = k.p ++ k.c; l = x; c = [] } ≡ spawned x k = ap (λ (b : Bool). cond {A = Chains} b (record { p = k.p ++ k.c; l = x; c = [] }) k) (sym t.1) in
          subst (Follows o (reaches (a.series + v) a)) q
          (record {
            series_is = omega (arith, h.series_is, weight-append k.p k.c);
            most_is = omega (arith, all, e, t.0, weight-append k.p k.c, larger-both (weight x) 0, larger-least (weight x) 0 (weight x) (omega arith) (omega arith), larger-both (weight k.l) (weight k.c + v), larger-least (weight k.l) (weight k.c + v) (weight k.c + v) (omega (arith, t.0, e)) (omega arith));
          })

      passed : (weight k.c + weight x ≤ weight k.l) × (ltb (weight k.l) (weight k.c + weight x) ≡ false) → Follows o (reaches (a.series + v) a) (spawned x k)
      passed t =
          let q : k ≡ spawned x k = ap (λ (b : Bool). cond {A = Chains} b (record { p = k.p ++ k.c; l = x; c = [] }) k) (sym t.1) in
          subst (Follows o (reaches (a.series + v) a)) q
          (record {
            series_is = h.series_is;
            most_is = omega (arith, all, e, t.0, larger-both (weight k.l) (weight k.c), larger-least (weight k.l) (weight k.c) (weight k.l) (omega arith) (omega (arith, t.0)), larger-both (weight k.l) (weight k.c + v), larger-least (weight k.l) (weight k.c + v) (weight k.l) (omega arith) (omega (arith, t.0, e)));
          })

  leaf-follows : (l : Leaf) → LeafOf Finishes l → (n s i : ℕ) → Follows o (further (leaf_work l) a) (leaf_chains n s l i k)
  leaf-follows (spend v) y n s i = further-follows v (k.c ++ cost_at n s v i ∷ []) (omega (arith, weight-append k.c (cost_at n s v i ∷ [])))
  leaf-follows sync y n s i = absurd y
  leaf-follows (note x) y n s i = further-follows 0 k.c (omega arith)

-- reaching at least as far as x
abbrev more : ℕ → Own → Own
more x a = record { series = a.series; far = larger x a.far }

-- LAW: how far it reached before stays beside what it comes to
child-more : (w : Way) (v : ℕ) (f : Own → Own) (x : ℕ) (a : Own) → child_own w v f (more x a) ≡ more x (child_own w v f a)
child-more call v f x a = refl
child-more spawn v f x a = ap (λ (z : ℕ). record { series = a.series; far = z }) (larger_assoc x a.far (a.series + v))
child-more async v f x a = ap (λ (z : ℕ). record { series = a.series; far = z }) (larger_assoc x a.far (a.series + v))
child-more pass v f x a = let c = f (begins a.series) in ap (λ (z : ℕ). record { series = c.series; far = z }) (larger_assoc x a.far c.far)
child-more finish v f x a = refl

own-more : (b : Body) (x : ℕ) (a : Own) → own (more x a) b ≡ more x (own a b)
own-more done x a = refl
own-more (leaf l r) x a = own-more r x (further (leaf_work l) a)
own-more (child w j g r) x a =
    let f : Own → Own = λ z. own z g in
    ap (λ (z : Own). own z r) (child-more w (span_of g) f x a) ∙ own-more r x (child_own w (span_of g) f a)

-- a child whose items make f of the numbers and F of the chains
module _ (o : ℕ) (f : Own → Own) (F : Chains → Chains) (v : ℕ) (span : weight (ended F) ≡ v) (keeps : (x : ℕ) (a : Own) → f (more x a) ≡ more x (f a))
    (follow : (a : Own) (k : Chains) → Follows o a k → Follows o (f a) (F k)) (a : Own) (k : Chains) (h : Follows o a k) where
  called-follows : Follows o (further v a) (child_chains call F k)
  called-follows = further-follows o a k h v (k.c ++ ended F) (omega (arith, weight-append k.c (ended F), span))

  child-follows : (w : Way) → Follows o (child_own w v f a) (child_chains w F k)
  child-follows call = called-follows
  child-follows spawn = reaches-follows o a k h (ended F) v span
  child-follows async = reaches-follows o a k h (ended F) v span
  child-follows pass =
      subst (λ (z : Own). Follows o z (F k)) (keeps a.far (begins a.series))
      (follow (more a.far (begins a.series)) k (record { series_is = h.series_is; most_is = larger-drop a.far a.series a.series (omega arith) ∙ h.most_is }))
  child-follows finish = called-follows

-- LAW: the numbers that a body's items make follow the chains that they make
pub follows : (b : Body) (n s o : ℕ) (a : Own) (k : Chains) → Of Finishes s b → Follows o a k → Follows o (own a b) (run n s b k)
follows done n s o a k y h = h
follows (leaf l r) n s o a k y h = follows r (suc n) s o (further (leaf_work l) a) (leaf_chains n s l (ahead r) k) y.1 (leaf-follows o a k h l y.0 n s (ahead r))
follows (child w i g r) n s o a k y h =
    follows r (suc n + size g) s o (child_own w (span_of g) (λ z. own z g) a) (child_chains w (run (suc n) i g) k) y.2
    (child-follows o (λ z. own z g) (run (suc n) i g) (span_of g) (weight-chain g (suc n) i) (own-more g) (λ a k q. follows g (suc n) i o a k y.1 q) a k h w)

-- LAW: a call's span is how far it comes from where it begins
pub own-span : (b : Body) (n s : ℕ) → Of Finishes s b → most (own (begins n) b) ≡ n + span_of b
own-span b n s y =
    let h : Follows n (begins n) nothing = record { series_is = omega arith; most_is = omega (arith, larger-both n n, larger-least n n n (omega arith) (omega arith)) } in
    (follows b 0 s n (begins n) nothing y h).most_is ∙ ap (λ (x : ℕ). n + x) (sym (weight-joined (run 0 s b nothing)) ∙ weight-chain b 0 s)

-- so do those behind the first item
item-follows : (b : Body) (n s o : ℕ) (a : Own) (k : Chains) → Of Finishes s b → Follows o a k → Follows o (own_item a b) (item_chains n s b k)
item-follows done n s o a k y h = h
item-follows (leaf l r) n s o a k y h = leaf-follows o a k h l y.0 n s (ahead r)
item-follows (child w i g r) n s o a k y h =
    child-follows o (λ z. own z g) (run (n + 1) i g) (span_of g) (weight-chain g (n + 1) i) (own-more g) (λ a k q. follows g (n + 1) i o a k y.1 q) a k h w

-- ── what comes in series, however far it reaches ──

-- from where chains are in series, there are numbers that follow them
begun : (k : Chains) → Follows 0 (record { series = in_series k; far = in_all k }) k
begun k =
    let m = larger-both (weight k.l) (weight k.c) in
    let a = larger-both (in_all k) (in_series k) in
    record { series_is = omega arith; most_is = omega (arith, a, larger-least (in_all k) (in_series k) (in_all k) (omega arith) (omega (arith, m))) }

far-free : (b : Body) (s x y : ℕ) → (own (record { series = s; far = x }) b).series ≡ (own (record { series = s; far = y }) b).series
far-free b s x y =
    sym (ap (λ (z : Own). z.series) (own-more b y (record { series = s; far = x })))
    ∙ ap (λ (z : ℕ). (own (record { series = s; far = z }) b).series) (larger_comm y x)
    ∙ ap (λ (z : Own). z.series) (own-more b x (record { series = s; far = y }))

-- LAW: what a body's items make in series is where its chains are
pub own-series : (b : Body) (n s far : ℕ) (k : Chains) → Of Finishes s b → (own (record { series = in_series k; far = far }) b).series ≡ in_series (run n s b k)
own-series b n s far k y = omega (arith, far-free b (in_series k) far (in_all k), (follows b n s 0 (record { series = in_series k; far = in_all k }) k y (begun k)).series_is)

child-free : (w : Way) (v : ℕ) (f : Own → Own) (s x y : ℕ) → (child_own w v f (record { series = s; far = x })).series ≡ (child_own w v f (record { series = s; far = y })).series
child-free call v f s x y = refl
child-free spawn v f s x y = refl
child-free async v f s x y = refl
child-free pass v f s x y = refl
child-free finish v f s x y = refl

item-free : (b : Body) (s x y : ℕ) → (own_item (record { series = s; far = x }) b).series ≡ (own_item (record { series = s; far = y }) b).series
item-free done s x y = refl
item-free (leaf l r) s x y = refl
item-free (child w i g r) s x y = child-free w (span_of g) (λ z. own z g) s x y

pub item-series : (b : Body) (n s far : ℕ) (k : Chains) → Of Finishes s b → (own_item (record { series = in_series k; far = far }) b).series ≡ in_series (item_chains n s b k)
item-series b n s far k y = omega (arith, item-free b (in_series k) far (in_all k), (item-follows b n s 0 (record { series = in_series k; far = in_all k }) k y (begun k)).series_is)

-- LAW: from the numbers f to the numbers r of a call whose items were read, the larger of how far it reaches and where it
-- ends is its span past where it began
pub own-ends : (b : Body) (n s far : ℕ) (f r : Open) (k : Chains) (i j v w : ℕ) → Of Finishes s b → f ≡ numbers i v k → r ≡ numbers j w (run n s b k) → far ≡ (own (begins (f.prefix.0 + f.since.0)) b).far
    → larger far (r.prefix.0 + r.since.0) ≡ f.prefix.0 + f.since.0 + span_of b
own-ends b n s far f r k i j v w y e q h =
    let x = f.prefix.0 + f.since.0 in
    let at : x ≡ in_series k = ap (λ (z : Open). z.prefix.0 + z.since.0) e in
    let to : r.prefix.0 + r.since.0 ≡ (own (begins x) b).series =
    ap (λ (z : Open). z.prefix.0 + z.since.0) q ∙ sym (ap (λ (z : ℕ). (own (begins z) b).series) at ∙ own-series b n s (in_series k) k y) in
    ap (λ (z : ℕ). larger z (r.prefix.0 + r.since.0)) h ∙ ap (larger (own (begins x) b).far) to ∙ own-span b x s y

-- ── item by item ──

pub own-item : (a : Own) (b : Body) → own a b ≡ own (own_item a b) (rest b)
own-item a done = refl
own-item a (leaf l r) = refl
own-item a (child w i g r) = refl

-- the numbers of an open call are where its chains are in series
pub reaching-is : (f : Open) (n w far : ℕ) (k : Chains) → f ≡ numbers n w k → reaching f far ≡ record { series = in_series k; far = far }
reaching-is f n w far k e = ap (λ (x : Open). reaching x far) e

-- LAW: behind the first item of b the numbers r, which reach as far as it makes them, come to what b comes to
pub own_again : (b : Body) (row far far' : ℕ) (f r : Open) (k : Chains) (n w : ℕ) → Of Finishes row b → f ≡ numbers f.at f.work.0 k → r ≡ numbers n w (item_chains f.at row b k)
    → far' ≡ (own_item (reaching f far) b).far → own (reaching r far') (rest b) ≡ own (reaching f far) b
own_again b row far far' f r k n w y e q h =
    let a = reaching-is f f.at f.work.0 far k e in
    let s : (reaching r far').series ≡ (own_item (reaching f far) b).series = ap (λ (x : Own). x.series) (reaching-is r n w far' (item_chains f.at row b k) q) ∙ sym (ap (λ (x : Own). (own_item x b).series) a ∙ item-series b f.at row far k y) in
    ap (λ (x : ℕ). own (record { series = x; far = far' }) (rest b)) s
    ∙ ap (λ (x : ℕ). own (record { series = (own_item (reaching f far) b).series; far = x }) (rest b)) h
    ∙ sym (own-item (reaching f far) b)

-- ── what the numbers come to at most ──

-- a child whose span is at most v
module _ (f : Own → Own) (v x : ℕ) (short : v ≤ x) where
  child_series_le : ((n : ℕ) → (f (begins n)).series ≤ n + x) → (w : Way) (a : Own) → (child_own w v f a).series ≤ a.series + x
  child_series_le h call a = omega arith
  child_series_le h spawn a = omega arith
  child_series_le h async a = omega arith
  child_series_le h pass a = h a.series
  child_series_le h finish a = omega arith

  child_far_le : ((n y : ℕ) → n + x ≤ y → (f (begins n)).far ≤ y) → (w : Way) (a : Own) (y : ℕ) → a.far ≤ y → a.series + x ≤ y → (child_own w v f a).far ≤ y
  child_far_le h call a y l m = l
  child_far_le h spawn a y l m = larger-least a.far (a.series + v) y l (omega arith)
  child_far_le h async a y l m = larger-least a.far (a.series + v) y l (omega arith)
  child_far_le h pass a y l m = larger-least a.far (f (begins a.series)).far y l (h a.series y m)
  child_far_le h finish a y l m = l

-- LAW: in series no more than the work comes to it
pub own_series_le : (b : Body) (a : Own) → (own a b).series ≤ a.series + work_of b
own_series_le done a = omega arith
own_series_le (leaf l r) a = omega (arith, own_series_le r (further (leaf_work l) a))
own_series_le (child w i g r) a =
    let f : Own → Own = λ z. own z g in
    omega (arith, own_series_le r (child_own w (span_of g) f a), child_series_le f (span_of g) (work_of g) (span-most g) (λ n. own_series_le g (begins n)) w a)

-- LAW: and it reaches no further than that, where it did not before
pub own_far_le : (b : Body) (a : Own) (y : ℕ) → a.far ≤ y → a.series + work_of b ≤ y → (own a b).far ≤ y
own_far_le done a y l m = l
own_far_le (leaf k r) a y l m = own_far_le r (further (leaf_work k) a) y l (omega arith)
own_far_le (child w i g r) a y l m =
    let f : Own → Own = λ z. own z g in
    let s = child_series_le f (span_of g) (work_of g) (span-most g) (λ n. own_series_le g (begins n)) w a in
    let t = child_far_le f (span_of g) (work_of g) (span-most g) (λ n z q. own_far_le g (begins n) z (omega arith) q) w a y l (omega arith) in
    own_far_le r (child_own w (span_of g) f a) y t (omega (arith, s))

-- so of the first item
pub item_far_le : (b : Body) (a : Own) (y : ℕ) → a.far ≤ y → a.series + item_work b ≤ y → (own_item a b).far ≤ y
item_far_le done a y l m = l
item_far_le (leaf k r) a y l m = l
item_far_le (child w i g r) a y l m = child_far_le (λ z. own z g) (span_of g) (work_of g) (span-most g) (λ n z q. own_far_le g (begins n) z (omega arith) q) w a y l m
