-- What a forecast can change, for every trace: an empty list changes nothing, no number grows, and the span falls by no
-- more than the chosen chain's lines in the named rows lose.
use mathlib.Core.Path.{◌≡◌, refl, sym, ◌∙◌, ap}
use mathlib.Core.Logic.{◌⊎◌, inl, inr}
use mathlib.Core.Bool.{Bool, true, false, cond, ◌&&◌, ◌||◌}
use mathlib.Core.List.{List, [], ◌∷◌}
use Prim.Native.Nat.{ℕ, zero, suc, ◌+◌, ◌-◌, ◌≤◌}
use native.Mathlib.Omega.{arith}
use lib.Dec.{eqb}
use borrow.Author.Tests.{eqb-true, eq-eqb, ne_eqb}
use Rattle.line.specs.declared.Frame.{Frame}
use Rattle.line.specs.declared.Frame.TheVariants.{Site, Call, Spawn, Sync, Return, Cost, Instructions, Async, Finish}
use Rattle.chain.specs.Over.{Each}
use Rattle.trace.specs.Shape.{Is, root, step, walk, open_at, has, first_is}
use Rattle.trace.specs.Async.{is_finish, finish_line, finish, owner_is}
use Rattle.trace.specs.Series.{value, value_at, CostIn, weight, Span, Chosen}
use Rattle.trace.specs.Rows.{makes, of_row, made, cycles, sum_of, direct_on, sum, total, calls, work, Spans, on_span, ilocal}
use Rattle.trace.specs.Refusals.{Verdict, accepted, refused}
use Rattle.trace.proofs.Basics.{no_way}
use Rattle.trace.proofs.Sums.{makes_at, has-made}
use Rattle.weigh.specs.Cost.{costing}
use Rattle.weigh.proofs.Alike.{ButCosts, chain_alike}
use Rattle.weigh.proofs.Weighed.{same-costing, plain-costing}
use Rattle.weigh.proofs.Accepted.{costing-bare}
use Rattle.weigh.proofs.Less.{AtMost, calls_alike, ilocal_alike, total-most, work-most, span-most, spans_most}
use Rattle.forecast.specs.declared.Entry.{Entry}
use Rattle.forecast.specs.Rewritten.{divided, factor_of, factor_at, rewritten_from, rewritten}
use Rattle.forecast.specs.Asked.{bad_factor, asking}
use Rattle.forecast.specs.Gain.{named, named_at, loses, lost, OffSpan}
use Rattle.forecast.proofs.Divided.{divided-one, divided-none, divided-most}
use Rattle.forecast.proofs.Asked.{factor_of_range}

-- ── an empty list ──

as_it_is : (f : Frame) → costing (λ v. divided v 1) f ≡ f
as_it_is f = same-costing (λ v. divided v 1) (λ v. v) divided-one f ∙ plain-costing f

no_factor : (t : List Frame) (o : List ℕ) → factor_at [] t o ≡ 1
no_factor t [] = refl
no_factor t (F ∷ o) = refl

empty-lines : (t : List Frame) (n : ℕ) (o : List ℕ) (u : List Frame) → rewritten_from [] t n o u ≡ u
empty-lines t n o [] = refl
empty-lines t n o (f ∷ u) =
    ap (λ (k : ℕ). costing (λ v. divided v k) f ∷ rewritten_from [] t (suc n) (step n f o) u) (no_factor t o)
    ∙ ap (λ (g : Frame). g ∷ rewritten_from [] t (suc n) (step n f o) u) (as_it_is f)
    ∙ ap (λ (l : List Frame). f ∷ l) (empty-lines t (suc n) (step n f o) u)

-- LAW: "An empty list gives the plain profile": the verdict stays, and so the whole promise
pub empty-plain : (v : Verdict) → asking [] v ≡ v
empty-plain (accepted t) = ap accepted (empty-lines t 0 (root ∷ []) t)
empty-plain (refused n k) = refl

-- ── what a line weighs ──

value_line : (es : List Entry) (t : List Frame) (n : ℕ) (o : List ℕ) (u : List Frame) (k v : ℕ) → Is u k (Cost v) → value_at (rewritten_from es t n o u) k ≡ divided v (factor_at es t (walk n o u k))
value_line es t n o [] k v h = absurd h
value_line es t n o (f ∷ u) zero v h = ap (λ (g : Frame). value (costing (λ x. divided x (factor_at es t o)) g)) h
value_line es t n o (f ∷ u) (suc k) v h = value_line es t (suc n) (step n f o) u k v h

-- a cost line of the rewritten trace
pub value-rewritten : (es : List Entry) (t : List Frame) (k v : ℕ) → Is t k (Cost v) → value_at (rewritten es t) k ≡ divided v (factor_at es t (open_at t k))
value-rewritten es t k v h = value_line es t 0 (root ∷ []) t k v h

-- ── no number grows ──

module _ (es : List Entry) (good : bad_factor es ≡ false) (t : List Frame) where
  pub least : (o : List ℕ) → 1 ≤ factor_at es t o
  least [] = omega arith
  least (F ∷ o) = (factor_of_range es t F good).0

  lighter : (g : ℕ → ℕ) → ((v : ℕ) → g v ≤ v) → (f : Frame) → value (costing g f) ≤ value f
  lighter g h (Site s p) = omega arith
  lighter g h (Call s) = omega arith
  lighter g h (Spawn s) = omega arith
  lighter g h Sync = omega arith
  lighter g h Return = omega arith
  lighter g h (Cost v) = h v
  lighter g h (Instructions v) = omega arith
  lighter g h (Async s) = omega arith
  lighter g h Finish = omega arith

  most-lines : (n : ℕ) (o : List ℕ) (u : List Frame) → AtMost u (rewritten_from es t n o u)
  most-lines n o [] = tt
  most-lines n o (f ∷ u) = (lighter (λ v. divided v (factor_at es t o)) (λ v. divided-most v (factor_at es t o) (least o)) f, most-lines (suc n) (step n f o) u)

  alike_lines : (n : ℕ) (o : List ℕ) (u : List Frame) → ButCosts u (rewritten_from es t n o u)
  alike_lines n o [] = tt
  alike_lines n o (f ∷ u) = (costing-bare (λ v. divided v (factor_at es t o)) f, alike_lines (suc n) (step n f o) u)

  abbrev u : List Frame
  u = rewritten es t

  alike : ButCosts t u
  alike = alike_lines 0 (root ∷ []) t

  most : AtMost t u
  most = most-lines 0 (root ∷ []) t

  -- LAW: calls do not change
  pub same_calls : (s : ℕ) → calls (rewritten es t) s ≡ calls t s
  same_calls s = sym (calls_alike t u alike s)

  -- LAW: "Forecasts leave instructions as they are"
  pub same-instructions : (s : ℕ) → ilocal (rewritten es t) s ≡ ilocal t s
  same-instructions s = sym (ilocal_alike t u alike s)

  -- LAW: total work, total span, and work and span of every row are at most the plain ones
  pub no_more_work : total (rewritten es t) ≤ total t
  no_more_work = total-most t u alike most

  pub no_more_span : (a b : ℕ) → Span t root a → Span (rewritten es t) root b → b ≤ a
  no_more_span = span-most t u alike most root

  pub no_more_row_work : (s : ℕ) → work (rewritten es t) s ≤ work t s
  no_more_row_work = work-most t u alike most

  pub no_more_row_span : (s a b : ℕ) → Spans t s a → Spans (rewritten es t) s b → b ≤ a
  no_more_row_span = spans_most t u alike most

  -- ── what the span can lose ──

  unnamed : (es : List Entry) (F : ℕ) → named es t F ≡ false → factor_of es t F ≡ 1
  unnamed [] F h = refl
  unnamed (e ∷ es) F h = go (has F (of_row t e.row)) h (unnamed es F)
    where
      go : (b : Bool) → (b || named es t F) ≡ false → (named es t F ≡ false → factor_of es t F ≡ 1) → cond b e.factor (factor_of es t F) ≡ 1
      go true q r = absurd (no_way (sym q))
      go false q r = r q

  unnamed_at : (o : List ℕ) → named_at es t o ≡ false → factor_at es t o ≡ 1
  unnamed_at [] h = refl
  unnamed_at (F ∷ o) h = unnamed es F h

  -- a line of a chain weighs no less than without what it loses
  line-loses : (k : ℕ) → Is t k (Cost (value_at t k)) → value_at t k ≤ value_at u k + loses es t k
  line-loses k i = go (named_at es t (open_at t k)) refl
    where
      w : value_at u k ≡ divided (value_at t k) (factor_at es t (open_at t k))
      w = value-rewritten es t k (value_at t k) i

      go : (b : Bool) → named_at es t (open_at t k) ≡ b → value_at t k ≤ value_at u k + cond b (value_at t k - divided (value_at t k) (factor_at es t (open_at t k))) 0
      go true e = omega (arith, w)
      go false e = omega (arith, w, ap (divided (value_at t k)) (unnamed_at (open_at t k) e), divided-one (value_at t k))

  chain-loses : (c : List ℕ) → Each (CostIn t root) c → weight t c ≤ weight u c + lost es t c
  chain-loses [] h = omega arith
  chain-loses (k ∷ c) h = omega (arith, line-loses k h.0.is, chain-loses c h.1)

  -- LAW: the gain is at most what the chosen chain's costs in the named rows lose
  pub gain-most : (c : List ℕ) → Chosen t c → (a b : ℕ) → Span t root a → Span (rewritten es t) root b → a ≤ b + lost es t c
  gain-most c x a b y z =
      omega (
        arith,
        y.weighs,
        x.heaviest y.chain y.is_chain,
        chain-loses c x.chain.costs,
        z.greatest c (chain_alike t u alike root c x.chain),
      )

-- ── rows off the span ──

picks : (p : ℕ → List ℕ → Bool) (n : ℕ) (o : List ℕ) (u : List Frame) (k : ℕ) → p (n + k) (walk n o u k) ≡ true → value_at u k ≤ sum_of cycles p n o u
picks p n o [] k h = omega arith
picks p n o (f ∷ u) zero h =
    let e : n + 0 ≡ n = omega arith in
    let z : p n o ≡ true = ap (λ (j : ℕ). p j o) (sym e) ∙ h in
    omega (arith, ap (λ (b : Bool). cond b (value f) 0) z)
picks p n o (f ∷ u) (suc k) h =
    let e : suc n + k ≡ n + suc k = omega arith in
    omega (arith, picks p (suc n) (step n f o) u k (ap (λ (j : ℕ). p j (walk (suc n) (step n f o) u k)) e ∙ h))

one_of : (f : ℕ → ℕ) (F : ℕ) (l : List ℕ) → has F l ≡ true → f F ≤ sum f l
one_of f F [] h = absurd (no_way h)
one_of f F (G ∷ l) h = go (eqb F G) refl h (one_of f F l)
  where
    go : (b : Bool) → eqb F G ≡ b → (b || has F l) ≡ true → (has F l ≡ true → f F ≤ sum f l) → f F ≤ f G + sum f l
    go true e q r = omega (arith, ap f (eqb-true F G e))
    go false e q r = omega (arith, r q)

-- no finish is made from a site, and so none is of a row
makes_none : (s : ℕ) (f : Frame) → makes s f ≡ true → is_finish f ≡ false
makes_none s (Site i p) h = refl
makes_none s (Call i) h = refl
makes_none s (Spawn i) h = refl
makes_none s Sync h = refl
makes_none s Return h = refl
makes_none s (Cost v) h = refl
makes_none s (Instructions v) h = refl
makes_none s (Async i) h = refl
makes_none s Finish h = absurd (no_way h)

made_none : (t : List Frame) (g s : ℕ) → makes_at t g s ≡ true → finish_line t g ≡ false
made_none [] g s h = refl
made_none (e ∷ t) zero s h = makes_none s e h
made_none (e ∷ t) (suc g) s h = made_none t g s h

row-none : (t : List Frame) (s F : ℕ) → has F (of_row t s) ≡ true → finish t F ≡ false
row-none t s zero h = refl
row-none t zero (suc g) h = absurd (no_way (sym (ap (λ (b : Bool). b || false) (ne_eqb (suc g) root (λ q. omega arith))) ∙ h))
row-none t (suc s) (suc g) h = let e : 0 + g ≡ g = omega arith in made_none t g (suc s) (sym (has-made 0 t g (suc s)) ∙ ap (λ (k : ℕ). has (suc k) (made 0 t (suc s))) e ∙ h)

first_owner : (t : List Frame) (F : ℕ) (o : List ℕ) → finish t F ≡ false → first_is F o ≡ true → owner_is t F o ≡ true
first_owner t F [] n d = d
first_owner t F (x ∷ o) n d =
    ap (λ (y : ℕ). cond (finish t y) (owner_is t F o) (eqb F x)) (sym (eqb-true F x d)) ∙ ap (λ (b : Bool). cond b (owner_is t F o) (eqb F x)) n ∙ d

-- a line of the chain that is directly in an invocation of a row is part of the row's on-span number
on_row_lem : (t : List Frame) (c : List ℕ) (s F k : ℕ) → has F (of_row t s) ≡ true → first_is F (open_at t k) ≡ true → has k c ≡ true → value_at t k ≤ on_span t c s
on_row_lem t c s F k h d i =
    let e : 0 + k ≡ k = omega arith in
    let own = first_owner t F (open_at t k) (row-none t s F h) d in
    let z : (owner_is t F (open_at t k) && has (0 + k) c) ≡ true = ap (λ (j : ℕ). owner_is t F (open_at t k) && has j c) e ∙ ap (λ (b : Bool). b && has k c) own ∙ i in
    omega (arith, picks (λ j o. owner_is t F o && has j c) 0 (root ∷ []) t k z, one_of (direct_on cycles t c) F (of_row t s) h)

module _ (t : List Frame) (c : List ℕ) where
  off_factor : (es : List Entry) → OffSpan t c es → (F k : ℕ) → first_is F (open_at t k) ≡ true → has k c ≡ true → (value_at t k ≡ 0) ⊎ (factor_of es t F ≡ 1)
  off_factor [] off F k d i = inr refl
  off_factor (e ∷ es) off F k d i = go (has F (of_row t e.row)) refl (off_factor es off.1 F k d i)
    where
      go : (b : Bool) → has F (of_row t e.row) ≡ b → (value_at t k ≡ 0) ⊎ (factor_of es t F ≡ 1) → (value_at t k ≡ 0) ⊎ (cond b e.factor (factor_of es t F) ≡ 1)
      go true h r = inl (omega (arith, on_row_lem t c e.row F k h d i, off.0))
      go false h r = r

  module _ (es : List Entry) (good : bad_factor es ≡ false) (off : OffSpan t c es) where
    same_line : (k : ℕ) → Is t k (Cost (value_at t k)) → has k c ≡ true → value_at (rewritten es t) k ≡ value_at t k
    same_line k i h = value-rewritten es t k (value_at t k) i ∙ go (open_at t k) refl
      where
        go : (o : List ℕ) → open_at t k ≡ o → divided (value_at t k) (factor_at es t o) ≡ value_at t k
        go [] e = divided-one (value_at t k)
        go (F ∷ o) e = elim (off_factor es off F k (ap (first_is F) e ∙ eq-eqb F F refl) h) [
          | inl z ↦ (ap (λ (v : ℕ). divided v (factor_of es t F)) z ∙ divided-none (factor_of es t F) (factor_of_range es t F good).0 ∙ sym z)
          | inr z ↦ (ap (divided (value_at t k)) z ∙ divided-one (value_at t k))
        ]

    same-weight : (d : List ℕ) → Each (CostIn t root) d → Each (λ k. has k c ≡ true) d → weight (rewritten es t) d ≡ weight t d
    same-weight [] a b = refl
    same-weight (k ∷ d) a b = omega (arith, same_line k a.0.is b.0, same-weight d a.1 b.1)

all_in : (c d : List ℕ) → ((k : ℕ) → has k d ≡ true → has k c ≡ true) → Each (λ k. has k c ≡ true) d
all_in c [] h = tt
all_in c (k ∷ d) h =
    (h k (ap (λ (b : Bool). b || has k d) (eq-eqb k k refl)), all_in c d (λ j i. h j (later (eqb j k) (has j d) i)))
  where
    later : (a b : Bool) → b ≡ true → (a || b) ≡ true
    later true b e = refl
    later false b e = e

-- LAW: where every named row has 0 in the on-span column, the span stays as it is
pub off-span : (es : List Entry) → bad_factor es ≡ false → (t : List Frame) (c : List ℕ) → Chosen t c → OffSpan t c es → (a b : ℕ) → Span t root a → Span (rewritten es t) root b → b ≡ a
off-span es good t c x off a b y z =
    omega (
      arith,
      no_more_span es good t a b y z,
      y.weighs,
      x.heaviest y.chain y.is_chain,
      same-weight t c es good off c x.chain.costs (all_in c c (λ k h. h)),
      z.greatest c (chain_alike t (rewritten es t) (alike es good t) root c x.chain),
    )
