-- Which invocations of a row are outermost: whom one is enclosed by, siblings, rows of which none is enclosed, and K.
use mathlib.Core.Path.{◌≡◌, refl, sym, ◌∙◌, ap, ap₂, subst}
use mathlib.Core.Logic.{inl, inr}
use mathlib.Core.Bool.{Bool, true, false, not, cond, ◌&&◌, ◌||◌, and-false}
use mathlib.Core.List.{List, [], ◌∷◌}
use Prim.Native.Nat.{ℕ, zero, suc, ◌+◌}
use native.Mathlib.Omega.{arith}
use lib.Dec.{T, eqb}
use borrow.Author.Tests.{eq-eqb, ne_eqb}
use Rattle.line.specs.Family.{Family}
use Rattle.line.specs.declared.Frame.{Frame}
use Rattle.line.specs.declared.Frame.TheVariants.{Site, Call, Spawn, Sync, Return, Cost, Instructions, Async, Finish}
use Rattle.chain.specs.Over.{Each}
use Rattle.trace.specs.Shape.{root, step, walk, open_at, has, first_is, Open, Contains, Directly}
use Rattle.trace.specs.Series.{SpanOf}
use Rattle.trace.specs.Rows.{of_row, has_of, enclosed, unenclosed, outermost, inside, sum, Sum, work, SpansOf}
use Rattle.trace.specs.Tree.{Way, invokes, Body, done, leaf, child, PartsOf, work_of, span_of, made_sum, row_sum, outer_sum, outer_row}
use Rattle.trace.proofs.Sums.{same_or_not}
use Rattle.trace.proofs.Open.{or_cases, or_right, has-cases, has-later, has_here, first_eq}
use Rattle.trace.proofs.Invocations.{row-sum}
use Rattle.trace.proofs.Stretches.{span_is, inside_is}
use Rattle.trace.proofs.Unique.{span_unique_of, sum_unique}
use Rattle.trace.proofs.Columns.{sum-from}
use Rattle.trace.proofs.Outermost.{work-tree, spans_tree}

-- ── enclosed, in words ──

-- G is an invocation of row s that is open at line g
pub record Around (t : List Frame) (s g : ℕ) : Type 0 where
  pub G : ℕ
  pub is_of_row : T (has G (of_row t s))
  pub is_open : Open t G g

or_left : (a b : Bool) → T a → T (a || b)
or_left true b h = tt
or_left false b h = absurd h

and_right : (a b : Bool) → T (a && b) → T b
and_right true b h = h
and_right false b h = absurd h

and_both : (a b : Bool) → T a → T b → T (a && b)
and_both true b h k = k
and_both false b h k = absurd h

module _ (t : List Frame) (s : ℕ) where
  found : (o : List ℕ) → T (has_of t s o) → (G : ℕ) × T (has G (of_row t s)) × T (has G o)
  found [] h = absurd h
  found (G ∷ o) h = elim (or_cases (has G (of_row t s)) (has_of t s o) h) [
    | inl e ↦ (G, subst T (sym e) tt, has_here G G o refl)
    | inr k ↦ (let w = found o k in (w.0, w.1, has-later w.0 G o w.2))
  ]

  find : (G : ℕ) (o : List ℕ) → T (has G (of_row t s)) → T (has G o) → T (has_of t s o)
  find G [] r h = absurd h
  find G (x ∷ o) r h = elim (has-cases G x o h) [
    | inl e ↦ or_left (has x (of_row t s)) (has_of t s o) (subst (λ (k : ℕ). T (has k (of_row t s))) e r)
    | inr k ↦ or_right (has x (of_row t s)) (has_of t s o) (find G o r k)
  ]

  -- LAW: an invocation is enclosed exactly where an invocation of the row is open at the line that makes it
  pub enclosed-by : (g : ℕ) → T (enclosed t s (suc g)) → Around t s g
  enclosed-by g h = let w = found (open_at t g) h in record { G = w.0; is_of_row = w.1; is_open = w.2 }

  pub by-enclosed : (g : ℕ) → Around t s g → T (enclosed t s (suc g))
  by-enclosed g a = find a.G (open_at t g) a.is_of_row a.is_open

  kept : (F : ℕ) (l : List ℕ) → has F (unenclosed t s l) ≡ (has F l && not (enclosed t s F))
  kept F [] = refl
  kept F (x ∷ l) = elim (same_or_not F x) [ inl e ↦ same e (enclosed t s x) refl (kept F l) | inr n ↦ other (enclosed t s x) (kept F l) n ]
    where
      same : F ≡ x → (b : Bool) → enclosed t s x ≡ b → has F (unenclosed t s l) ≡ (has F l && not (enclosed t s F))
          → has F (cond (enclosed t s x) (unenclosed t s l) (x ∷ unenclosed t s l)) ≡ ((eqb F x || has F l) && not (enclosed t s F))
      same e b q r =
          ap (λ (z : Bool). has F (cond z (unenclosed t s l) (x ∷ unenclosed t s l))) q
          ∙ go b (r ∙ ap (λ (z : Bool). has F l && not z) (ap (enclosed t s) e ∙ q))
          ∙ sym (ap₂ (λ (y z : Bool). (y || has F l) && not z) (eq-eqb F x e) (ap (enclosed t s) e ∙ q))
        where
          go : (b : Bool) → has F (unenclosed t s l) ≡ (has F l && not b) → has F (cond b (unenclosed t s l) (x ∷ unenclosed t s l)) ≡ not b
          go true k = k ∙ and-false (has F l)
          go false k = ap (λ (z : Bool). z || has F (unenclosed t s l)) (eq-eqb F x e)

      other : (b : Bool) → has F (unenclosed t s l) ≡ (has F l && not (enclosed t s F)) → (F ≡ x → ⊥)
          → has F (cond b (unenclosed t s l) (x ∷ unenclosed t s l)) ≡ ((eqb F x || has F l) && not (enclosed t s F))
      other b r n = go b ∙ r ∙ sym (ap (λ (y : Bool). (y || has F l) && not (enclosed t s F)) (ne_eqb F x n))
        where
          go : (b : Bool) → has F (cond b (unenclosed t s l) (x ∷ unenclosed t s l)) ≡ has F (unenclosed t s l)
          go true = refl
          go false = ap (λ (z : Bool). z || has F (unenclosed t s l)) (ne_eqb F x n)

  -- LAW: the outermost invocations are those of the row that are not enclosed
  pub outermost-is : (F : ℕ) → has F (outermost t s) ≡ (has F (of_row t s) && not (enclosed t s F))
  outermost-is F = kept F (of_row t s)

-- LAW: the root is never enclosed
pub root-outermost : (t : List Frame) → outermost t 0 ≡ root ∷ []
root-outermost t = refl

-- ── siblings ──

-- what is open around an invocation is what is open at the line that makes it
abbrev around : List Frame → ℕ → List ℕ
around t zero = []
around t (suc g) = open_at t g

abbrev Stacked : List Frame → List ℕ → Type 0
Stacked t [] = Unit {0}
Stacked t (F ∷ o) = (o ≡ around t F) × Stacked t o

module _ (t : List Frame) where
  stacked-step : (n : ℕ) (e : Frame) (o : List ℕ) → open_at t n ≡ o → Stacked t o → Stacked t (step n e o)
  stacked-step n (Site i p) o q h = h
  stacked-step n (Call i) o q h = (sym q, h)
  stacked-step n (Spawn i) o q h = (sym q, h)
  stacked-step n Sync o q h = h
  stacked-step n Return [] q h = h
  stacked-step n Return (c ∷ o) q h = h.1
  stacked-step n (Cost v) o q h = h
  stacked-step n (Instructions v) o q h = h
  stacked-step n (Async i) o q h = (sym q, h)
  stacked-step n Finish o q h = (sym q, h)

  stacked-walk : (n : ℕ) (o : List ℕ) (u : List Frame) (j : ℕ) → ((k : ℕ) → open_at t (n + k) ≡ walk n o u k) → Stacked t o
      → Stacked t (walk n o u j)
  stacked-walk n o [] j q h = h
  stacked-walk n o (e ∷ u) zero q h = h
  stacked-walk n o (e ∷ u) (suc j) q h =
      let f : n ≡ n + 0 = omega arith in
      stacked-walk (suc n) (step n e o) u j (λ k. (let g : suc n + k ≡ n + suc k = omega arith in ap (open_at t) g ∙ q (suc k)))
      (stacked-step n e o (ap (open_at t) f ∙ q 0) h)

  stacked : (j : ℕ) → Stacked t (open_at t j)
  stacked j = stacked-walk 0 (root ∷ []) t j (λ k. (let g : 0 + k ≡ k = omega arith in ap (open_at t) g)) (refl, tt)

  open_in : (F : ℕ) (o : List ℕ) → T (first_is F o) → Stacked t o → o ≡ F ∷ around t F
  open_in F [] d h = absurd d
  open_in F (c ∷ o) d h =
      let e : F ≡ c = first_eq F c o d in
      ap (λ (l : List ℕ). c ∷ l) h.0 ∙ ap (λ (k : ℕ). k ∷ around t k) (sym e)

  -- LAW: at every line directly in an invocation the same are open
  pub siblings : (F i j : ℕ) → Directly t F i → Directly t F j → open_at t i ≡ open_at t j
  siblings F i j a b = open_in F (open_at t i) a (stacked i) ∙ sym (open_in F (open_at t j) b (stacked j))

  -- LAW: of two invocations of a row that are made directly in one invocation, where one is outermost, so is the other
  pub both-outermost : (s F i j : ℕ) → Directly t F i → Directly t F j → T (has (suc j) (of_row t s)) → T (has (suc i) (outermost t s))
      → T (has (suc j) (outermost t s))
  both-outermost s F i j a b r h =
      let x = and_right (has (suc i) (of_row t s)) (not (enclosed t s (suc i))) (subst T (outermost-is t s (suc i)) h) in
      subst T (sym (outermost-is t s (suc j)))
      (and_both (has (suc j) (of_row t s)) (not (enclosed t s (suc j))) r (subst (λ (o : List ℕ). T (not (has_of t s o))) (siblings F i j a b) x))

-- ── branches of which neither has the other's lines, as parallel ones ──

module _ (t : List Frame) where
  inside_too : (F G : ℕ) (o : List ℕ) → T (has F o) → T (has G (around t F)) → Stacked t o → T (has G o)
  inside_too F G [] h k w = absurd h
  inside_too F G (c ∷ o) h k w = elim (has-cases F c o h) [
    | inl e ↦ has-later G c o (subst (λ (l : List ℕ). T (has G l)) (ap (around t) e ∙ sym w.0) k)
    | inr m ↦ has-later G c o (inside_too F G o m k w.1)
  ]

  -- LAW: an invocation that is open at the line that makes another contains all lines of that one
  pub contains_too : (G g i : ℕ) → Open t G g → Contains t (suc g) i → Contains t G i
  contains_too G g i h k = inside_too (suc g) G (open_at t i) k h (stacked t i)

  -- LAW: of two invocations that each contain a line that the other does not, neither encloses the other
  pub neither_around : (f g i j : ℕ) → Contains t (suc f) i → ¬ Contains t (suc f) j → Contains t (suc g) j → ¬ Contains t (suc g) i
      → (¬ Open t (suc f) g) × (¬ Open t (suc g) f)
  neither_around f g i j a b c d = (λ h. b (contains_too (suc f) g j h c), λ h. d (contains_too (suc g) f i h a))

-- LAW: by the tree, two made one after the other
pub both-added : (h : Body → ℕ) (s : ℕ) (v w : Way) (a b r : Body) → invokes v ≡ true → invokes w ≡ true → outer_sum h s (child v s a (child w s b r)) ≡ h a + (h b + outer_sum h s r)
both-added h s v w a b r x y =
    omega (
      arith,
      ap₂ (λ (i j : Bool). cond (i && j) (h a) (outer_sum h s a)) x (eq-eqb s s refl),
      ap₂ (λ (i j : Bool). cond (i && j) (h b) (outer_sum h s b)) y (eq-eqb s s refl),
    )

-- ── where none is enclosed, the columns are those of all ──

each_of : (p : ℕ → Type 0) (l : List ℕ) → ((F : ℕ) → T (has F l) → p F) → Each p l
each_of p [] h = tt
each_of p (x ∷ l) h =
    (h x (has_here x x l refl), each_of p l (λ F k. h F (has-later F x l k)))

-- LAW: none is enclosed where no invocation of the row is open at a line that makes one of it
pub none-enclosed : (t : List Frame) (s : ℕ) → ((g : ℕ) → T (has (suc g) (of_row t s)) → Around t s g → ⊥) → Each (λ F. enclosed t s F ≡ false) (of_row t s)
none-enclosed t s h = each_of (λ F. enclosed t s F ≡ false) (of_row t s) not_enclosed
  where
    not_enclosed : (F : ℕ) → T (has F (of_row t s)) → enclosed t s F ≡ false
    not_enclosed zero k = refl
    not_enclosed (suc g) k = go (enclosed t s (suc g)) refl
      where
        go : (b : Bool) → enclosed t s (suc g) ≡ b → b ≡ false
        go true e = absurd (h g k (enclosed-by t s g (subst T (sym e) tt)))
        go false e = refl

plain : (t : List Frame) (s : ℕ) (l : List ℕ) → Each (λ F. enclosed t s F ≡ false) l → unenclosed t s l ≡ l
plain t s [] h = refl
plain t s (F ∷ l) h =
    ap (λ (b : Bool). cond b (unenclosed t s l) (F ∷ unenclosed t s l)) h.0 ∙ ap (λ (m : List ℕ). F ∷ m) (plain t s l h.1)

module _ (t : List Frame) (s : ℕ) (h : Each (λ F. enclosed t s F ≡ false) (of_row t s)) where
  -- LAW
  pub all-outermost : outermost t s ≡ of_row t s
  all-outermost = plain t s (of_row t s) h

  -- LAW
  pub all-work : work t s ≡ sum (inside t) (of_row t s)
  all-work = ap (sum (inside t)) all-outermost

  -- LAW
  pub all_spans : (f : Family) (n : ℕ) → Sum (SpanOf f t) (of_row t s) n → SpansOf f t s n
  all_spans f n k = subst (λ (l : List ℕ). Sum (SpanOf f t) l n) (sym all-outermost) k

-- ── a site that never calls itself, by the tree ──

-- inside no invocation from site s is another from it
abbrev pub Alone : ℕ → Body → Type 0
Alone s done = Unit {0}
Alone s (leaf l r) = Alone s r
Alone s (child w i g r) = ((invokes w && eqb i s) ≡ true → made_sum (λ b. 1) s g ≡ 0) × Alone s g × Alone s r

none-none : (h : Body → ℕ) (s : ℕ) (b : Body) → made_sum (λ b. 1) s b ≡ 0 → made_sum h s b ≡ 0
none-none h s done e = refl
none-none h s (leaf l r) e = none-none h s r e
none-none h s (child w i g r) e = go (invokes w && eqb i s) e (none-none h s g) (none-none h s r)
  where
    go : (b : Bool) → cond b 1 0 + (made_sum (λ b. 1) s g + made_sum (λ b. 1) s r) ≡ 0 → (made_sum (λ b. 1) s g ≡ 0 → made_sum h s g ≡ 0)
        → (made_sum (λ b. 1) s r ≡ 0 → made_sum h s r ≡ 0) → cond b (h g) 0 + (made_sum h s g + made_sum h s r) ≡ 0
    go true e f k = absurd (omega arith)
    go false e f k = omega (arith, f (omega arith), k (omega arith))

-- LAW: where a site never calls itself, directly or through others, the sum over the outermost is that over all
pub alone-all : (h : Body → ℕ) (s : ℕ) (b : Body) → Alone s b → outer_sum h s b ≡ made_sum h s b
alone-all h s done a = refl
alone-all h s (leaf l r) a = alone-all h s r a
alone-all h s (child w i g r) a = go (invokes w && eqb i s) a.0 (alone-all h s g a.1) (alone-all h s r a.2)
  where
    go : (b : Bool) → (b ≡ true → made_sum (λ b. 1) s g ≡ 0) → outer_sum h s g ≡ made_sum h s g → outer_sum h s r ≡ made_sum h s r
        → cond b (h g) (outer_sum h s g) + outer_sum h s r ≡ cond b (h g) 0 + (made_sum h s g + made_sum h s r)
    go true k x y = omega (arith, none-none h s g (k refl))
    go false k x y = omega arith

row-alone : (h : Body → ℕ) (s : ℕ) (b : Body) → Alone s b → outer_row h s b ≡ row_sum h s b
row-alone h zero b a = refl
row-alone h (suc s) b a = alone-all h (suc s) b a

module _ {f : Family} (D : ℕ) (t : List Frame) (p : PartsOf f D t) (s : ℕ) (a : Alone s p.body) where
  -- LAW: columns 2 and 3 of such a site count all its invocations
  pub alone-work : work t s ≡ sum (inside t) (of_row t s)
  alone-work =
      work-tree D t p s
      ∙ row-alone work_of s p.body a
      ∙ sym (sum-from (inside t) (of_row t s) (row_sum work_of s p.body) (row-sum D t p (λ F w. inside t F ≡ w) work_of (λ F g i. inside_is t F g i) s))

  pub alone_spans : (n : ℕ) → Sum (SpanOf f t) (of_row t s) n → SpansOf f t s n
  alone_spans n h =
      let all = row-sum D t p (SpanOf f t) span_of (λ F g i. span_is t F g i) s in
      subst (SpansOf f t s)
      (row-alone span_of s p.body a ∙ sum_unique (SpanOf f t) (span_unique_of f t) (of_row t s) (row_sum span_of s p.body) n all h) (spans_tree D t p s)

-- ── computed ──

-- K, call 1 {1, call 1 {2}}: the outer one alone
K-outermost : outermost (Call 1 ∷ Cost 1 ∷ Call 1 ∷ Cost 2 ∷ Return ∷ Return ∷ Return ∷ []) 1 ≡ 1 ∷ []
K-outermost = refl

-- spawn 1 {4}, spawn 1 {4}: parallel branches, both
branches : outermost (Spawn 1 ∷ Cost 4 ∷ Return ∷ Spawn 1 ∷ Cost 4 ∷ Return ∷ Return ∷ []) 1 ≡ 1 ∷ 4 ∷ []
branches = refl

-- call 1 {call 2 {call 1 {1}}}: through another, the outer one alone
through_another : outermost (Call 1 ∷ Call 2 ∷ Call 1 ∷ Cost 1 ∷ Return ∷ Return ∷ Return ∷ Return ∷ []) 1 ≡ 1 ∷ []
through_another = refl

-- call 1 {spawn 1 {1}}, call 1 {1}: behind its return the outer one encloses nothing
behind : outermost (Call 1 ∷ Spawn 1 ∷ Cost 1 ∷ Return ∷ Return ∷ Call 1 ∷ Cost 1 ∷ Return ∷ Return ∷ []) 1 ≡ 1 ∷ 6 ∷ []
behind = refl
