-- In either family two texts that differ only in places get the same outcome from an engine, unless one is refused with 10;
-- where both are accepted, either engine gives one answer and rows. The engines agree, and what the room held makes no
-- difference.
use mathlib.Core.Path.{◌≡◌, refl, sym, ◌∙◌, ap, subst}
use mathlib.Core.Bool.{Bool}
use mathlib.Core.List.{List}
use Prim.Native.Nat.{ℕ, ◌+◌, ◌*◌, ◌/◌, ◌<◌}
use lib.ListN.{length, get_or}
use Rattle.std.specs.Prelude.{Err}
use Rattle.line.specs.Family.{Family}
use Rattle.line.specs.declared.Frame.{Frame}
use Rattle.line.specs.Refusal.{refusal}
use Rattle.trace.specs.Answer.{Answer}
use Rattle.trace.specs.Shape.{sites}
use Rattle.trace.specs.Rows.{columns}
use Rattle.trace.specs.Refusals.{Verdict, accepted, refused, verdict_of}
use Rattle.trace.specs.Promise.{Engine, Lent, enough, PromiseOf}
use Rattle.trace.specs.Places.{OnlyPlaces, RefusedWith}
use Rattle.trace.specs.Tree.{Body, PartsOf}
use Rattle.trace.specs.ByTree.{ProfileBy}
use Rattle.trace.proofs.Checks.{same-room}
use Rattle.trace.proofs.Slots.{by_slots}
use Rattle.trace.proofs.Parse.{accepted-parts-of}
use Rattle.trace.proofs.Outcome.{profile_tree, by_tree_unique}
use Rattle.trace.proofs.Blank.{blank_body, to-blank, from-blank, same_parts}
use Rattle.trace.proofs.Unseen.{ButPlaces, sites-blank, SameVerdict, verdict-same}

-- traces that differ only in places have as many sites
sites-same : (t u : List Frame) → ButPlaces t u → sites t ≡ sites u
sites-same t u e = sym (sites-blank t) ∙ ap sites e ∙ sites-blank u

-- what comes back of the one comes back of the other
profile_same : {g : Family} (D E : ℕ) (t u : List Frame) (p : PartsOf g D t) (o : PartsOf g E u) → ButPlaces t u → (e : Engine) (c : Lent) (q : Answer) (y : Lent)
    → ProfileBy e (sites u) o.body c q y → ProfileBy e (sites t) p.body c q y
profile_same D E t u p o d e c q y h =
    from-blank e (sites t) p.body c q y
    (subst (λ (n : ℕ). ProfileBy e n (blank_body p.body) c q y) (sym (sites-same t u d))
    (subst (λ (b : Body). ProfileBy e (sites u) b c q y) (sym (same_parts D E t u p o d)) (to-blank e (sites u) o.body c q y h)))

-- "The two engines agree on the answer and on the rows written; numbers that neither writes are each caller's own."
pub record Agree (t : List Frame) (r q : Answer) (x y : Lent) : Type 0 where
  pub answers : r ≡ q
  pub rows_written : (i : ℕ) → i < columns * (sites t + 1) → get_or x.rows i 0 ≡ get_or y.rows i 0

agree-by : {g : Family} (D : ℕ) (t : List Frame) (p : PartsOf g D t) (e f : Engine) (b c : Lent) (r q : Answer) (x y : Lent)
    → ProfileBy e (sites t) p.body b r x → ProfileBy f (sites t) p.body c q y → Agree t r q x y
agree-by D t p e f b c r q x y h k =
    record {
      answers = h.answer ∙ sym k.answer;
      rows_written = by_slots (sites t) (λ j. get_or x.rows j 0 ≡ get_or y.rows j 0) (λ s a n. h.rows.cells s a n ∙ sym (k.rows.cells s a n));
    }

module _ (g : Family) (s z : List ℕ) (D M E N : ℕ) (e f : Engine) (b c : Lent) (r q : Answer) (x y : Lent) (h : PromiseOf g e s D M b r x) (k : PromiseOf g f z E N c q y) where
  -- LAW: "two traces that differ only in places, both accepted, get the same answer", and rows, from either engine
  pub accepted-agree : (t u : List Frame) → verdict_of g s D M (enough e s D M b) ≡ accepted t → verdict_of g z E N (enough f z E N c) ≡ accepted u → ButPlaces t u → Agree t r q x y
  accepted-agree t u i j d =
      let p = accepted-parts-of g s D M (enough e s D M b) t i in
      let o = accepted-parts-of g z E N (enough f z E N c) u j in
      agree-by D t p e f b c r q x y (profile_tree D t p e b r x (h.when_accepted t i))
      (profile_same D E t u p o d f c q y (profile_tree E u o f c q y (k.when_accepted u j)))

-- LAW: the two engines agree, with any room, in either family
pub engines_agree : (g : Family) (s : List ℕ) (D M : ℕ) (e f : Engine) (b c : Lent) (r q : Answer) (x y : Lent) → PromiseOf g e s D M b r x → PromiseOf g f s D M c q y
    → (t : List Frame) → verdict_of g s D M (enough e s D M b) ≡ accepted t → verdict_of g s D M (enough f s D M c) ≡ accepted t → Agree t r q x y
engines_agree g s D M e f b c r q x y h k t i j =
    let p = accepted-parts-of g s D M (enough e s D M b) t i in
    agree-by D t p e f b c r q x y (profile_tree D t p e b r x (h.when_accepted t i)) (profile_tree D t p f c q y (k.when_accepted t j))

-- LAW: "What the room held before makes no difference."
pub room-held : (g : Family) (s : List ℕ) (D M : ℕ) (e : Engine) (b c : Lent) (r q : Answer) (x y : Lent) → PromiseOf g e s D M b r x → PromiseOf g e s D M c q y
    → length b.scratch ≡ length c.scratch → length b.rows ≡ length c.rows → length b.marks ≡ length c.marks → r ≡ q
room-held g s D M e b c r q x y h k i j l = go (verdict_of g s D M (enough e s D M b)) refl
  where
    same : enough e s D M b ≡ enough e s D M c
    same = rw (i, j, l)

    also : (v : Verdict) → verdict_of g s D M (enough e s D M b) ≡ v → verdict_of g s D M (enough e s D M c) ≡ v
    also v a = ap (verdict_of g s D M) (sym same) ∙ a

    go : (v : Verdict) → verdict_of g s D M (enough e s D M b) ≡ v → r ≡ q
    go (accepted t) a = (engines_agree g s D M e e b c r q x y h k t a (also (accepted t) a)).answers
    go (refused n o) a = (h.when_refused n o a).0 ∙ sym (k.when_refused n o (also (refused n o) a)).0

-- LAW: "Places decide refusals 6 and 10 and nothing else": two runs of an engine, on texts that differ only in
-- places, with the same limits and room, neither refused with 10, give the same answer and leave the same scratch,
-- rows and marks
pub places : (w : Family) (e : Engine) (s z : List ℕ) (D M : ℕ) (before : Lent) (r q : Answer) (x y : Lent)
    → PromiseOf w e s D M before r x → PromiseOf w e z D M before q y
    → OnlyPlaces w s z → ¬ RefusedWith 10 r → ¬ RefusedWith 10 q → (r ≡ q) × (x ≡ y)
places w e s z D M before r q x y h k d a b =
    go (verdict_of w s D M room) (verdict_of w z D M room) refl refl
    (verdict-same w s z D M room d (λ n i. a (n, (h.when_refused 10 n i).0))
    (λ n i. b (n, (k.when_refused 10 n (lent (refused 10 n) i)).0)))
  where
    room : Bool
    room = enough e s D M before

    lent : (v : Verdict) → verdict_of w z D M room ≡ v → verdict_of w z D M (enough e z D M before) ≡ v
    lent v i = ap (verdict_of w z D M) (same-room e s z D M before (ap (λ (n : ℕ). n / 23) (sym d.same_length))) ∙ i

    go : (v o : Verdict) → verdict_of w s D M room ≡ v → verdict_of w z D M room ≡ o → SameVerdict v o → (r ≡ q) × (x ≡ y)
    go (accepted t) (accepted u) i j c =
        let p = accepted-parts-of w s D M room t i in
        let o = accepted-parts-of w z D M room u j in
        let f = profile_tree D t p e before r x (h.when_accepted t i) in
        let g = profile_tree D u o e before q y (k.when_accepted u (lent (accepted u) j)) in
        by_tree_unique e (sites t) p.body before r q x y f (profile_same D D t u p o c e before q y g)
    go (accepted t) (refused n l) i j c = absurd c
    go (refused n l) (accepted u) i j c = absurd c
    go (refused n l) (refused m o) i j c =
        let f = h.when_refused n l i in
        let g = k.when_refused m o (lent (refused m o) j) in
        (f.0 ∙ ap (λ (a : ℕ). Err (refusal a l)) c.0 ∙ ap (λ (a : ℕ). Err (refusal m a)) c.1 ∙ sym g.0, f.1 ∙ sym g.1)
