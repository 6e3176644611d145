-- A part of the scratch from a place on, as it is lent and as it comes back; and what its tables then are.
use mathlib.Core.Path.{◌≡◌, refl, ap, ◌∙◌, sym, subst}
use mathlib.Core.Bool.{Bool, true, false, cond}
use mathlib.Core.Logic.{◌⊎◌, inl, inr}
use mathlib.Core.List.{List, [], ◌++◌, append-nil, append_assoc}
use Prim.Native.Nat.{ℕ, suc, ◌+◌, ◌*◌, ◌-◌, ◌≤◌, ◌<◌}
use native.Mathlib.Nat.{suc-mul}
use native.Mathlib.Decide.{dec_lt}
use native.Mathlib.Omega.{arith}
use lib.Dec.{eqb}
use lib.ListN.{length, take, drop, get_or, length-drop, get_or-append}
use lib.Seq.{take-length, drop-length, length-take-le, get_or-take, get_or-drop, get_or-append-add}
use borrow.Author.Tests.{eqb-true, eqb-false, eq-eqb, ne_eqb}
use borrow.Rule.Slice.PartMut.{put_mid, same_len_mid}
use Rattle.chain.specs.Plan.{CostLine, weight}
use Rattle.trace.specs.Fold.{Chains, nothing, called}
use Rattle.walk.specs.Numbers.{load_by}
use Rattle.walk.specs.Reader.{alone}
use Rattle.tables.specs.Blocks.{Shows, since_at, part_at, Holds}
use Rattle.tables.specs.Walks.{Table}
use Rattle.tables.proofs.Held.{since-first, since-later, part-first, part-later}

-- the part from o on, as it is lent and as it comes back
module _ (o : ℕ) (t : List ℕ) (h : o ≤ length t) where
  pub part-is : take (length t - o) (drop o t) ≡ drop o t
  part-is = ap (λ (k : ℕ). take k (drop o t)) (sym (length-drop o t)) ∙ take-length (drop o t)

  back_is : (y : List ℕ) → put_mid o (length t - o) t y ≡ take o t ++ y
  back_is y =
      let e : drop (length t - o) (drop o t) ≡ [] = ap (λ (k : ℕ). drop k (drop o t)) (sym (length-drop o t)) ∙ drop-length (drop o t) in
      ap (λ (z : List ℕ). take o t ++ (y ++ z)) e ∙ ap (λ (z : List ℕ). take o t ++ z) (append-nil y)

  pub back_low : (y : List ℕ) (j : ℕ) → j < o → get_or (put_mid o (length t - o) t y) j 0 ≡ get_or t j 0
  back_low y j l =
      ap (λ (z : List ℕ). get_or z j 0) (back_is y)
      ∙ get_or-append (take o t) y 0 j (omega (arith, length-take-le o t h))
      ∙ get_or-take o t j 0 l

  pub back_high : (y : List ℕ) (j : ℕ) → get_or (put_mid o (length t - o) t y) (o + j) 0 ≡ get_or y j 0
  back_high y j =
      ap (λ (z : List ℕ). get_or z (o + j) 0) (back_is y)
      ∙ ap (λ (q : ℕ). get_or (take o t ++ y) (q + j) 0) (sym (length-take-le o t h))
      ∙ get_or-append-add (take o t) y j 0

  pub part-at : (j : ℕ) → get_or (take (length t - o) (drop o t)) j 0 ≡ get_or t (o + j) 0
  part-at j = ap (λ (z : List ℕ). get_or z j 0) part-is ∙ get_or-drop o t j 0

-- where an invocation has come to one chain, all but that chain's table is zero
pub own-only : (n w : ℕ) → n ≡ w + 1 → (t : List ℕ) (c : List CostLine) → Shows n w t (alone c) [] → (j : ℕ) → n ≤ j → get_or t j 0 ≡ 0
own-only n w wn t c s j h = go (dec_lt j (2 * n)) (dec_lt j (3 * n)) (dec_lt j (4 * n))
  where
    from : (a : ℕ) → a ≤ j → get_or t j 0 ≡ get_or t (a + (j - a)) 0
    from a l = let e : j ≡ a + (j - a) = omega arith in ap (λ (i : ℕ). get_or t i 0) e

    go : Dec (j < 2 * n) → Dec (j < 3 * n) → Dec (j < 4 * n) → get_or t j 0 ≡ 0
    go (yes l) x y = from n h ∙ s.L (j - n) (omega arith)
    go (no l) (yes x) y = from (2 * n) (omega arith) ∙ s.C (j - 2 * n) (omega arith)
    go (no l) (no x) (yes y) = from (3 * n) (omega arith) ∙ s.G (j - 3 * n) (omega arith)
    go (no l) (no x) (no y) = s.zero j (omega arith)

-- where all but a chain's table is zero, the invocation has come to that chain
pub alone-is : (n w : ℕ) → n ≡ w + 1 → (t : List ℕ) (c : List CostLine) → Table t 0 w c → ((j : ℕ) → n ≤ j → get_or t j 0 ≡ 0) → Shows n w t (alone c) []
alone-is n w wn t c h z =
    record {
      P = h;
      L = λ i l. z (n + i) (omega arith);
      C = λ i l. z (2 * n + i) (omega arith);
      G = λ i l. z (3 * n + i) (omega arith);
      zero = λ j l. z j (omega arith);
    }

-- the chain whose table the block with the continuation is
abbrev pub standing : Chains → List CostLine
standing k = cond (eqb (weight k.l) 0) (k.p ++ k.c) k.c

standing-first : (k : Chains) → weight k.l ≡ 0 → standing k ≡ k.p ++ k.c
standing-first k e = ap (λ (b : Bool). cond b (k.p ++ k.c) k.c) (eq-eqb (weight k.l) 0 e)

standing-later : (k : Chains) → (weight k.l ≡ 0 → ⊥) → standing k ≡ k.c
standing-later k e = ap (λ (b : Bool). cond b (k.p ++ k.c) k.c) (ne_eqb (weight k.l) 0 e)

-- by whatever a chain comes to, it comes to no more than the three chains together
pub standing_le : (m : List CostLine → ℕ) → ((a b : List CostLine) → m (a ++ b) ≡ m a + m b) → (k : Chains) → m (standing k) ≤ load_by m k
standing_le m m-append k = go (eqb (weight k.l) 0)
  where
    go : (b : Bool) → m (cond b (k.p ++ k.c) k.c) ≤ load_by m k
    go true = omega (arith, m-append k.p k.c)
    go false = omega arith

module _ (n w : ℕ) (wn : n ≡ w + 1) (t : List ℕ) where
  -- behind the prefix's block all is zero as long as no child is the longest
  first-zero : (c : List CostLine) → Shows n w t (alone c) [] → (j : ℕ) → get_or t (n + j) 0 ≡ 0
  first-zero c s j = own-only n w wn t c s (n + j) (omega arith)

  -- and behind the three blocks in any case
  later-zero : (k : Chains) → Shows n w t k [] → (j : ℕ) → get_or t (3 * n + j) 0 ≡ 0
  later-zero k s j = go (dec_lt j n)
    where
      go : Dec (j < n) → get_or t (3 * n + j) 0 ≡ 0
      go (yes l) = s.G j (omega arith)
      go (no l) = s.zero (3 * n + j) (omega arith)

  -- behind the continuation's block too
  since-zero : (k : Chains) → Shows n w t k [] → (j : ℕ) → n ≤ j → get_or t (2 * n + j) 0 ≡ 0
  since-zero k s j l = let e : 2 * n + j ≡ 3 * n + (j - n) = omega arith in ap (λ (i : ℕ). get_or t i 0) e ∙ later-zero k s (j - n)

  -- a part that begins with a chain's table and has zeros behind it shows that chain
  part-alone : (o : ℕ) → o ≤ length t → (c : List CostLine) → Table t o w c → ((j : ℕ) → n ≤ j → get_or t (o + j) 0 ≡ 0) → Shows n w (take (length t - o) (drop o t)) (alone c) []
  part-alone o l c table z = alone-is n w wn (take (length t - o) (drop o t)) c (λ i b. part-at o t l (0 + i) ∙ from i ∙ table i b) (λ j b. part-at o t l j ∙ z j b)
    where
      from : (i : ℕ) → get_or t (o + (0 + i)) 0 ≡ get_or t (o + i) 0
      from i = let e : o + (0 + i) ≡ o + i = omega arith in ap (λ (j : ℕ). get_or t j 0) e

  -- A child's part comes back from o on, y: the table of a chain is at the front of it, and zeros are behind.
  module _ (o : ℕ) (l : o ≤ length t) (c : List CostLine) (y : List ℕ) (d : Shows n w y (alone c) []) where
    abbrev back : List ℕ
    back = put_mid o (length t - o) t y

    below-back : (j : ℕ) → j < o → get_or back j 0 ≡ get_or t j 0
    below-back = back_low o t l y

    back-table : Table back o w c
    back-table i b = let z : i ≡ 0 + i = omega arith in back_high o t l y i ∙ ap (λ (j : ℕ). get_or y j 0) z ∙ d.P i b

    back-zero : (j : ℕ) → o + n ≤ j → get_or back j 0 ≡ 0
    back-zero j b =
        let z : o + (j - o) ≡ j = omega arith in
        ap (λ (q : ℕ). get_or back q 0) (sym z) ∙ back_high o t l y (j - o) ∙ own-only n w wn y c d (j - o) (omega arith)

  -- a spawned child leaves its chain's table at the front of its part: where no child is the longest,
  back-first : n ≤ length t → (p c : List CostLine) (y : List ℕ) → Shows n w t (alone p) [] → Shows n w y (alone c) [] → Shows n w (put_mid n (length t - n) t y) (record { p = p; l = c; c = [] }) []
  back-first h p c y s d =
      record {
        P = λ i l. below-back n h c y d (0 + i) (omega arith) ∙ s.P i l;
        L = back-table n h c y d;
        C = λ i l. back-zero n h c y d (2 * n + i) (omega arith);
        G = λ i l. back-zero n h c y d (3 * n + i) (omega arith);
        zero = λ j l. back-zero n h c y d j (omega arith);
      }

  -- and where one is
  back-later : 3 * n ≤ length t → (k : Chains) (c : List CostLine) (y : List ℕ) → Shows n w t k [] → Shows n w y (alone c) [] → Shows n w (put_mid (3 * n) (length t - 3 * n) t y) k c
  back-later h k c y s d =
      let kept = below-back (3 * n) h c y d in
      record {
        P = λ i l. kept (0 + i) (omega arith) ∙ s.P i l;
        L = λ i l. kept (n + i) (omega arith) ∙ s.L i l;
        C = λ i l. kept (2 * n + i) (omega arith) ∙ s.C i l;
        G = back-table (3 * n) h c y d;
        zero = λ j l. back-zero (3 * n) h c y d j (omega arith);
      }

  -- a called child adds its chain's table to the one at the front of its part: where no child is the longest,
  since-back-first : (p c g : List CostLine) (y : List ℕ) → Shows n w y (alone ((p ++ c) ++ g)) [] → Shows n w (put_mid 0 (length t - 0) t y) (alone (p ++ (c ++ g))) []
  since-back-first p c g y d =
      let h : 0 ≤ length t = omega arith in
      let all = (p ++ c) ++ g in
      subst (λ (x : List CostLine). Shows n w (put_mid 0 (length t - 0) t y) (alone x) []) (append_assoc p c g)
      (alone-is n w wn (put_mid 0 (length t - 0) t y) all (back-table 0 h all y d) (λ j l. back-zero 0 h all y d j (omega arith)))

  -- and where one is
  since-back-later : 2 * n ≤ length t → (k : Chains) (g : List CostLine) (y : List ℕ) → Shows n w t k [] → Shows n w y (alone (k.c ++ g)) [] → Shows n w (put_mid (2 * n) (length t - 2 * n) t y) (called g k) []
  since-back-later h k g y s d =
      let c = k.c ++ g in
      let kept = below-back (2 * n) h c y d in
      record {
        P = λ i l. kept (0 + i) (omega arith) ∙ s.P i l;
        L = λ i l. kept (n + i) (omega arith) ∙ s.L i l;
        C = back-table (2 * n) h c y d;
        G = λ i l. back-zero (2 * n) h c y d (3 * n + i) (omega arith);
        zero = λ j l. back-zero (2 * n) h c y d j (omega arith);
      }

  -- a spawned child's part
  module _ (v o : ℕ) (is : o ≡ part_at n v) (h : o ≤ length t) (k : Chains) (e : v ≡ weight k.l) (s : Holds n w t k []) where
    -- it is lent zeros
    pub child-none : Shows n w (take (length t - o) (drop o t)) nothing []
    child-none = go (eqb v 0) refl
      where
        go : (b : Bool) → eqb v 0 ≡ b → Shows n w (take (length t - o) (drop o t)) nothing []
        go true q =
            let m = is ∙ part-first n v (eqb-true v 0 q) in
            let z = first-zero (k.p ++ k.c) (s.first (sym e ∙ eqb-true v 0 q)) in
            rw m (part-alone n (rw m at h) [] (λ i l. z i) (λ j l. z j))
        go false q =
            let m = is ∙ part-later n v (eqb-false v 0 q) in
            let z = later-zero k (s.later (λ z. eqb-false v 0 q (e ∙ z))) in
            rw m (part-alone (3 * n) (rw m at h) [] (λ i l. z i) (λ j l. z j))

    -- it comes back with the child's table
    pub child-back : (c : List CostLine) (y : List ℕ) → Shows n w y (alone c) [] → Holds n w (put_mid o (length t - o) t y) k c
    child-back c y d =
        record {
          first = λ q. let m = is ∙ part-first n v (e ∙ q) in rw m (back-first (rw m at h) (k.p ++ k.c) c y (s.first q) d);
          later = λ q. let m = is ∙ part-later n v (λ z. q (sym e ∙ z)) in rw m (back-later (rw m at h) k c y (s.later q) d);
        }

  -- a called child's part
  module _ (v o : ℕ) (is : o ≡ since_at n v) (h : o ≤ length t) (k : Chains) (e : v ≡ weight k.l) (s : Holds n w t k []) where
    -- it begins with the table of the continuation
    pub since-shows : Shows n w (take (length t - o) (drop o t)) (alone (standing k)) []
    since-shows = go (eqb v 0) refl
      where
        go : (b : Bool) → eqb v 0 ≡ b → Shows n w (take (length t - o) (drop o t)) (alone (standing k)) []
        go true q =
            let m = eqb-true v 0 q in
            let f = s.first (sym e ∙ m) in
            rw (is ∙ since-first n v m, standing-first k (sym e ∙ m)) (part-alone 0 (omega arith) (k.p ++ k.c) f.P (λ j l. own-only n w wn t (k.p ++ k.c) f (0 + j) (omega arith)))
        go false q =
            let m = eqb-false v 0 q in
            let at = is ∙ since-later n v m in
            let f = s.later (λ z. m (e ∙ z)) in
            rw (at, standing-later k (λ z. m (e ∙ z))) (part-alone (2 * n) (rw at at h) k.c f.C (since-zero k f))

    -- it comes back with the child's table added to it
    pub since-back : (g : List CostLine) (y : List ℕ) → Shows n w y (alone (standing k ++ g)) [] → Holds n w (put_mid o (length t - o) t y) (called g k) []
    since-back g y d =
        record {
          first = λ q. rw (is ∙ since-first n v (e ∙ q)) (since-back-first k.p k.c g y (subst (λ (x : List CostLine). Shows n w y (alone (x ++ g)) []) (standing-first k q) d));
          later = λ q.
              let m = is ∙ since-later n v (λ z. q (sym e ∙ z)) in
              rw m (since-back-later (rw m at h) k g y (s.later q) (subst (λ (x : List CostLine). Shows n w y (alone (x ++ g)) []) (standing-later k q) d));
        }

-- what is one of two numbers is at most what both are
cond_most : (b : Bool) (x z m : ℕ) → x ≤ m → z ≤ m → cond b x z ≤ m
cond_most true x z m h i = h
cond_most false x z m h i = i

-- a child's part begins at most three blocks behind its caller's
pub part_in : (n v o : ℕ) → (o ≡ since_at n v) ⊎ (o ≡ part_at n v) → o ≤ 3 * n
part_in n v o (inl e) = omega (arith, e, cond_most (eqb v 0) 0 (2 * n) (3 * n) (omega arith) (omega arith))
part_in n v o (inr e) = omega (arith, e, cond_most (eqb v 0) n (3 * n) (3 * n) (omega arith) (omega arith))

-- a part goes up to the end of the scratch
pub part_length : (o : ℕ) (t : List ℕ) → o ≤ length t → length (take (length t - o) (drop o t)) ≡ length t - o
part_length o t h = ap length (part-is o t h) ∙ length-drop o t

-- the scratch is as long as it was when a part has come back
pub back-length : (o : ℕ) (t y : List ℕ) → length y ≡ length (take (length t - o) (drop o t)) → length (put_mid o (length t - o) t y) ≡ length t
back-length o t y e = same_len_mid o (length t - o) t y e

-- the room of one invocation more, x, among that of all that may open
pub one_more : (deep x : ℕ) → 1 ≤ deep → deep * x ≡ (deep - 1) * x + x
one_more deep x l =
    let e : deep ≡ suc (deep - 1) = omega arith in
    ap (λ (y : ℕ). y * x) e ∙ suc-mul (deep - 1) x
