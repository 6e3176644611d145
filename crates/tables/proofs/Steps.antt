-- What the loops' results come to in chains.
use mathlib.Core.Path.{◌≡◌, refl, ap, ◌∙◌, sym, subst}
use mathlib.Core.Bool.{Bool, true, false, cond}
use mathlib.Core.Logic.{◌⊎◌, inl, inr}
use mathlib.Core.List.{List, [], ◌∷◌, ◌++◌, append_assoc}
use Prim.Native.Nat.{ℕ, zero, suc, ◌+◌, ◌*◌, ◌/◌, ◌%◌, ◌^◌, ◌≤◌, ◌<◌}
use native.Mathlib.Omega.{arith}
use lib.Bits.{bit_or}
use lib.Dec.{eqb, ltb}
use lib.ListN.{length, get_or, set, length-set}
use lib.Seq.{get_or-set_same, get_or-set_other}
use borrow.Author.Tests.{eqb-true, eqb-false}
use Rattle.chain.specs.Plan.{CostLine, weight, choose}
use Rattle.chain.proofs.Lists.{weight-append}
use Rattle.chain.proofs.Choose.{test}
use Rattle.trace.specs.Fold.{cost_at, its_instructions, Chains, joined, spawned, on_all}
use Rattle.trace.proofs.OnChain.{on-append}
use Rattle.walk.specs.Measure.{cycles, instructions}
use Rattle.walk.specs.declared.Open.{Open}
use Rattle.walk.specs.Reader.{alone}
use Rattle.walk.specs.Numbers.{spent_n, later_heavier, joined_n, child_longer, spawned_n, load, iload}
use Rattle.walk.proofs.Numbers.{spent-numbers, later-chosen, joined_numbers, child-chosen, spawned-numbers}
use Rattle.tables.specs.declared.Pair.{Pair}
use Rattle.tables.specs.Walks.{side, number, Table, Out, PairFits, pair_at, pair_sum, added, TakesIn, TookIn, Cleared, of_pair, Laid}
use Rattle.tables.specs.Blocks.{Shows, since_at, Holds, behind, Asks, Spent, Joined, Spawned}
use Rattle.tables.proofs.Number.{side-of, side_le, side-even, side_odd, by_number, number_le, number-choose, row-spent, word_spent}
use Rattle.tables.proofs.Fours.{pair_laid}
use Rattle.tables.proofs.Held.{since-first, since-later, behind-joined, behind-spawned, none_longest, some_longest, light, holds-two}

-- a cost of v cycles and j instructions in row s is put into the block at a: its numbers, and its bit in the word
module _ (t : List ℕ) (a w s v j : ℕ) where
  abbrev its : Pair
  its = record { cycles = cycles v; instructions = instructions j }

  abbrev summed : List ℕ
  summed = added t (a + 2 * s) its

  abbrev raised : List ℕ
  raised = set summed (a + w) (bit_or (get_or summed (a + w) 0) (2 ^ (s / 4)))

  module _ (sw : 2 * s + 2 ≤ w) (room : a + w < length t) where
    stored : Laid 2 (a + 2 * s) (of_pair (pair_sum (pair_at t (a + 2 * s)) its)) t summed
    stored = pair_laid t (a + 2 * s) (pair_sum (pair_at t (a + 2 * s)) its) (omega arith)

    -- all other numbers are as they were
    elsewhere : (i : ℕ) → Out (a + 2 * s) 2 i → (i ≡ a + w → ⊥) → get_or raised i 0 ≡ get_or t i 0
    elsewhere i q r = get_or-set_other summed (a + w) i (bit_or (get_or summed (a + w) 0) (2 ^ (s / 4))) 0 r ∙ stored.off i q

    -- each of the two has its measure more
    here : (k : ℕ) → k < 2 → get_or summed (a + 2 * s + k) 0 ≡ get_or t (a + 2 * s + k) 0 + side k v j
    here zero h = let e : a + 2 * s + 0 ≡ a + 2 * s = omega arith in stored.here 0 h ∙ ap (λ (i : ℕ). get_or t i 0 + v) (sym e)
    here (suc zero) h = stored.here 1 h
    here (suc (suc k)) h = absurd (omega arith)

    -- a chain's table is then that of the chain and the cost
    table-raised : (line : ℕ) (c : List CostLine) → 1 ≤ v → Table t a w c → Table raised a w (c ++ cost_at line s v j ∷ [])
    table-raised line c some h = by_number w (λ i. get_or raised (a + i) 0 ≡ number w (c ++ cost_at line s v j ∷ []) i) (λ i l. row i l (eqb s (i / 2)) refl) word
      where
        row : (i : ℕ) → i < w → (b : Bool) → eqb s (i / 2) ≡ b → get_or raised (a + i) 0 ≡ number w (c ++ cost_at line s v j ∷ []) i
        row i l true q =
            let z = eqb-true s (i / 2) q in
            let e : a + i ≡ a + 2 * s + i % 2 = omega arith in
            get_or-set_other summed (a + w) (a + i) (bit_or (get_or summed (a + w) 0) (2 ^ (s / 4))) 0 (λ z. omega arith)
            ∙ ap (λ (k : ℕ). get_or summed k 0) e
            ∙ here (i % 2) (omega arith)
            ∙ omega (arith, ap (λ (k : ℕ). get_or t k 0) e, h i (omega arith), row-spent w c line s v j i some l, ap (λ (b : Bool). cond b (side i v j) 0) q, side-of i v j)
        row i l false q = elsewhere (a + i) (λ x y. eqb-false s (i / 2) q (omega arith)) (λ z. omega arith) ∙ omega (arith, h i (omega arith), row-spent w c line s v j i some l, ap (λ (b : Bool). cond b (side i v j) 0) q)

        before : get_or summed (a + w) 0 ≡ number w c w
        before = stored.off (a + w) (λ x y. omega arith) ∙ h w (omega arith)

        word : get_or raised (a + w) 0 ≡ number w (c ++ cost_at line s v j ∷ []) w
        word =
            get_or-set_same summed (a + w) (bit_or (get_or summed (a + w) 0) (2 ^ (s / 4))) 0 (simp length-set room)
            ∙ ap (λ (x : ℕ). bit_or x (2 ^ (s / 4))) before
            ∙ sym (word_spent w c line s v j some)

-- behind a join one block holds all
join_held : (n w : ℕ) (t : List ℕ) (q : List CostLine) (k : Chains) → Shows n w t (alone ((q ++ k.p) ++ choose k.l k.c)) [] → Holds n w t (behind q (joined k)) []
join_held n w t q k s = subst (λ (x : Chains). Holds n w t x []) (behind-joined q k) (holds-two n w t ((q ++ k.p) ++ choose k.l k.c) [] s)

module _ (n w : ℕ) (wn : n ≡ w + 1) (t : List ℕ) where
  -- no child was the longest: the prefix's block has the continuation
  pub join_none : (f : Open) → f.longest.0 ≡ 0 → (b : Bool) → b ≡ later_heavier f → Joined n w t f (joined_n b f) t
  join_none f m b is q k e h =
      let z = none_longest f k e m in
      let s = h.first z in (
        joined_numbers f k e b is,
        join_held n w t q k (record { P = λ i l. s.P i l ∙ sym (number-choose w (q ++ k.p) k.l k.c z i l); L = s.L; C = s.C; G = s.G; zero = s.zero }),
      )

  -- what a step over the blocks at b, e and 3 * n leaves behind them
  left_out : {b e : ℕ} {t' : List ℕ} → TookIn b e (3 * n) w t t' → b ≤ 2 * n → e ≤ 2 * n → (j : ℕ) → 4 * n ≤ j → get_or t' j 0 ≡ get_or t j 0
  left_out d hb he j h = d.rest j (λ p q. omega arith) (λ p q. omega arith) (λ p q. omega arith) (λ p q. omega arith)

  -- the continuation was heavier
  pub join_since : (f : Open) (t' : List ℕ) → TookIn (2 * n) n (3 * n) w t t' → (f.longest.0 ≡ 0 → ⊥) → (b : Bool) → b ≡ later_heavier f → b ≡ true → Joined n w t f (joined_n b f) t'
  join_since f t' d m b is wins q k e h =
      let s = h.later (some_longest f k e m) in (
        joined_numbers f k e b is,
        join_held n w t' q k
            (subst (λ (x : List CostLine). Shows n w t' (alone ((q ++ k.p) ++ x)) []) (sym (later-chosen f k e true (sym wins ∙ is)))
            (record { P = d.sums (q ++ k.p) k.c s.P s.C; L = d.comes [] s.G; C = d.gone; G = d.free; zero = λ j l. left_out d (omega arith) (omega arith) j l ∙ s.zero j l })),
      )

  -- the longest child was, or they weigh the same
  pub join_longest : (f : Open) (t' : List ℕ) → TookIn n (2 * n) (3 * n) w t t' → (f.longest.0 ≡ 0 → ⊥) → (b : Bool) → b ≡ later_heavier f → b ≡ false → Joined n w t f (joined_n b f) t'
  join_longest f t' d m b is loses q k e h =
      let s = h.later (some_longest f k e m) in (
        joined_numbers f k e b is,
        join_held n w t' q k
            (subst (λ (x : List CostLine). Shows n w t' (alone ((q ++ k.p) ++ x)) []) (sym (later-chosen f k e false (sym loses ∙ is)))
            (record { P = d.sums (q ++ k.p) k.l s.P s.L; L = d.gone; C = d.comes [] s.G; G = d.free; zero = λ j l. left_out d (omega arith) (omega arith) j l ∙ s.zero j l })),
      )

  -- no child was the longest before the spawned one: its table is in its place
  pub spawned-first : (f : Open) (c : Open) → f.longest.0 ≡ 0 → (b : Bool) → b ≡ child_longer c f → Spawned n w t f c (spawned_n b c f) t
  spawned-first f c m b is q k g e v h =
      let z = none_longest f k e m in
      (spawned-numbers f k e c g v b is, subst (λ (x : Chains). Holds n w t x []) (behind-spawned q g k) (go z (test (weight k.l) (weight k.c + weight g))))
    where
      go : weight k.l ≡ 0 → ((weight k.l < weight k.c + weight g) × (ltb (weight k.l) (weight k.c + weight g) ≡ true)) ⊎ ((weight k.c + weight g ≤ weight k.l) × (ltb (weight k.l) (weight k.c + weight g) ≡ false))
          → Holds n w t (spawned g (behind q k)) []
      go z (inl c) = simp c.1 (holds-two n w t ((q ++ k.p) ++ k.c) g (h.first z))
      go z (inr c) = simp c.1 (record { first = λ x. light n w t ((q ++ k.p) ++ k.c) g (omega (arith, c.0)) (h.first z); later = λ x. absurd (x z) })

  -- the spawned child is the longest from now on
  pub spawned_longer : (f : Open) (c : Open) (t' : List ℕ) → TookIn (2 * n) n (3 * n) w t t' → (f.longest.0 ≡ 0 → ⊥) → (b : Bool) → b ≡ child_longer c f → b ≡ true → Spawned n w t f c (spawned_n b c f) t'
  spawned_longer f c t' d m b is wins q k g e v h =
      let s = h.later (some_longest f k e m) in
      let p = q ++ k.p in (
        spawned-numbers f k e c g v b is,
        subst (λ (x : Chains). Holds n w t' x []) (ap (λ (x : List CostLine). record { p = x; l = g; c = [] }) (append_assoc q k.p k.c) ∙ ap (behind q) (sym (child-chosen f k e c g v true (sym wins ∙ is))))
            (holds-two n w t' (p ++ k.c) g
            (record { P = d.sums p k.c s.P s.C; L = d.comes g s.G; C = d.gone; G = d.free; zero = λ j l. left_out d (omega arith) (omega arith) j l ∙ s.zero j l })),
      )

  -- it is not
  pub spawned-shorter : (f : Open) (c : Open) (t₁ : List ℕ) → Cleared (3 * n) (w + 1) 0 (w + 1) t t₁ → (f.longest.0 ≡ 0 → ⊥) → (b : Bool) → b ≡ child_longer c f → b ≡ false → Spawned n w t f c (spawned_n b c f) t₁
  spawned-shorter f c t₁ z m b is loses q k g e v h =
      let x = some_longest f k e m in
      let s = h.later x in (
        spawned-numbers f k e c g v b is,
        subst (λ (x : Chains). Holds n w t₁ (behind q x) []) (sym (child-chosen f k e c g v false (sym loses ∙ is)))
            (record {
              first = λ o. absurd (x o);
              later = λ o.
                  record {
                    P = λ i l. z.rest (0 + i) (λ j a b c d. omega arith) ∙ s.P i l;
                    L = λ i l. z.rest (n + i) (λ j a b c d. omega arith) ∙ s.L i l;
                    C = λ i l. z.rest (2 * n + i) (λ j a b c d. omega arith) ∙ s.C i l;
                    G = λ i l. z.gone i (omega arith) (omega arith) (omega arith);
                    zero = λ j l. z.rest j (λ i p q r e. omega arith) ∙ s.zero j l;
                  };
            }),
      )

  -- What the steps ask for where a child is the longest: the continuation is taken in, and what is at the front of the
  -- child's part comes to the longest child's place,
  pub since_takes : 4 * n ≤ length t → (k : Chains) (c : List CostLine) → Shows n w t k c → w % 2 ≡ 0 → weight k.p + weight k.c < 2 ^ 64 → on_all its_instructions k.p + on_all its_instructions k.c < 2 ^ 64 → TakesIn (2 * n) n (3 * n) w t
  since_takes room k c s even fits ifits =
      record {
        apart = record { at_b = omega arith; at_e = omega arith; b_g = omega arith; e_g = omega arith; b_e = λ i j x y e. omega arith; room = omega arith };
        p = k.p;
        x = k.c;
        P = s.P;
        B = s.C;
        E = (k.l, s.L);
        G = (c, s.G);
        even = even;
        fits = fits;
        ifits = ifits;
      }

  -- or the longest child is, and it comes to the continuation's
  pub longest_takes : 4 * n ≤ length t → (k : Chains) (c : List CostLine) → Shows n w t k c → w % 2 ≡ 0 → weight k.p + weight k.l < 2 ^ 64 → on_all its_instructions k.p + on_all its_instructions k.l < 2 ^ 64 → TakesIn n (2 * n) (3 * n) w t
  longest_takes room k c s even fits ifits =
      record {
        apart = record { at_b = omega arith; at_e = omega arith; b_g = omega arith; e_g = omega arith; b_e = λ i j x y e. omega arith; room = omega arith };
        p = k.p;
        x = k.l;
        P = s.P;
        B = s.L;
        E = (k.c, s.C);
        G = (c, s.G);
        even = even;
        fits = fits;
        ifits = ifits;
      }

  -- a cost, where no child is the longest
  spent-first : (f : Open) (s v j : ℕ) → 2 * s + 2 ≤ w → 1 ≤ v → n ≤ length t → f.longest.0 ≡ 0 → Spent n w s v j t f (spent_n v f) (raised t 0 w s v j)
  spent-first f s v j sw some room m q k e h =
      let z = none_longest f k e m in
      let o = h.first z in
      let in_it : 0 + w < length t = omega arith in
      let other = elsewhere t 0 w s v j sw in_it in (
        ap (spent_n v) e ∙ spent-numbers f.at f.work.0 s v j k,
        record {
          first = λ x.
              record {
                P = subst (Table (raised t 0 w s v j) 0 w) (append_assoc (q ++ k.p) k.c (cost_at f.at s v j ∷ [])) (table-raised t 0 w s v j sw in_it f.at ((q ++ k.p) ++ k.c) some o.P);
                L = λ i l. other (n + i) (λ x y. omega arith) (λ e. omega arith) ∙ o.L i l;
                C = λ i l. other (2 * n + i) (λ x y. omega arith) (λ e. omega arith) ∙ o.C i l;
                G = λ i l. other (3 * n + i) (λ x y. omega arith) (λ e. omega arith) ∙ o.G i l;
                zero = λ i l. other i (λ x y. omega arith) (λ e. omega arith) ∙ o.zero i l;
              };
          later = λ x. absurd (x z);
        },
      )

  -- a cost, where a child is
  spent-later : (f : Open) (s v j : ℕ) → 2 * s + 2 ≤ w → 1 ≤ v → 4 * n ≤ length t → (f.longest.0 ≡ 0 → ⊥) → Spent n w s v j t f (spent_n v f) (raised t (2 * n) w s v j)
  spent-later f s v j sw some room m q k e h =
      let z = some_longest f k e m in
      let o = h.later z in
      let in_it : 2 * n + w < length t = omega arith in
      let other = elsewhere t (2 * n) w s v j sw in_it in (
        ap (spent_n v) e ∙ spent-numbers f.at f.work.0 s v j k,
        record {
          first = λ x. absurd (z x);
          later = λ x.
              record {
                P = λ i l. other (0 + i) (λ x y. omega arith) (λ e. omega arith) ∙ o.P i l;
                L = λ i l. other (n + i) (λ x y. omega arith) (λ e. omega arith) ∙ o.L i l;
                C = table-raised t (2 * n) w s v j sw in_it f.at k.c some o.C;
                G = λ i l. other (3 * n + i) (λ x y. omega arith) (λ e. omega arith) ∙ o.G i l;
                zero = λ i l. other i (λ x y. omega arith) (λ e. omega arith) ∙ o.zero i l;
              };
        },
      )

  -- a cost, wherever the continuation's table is
  pub spent-done : (f : Open) (s v j : ℕ) → 2 * s + 2 ≤ w → 1 ≤ v → n ≤ length t → ((f.longest.0 ≡ 0 → ⊥) → 4 * n ≤ length t) → (a : ℕ) → a ≡ since_at n f.longest.0 → (t₁ : List ℕ) → t₁ ≡ summed t a w s v j
      → (t' : List ℕ) → t' ≡ set t₁ (a + w) (bit_or (get_or t₁ (a + w) 0) (2 ^ (s / 4))) → (r : Open) → r ≡ spent_n v f → Spent n w s v j t f r t'
  spent-done f s v j sw some room wide a ea t₁ e₁ t' et r er = rw (er, et, e₁, ea) (go (eqb f.longest.0 0) refl)
    where
      go : (b : Bool) → eqb f.longest.0 0 ≡ b → Spent n w s v j t f (spent_n v f) (raised t (since_at n f.longest.0) w s v j)
      go true q = let m = eqb-true f.longest.0 0 q in rw (since-first n f.longest.0 m) (spent-first f s v j sw some room m)
      go false q = let m = eqb-false f.longest.0 0 q in rw (since-later n f.longest.0 m) (spent-later f s v j sw some (wide m) m)

-- what a step may rely on
module _ {n w : ℕ} {t : List ℕ} {f : Open} {u v j : ℕ} (r : Asks n w t f u v j) where
  -- the invocation's numbers, the child's and what is to come fit together
  pub load_fits : f.prefix.0 + (f.longest.0 + f.since.0) + (u + v) < 2 ^ 64
  load_fits = omega (arith, r.fits, ap (λ (x : Open). x.prefix.0) r.weighs, ap (λ (x : Open). x.longest.0) r.weighs, ap (λ (x : Open). x.since.0) r.weighs)

  -- so do the tables
  pub prefix_fits : weight (r.q ++ r.k.p) + (weight r.k.l + weight r.k.c) + (u + v) < 2 ^ 64
  prefix_fits = omega (arith, r.fits, weight-append r.q r.k.p)

  pub iprefix_fits : on_all its_instructions (r.q ++ r.k.p) + (on_all its_instructions r.k.l + on_all its_instructions r.k.c) + j < 2 ^ 64
  iprefix_fits = omega (arith, r.ifits, on-append its_instructions r.q r.k.p)

  -- a number of the block with the continuation
  since_le : (i : ℕ) → i < w → get_or t (since_at n f.longest.0 + i) 0 ≤ side i (weight r.q + load r.k) (on_all its_instructions r.q + iload r.k)
  since_le i l = go (eqb f.longest.0 0) refl
    where
      go : (b : Bool) → eqb f.longest.0 0 ≡ b → get_or t (since_at n f.longest.0 + i) 0 ≤ side i (weight r.q + load r.k) (on_all its_instructions r.q + iload r.k)
      go true x =
          let m = eqb-true f.longest.0 0 x in
          let s = r.holds.first (none_longest f r.k r.weighs m) in
          let c = (r.q ++ r.k.p) ++ r.k.c in
          rw (since-first n f.longest.0 m)
          (omega (arith, s.P i (omega arith), number_le w c i l, side_le i (weight c) (on_all its_instructions c) (weight r.q + load r.k) (on_all its_instructions r.q + iload r.k) (omega (arith, weight-append (r.q ++ r.k.p) r.k.c, weight-append r.q r.k.p)) (omega (arith, on-append its_instructions (r.q ++ r.k.p) r.k.c, on-append its_instructions r.q r.k.p))))
      go false x =
          let m = eqb-false f.longest.0 0 x in
          let s = r.holds.later (some_longest f r.k r.weighs m) in
          let c = r.k.c in
          rw (since-later n f.longest.0 m) (omega (arith, s.C i (omega arith), number_le w c i l, side_le i (weight c) (on_all its_instructions c) (weight r.q + load r.k) (on_all its_instructions r.q + iload r.k) (omega arith) (omega arith)))

  -- so a cost can be added to row s of it
  pub row_fits : (s : ℕ) → 2 * s + 2 ≤ w → PairFits (pair_at t (since_at n f.longest.0 + 2 * s)) (record { cycles = cycles v; instructions = instructions j })
  row_fits s h =
      let a = since_at n f.longest.0 in
      let e : a + 2 * s + 1 ≡ a + (2 * s + 1) = omega arith in (
        omega (arith, since_le (2 * s) (omega arith), side-even s (weight r.q + load r.k) (on_all its_instructions r.q + iload r.k), r.fits),
        omega (arith, ap (λ (i : ℕ). get_or t i 0) e, since_le (2 * s + 1) (omega arith), side_odd s (weight r.q + load r.k) (on_all its_instructions r.q + iload r.k), r.ifits),
      )

  -- the block with the continuation is in the scratch
  pub since-room : since_at n f.longest.0 + w < length t
  since-room = go (eqb f.longest.0 0) refl
    where
      go : (b : Bool) → eqb f.longest.0 0 ≡ b → cond b 0 (2 * n) + w < length t
      go true e = omega (arith, r.blocks, r.room)
      go false e = omega (arith, r.blocks, r.wide (eqb-false f.longest.0 0 e))
