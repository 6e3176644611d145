-- What the loops over the numbers of tables do: nothing, numbers that are zero, and some numbers and then more.
use mathlib.Core.Path.{◌≡◌, refl, ◌∙◌, sym}
use mathlib.Core.List.{List}
use Prim.Native.Nat.{ℕ, ◌+◌, ◌-◌, ◌^◌, ◌≤◌, ◌<◌}
use native.Mathlib.Decide.{dec_lt}
use native.Mathlib.Omega.{arith}
use Rattle.std.proofs.lemmas.List.{places}
use borrow.Rule.Slice.PartMut.{put_mid}
use lib.ListN.{length, get_or, set, replicate, length-set}
use lib.Seq.{get_or-set_same, get_or-set_other}
use Rattle.tables.specs.Walks.{Apart, SumsFit, Off, Taken, Cleared}

-- fewer numbers of the blocks lie apart too
pub fewer : {w b e g : ℕ} {t : List ℕ} (v : ℕ) → v ≤ w → Apart w b e g t → Apart v b e g t
fewer v h a =
    record {
      at_b = omega (arith, a.at_b);
      at_e = omega (arith, a.at_e);
      b_g = omega (arith, a.b_g);
      e_g = omega (arith, a.e_g);
      b_e = λ i k l m. a.b_e i k (omega arith) (omega arith);
      room = omega (arith, a.room);
    }

-- and in a scratch of the same length
pub apart_in : {w b e g : ℕ} {t : List ℕ} (t' : List ℕ) → length t' ≡ length t → Apart w b e g t → Apart w b e g t'
apart_in t' h a = record { at_b = a.at_b; at_e = a.at_e; b_g = a.b_g; e_g = a.e_g; b_e = a.b_e; room = omega (arith, a.room) }

module _ {w b e g : ℕ} {t : List ℕ} (a : Apart w b e g t) where
  -- number i of each of the four blocks is no other number of any
  pub off-p : (i k : ℕ) → i < w → k < w → (i ≡ k → ⊥) → Off b e g k i
  off-p i k h l d = record { not_p = d; not_b = λ q. omega (arith, a.at_b); not_e = λ q. omega (arith, a.at_e); not_g = λ q. omega (arith, a.at_b, a.b_g) }

  pub off-b : (i k : ℕ) → i < w → k < w → (i ≡ k → ⊥) → Off b e g k (b + i)
  off-b i k h l d = record { not_p = λ q. omega (arith, a.at_b); not_b = λ q. d (omega arith); not_e = λ q. a.b_e i k h l q; not_g = λ q. omega (arith, a.b_g) }

  pub off_e : (i k : ℕ) → i < w → k < w → (i ≡ k → ⊥) → Off b e g k (e + i)
  off_e i k h l d = record { not_p = λ q. omega (arith, a.at_e); not_b = λ q. a.b_e k i l h (sym q); not_e = λ q. d (omega arith); not_g = λ q. omega (arith, a.e_g) }

  pub off-g : (i k : ℕ) → i < w → k < w → (i ≡ k → ⊥) → Off b e g k (g + i)
  off-g i k h l d = record { not_p = λ q. omega (arith, a.at_b, a.b_g); not_b = λ q. omega (arith, a.b_g); not_e = λ q. omega (arith, a.e_g); not_g = λ q. d (omega arith) }

  -- no number is taken
  pub taken_none : (from : ℕ) → Taken b e g w from from t t
  taken_none from = record { sums = λ i x y z. absurd (omega arith); gone = λ i x y z. absurd (omega arith); comes = λ i x y z. absurd (omega arith); free = λ i x y z. absurd (omega arith); rest = λ j h. refl }

  -- numbers that are zero in the three blocks are taken by themselves
  pub taken-zero : (from stop : ℕ) → ((i : ℕ) → from ≤ i → i < stop → i < w → (get_or t (b + i) 0 ≡ 0) × (get_or t (e + i) 0 ≡ 0) × (get_or t (g + i) 0 ≡ 0)) → Taken b e g w from stop t t
  taken-zero from stop z =
      record {
        sums = λ i x y l. omega (arith, (z i x y l).0);
        gone = λ i x y l. (z i x y l).0;
        comes = λ i x y l. (z i x y l).1 ∙ sym (z i x y l).2;
        free = λ i x y l. (z i x y l).2;
        rest = λ j h. refl;
      }

  -- a number that is not among those taken is as it was
  pub taken-off : (from stop : ℕ) (t' : List ℕ) → Taken b e g w from stop t t' → (i : ℕ) → i < w → (from ≤ i → i < stop → ⊥)
      → (get_or t' i 0 ≡ get_or t i 0) × (get_or t' (b + i) 0 ≡ get_or t (b + i) 0) × (get_or t' (e + i) 0 ≡ get_or t (e + i) 0) × (get_or t' (g + i) 0 ≡ get_or t (g + i) 0)
  taken-off from stop t' x i h o = (
    x.rest i (λ k p q r. off-p i k h r (λ z. o (omega arith) (omega arith))),
    x.rest (b + i) (λ k p q r. off-b i k h r (λ z. o (omega arith) (omega arith))),
    x.rest (e + i) (λ k p q r. off_e i k h r (λ z. o (omega arith) (omega arith))),
    x.rest (g + i) (λ k p q r. off-g i k h r (λ z. o (omega arith) (omega arith))),
  )

  -- number i of each of the four blocks is stored
  module _ (i v y : ℕ) (h : i < w) where
    abbrev stored : List ℕ
    stored = set (set (set (set t i v) (b + i) 0) (e + i) y) (g + i) 0

    pub stored-off : (j : ℕ) → Off b e g i j → get_or stored j 0 ≡ get_or t j 0
    stored-off j o =
        get_or-set_other (set (set (set t i v) (b + i) 0) (e + i) y) (g + i) j 0 0 o.not_g
        ∙ get_or-set_other (set (set t i v) (b + i) 0) (e + i) j y 0 o.not_e
        ∙ get_or-set_other (set t i v) (b + i) j 0 0 o.not_b
        ∙ get_or-set_other t i j v 0 o.not_p

    pub stored-p : get_or stored i 0 ≡ v
    stored-p =
        get_or-set_other (set (set (set t i v) (b + i) 0) (e + i) y) (g + i) i 0 0 (λ q. omega (arith, a.at_b, a.b_g))
        ∙ get_or-set_other (set (set t i v) (b + i) 0) (e + i) i y 0 (λ q. omega (arith, a.at_e))
        ∙ get_or-set_other (set t i v) (b + i) i 0 0 (λ q. omega (arith, a.at_b))
        ∙ get_or-set_same t i v 0 (omega (arith, a.at_b, a.b_g, a.room))

    pub stored-b : get_or stored (b + i) 0 ≡ 0
    stored-b =
        get_or-set_other (set (set (set t i v) (b + i) 0) (e + i) y) (g + i) (b + i) 0 0 (λ q. omega (arith, a.b_g))
        ∙ get_or-set_other (set (set t i v) (b + i) 0) (e + i) (b + i) y 0 (a.b_e i i h h)
        ∙ get_or-set_same (set t i v) (b + i) 0 0 (simp length-set (omega (arith, a.b_g, a.room)))

    pub stored_e : get_or stored (e + i) 0 ≡ y
    stored_e =
        get_or-set_other (set (set (set t i v) (b + i) 0) (e + i) y) (g + i) (e + i) 0 0 (λ q. omega (arith, a.e_g))
        ∙ get_or-set_same (set (set t i v) (b + i) 0) (e + i) y 0 (simp length-set (omega (arith, a.e_g, a.room)))

    pub stored-g : get_or stored (g + i) 0 ≡ 0
    stored-g = get_or-set_same (set (set (set t i v) (b + i) 0) (e + i) y) (g + i) 0 0 (simp length-set (omega (arith, a.room)))

-- some numbers and then more
pub taken_then : {w b e g : ℕ} {t : List ℕ} → Apart w b e g t → (from mid stop : ℕ) → from ≤ mid → mid ≤ stop → (t₁ t₂ : List ℕ) → Taken b e g w from mid t t₁ → Taken b e g w mid stop t₁ t₂ → Taken b e g w from stop t t₂
taken_then {w} {b} {e} {g} {t} a from mid stop fm ms t₁ t₂ x y =
    record {
      sums = λ i f s l. sums' i f s l (dec_lt i mid);
      gone = λ i f s l. gone' i f s l (dec_lt i mid);
      comes = λ i f s l. comes' i f s l (dec_lt i mid);
      free = λ i f s l. free' i f s l (dec_lt i mid);
      rest = λ j o. y.rest j (λ i f s l. o i (omega arith) s l) ∙ x.rest j (λ i f s l. o i f (omega arith) l);
    }
  where
    sums' : (i : ℕ) → from ≤ i → i < stop → i < w → Dec (i < mid) → get_or t₂ i 0 ≡ get_or t i 0 + get_or t (b + i) 0
    sums' i f s l (yes d) = y.rest i (λ k p q r. off-p a i k l r (λ z. omega arith)) ∙ x.sums i f d l
    sums' i f s l (no d) = omega (arith, y.sums i (omega arith) s l, x.rest i (λ k p q r. off-p a i k l r (λ z. omega arith)), x.rest (b + i) (λ k p q r. off-b a i k l r (λ z. omega arith)))

    gone' : (i : ℕ) → from ≤ i → i < stop → i < w → Dec (i < mid) → get_or t₂ (b + i) 0 ≡ 0
    gone' i f s l (yes d) = y.rest (b + i) (λ k p q r. off-b a i k l r (λ z. omega arith)) ∙ x.gone i f d l
    gone' i f s l (no d) = y.gone i (omega arith) s l

    comes' : (i : ℕ) → from ≤ i → i < stop → i < w → Dec (i < mid) → get_or t₂ (e + i) 0 ≡ get_or t (g + i) 0
    comes' i f s l (yes d) = y.rest (e + i) (λ k p q r. off_e a i k l r (λ z. omega arith)) ∙ x.comes i f d l
    comes' i f s l (no d) = y.comes i (omega arith) s l ∙ x.rest (g + i) (λ k p q r. off-g a i k l r (λ z. omega arith))

    free' : (i : ℕ) → from ≤ i → i < stop → i < w → Dec (i < mid) → get_or t₂ (g + i) 0 ≡ 0
    free' i f s l (yes d) = y.rest (g + i) (λ k p q r. off-g a i k l r (λ z. omega arith)) ∙ x.free i f d l
    free' i f s l (no d) = y.free i (omega arith) s l

-- the same numbers, said otherwise
pub taken-same : {b e g w from stop : ℕ} {t t' : List ℕ} (w' stop' : ℕ) → ((i : ℕ) → from ≤ i → i < stop' → i < w' → (i < stop) × (i < w)) → ((i : ℕ) → from ≤ i → i < stop → i < w → (i < stop') × (i < w'))
    → Taken b e g w from stop t t' → Taken b e g w' from stop' t t'
taken-same w' stop' in' out x =
    record {
      sums = λ i f s l. let z = in' i f s l in x.sums i f z.0 z.1;
      gone = λ i f s l. let z = in' i f s l in x.gone i f z.0 z.1;
      comes = λ i f s l. let z = in' i f s l in x.comes i f z.0 z.1;
      free = λ i f s l. let z = in' i f s l in x.free i f z.0 z.1;
      rest = λ j o. x.rest j (λ i f s l. let z = out i f s l in o i f z.0 z.1);
    }

-- behind some numbers that are taken, the sums of all fit as before
pub sums-fit : {w b e g : ℕ} {t₀ : List ℕ} → Apart w b e g t₀ → SumsFit w b t₀ → (from m : ℕ) (t : List ℕ) → Taken b e g w from m t₀ t → SumsFit w b t
sums-fit {w} {b} {e} {g} {t₀} a f from m t x i l = go (dec_lt i m) (dec_lt i from)
  where
    left : (from ≤ i → i < m → ⊥) → get_or t i 0 + get_or t (b + i) 0 < 2 ^ 64
    left out = let o = taken-off a from m t x i l out in omega (arith, o.0, o.1, f i l)

    go : Dec (i < m) → Dec (i < from) → get_or t i 0 + get_or t (b + i) 0 < 2 ^ 64
    go (yes d) (no h) = omega (arith, x.sums i (omega arith) d l, x.gone i (omega arith) d l, f i l)
    go (yes d) (yes h) = left (λ p q. omega arith)
    go (no d) h = left (λ p q. omega arith)

-- the same of one block that is cleared
module _ (a w : ℕ) (t : List ℕ) where
  pub cleared-none : (from : ℕ) → Cleared a w from from t t
  cleared-none from = record { gone = λ i x y z. absurd (omega arith); rest = λ j h. refl }

  pub cleared-zero : (from stop : ℕ) → ((i : ℕ) → from ≤ i → i < stop → i < w → get_or t (a + i) 0 ≡ 0) → Cleared a w from stop t t
  cleared-zero from stop z = record { gone = z; rest = λ j h. refl }

  pub cleared-fill : (from stop k : ℕ) (z : List ℕ) → a + stop ≤ length t → from ≤ stop → stop ≤ w → k ≡ stop - from → z ≡ replicate k 0 → Cleared a w from stop t (put_mid (a + from) k t z)
  cleared-fill from stop k z room l m e f =
      record {
        gone = λ i x y w. rw f (grind (arith, places));
        rest = λ j o. rw f (kept j (λ x y. o (j - a) (omega arith) (omega arith) (omega arith) (omega arith)) (dec_lt j (a + from)));
      }
    where
      kept : (j : ℕ) → (a + from ≤ j → j < a + stop → ⊥) → Dec (j < a + from) → get_or (put_mid (a + from) k t (replicate k 0)) j 0 ≡ get_or t j 0
      kept j o (yes d) = grind (arith, places)
      kept j o (no d) = let p : a + stop ≤ j = omega arith in grind (arith, places)

  pub cleared-then : (from mid stop : ℕ) → from ≤ mid → mid ≤ stop → (t₁ t₂ : List ℕ) → Cleared a w from mid t t₁ → Cleared a w mid stop t₁ t₂ → Cleared a w from stop t t₂
  cleared-then from mid stop fm ms t₁ t₂ x y =
      record {
        gone = λ i f s l. gone' i f s l (dec_lt i mid);
        rest = λ j o. y.rest j (λ i f s l. o i (omega arith) s l) ∙ x.rest j (λ i f s l. o i f (omega arith) l);
      }
    where
      gone' : (i : ℕ) → from ≤ i → i < stop → i < w → Dec (i < mid) → get_or t₂ (a + i) 0 ≡ 0
      gone' i f s l (yes d) = y.rest (a + i) (λ k p q r z. omega arith) ∙ x.gone i f d l
      gone' i f s l (no d) = y.gone i (omega arith) s l

pub cleared-same : {a w from stop : ℕ} {t t' : List ℕ} (w' stop' : ℕ) → ((i : ℕ) → from ≤ i → i < stop' → i < w' → (i < stop) × (i < w)) → ((i : ℕ) → from ≤ i → i < stop → i < w → (i < stop') × (i < w'))
    → Cleared a w from stop t t' → Cleared a w' from stop' t t'
cleared-same w' stop' in' out x =
    record { gone = λ i f s l. let z = in' i f s l in x.gone i f z.0 z.1; rest = λ j o. x.rest j (λ i f s l. let z = out i f s l in o i f z.0 z.1) }
