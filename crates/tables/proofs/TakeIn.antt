-- One table taken in by another: the words, and then the rows in use.
use mathlib.Core.Path.{◌≡◌, ap, ap₂, ◌∙◌, sym}
use mathlib.Core.List.{List, ◌++◌}
use Prim.Native.Nat.{ℕ, ◌+◌, ◌/◌, ◌%◌, ◌≤◌, ◌<◌}
use native.Mathlib.Omega.{arith}
use lib.Bits.{bit_or}
use lib.ListN.{length, get_or, set, length-set}
use lib.Seq.{get_or-set_same, get_or-set_other}
use Rattle.chain.specs.Plan.{CostLine, weight}
use Rattle.trace.specs.Fold.{its_instructions, on_all}
use Rattle.tables.specs.Walks.{number, Table, Idle, Idles, Out, Apart, SumsFit, Off, Taken, in_use, worded, TakesIn, TookIn, Cleared, IsTable}
use Rattle.tables.proofs.Bits.{idle_or}
use Rattle.tables.proofs.Number.{number-sum, number_or, number_le, number-idle, by_number, side-fits}
use Rattle.tables.proofs.Loops.{fewer, apart_in, off-p, off-b, off_e, off-g, stored-off, stored-p, stored-b, stored_e, stored-g}

-- a row that is not in the table's word
idle-row : (t : List ℕ) (a w : ℕ) (c : List CostLine) → Table t a w c → Idles (get_or t (a + w) 0) w a t
idle-row t a w c h i l z = h i (omega arith) ∙ number-idle w c i l (rw (h w (omega arith)) at z)

-- the front of the scratch
front : (t : List ℕ) (i : ℕ) → get_or t i 0 ≡ get_or t (0 + i) 0
front t i = let e : i ≡ 0 + i = omega arith in ap (λ (j : ℕ). get_or t j 0) e

module _ (b e g w : ℕ) (t : List ℕ) (a : Apart (w + 1) b e g t) where
  -- the scratch when the words are taken
  abbrev t₁ : List ℕ
  t₁ = worded b e g w t

  word_in : w < w + 1
  word_in = omega arith

  -- number j of no block
  off-out : (k j : ℕ) → k ≤ w → Out 0 (w + 1) j → Out b (w + 1) j → Out e (w + 1) j → Out g (w + 1) j → Off b e g k j
  off-out k j h x y z u = record { not_p = λ q. x (omega arith) (omega arith); not_b = λ q. y (omega arith) (omega arith); not_e = λ q. z (omega arith) (omega arith); not_g = λ q. u (omega arith) (omega arith) }

  -- the rows are as they were
  words_off : (j : ℕ) → Off b e g w j → get_or t₁ j 0 ≡ get_or t j 0
  words_off = stored-off a w (bit_or (get_or t w 0) (get_or t (b + w) 0)) (get_or t (g + w) 0) word_in

  row-p : (i : ℕ) → i < w → get_or t₁ i 0 ≡ get_or t i 0
  row-p i l = words_off i (off-p a i w (omega arith) word_in (λ z. omega arith))

  row-b : (i : ℕ) → i < w → get_or t₁ (b + i) 0 ≡ get_or t (b + i) 0
  row-b i l = words_off (b + i) (off-b a i w (omega arith) word_in (λ z. omega arith))

  row_e : (i : ℕ) → i < w → get_or t₁ (e + i) 0 ≡ get_or t (e + i) 0
  row_e i l = words_off (e + i) (off_e a i w (omega arith) word_in (λ z. omega arith))

  row-g : (i : ℕ) → i < w → get_or t₁ (g + i) 0 ≡ get_or t (g + i) 0
  row-g i l = words_off (g + i) (off-g a i w (omega arith) word_in (λ z. omega arith))

  -- the walk over the rows in use may begin
  idle_rows : (x y z : List CostLine) → Table t b w x → Table t e w y → Table t g w z → Idles (in_use b e g w t) w b t₁ × (Idles (in_use b e g w t) w e t₁ × Idles (in_use b e g w t) w g t₁)
  idle_rows x y z B E G = (
    λ i l h. row-b i l ∙ idle-row t b w x B i l (in_b i h),
    (λ i l h. row_e i l ∙ idle-row t e w y E i l (in_e i h), λ i l h. row-g i l ∙ idle-row t g w z G i l (in_g i h)),
  )
    where
      two : (i : ℕ) → Idle (in_use b e g w t) (i / 8) → Idle (bit_or (get_or t (b + w) 0) (get_or t (e + w) 0)) (i / 8) × Idle (get_or t (g + w) 0) (i / 8)
      two i h = idle_or (bit_or (get_or t (b + w) 0) (get_or t (e + w) 0)) (get_or t (g + w) 0) (i / 8) h

      in_b : (i : ℕ) → Idle (in_use b e g w t) (i / 8) → Idle (get_or t (b + w) 0) (i / 8)
      in_b i h = (idle_or (get_or t (b + w) 0) (get_or t (e + w) 0) (i / 8) (two i h).0).0

      in_e : (i : ℕ) → Idle (in_use b e g w t) (i / 8) → Idle (get_or t (e + w) 0) (i / 8)
      in_e i h = (idle_or (get_or t (b + w) 0) (get_or t (e + w) 0) (i / 8) (two i h).0).1

      in_g : (i : ℕ) → Idle (in_use b e g w t) (i / 8) → Idle (get_or t (g + w) 0) (i / 8)
      in_g i h = (two i h).1

  rows_fit : TakesIn b e g w t → SumsFit w b t₁
  rows_fit r i l =
      let f = side-fits i (weight r.p) (on_all its_instructions r.p) (weight r.x) (on_all its_instructions r.x) r.fits r.ifits in
      omega (arith, row-p i l, front t i, r.P i (omega arith), number_le w r.p i l, row-b i l, r.B i (omega arith), number_le w r.x i l)

  pub walk-asks : TakesIn b e g w t → (word : ℕ) → word ≡ in_use b e g w t → (t' : List ℕ) → t' ≡ t₁ → (Apart w b e g t' × (w % 2 ≡ 0)) × (SumsFit w b t' × (Idles word w b t' × (Idles word w e t' × Idles word w g t')))
  walk-asks r word i t' s = rw (i, s) ((fewer w (omega arith) (apart_in t₁ (simp length-set) a), r.even), (rows_fit r, idle_rows r.x r.E.0 r.G.0 r.B r.E.1 r.G.1))

  -- the rows are taken too
  module _ {t₂ : List ℕ} (r : Taken b e g w 0 w t₁ t₂) where
    word_p : get_or t₂ w 0 ≡ bit_or (get_or t w 0) (get_or t (b + w) 0)
    word_p = r.rest w (λ k x y l. off-p a w k word_in (omega arith) (λ z. omega arith)) ∙ stored-p a w (bit_or (get_or t w 0) (get_or t (b + w) 0)) (get_or t (g + w) 0) word_in

    word_b : get_or t₂ (b + w) 0 ≡ 0
    word_b = r.rest (b + w) (λ k x y l. off-b a w k word_in (omega arith) (λ z. omega arith)) ∙ stored-b a w (bit_or (get_or t w 0) (get_or t (b + w) 0)) (get_or t (g + w) 0) word_in

    word_e : get_or t₂ (e + w) 0 ≡ get_or t (g + w) 0
    word_e = r.rest (e + w) (λ k x y l. off_e a w k word_in (omega arith) (λ z. omega arith)) ∙ stored_e a w (bit_or (get_or t w 0) (get_or t (b + w) 0)) (get_or t (g + w) 0) word_in

    word_g : get_or t₂ (g + w) 0 ≡ 0
    word_g = r.rest (g + w) (λ k x y l. off-g a w k word_in (omega arith) (λ z. omega arith)) ∙ stored-g a w (bit_or (get_or t w 0) (get_or t (b + w) 0)) (get_or t (g + w) 0) word_in

    pub took_in : TookIn b e g w t t₂
    took_in =
        record {
          sums = λ p x P B. by_number w (λ i. get_or t₂ (0 + i) 0 ≡ number w (p ++ x) i)
              (λ i l. omega (arith, front t₂ i, r.sums i (omega arith) l l, row-p i l, row-b i l, front t i, P i (omega arith), B i (omega arith), number-sum w p x i l))
              (sym (front t₂ w) ∙ word_p ∙ ap₂ bit_or (front t w ∙ P w (omega arith)) (B w (omega arith)) ∙ sym (number_or w p x));
          comes = λ z G. by_number w (λ i. get_or t₂ (e + i) 0 ≡ number w z i) (λ i l. r.comes i (omega arith) l l ∙ row-g i l ∙ G i (omega arith)) (word_e ∙ G w (omega arith));
          gone = by_number w (λ i. get_or t₂ (b + i) 0 ≡ 0) (λ i l. r.gone i (omega arith) l l) word_b;
          free = by_number w (λ i. get_or t₂ (g + i) 0 ≡ 0) (λ i l. r.free i (omega arith) l l) word_g;
          rest = λ j x y z u. r.rest j (λ k f s l. off-out k j (omega arith) x y z u) ∙ words_off j (off-out w j (omega arith) x y z u);
        }

-- a table that is cleared: its word, and then the rows in use
module _ (a w : ℕ) (t : List ℕ) (room : a + w < length t) where
  pub clear-asks : IsTable t a w → (a + w ≤ length (set t (a + w) 0)) × Idles (get_or t (a + w) 0) w a (set t (a + w) 0)
  clear-asks c = (simp length-set (omega arith), λ i l z. get_or-set_other t (a + w) (a + i) 0 0 (λ q. omega arith) ∙ idle-row t a w c.0 c.1 i l z)

  pub cleared-table : {t₂ : List ℕ} → Cleared a w 0 w (set t (a + w) 0) t₂ → Cleared a (w + 1) 0 (w + 1) t t₂
  cleared-table {t₂} r =
      record {
        gone = λ i f s l. by_number w (λ k. get_or t₂ (a + k) 0 ≡ 0) (λ k m. r.gone k (omega arith) m m) (r.rest (a + w) (λ k f s l q. omega arith) ∙ get_or-set_same t (a + w) 0 0 room) i (omega arith);
        rest = λ j o. r.rest j (λ i f s l. o i f (omega arith) (omega arith)) ∙ get_or-set_other t (a + w) j 0 0 (o w (omega arith) (omega arith) (omega arith));
      }
