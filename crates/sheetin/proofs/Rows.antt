-- Laws of records as they are passed: the numbers of one, and all of them. Assumes nothing.
use Prim.{Unit, tt}
use Rattle.std.proofs.Common.{◌≡◌, ℕ, zero, suc, ◌+◌, ◌-◌, ◌≤◌, ◌<◌, Bool, true, false, cond, List, [], ◌∷◌, Ok, Err, length, sym, refl, ap, ◌∙◌, add-one, arith, eqb, eqb-true, eq-eqb, ne_eqb}
use Rattle.trace.specs.Rows.{columns}
use Rattle.sheet.specs.Found.{Found, none, found, then}
use Rattle.sheet.specs.Grammar.{numeral, next_numeral, also, no_more, next_numerals, record_of, Sheet, sheet, bad, with, follow, records}
use Rattle.sheetin.specs.Seen.{there, tally}
use Rattle.sheet.proofs.Apart.{full, at-end, one_record}

there-also : (v : ℕ) (x : Found (List ℕ)) → there (also v x) ≡ there x
there-also v none = refl
there-also v (found vs u) = refl

there_no_more : (x : Found Unit) → there (no_more x) ≡ x
there_no_more none = refl
there_no_more (found tt u) = refl

-- one number more of those that are asked
abbrev pub also-then : ℕ → Found ℕ → Found (List ℕ)
also-then m y = then y (λ v u. also v (next_numerals m u))

-- the first k numbers are there, and the others stand in the text w
module _ (s w : List ℕ) (k : ℕ) (e : there (next_numerals (columns - k) w) ≡ there (next_numerals columns s)) where
  module _ (h : k < columns) where
    step : there (also-then (columns - (k + 1)) (next_numeral w)) ≡ there (next_numerals columns s)
    step = let one : suc (columns - (k + 1)) ≡ columns - k = omega arith in ap (λ (m : ℕ). there (next_numerals m w)) one ∙ e

    pub numerals_more : {v : ℕ} {u : List ℕ} → found v u ≡ next_numeral w → there (next_numerals (columns - (k + 1)) u) ≡ there (next_numerals columns s)
    numerals_more {v} {u} f = sym (there-also v (next_numerals (columns - (k + 1)) u)) ∙ ap (λ (y : Found ℕ). there (also-then (columns - (k + 1)) y)) f ∙ step

pub tally-with : (vs : List ℕ) (x : Sheet) → tally (with vs x) ≡ tally x
tally-with vs (sheet n ws) = refl
tally-with vs (bad k) = refl

follow_no : (x : Found (List ℕ)) (b : Sheet) (f : List ℕ → Sheet) → none ≡ there x → b ≡ follow x b f
follow_no none b f e = refl
follow_no (found vs s) b f e = cc

follow_yes : (x : Found (List ℕ)) (b : Sheet) (f : List ℕ → Sheet) (u : List ℕ) → found tt u ≡ there x → tally (f u) ≡ tally (follow x b f)
follow_yes none b f u e = cc
follow_yes (found vs s) b f u e = ap (λ (l : List ℕ). tally (f l)) (let g : u ≡ s = cc in g) ∙ sym (tally-with vs (f s))

-- a text with characters
pub not_empty : (w : List ℕ) → false ≡ eqb (length w) 0 → 0 < length w
not_empty [] e = absurd (let z : ◌≡◌ {A = Bool} true false = sym e in let y : ◌≡◌ {A = ℕ} 0 1 = cc in omega arith)
not_empty (c ∷ w) e = omega arith

-- the records before a row are good, and the others stand in the text w
pub record Records (s w : List ℕ) (row : ℕ) : Type 0 where
  pub few : row ≤ 256
  pub rest : tally (records (256 - row) row w) ≡ tally (records 256 0 s)

module _ {s w : List ℕ} {row : ℕ} (r : Records s w row) where
  pub records_end : true ≡ eqb (length w) 0 → Ok row ≡ tally (records 256 0 s)
  records_end h = sym (ap tally (at-end (256 - row) row w (eqb-true (length w) 0 (sym h)))) ∙ r.rest

  module _ (f : false ≡ eqb (length w) 0) where
    pub records-full : row ≡ 256 → Err 257 ≡ tally (records 256 0 s)
    records-full e = sym (ap tally (full 256 w (not_empty w f))) ∙ sym (ap (λ (k : ℕ). tally (records (256 - k) k w)) e) ∙ r.rest

    module _ (room : row ≡ 256 → ⊥) where
      left : ℕ
      left = 256 - (row + 1)

      fewer : row < 256
      fewer = go (256 - row) refl
        where
          go : (k : ℕ) → 256 - row ≡ k → row < 256
          go zero h = absurd (room (omega (arith, r.few)))
          go (suc k) h = omega arith

      here : tally (follow (record_of row w) (bad (suc row)) (λ x. records left (suc row) x)) ≡ tally (records 256 0 s)
      unfolding left
      here =
          let again : suc (256 - (row + 1)) ≡ 256 - row = (let f = fewer in omega arith) in
          sym (ap tally (one_record left row w (not_empty w f))) ∙ ap (λ (k : ℕ). tally (records k row w)) again ∙ r.rest

      pub records-wrong : none ≡ there (record_of row w) → Err (row + 1) ≡ tally (records 256 0 s)
      records-wrong e =
          ap Err (add-one row) ∙ ap tally (follow_no (record_of row w) (bad (suc row)) (λ x. records left (suc row) x) e) ∙ here

      pub records-more : {u : List ℕ} → found tt u ≡ there (record_of row w) → Records s u (row + 1)
      unfolding left
      records-more {u} e =
          record {
            few = (let f = fewer in omega arith);
            rest = ap (λ (k : ℕ). tally (records left k u)) (add-one row) ∙ follow_yes (record_of row w) (bad (suc row)) (λ x. records left (suc row) x) u e ∙ here;
          }

-- a record by its first field
module _ (r : ℕ) (s : List ℕ) where
  pub record_no : none ≡ numeral s → none ≡ there (record_of r s)
  unfolding record_of
  record_no e = ap (λ (y : Found ℕ). there (then y (λ v u. cond (eqb v r) (next_numerals columns u) none))) e

  module _ {v : ℕ} {u : List ℕ} (e : found v u ≡ numeral s) where
    here_of : there (cond (eqb v r) (next_numerals columns u) none) ≡ there (record_of r s)
    unfolding record_of
    here_of = ap (λ (y : Found ℕ). there (then y (λ v u. cond (eqb v r) (next_numerals columns u) none))) e

    pub record_other : (v ≡ r → ⊥) → none ≡ there (record_of r s)
    record_other f = sym (ap (λ (b : Bool). there (cond b (next_numerals columns u) none)) (ne_eqb v r f)) ∙ here_of

    pub record_yes : v ≡ r → there (next_numerals columns u) ≡ there (record_of r s)
    record_yes f = sym (ap (λ (b : Bool). there (cond b (next_numerals columns u) none)) (eq-eqb v r f)) ∙ here_of
