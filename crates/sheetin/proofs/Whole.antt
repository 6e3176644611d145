-- Laws of a whole text: what its header and its records make of it, and what the reader then answers. Assumes nothing.
use Prim.{tt}
use Rattle.std.proofs.Common.{◌≡◌, ℕ, zero, suc, ◌+◌, ◌-◌, ◌*◌, ◌≤◌, ◌<◌, true, false, List, Result, Ok, Err, length, sym, ap, ◌∙◌, arith, eqb, eqb-true}
use Rattle.line.specs.declared.Refusal.{Refusal}
use Rattle.line.specs.Refusal.{refusal}
use Rattle.trace.specs.Rows.{columns}
use Rattle.sheet.specs.Found.{none, found}
use Rattle.sheet.specs.Grammar.{header, Sheet, sheet, bad, ended, records, after_header, sheet_of}
use Rattle.sheet.specs.Reading.{reading, Reads}
use Rattle.sheet.proofs.Apart.{ended_no, ended_yes, Records, over_rows, more_rows, records-of, records-count, records-some}
use Rattle.sheet.proofs.Decisions.{refused_15, refused_16, filled}
use Rattle.sheetin.specs.Seen.{tally, FillsRows}
use Rattle.sheetin.proofs.Rows.{not_empty}
use Rattle.sheetin.proofs.Stores.{tally_good}

-- rows are counted upwards, and no more are counted than may come
records-few : (left row : ℕ) (w : List ℕ) (n : ℕ) (numbers : List ℕ) → records left row w ≡ sheet n numbers → n ≤ row + left
records-few zero row w n numbers e = go (records-of zero row w n numbers e)
  where
    go : Records zero row w n numbers → n ≤ row + zero
    go (over_rows d f g) = omega arith
    go (more_rows m h s) = absurd (omega arith)
records-few (suc l) row w n numbers e =
    go (records-of (suc l) row w n numbers e) (λ x ws h. records-few l (suc row) x n ws h)
  where
    go : Records (suc l) row w n numbers → ((x ws : List ℕ) → records l (suc row) x ≡ sheet n ws → n ≤ suc row + l) → n ≤ row + suc l
    go (over_rows d f g) k = omega arith
    go (more_rows m h s) k = omega (arith, k s.behind s.others (ap (λ (j : ℕ). records j (suc row) s.behind) (let q : l ≡ m = omega arith in q) ∙ s.there))

tally-wrong : (x : Sheet) (k : ℕ) → Err k ≡ tally x → x ≡ bad k
tally-wrong (sheet n numbers) k e = cc
tally-wrong (bad j) k e = ap bad (let q : j ≡ k = cc in q)

module _ (text room : List ℕ) where
  pub no_header : none ≡ header text → Reads (reading text (length room)) (Err (refusal 15 0)) room room
  unfolding sheet_of
  no_header e = refused_15 text room 0 (sym (ap after_header e))

  module _ (u : List ℕ) (e : found tt u ≡ header text) where
    after : sheet_of text ≡ ended u (bad 1) (records 256 0 u)
    unfolding sheet_of
    after = sym (ap after_header e)

    pub no_records : true ≡ eqb (length u) 0 → Reads (reading text (length room)) (Err (refusal 15 1)) room room
    no_records f = refused_15 text room 1 (after ∙ ended_yes u (bad 1) (records 256 0 u) (eqb-true (length u) 0 (sym f)))

    module _ (f : false ≡ eqb (length u) 0) where
      rest : sheet_of text ≡ records 256 0 u
      rest = after ∙ ended_no u (bad 1) (records 256 0 u) (not_empty u f)

      pub wrong_record : {q : Result ℕ ℕ} {given : Result ℕ Refusal} → q ≡ tally (records 256 0 u) → (k : ℕ) × (q ≡ Err k) × (given ≡ Err (refusal 15 k))
          → Reads (reading text (length room)) given room room
      wrong_record g (k, h, i) = rw i (refused_15 text room k (rest ∙ tally-wrong (records 256 0 u) k (sym h ∙ g)))

      module _ (n : ℕ) (g : Ok n ≡ tally (records 256 0 u)) where
        rows : (numbers : List ℕ) × (records 256 0 u ≡ sheet n numbers)
        rows = tally_good (records 256 0 u) n (sym g)

        pub few_rows : n ≤ 256
        few_rows = records-few 256 0 u n rows.0 rows.1

        pub some_rows : 1 ≤ n
        some_rows = records-some 256 0 u n rows.0 (not_empty u f) rows.1

        pub short_room : length room < columns * n → Reads (reading text (length room)) (Err (refusal 16 0)) room room
        short_room h = refused_16 text room n rows.0 (rest ∙ rows.1) h

        pub all_rows : (left : List ℕ) → columns * n ≤ length room → FillsRows u n room left → Reads (reading text (length room)) (Ok (n - 1)) room left
        all_rows left h a =
            filled text room n rows.0 (rest ∙ rows.1) left h (omega (arith, (records-count 256 0 u n rows.0 rows.1).long)) (a.all rows.0 rows.1)
