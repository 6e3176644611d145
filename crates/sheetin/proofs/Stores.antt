-- Laws of numbers stored: those of one record, and those of all. Assumes nothing.
use denote.Ref.{Bor}
use Rattle.std.proofs.Common.{◌≡◌, ℕ, suc, ◌+◌, ◌-◌, ◌*◌, ◌≤◌, ◌<◌, List, [], ◌∷◌, ◌++◌, Option, Some, None, Ok, IsSome, length, take, drop, set, sym, refl, ap, ◌∙◌, append_assoc, append-nil, add-one, arith, length-append, length-drop, length-set, take-append-drop, take-suc-set, take_all, take_at}
use lib.Seq.{drop-drop, length-take-le, drop_at}
use native.Mathlib.Nat.{add-sub_cancel_left}
use borrow.Rule.Slice.PartMut.{put_mid}
use Rattle.trace.specs.Rows.{columns}
use Rattle.sheet.specs.Found.{Found, none, found, then}
use Rattle.sheet.specs.Grammar.{line_end, next_numeral, also, no_more, next_numerals, record_of, Sheet, sheet, bad, with, records}
use Rattle.sheetin.specs.Seen.{past, filled, numbers_of, tally, IsSheet, FillsRows}
use Rattle.sheet.proofs.Apart.{record_of_lem, record_length, Split, one_more, no_more_lem}
use Rattle.sheetin.proofs.Rows.{also-then, tally-with}

-- numbers in front of those that are found
abbrev before : List ℕ → Found (List ℕ) → Found (List ℕ)
before vs none = none
before vs (found ws u) = found (vs ++ ws) u

before-nothing : (f : Found (List ℕ)) → before [] f ≡ f
before-nothing none = refl
before-nothing (found ws u) = refl

before-also : (vs : List ℕ) (v : ℕ) (f : Found (List ℕ)) → before (vs ++ v ∷ []) f ≡ before vs (also v f)
before-also vs v none = refl
before-also vs v (found ws u) = ap (λ (l : List ℕ). found l u) (append_assoc vs (v ∷ []) ws)

before-end : (vs : List ℕ) (r : Option (Bor (List ℕ))) → filled r vs ≡ before vs (no_more (past r))
before-end vs None = refl
before-end vs (Some u) = ap (λ (l : List ℕ). found l u.now) (sym (append-nil vs))

pub not-filled : (q : Option (Bor (List ℕ))) (vs : List ℕ) {f : Found (List ℕ)} → q ≡ None → none ≡ f → filled q vs ≡ f
not-filled q vs e g = ap (λ (r : Option (Bor (List ℕ))). filled r vs) e ∙ g

-- the first k numbers are stored, and the others stand in the text w
pub record Filling (s w start part : List ℕ) (k : ℕ) : Type 0 where
  long : length part ≡ length start
  rest : before (take k part) (next_numerals (length start - k) w) ≡ next_numerals (length start) s

pub filling_none : (s start : List ℕ) → Filling s s start start 0
filling_none s start =
    let all : length start - 0 ≡ length start = omega arith in
    record { long = refl; rest = before-nothing (next_numerals (length start - 0) s) ∙ ap (λ (n : ℕ). next_numerals n s) all }

module _ (s w start part : List ℕ) (k : ℕ) (r : Filling s w start part k) where
  module _ (h : k < length part) where
    step : before (take k part) (also-then (length start - (k + 1)) (next_numeral w)) ≡ next_numerals (length start) s
    step =
        let one : suc (length start - (k + 1)) ≡ length start - k = omega (arith, r.long) in
        ap (λ (n : ℕ). before (take k part) (next_numerals n w)) one ∙ r.rest

    pub filling_no : none ≡ next_numeral w → none ≡ next_numerals (length start) s
    filling_no f = ap (λ (y : Found ℕ). before (take k part) (also-then (length start - (k + 1)) y)) f ∙ step

    pub filling_more : (v : ℕ) (u : List ℕ) → found v u ≡ next_numeral w → Filling s u start (set part k v) (k + 1)
    filling_more v u f =
        record {
          long = length-set part k v ∙ r.long;
          rest =
              ap (λ (j : ℕ). before (take j (set part k v)) (next_numerals (length start - (k + 1)) u)) (add-one k)
              ∙ ap (λ (l : List ℕ). before l (next_numerals (length start - (k + 1)) u)) (take-suc-set part k v h)
              ∙ before-also (take k part) v (next_numerals (length start - (k + 1)) u)
              ∙ ap (λ (y : Found ℕ). before (take k part) (also-then (length start - (k + 1)) y)) f
              ∙ step;
        }

  pub filling_end : length part ≤ k → (q : Option (Bor (List ℕ))) → past q ≡ line_end w → filled q part ≡ next_numerals (length start) s
  filling_end h q e =
      let over : 0 ≡ length start - k = omega (arith, r.long) in
      before-end part q
      ∙ ap (λ (f : Found _). before part (no_more f)) e
      ∙ ap (λ (l : List ℕ). before l (no_more (line_end w))) (sym (take_all k part h))
      ∙ ap (λ (n : ℕ). before (take k part) (next_numerals n w)) over
      ∙ r.rest

-- numbers in front of those of a sheet, twice
with-with : (vs ws : List ℕ) (x : Sheet) → with vs (with ws x) ≡ with (vs ++ ws) x
with-with vs ws (sheet n xs) = ap (sheet n) (sym (append_assoc vs ws xs))
with-with vs ws (bad k) = refl

with-nothing : (x : Sheet) → with [] x ≡ x
with-nothing (sheet n xs) = refl
with-nothing (bad k) = refl

with-sheet : (vs : List ℕ) (x : Sheet) (n : ℕ) (numbers : List ℕ) → with vs x ≡ sheet n numbers → (others : List ℕ) × (x ≡ sheet n others) × (vs ++ others ≡ numbers)
with-sheet vs (sheet m ws) n numbers e = (ws, ap (λ (k : ℕ). sheet k ws) (let q : m ≡ n = cc in q), (let q : vs ++ ws ≡ numbers = cc in q))
with-sheet vs (bad k) n numbers e = cc

-- a tally is that of one sheet
pub tally_good : (x : Sheet) (n : ℕ) → tally x ≡ Ok n → (numbers : List ℕ) × (x ≡ sheet n numbers)
tally_good (sheet m numbers) n e = (numbers, ap (λ (k : ℕ). sheet k numbers) (let q : m ≡ n = cc in q))
tally_good (bad k) n e = cc

-- the rows before one are stored, and the others stand in the text w
pub record Storing (s w start room : List ℕ) (row : ℕ) : Type 0 where
  pub long : length room ≡ length start
  kept : drop (columns * row) room ≡ drop (columns * row) start
  rest : with (take (columns * row) room) (records (256 - row) row w) ≡ records 256 0 s

pub storing_none : (s start : List ℕ) → Storing s s start start 0
storing_none s start = record { long = refl; kept = refl; rest = with-nothing (records 256 0 s) }

-- a record's numbers, whichever row's it is
numbers-found : (row : ℕ) (w these behind : List ℕ) → record_of row w ≡ found these behind → numbers_of columns w ≡ found these behind
numbers-found row w these behind e =
    let f = record_of_lem row w these behind e in
    ap (λ (y : Found ℕ). then y (λ _ u. next_numerals columns u)) f.1 ∙ f.2

-- what is found is stored, and the text behind it is answered
some-filled : (q : Option (Bor (List ℕ))) (vs these behind : List ℕ) → filled q vs ≡ found these behind → IsSome q
some-filled None vs these behind f = cc
some-filled (Some u) vs these behind f = refl

these-filled : (q : Option (Bor (List ℕ))) (vs these behind : List ℕ) → filled q vs ≡ found these behind → (u : Bor (List ℕ)) → q ≡ Some u → (vs ≡ these) × (u.now ≡ behind)
these-filled None vs these behind f u e = cc
these-filled (Some v) vs these behind f u e =
    let g : v ≡ u = cc in
    ((let h : vs ≡ these = cc in h), ap (λ (x : Bor _). x.now) (sym g) ∙ (let h : v.now ≡ behind = cc in h))

module _ (s w start room : List ℕ) (row n : ℕ) (r : Storing s w start room row) (is : IsSheet s n) where
  sheet-left : (numbers : List ℕ) × (records (256 - row) row w ≡ sheet n numbers)
  sheet-left =
      tally_good (records (256 - row) row w) n
      (sym (tally-with (take (columns * row) room) (records (256 - row) row w)) ∙ ap tally r.rest ∙ is)

  module _ (l : row < n) (k : ℕ) (c : k ≡ columns) (q : Option (Bor (List ℕ))) (vs : List ℕ) (e : filled q vs ≡ numbers_of k w) where
    one : (m : ℕ) × (256 - row ≡ suc m) × Split m row w n sheet-left.0
    one = one_more (256 - row) row w n sheet-left.0 l sheet-left.1

    held : filled q vs ≡ found one.2.these one.2.behind
    held = e ∙ ap (λ (j : ℕ). numbers_of j w) c ∙ numbers-found row w one.2.these one.2.behind one.2.here

    pub stored-some : IsSome q
    stored-some = some-filled q vs one.2.these one.2.behind held

    next : columns * (row + 1) ≡ columns * row + columns
    next = omega arith

    module _ (u : Bor (List ℕ)) (i : q ≡ Some u) (h : columns * n ≤ length start) where
      stored : (vs ≡ one.2.these) × (u.now ≡ one.2.behind)
      stored = these-filled q vs one.2.these one.2.behind held u i

      done : length (take (columns * row) room ++ vs) ≡ columns * row + columns
      done =
          length-append (take (columns * row) room) vs
          ∙ omega (arith, length-take-le (columns * row) room (omega (arith, r.long)), ap length stored.0, record_length row w one.2.these one.2.behind one.2.here)

      whole : put_mid (columns * row) (columns * row + columns - columns * row) room vs ≡ (take (columns * row) room ++ vs) ++ drop (columns * row + columns) room
      whole =
          ap (λ (j : ℕ). take (columns * row) room ++ (vs ++ drop j (drop (columns * row) room))) (add-sub_cancel_left (columns * row) columns)
          ∙ ap (λ (l : List ℕ). take (columns * row) room ++ (vs ++ l)) (drop-drop columns (columns * row) room)
          ∙ sym (append_assoc (take (columns * row) room) vs (drop (columns * row + columns) room))

      pub storing_more : Storing s u.now start (put_mid (columns * row) (columns * row + columns - columns * row) room vs) (row + 1)
      storing_more =
          record {
            long =
                ap length whole
                ∙ length-append (take (columns * row) room ++ vs) (drop (columns * row + columns) room)
                ∙ omega (arith, done, length-drop (columns * row + columns) room, r.long);
            kept =
                ap (λ (j : ℕ). drop j (put_mid (columns * row) (columns * row + columns - columns * row) room vs)) next
                ∙ ap (drop (columns * row + columns)) whole
                ∙ drop_at (take (columns * row) room ++ vs) (drop (columns * row + columns) room) (columns * row + columns) done
                ∙ sym (drop-drop columns (columns * row) room)
                ∙ ap (drop columns) r.kept
                ∙ drop-drop columns (columns * row) start
                ∙ sym (ap (λ (j : ℕ). drop j start) next);
            rest =
                ap (λ (l : List ℕ). with l (records (256 - (row + 1)) (row + 1) u.now))
                (ap (λ (j : ℕ). take j (put_mid (columns * row) (columns * row + columns - columns * row) room vs)) next
                ∙ ap (take (columns * row + columns)) whole
                ∙ take_at (take (columns * row) room ++ vs) (drop (columns * row + columns) room) (columns * row + columns) done)
                ∙ sym (with-with (take (columns * row) room) vs (records (256 - (row + 1)) (row + 1) u.now))
                ∙ ap (with (take (columns * row) room)) (others ∙ sym sheet-left.1)
                ∙ r.rest;
          }
        where
          others : with vs (records (256 - (row + 1)) (row + 1) u.now) ≡ sheet n sheet-left.0
          others =
              let b : 256 - (row + 1) ≡ one.0 = (let a = one.1 in omega arith) in
              ap (λ (j : ℕ). with vs (records j (row + 1) u.now)) b
              ∙ ap (λ (j : ℕ). with vs (records one.0 j u.now)) (add-one row)
              ∙ ap (λ (l : List ℕ). with vs (records one.0 (suc row) l)) stored.1
              ∙ ap (with vs) one.2.there
              ∙ ap (λ (l : List ℕ). sheet n (l ++ one.2.others)) stored.0
              ∙ ap (sheet n) (sym one.2.all)

  pub storing_end : row ≡ n → FillsRows s n start room
  storing_end same = record { all = λ numbers e. go numbers (with-sheet (take (columns * row) room) (records (256 - row) row w) n numbers (r.rest ∙ e)) }
    where
      go : (numbers : List ℕ) → (others : List ℕ) × (records (256 - row) row w ≡ sheet n others) × (take (columns * row) room ++ others ≡ numbers) → room ≡ numbers ++ drop (columns * n) start
      go numbers (others, i, j) =
          let z : others ≡ [] = no_more_lem (256 - row) n w others (ap (λ (k : ℕ). records (256 - row) k w) (sym same) ∙ i) in
          sym (take-append-drop (columns * row) room)
          ∙ ap (λ (l : List ℕ). l ++ drop (columns * row) room) (sym (append-nil (take (columns * row) room)) ∙ ap (λ (l : List ℕ). take (columns * row) room ++ l) (sym z) ∙ j)
          ∙ ap (λ (l : List ℕ). numbers ++ l) r.kept
          ∙ ap (λ (k : ℕ). numbers ++ drop (columns * k) start) same
