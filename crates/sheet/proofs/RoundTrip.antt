-- What the writer writes is good and reads as what was written; a good text is the writer's but for quotes around
-- whole fields and the last line end. Assumes nothing.
use Prim.Native.Nat.{ℕ, ◌+◌, ◌*◌, ◌-◌, ◌≤◌}
use mathlib.Core.List.{List, [], ◌∷◌, ◌++◌, append_assoc, flat_map}
use mathlib.Core.Path.{◌≡◌, ap, ◌∙◌, sym, subst}
use native.Mathlib.Omega.{arith}
use lib.ListN.{length, take, drop}
use lib.Seq.{take_at, length-take-le}
use Rattle.std.specs.Prelude.{Ok}
use Rattle.trace.specs.Rows.{columns}
use Rattle.report.specs.Room.{Decision, write, leave, Writes}
use Rattle.report.specs.Report.{first}
use Rattle.std.proofs.Common.{Result, Ok}
use Rattle.line.specs.declared.Refusal.{Refusal}
use Rattle.sheet.specs.Text.{line_ends, column_names, row_name, follows, row_records, sheet_records, record_text, sheet_text}
use Rattle.sheet.specs.Writing.{writing}
use Rattle.sheet.specs.Grammar.{sheet, sheet_of}
use Rattle.sheet.specs.Reading.{Taken, fill, reading, Reads}
use Rattle.sheet.specs.Reading.{answer as tell, leave as fill_in}
use Rattle.sheet.specs.Spelling.{as_is, Fields, nil, next, begin, Spells, over, ends}
use Rattle.sheet.proofs.Spelled.{Small, Given, spelled_is_good}
use Rattle.sheet.proofs.Good.{good_is_spelled}
use Rattle.sheet.proofs.Decisions.{writing-accepts, fills}

-- the writer's fields are bare, and it ends every record
fields_as_is : (ts : List (List ℕ)) → Fields ts (flat_map follows ts)
unfolding flat_map
fields_as_is [] = nil
fields_as_is (t ∷ ts) = next as_is (fields_as_is ts)

record_as_is : (t : List ℕ) (ts : List (List ℕ)) (rs : List (List (List ℕ))) {u : List ℕ} → Spells rs u → Spells ((t ∷ ts) ∷ rs) (record_text (t ∷ ts) ++ u)
unfolding record_text
record_as_is t ts rs {u} q = subst (λ (l : List ℕ). Spells ((t ∷ ts) ∷ rs) l) same (ends (begin as_is (fields_as_is ts)) q)
  where
    same : (t ++ flat_map follows ts) ++ (line_ends ++ u) ≡ (t ++ (flat_map follows ts ++ line_ends)) ++ u
    same =
        append_assoc t (flat_map follows ts) (line_ends ++ u)
        ∙ ap (λ (l : List ℕ). t ++ l) (sym (append_assoc (flat_map follows ts) line_ends u))
        ∙ sym (append_assoc t (flat_map follows ts ++ line_ends) u)

rows_as_is : (rows which : List ℕ) → Spells (row_records rows which) (flat_map record_text (row_records rows which))
unfolding flat_map
rows_as_is rows [] = over
rows_as_is rows (r ∷ which) = record_as_is _ _ (row_records rows which) (rows_as_is rows which)

pub written_spells : (rows : List ℕ) (count : ℕ) → Spells (sheet_records rows count) (sheet_text rows count)
unfolding sheet_text flat_map
written_spells rows count = record_as_is row_name column_names (row_records rows (first (count + 1))) (rows_as_is rows (first (count + 1)))

-- what the writer writes is good, and holds the rows
pub written_good : (rows : List ℕ) (count : ℕ) → Given rows count
    → sheet_of (sheet_text rows count) ≡ sheet (count + 1) (take (columns * (count + 1)) rows)
written_good rows count g = spelled_is_good rows count g (written_spells rows count)

-- "Writing and reading gives the rows again": whoever wrote n characters, and read them into room enough, has the
-- count and the rows, and the room past them as it was
module _ (rows : List ℕ) (count : ℕ) (small : Small rows) (out out' : List ℕ) (n : ℕ) (room room' : List ℕ) (c : Result ℕ Refusal) where
  pub round_trip : Writes (writing rows count (length out)) (Ok n) out out'
      → Reads (reading (take n out') (length room)) c room room' → columns * (count + 1) ≤ length room
      → (c ≡ Ok count) × (room' ≡ take (columns * (count + 1)) rows ++ drop (columns * (count + 1)) room)
  round_trip w r h = (
    r.answered ∙ ap tell is,
    r.left ∙ ap (λ (t : Taken). fill_in t room) is ∙ ap (λ (k : ℕ). take k' rows ++ drop k room) (length-take-le k' rows a.1),
  )
    where
      s : List ℕ
      s = sheet_text rows count

      k' : ℕ
      k' = columns * (count + 1)

      a : (count ≤ 255) × (columns * (count + 1) ≤ length rows) × (n ≡ length (sheet_text rows count)) × (writing rows count (length out) ≡ write (sheet_text rows count))
      a = writing-accepts rows count (length out) n (sym w.answered)

      text : take n out' ≡ s
      text = ap (take n) (w.left ∙ ap (λ (d : Decision). leave d out) a.3) ∙ take_at s (drop (length s) out) n (sym a.2)

      less : (m : ℕ) → m + 1 - 1 ≡ m
      less m = omega arith

      is : reading (take n out') (length room) ≡ fill count (take k' rows)
      is =
          fills (take n out') room (count + 1) (take k' rows) (ap sheet_of text ∙ written_good rows count (record { few = a.0; enough = a.1; small = small })) h
          ∙ ap (λ (m : ℕ). fill m (take k' rows)) (less count)

-- no other rows or count have that text
pub same_text : (rows others : List ℕ) (count sites : ℕ) → Given rows count → Given others sites
    → sheet_text rows count ≡ sheet_text others sites
    → (count ≡ sites) × (take (columns * (count + 1)) rows ≡ take (columns * (sites + 1)) others)
same_text rows others count sites a b e =
    let f : sheet (count + 1) (take (columns * (count + 1)) rows) ≡ sheet (sites + 1) (take (columns * (sites + 1)) others) =
    sym (written_good rows count a) ∙ ap sheet_of e ∙ written_good others sites b
    in
    let n : count + 1 ≡ sites + 1 = cc in
    (omega arith, cc)

-- two good texts that read the same spell the same records, those of the writer's text: they differ from it, and so
-- from each other, only in quotes around whole fields and in the last line end
pub same-reading : (s t : List ℕ) (n : ℕ) (numbers : List ℕ) → sheet_of s ≡ sheet n numbers → sheet_of t ≡ sheet n numbers
    → Spells (sheet_records numbers (n - 1)) (sheet_text numbers (n - 1)) × Spells (sheet_records numbers (n - 1)) s × Spells (sheet_records numbers (n - 1)) t
same-reading s t n numbers a b = (written_spells numbers (n - 1), good_is_spelled s n numbers a, good_is_spelled t n numbers b)

-- and texts that spell the same rows read the same
pub same_spelling : (rows : List ℕ) (count : ℕ) (s t : List ℕ) → Given rows count → Spells (sheet_records rows count) s
    → Spells (sheet_records rows count) t → sheet_of s ≡ sheet_of t
same_spelling rows count s t g a b = spelled_is_good rows count g a ∙ sym (spelled_is_good rows count g b)
