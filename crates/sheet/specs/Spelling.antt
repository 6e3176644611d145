-- The ways to write records that the reader takes: "any field, the header's too, may be in double quotes, and the
-- last record may lack its line end". A record is the list of its fields, without quotes.
use Rattle.std.specs.Prelude.{ℕ, List, [], ◌∷◌, ◌++◌}
use Rattle.sheet.specs.Text.{comma, quote, line_ends}

-- a field as it is, or the whole of it in double quotes
pub data Field (t : List ℕ) : List ℕ → Type 0 where
  as_is : Field t t
  in_quotes : Field t (quote ∷ (t ++ quote ∷ []))

-- fields, each behind a comma
pub data Fields : List (List ℕ) → List ℕ → Type 0 where
  nil : Fields [] []
  next : {t f : List ℕ} {ts : List (List ℕ)} {s : List ℕ} → Field t f → Fields ts s → Fields (t ∷ ts) (comma ∷ (f ++ s))

-- a record without its line end: fields with commas between them
pub data Record : List (List ℕ) → List ℕ → Type 0 where
  begin : {t f : List ℕ} {ts : List (List ℕ)} {s : List ℕ} → Field t f → Fields ts s → Record (t ∷ ts) (f ++ s)

-- records, each ended by CR LF; or the last one without
pub data Spells : List (List (List ℕ)) → List ℕ → Type 0 where
  over : Spells [] []
  lacks : {ts : List (List ℕ)} {s : List ℕ} → Record ts s → Spells (ts ∷ []) s
  ends : {ts : List (List ℕ)} {s : List ℕ} {rs : List (List (List ℕ))} {u : List ℕ} → Record ts s → Spells rs u → Spells (ts ∷ rs) (s ++ (line_ends ++ u))
