-- Texts and what the reader makes of them, rows and what the writer does with them, by computing: each answer was
-- worked out by hand before. Assumes nothing.
use Prim.Native.Nat.{ℕ}
use Prim.Native.String.{String}
use mathlib.Core.Bool.{Bool, true, false, ◌&&◌}
use mathlib.Core.List.{List, [], ◌∷◌, ◌++◌, flat_map}
use mathlib.Core.Path.{◌≡◌, refl}
use lib.Dec.{eqb}
use lib.ListN.{replicate}
use Rattle.sheet.specs.Grammar.{field, separator, line_end, same, header, record_of, records, sheet_of}
use Rattle.report.specs.Room.{write}
use Rattle.report.specs.Room.{refuse as refused}
use Rattle.sheet.specs.Writing.{writing}
use Rattle.sheet.specs.Reading.{Taken, fill, refuse, reading}
use Rattle.sheet.specs.Text.{codes, record_text, sheet_text}
use Rattle.digits.specs.Decimal.{decimal}
use Rattle.report.specs.Report.{first}

-- a text, the room it is read into, and the answer
data Case : Type 0 where
  case : List ℕ → ℕ → Taken → Case

agrees : Taken → Taken → Bool
agrees (fill n xs) (fill m ys) = eqb n m && same xs ys
agrees (fill n xs) (refuse a b) = false
agrees (refuse a b) (fill n xs) = false
agrees (refuse a b) (refuse c d) = eqb a c && eqb b d

hold : List Case → Bool
hold [] = true
hold (case s room t ∷ cs) = agrees (reading s room) t && hold cs

abbrev top : List ℕ
top = codes "row,calls,work,span,local,onspan,ilocal,ionspan\r\n"

-- the header, and a text behind it
abbrev under : String → List ℕ
under s = top ++ codes s

-- a text of one row
abbrev one : List ℕ
one = 1 ∷ 2 ∷ 3 ∷ 4 ∷ 5 ∷ 6 ∷ 7 ∷ []

texts : List Case
texts =
    case [] 7 (refuse 15 0)
    ∷ case (codes "\r\n") 7 (refuse 15 0)
    ∷ case (codes "row,calls,work,span,local,onspan,ilocal,ionspan") 7 (refuse 15 1)
    ∷ case top 7 (refuse 15 1)
    ∷ case (codes "row,calls,work,span,local,onspan,ilocal,ionspan\n0,1,2,3,4,5,6,7\r\n") 7 (refuse 15 0)
    ∷ case (codes "row,calls,work,span,onspan,local,ilocal,ionspan\r\n0,1,2,3,4,5,6,7\r\n") 7 (refuse 15 0)
    ∷ case (codes "row,calls,work,span,local,onspan,ionspan,ilocal\r\n0,1,2,3,4,5,6,7\r\n") 7 (refuse 15 0)
    ∷ case (codes "row,calls,work,span,local,onspan\r\n0,1,2,3,4,5\r\n") 7 (refuse 15 0)
    ∷ case (codes "row,calls,work,span,local,onspan,ilocal\r\n0,1,2,3,4,5,6\r\n") 7 (refuse 15 0)
    ∷ case (codes "row,calls,work,span,local,onspan,ilocal,ionspan,more\r\n0,1,2,3,4,5,6,7,8\r\n") 7 (refuse 15 0)
    ∷ case (codes "Row,calls,work,span,local,onspan,ilocal,ionspan\r\n0,1,2,3,4,5,6,7\r\n") 7 (refuse 15 0)
    ∷ case (codes "row, calls,work,span,local,onspan,ilocal,ionspan\r\n0,1,2,3,4,5,6,7\r\n") 7 (refuse 15 0)
    ∷ case (codes "\"row\",calls,\"work\",span,local,\"onspan\",ilocal,\"ionspan\"\r\n0,1,2,3,4,5,6,7\r\n") 7 (fill 0 one)
    ∷ case (239 ∷ 187 ∷ 191 ∷ under "0,1,2,3,4,5,6,7\r\n") 7 (refuse 15 0)
    ∷ case (under "0,1,2,3,4,5,6,7\r\n") 7 (fill 0 one)
    ∷ case (under "0,1,2,3,4,5,6,7") 7 (fill 0 one)
    ∷ case (under "0,1,2,3,4,5,6,7\r\n") 6 (refuse 16 0)
    ∷ case (under "0,1,2,3,4,5,6,07\r\n") 6 (refuse 15 1)
    ∷ case (under "0,1,2,3,4,5,6,7\n") 7 (refuse 15 1)
    ∷ case (under "0,1,2,3,4,5,6,7\r") 7 (refuse 15 1)
    ∷ case (under "0,1,2,3,4,5,6,7\r1,1,2,3,4,5,6,7\r\n") 14 (refuse 15 1)
    ∷ case (under "0,1,2,3,4,5,6,7\r\n\r\n") 7 (refuse 15 2)
    ∷ case (under "0,1,2,3,4,5,6, 7\r\n") 7 (refuse 15 1)
    ∷ case (under "0,1,2,3,4,5,6,+7\r\n") 7 (refuse 15 1)
    ∷ case (under "0,1,2,3,4,5,6,07\r\n") 7 (refuse 15 1)
    ∷ case (under "0,0,0,0,0,0,0,0\r\n") 7 (fill 0 (0 ∷ 0 ∷ 0 ∷ 0 ∷ 0 ∷ 0 ∷ 0 ∷ []))
    ∷ case (under "0,1,2,3,4,5,6,00\r\n") 7 (refuse 15 1)
    ∷ case (under "00,1,2,3,4,5,6,7\r\n") 7 (refuse 15 1)
    ∷ case (under "0,1,2,3,4,5,6,\r\n") 7 (refuse 15 1)
    ∷ case (under "0,1,2,3,4,5,6,\"\"\r\n") 7 (refuse 15 1)
    ∷ case (under "0,1,2,3,4,5,6,18446744073709551615\r\n") 7 (fill 0 (1 ∷ 2 ∷ 3 ∷ 4 ∷ 5 ∷ 6 ∷ 18446744073709551615 ∷ []))
    ∷ case (under "0,1,2,3,4,5,6,18446744073709551616\r\n") 7 (refuse 15 1)
    ∷ case (under "0,1,2,3,4,5,6,1.84E+019\r\n") 7 (refuse 15 1)
    ∷ case (under "0,1,2,3,4,5,6,1\"7\r\n") 7 (refuse 15 1)
    ∷ case (under "0,1,2,3,4,5,6,\"1\"\"7\"\r\n") 7 (refuse 15 1)
    ∷ case (under "0,1,2,3,4,5,6,\"1\"7\r\n") 7 (refuse 15 1)
    ∷ case (under "0,1,2,3,4,5,6,\"7\r\n") 7 (refuse 15 1)
    ∷ case (under "0,1,2,3,4,5,6,\"7\r\n1,1,2,3,4,5,6,7\"\r\n") 14 (refuse 15 1)
    ∷ case (under "\"0\",\"1\",2,3,4,\"5\",6,\"7\"\r\n") 7 (fill 0 one)
    ∷ case (under "0,1,2,3,4,5,6,\"7\"") 7 (fill 0 one)
    ∷ case (under "0,1,2,3,4,5,6,7\r\n2,1,2,3,4,5,6,7\r\n") 14 (refuse 15 2)
    ∷ case (under "0,1,2,3,4,5,6,7\r\n0,1,2,3,4,5,6,7\r\n") 14 (refuse 15 2)
    ∷ case (under "1,1,2,3,4,5,6,7\r\n0,1,2,3,4,5,6,7\r\n") 14 (refuse 15 1)
    ∷ case (under "0,1,2,3,4,5,6,7\r\n1,8,9,10,11,12,13,14") 14 (fill 1 (one ++ 8 ∷ 9 ∷ 10 ∷ 11 ∷ 12 ∷ 13 ∷ 14 ∷ []))
    ∷ case (under "0,1,2,3,4,5,6,7\r\n1,8,9,10,11,12,13,14") 13 (refuse 16 0)
    ∷ case (under "0,1,2,3,4,5,6,7,8\r\n") 7 (refuse 15 1)
    ∷ case (under "0,1,2,3,4,5,6\r\n") 7 (refuse 15 1)
    ∷ case (under "0,1,2,3,4,5\r\n") 7 (refuse 15 1)
    ∷ case (under "0,1,2,3,4,5,6,7" ++ 0 ∷ codes "\r\n") 7 (refuse 15 1)
    ∷ []

all_hold : hold texts ≡ true
unfolding hold agrees texts reading sheet_of header field separator line_end record_of records
all_hold = refl

-- case I's rows with instructions as they are written: 49 characters of the header, 22, 18 and 19
abbrev rows : List ℕ
rows =
    1 ∷ 10 ∷ 9 ∷ 2 ∷ 2 ∷ 254 ∷ 254
    ∷ 1 ∷ 8 ∷ 7 ∷ 1 ∷ 0 ∷ 17 ∷ 0
    ∷ 1 ∷ 7 ∷ 7 ∷ 7 ∷ 7 ∷ 33 ∷ 33
    ∷ []

written : sheet_text rows 2 ≡ under "0,1,10,9,2,2,254,254\r\n1,1,8,7,1,0,17,0\r\n2,1,7,7,7,7,33,33\r\n"
unfolding flat_map sheet_text record_text decimal
written = refl

-- room for them, one character less, a row too few, and 256 sites
room-enough : writing rows 2 108 ≡ write (sheet_text rows 2)
unfolding flat_map sheet_text record_text decimal
room-enough = refl

room_short : writing rows 2 107 ≡ refused 16 0
unfolding flat_map sheet_text record_text decimal
room_short = refl

rows_short : writing rows 3 1000 ≡ refused 4 0
rows_short = refl

too_many_sites : writing rows 256 0 ≡ refused 1 0
too_many_sites = refl

-- n rows of zeros
abbrev zeros : ℕ → List ℕ
zeros n = top ++ flat_map (λ r. decimal r ++ codes ",0,0,0,0,0,0,0\r\n") (first n)

-- "1 to 256 records": 256 are read, and of 257 the last is not good
most : agrees (reading (zeros 256) 1792) (fill 255 (replicate 1792 0)) ≡ true
unfolding flat_map decimal agrees reading sheet_of header field separator line_end record_of records
most = refl

too_many_lem : agrees (reading (zeros 257) 1799) (refuse 15 257) ≡ true
unfolding flat_map decimal agrees reading sheet_of header field separator line_end record_of records
too_many_lem = refl
