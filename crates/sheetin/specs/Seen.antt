-- For proofs, not for the reader: what the code found at the front of a text, in the words of the definitions.
use Prim.{Unit, tt}
use denote.Ref.{Bor}
use Rattle.std.specs.Prelude.{ℕ, ◌*◌, List, ◌++◌, ◌≡◌, Option, Some, None, Result, Ok, Err, drop}
use Rattle.trace.specs.Rows.{columns}
use Rattle.sheet.specs.Grammar.{numeral, next_numerals, Sheet, sheet, bad, records}
use Rattle.sheet.specs.Found.{Found, none, found, then}

-- something whose value does not matter, by the text behind it
abbrev pub past : Option (Bor (List ℕ)) → Found Unit
past None = none
past (Some rest) = found tt rest.now

-- a number, and the text behind it
abbrev pub got : Option (ℕ × Bor (List ℕ)) → Found ℕ
got None = none
got (Some x) = found x.0 x.1.now

-- a field's content, and the text behind the field
abbrev pub parted : Option (Bor (List ℕ) × Bor (List ℕ)) → Found (List ℕ)
parted None = none
parted (Some x) = found x.0.now x.1.now

-- numbers that a room holds, by the text behind them
abbrev pub filled : Option (Bor (List ℕ)) → List ℕ → Found (List ℕ)
filled None numbers = none
filled (Some rest) numbers = found numbers rest.now

-- that something is there, without its value
abbrev pub there : {A : Type 0} → Found A → Found Unit
there none = none
there (found a s) = found tt s

-- the n numbers behind a record's first, whichever row's it is
abbrev pub numbers_of : ℕ → List ℕ → Found (List ℕ)
numbers_of n s = then (numeral s) (λ _ u. next_numerals n u)

-- how many rows there are, or the first record that is not good, without the rows' numbers
abbrev pub tally : Sheet → Result ℕ ℕ
tally (sheet n numbers) = Ok n
tally (bad k) = Err k

-- n rows are there
abbrev pub IsSheet : List ℕ → ℕ → Type 0
IsSheet s n = tally (records 256 0 s) ≡ Ok n

-- where n rows are there, their numbers are what a room holds after, before what it held behind them
pub record FillsRows (s : List ℕ) (n : ℕ) (before after : List ℕ) : Type 0 where
  pub all : (numbers : List ℕ) → records 256 0 s ≡ sheet n numbers → after ≡ numbers ++ drop (columns * n) before
