-- For proofs and engines, not for the reader of document 01: a chain's table in a block of the scratch, with the word that
-- says which rows are in use, and what the walks over the rows ask for and leave.
use Rattle.std.specs.Prelude.{ℕ, zero, suc, ◌+◌, ◌*◌, ◌/◌, ◌%◌, ◌^◌, ◌≤◌, ◌<◌, ◌≡◌, cond, List, [], ◌∷◌, ◌++◌, eqb, length, get_or, set}
use Rattle.std.specs.Int.Bits.{bit_or}
use Rattle.chain.specs.Plan.{CostLine, weight}
use Rattle.trace.specs.Fold.{its_instructions, on_all, on_row}
use Rattle.walk.specs.Measure.{cycles, instructions}
use Rattle.tables.specs.declared.Pair.{Pair}

-- the rows in use by a chain, by fours: bit b is set where a cost stands in one of the rows 4b to 4b + 3
abbrev pub used : List CostLine → ℕ
used [] = 0
used (x ∷ c) = bit_or (cond (eqb x.value 0) 0 (2 ^ (x.row / 4))) (used c)

-- number i of a table is of one measure: the even ones are cycles, and the odd ones instructions
abbrev pub side : ℕ → ℕ → ℕ → ℕ
side i v j = cond (eqb (i % 2) 0) v j

-- what number i takes of a cost line in its row; a line that weighs nothing is in no word, and counts for nothing
abbrev pub counted : ℕ → CostLine → ℕ
counted i x = cond (eqb x.value 0) 0 (side i x.value x.instructions)

-- Number i of a chain's table: what of the chain stands in each row, two numbers a row and w in all, and the word of the
-- rows in use behind them.
abbrev pub number : ℕ → List CostLine → ℕ → ℕ
number w [] i = 0
number w (x ∷ c) i = cond (eqb i w) (used (x ∷ c)) (on_row (counted i) (i / 2) (x ∷ c))

-- the block at a is a chain's table
abbrev pub Table : List ℕ → ℕ → ℕ → List CostLine → Type 0
Table t a w c = (i : ℕ) → i ≤ w → get_or t (a + i) 0 ≡ number w c i

-- the block at a is the table of some chain
abbrev pub IsTable : List ℕ → ℕ → ℕ → Type 0
IsTable t a w = (c : List CostLine) × Table t a w c

-- bit b is not set in a word
abbrev pub Idle : ℕ → ℕ → Type 0
Idle word b = word / 2 ^ b % 2 ≡ 0

-- the numbers of the block at a whose rows are not in the word are zero
abbrev pub Idles : ℕ → ℕ → ℕ → List ℕ → Type 0
Idles word w a t = (i : ℕ) → i < w → Idle word (i / 8) → get_or t (a + i) 0 ≡ 0

-- j is not among the w numbers from a on
abbrev pub Out : ℕ → ℕ → ℕ → Type 0
Out a w j = a ≤ j → j < a + w → ⊥

-- the blocks of w numbers at 0, b, e and g lie apart
pub record Apart (w b e g : ℕ) (t : List ℕ) : Type 0 where
  pub at_b : w ≤ b
  pub at_e : w ≤ e
  pub b_g : b + w ≤ g
  pub e_g : e + w ≤ g
  pub b_e : (i k : ℕ) → i < w → k < w → b + i ≡ e + k → ⊥
  pub room : g + w ≤ length t

-- the numbers of the prefix's block and of the block at b can be added
abbrev pub SumsFit : ℕ → ℕ → List ℕ → Type 0
SumsFit w b t = (i : ℕ) → i < w → get_or t i 0 + get_or t (b + i) 0 < 2 ^ 64

-- j is number i of none of the four blocks
pub record Off (b e g i j : ℕ) : Type 0 where
  pub not_p : j ≡ i → ⊥
  pub not_b : j ≡ b + i → ⊥
  pub not_e : j ≡ e + i → ⊥
  pub not_g : j ≡ g + i → ⊥

-- Numbers from to stop - 1, as far as there are w: the prefix's have taken in those of the block at b, the block at e has
-- those of the block at g, and b and g are clear.
pub record Taken (b e g w from stop : ℕ) (t t' : List ℕ) : Type 0 where
  pub sums : (i : ℕ) → from ≤ i → i < stop → i < w → get_or t' i 0 ≡ get_or t i 0 + get_or t (b + i) 0
  pub gone : (i : ℕ) → from ≤ i → i < stop → i < w → get_or t' (b + i) 0 ≡ 0
  pub comes : (i : ℕ) → from ≤ i → i < stop → i < w → get_or t' (e + i) 0 ≡ get_or t (g + i) 0
  pub free : (i : ℕ) → from ≤ i → i < stop → i < w → get_or t' (g + i) 0 ≡ 0
  pub rest : (j : ℕ) → ((i : ℕ) → from ≤ i → i < stop → i < w → Off b e g i j) → get_or t' j 0 ≡ get_or t j 0

-- the row whose numbers stand from number i on, the numbers where they are now those of a row, and the row of no chain
abbrev pub pair_at : List ℕ → ℕ → Pair
pair_at t i = record { cycles = cycles (get_or t i 0); instructions = instructions (get_or t (i + 1) 0) }

abbrev pub paired : List ℕ → ℕ → Pair → List ℕ
paired t i x = set (set t i x.cycles.0) (i + 1) x.instructions.0

abbrev pub no_pair : Pair
no_pair = record { cycles = cycles 0; instructions = instructions 0 }

-- a row can be added to another, measure by measure, and is
abbrev pub PairFits : Pair → Pair → Type 0
PairFits x y = (x.cycles.0 + y.cycles.0 < 2 ^ 64) × (x.instructions.0 + y.instructions.0 < 2 ^ 64)

abbrev pub pair_sum : Pair → Pair → Pair
pair_sum x y = record { cycles = cycles (x.cycles.0 + y.cycles.0); instructions = instructions (x.instructions.0 + y.instructions.0) }

-- the numbers where a row was added to the one from number i on
abbrev pub added : List ℕ → ℕ → Pair → List ℕ
added t i x = paired t i (pair_sum (pair_at t i) x)

-- the numbers of a row, and of rows that stand side by side
abbrev pub of_pair : Pair → ℕ → ℕ
of_pair x zero = x.cycles.0
of_pair x (suc k) = x.instructions.0

abbrev pub numbers : List Pair → ℕ → ℕ
numbers x k = of_pair (get_or x (k / 2) no_pair) (k % 2)

-- m numbers x are stored from number i on
pub record Laid (m i : ℕ) (x : ℕ → ℕ) (t t' : List ℕ) : Type 0 where
  pub here : (k : ℕ) → k < m → get_or t' (i + k) 0 ≡ x k
  pub off : (j : ℕ) → Out i m j → get_or t' j 0 ≡ get_or t j 0

-- n rows: those from number i on, rows that can be added to others, and that were
abbrev pub RowsAt : List ℕ → ℕ → ℕ → List Pair → Type 0
RowsAt t i n x = (k : ℕ) → k < n → get_or x k no_pair ≡ pair_at t (i + 2 * k)

abbrev pub RowsFit : ℕ → List Pair → List Pair → Type 0
RowsFit n x y = (k : ℕ) → k < n → PairFits (get_or x k no_pair) (get_or y k no_pair)

abbrev pub RowSums : ℕ → List Pair → List Pair → List Pair → Type 0
RowSums n x y z = (k : ℕ) → k < n → get_or z k no_pair ≡ pair_sum (get_or x k no_pair) (get_or y k no_pair)

-- the fours in use in the tables at b, e and g
abbrev pub in_use : ℕ → ℕ → ℕ → ℕ → List ℕ → ℕ
in_use b e g w t = bit_or (bit_or (get_or t (b + w) 0) (get_or t (e + w) 0)) (get_or t (g + w) 0)

-- the words, as the rows
abbrev pub worded : ℕ → ℕ → ℕ → ℕ → List ℕ → List ℕ
worded b e g w t = set (set (set (set t w (bit_or (get_or t w 0) (get_or t (b + w) 0))) (b + w) 0) (e + w) (get_or t (g + w) 0)) (g + w) 0

-- the four blocks are tables, and the prefix's can take in the one at b
pub record TakesIn (b e g w : ℕ) (t : List ℕ) : Type 0 where
  pub apart : Apart (w + 1) b e g t
  pub p : List CostLine
  pub x : List CostLine
  pub P : Table t 0 w p
  pub B : Table t b w x
  pub E : IsTable t e w
  pub G : IsTable t g w
  pub even : w % 2 ≡ 0
  pub fits : weight p + weight x < 2 ^ 64
  pub ifits : on_all its_instructions p + on_all its_instructions x < 2 ^ 64

-- the prefix's table has taken in the one at b, the one at e is what was at g, and b and g are clear
pub record TookIn (b e g w : ℕ) (t t' : List ℕ) : Type 0 where
  pub sums : (p x : List CostLine) → Table t 0 w p → Table t b w x → Table t' 0 w (p ++ x)
  pub comes : (z : List CostLine) → Table t g w z → Table t' e w z
  pub gone : Table t' b w []
  pub free : Table t' g w []
  pub rest : (j : ℕ) → Out 0 (w + 1) j → Out b (w + 1) j → Out e (w + 1) j → Out g (w + 1) j → get_or t' j 0 ≡ get_or t j 0

-- numbers from to stop - 1, as far as there are w, of the block at a were cleared
pub record Cleared (a w from stop : ℕ) (t t' : List ℕ) : Type 0 where
  pub gone : (i : ℕ) → from ≤ i → i < stop → i < w → get_or t' (a + i) 0 ≡ 0
  pub rest : (j : ℕ) → ((i : ℕ) → from ≤ i → i < stop → i < w → j ≡ a + i → ⊥) → get_or t' j 0 ≡ get_or t j 0
