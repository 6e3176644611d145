-- Decimal numbers: which characters are figures, what figures are worth, which are well written, the figures of a
-- number, and what reading them gives.
use Rattle.std.specs.Prelude.{ℕ, zero, suc, ◌+◌, ◌-◌, ◌*◌, ◌/◌, ◌%◌, ◌^◌, Bool, true, false, cond, not, ◌&&◌, List, [], ◌∷◌, ◌++◌, ◌==◌, Option, Some, None, nat_le, nat_lt}

-- a decimal digit, here a figure: the characters `0` to `9`, which are 48 to 57
abbrev pub is_figure : ℕ → Bool
is_figure c = nat_le 48 c && nat_le c 57

-- every character is a figure
abbrev pub all_figures : List ℕ → Bool
all_figures [] = true
all_figures (c ∷ s) = is_figure c && all_figures s

-- the number that the figures s are, most significant first, behind figures that came to n
abbrev pub behind : ℕ → List ℕ → ℕ
behind n [] = n
behind n (c ∷ s) = behind (10 * n + (c - 48)) s

-- the number that the figures s are
abbrev pub number : List ℕ → ℕ
number s = behind 0 s

-- one figure or more, "no number with a leading zero (other than 0)"
abbrev pub proper : List ℕ → Bool
proper [] = false
proper (c ∷ []) = is_figure c
proper (c ∷ d ∷ s) = not (c == 48) && all_figures (c ∷ d ∷ s)

-- "or past 64 bits"
abbrev pub is_number : List ℕ → Bool
is_number s = proper s && nat_lt (number s) (2 ^ 64)

-- how many figures x has, if not more than n: 1 below 10, else one more than its tenth has
abbrev pub sizes : ℕ → ℕ → ℕ
sizes zero x = 0
sizes (suc n) x = cond (nat_lt x 10) 1 (suc (sizes n (x / 10)))

-- a number of 64 bits has at most 20
abbrev pub size_of : ℕ → ℕ
size_of x = sizes 20 x

-- the last n figures of x, most significant first
abbrev pub figures : ℕ → ℕ → List ℕ
figures zero x = []
figures (suc n) x = figures n (x / 10) ++ (48 + x % 10) ∷ []

-- the figures of x, no more than it has
unfoldable pub decimal : ℕ → List ℕ
decimal x = figures (size_of x) x

-- what reading gives: a number where a test says so, and none where it does not
abbrev pub given : Bool → ℕ → Option ℕ
given b n = cond b (Some n) None

-- the number that figures are, whether the first is 0 or not
abbrev pub value_of : List ℕ → Option ℕ
value_of s = given (all_figures s && nat_lt (number s) (2 ^ 64)) (number s)

-- the number that the characters are
abbrev pub reading : List ℕ → Option ℕ
reading s = given (is_number s) (number s)
