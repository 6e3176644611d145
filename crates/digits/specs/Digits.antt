-- Which characters are digits, what each is worth, and numbers of a fixed width. Characters are numbers, as bytes
-- hold them.
use Rattle.std.specs.Prelude.{ℕ, zero, suc, ◌+◌, ◌-◌, ◌*◌, ◌/◌, ◌%◌, Bool, true, cond, ◌&&◌, ◌||◌, List, [], ◌∷◌, ◌++◌, nat_le, nat_lt}

-- "digits from `0`-`9`, `a`-`f`", and "Reading a digit now takes both cases": the characters 48 to 57, 97 to 102, and the
-- capital letters `A` to `F`, 65 to 70
abbrev pub is_capital : ℕ → Bool
is_capital c = nat_le 65 c && nat_le c 70

abbrev pub is_digit : ℕ → Bool
is_digit c = (nat_le 48 c && nat_le c 57) || ((nat_le 97 c && nat_le c 102) || is_capital c)

-- what a digit is worth: 0 to 9 for `0` to `9`, 10 to 15 for `a` to `f` and for `A` to `F`
abbrev pub worth : ℕ → ℕ
worth c = cond (nat_le c 57) (c - 48) (cond (nat_le c 70) (c - 55) (c - 87))

-- a digit with a small letter for a capital one; any other character as it is
abbrev pub small : ℕ → ℕ
small c = cond (is_capital c) (c + 32) c

-- "its small-letter form"
abbrev pub small_form : List ℕ → List ℕ
small_form [] = []
small_form (c ∷ s) = small c ∷ small_form s

-- every character is a digit
abbrev pub all_digits : List ℕ → Bool
all_digits [] = true
all_digits (c ∷ s) = is_digit c && all_digits s

-- "most significant digit first": the number that the digits s are, behind digits that came to n
abbrev pub behind : ℕ → List ℕ → ℕ
behind n [] = n
behind n (c ∷ s) = behind (16 * n + worth c) s

-- the number that the digits s are
abbrev pub number : List ℕ → ℕ
number s = behind 0 s

-- "in hexadecimal with small letters": the digit that is worth n, for n below 16
abbrev pub digit : ℕ → ℕ
digit n = cond (nat_lt n 10) (48 + n) (87 + n)

-- the last n digits of x, most significant first
abbrev pub digits : ℕ → ℕ → List ℕ
digits zero x = []
digits (suc n) x = digits n (x / 16) ++ digit (x % 16) ∷ []
