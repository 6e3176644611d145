-- For proofs, not for the reader of document 01: characters taken for digits without a look at whether they are, and
-- characters as one number, the first in the lowest byte.
use Rattle.std.specs.Prelude.{ℕ, zero, suc, ◌+◌, ◌*◌, ◌/◌, ◌%◌, cond, List, [], ◌∷◌, length, ◌==◌}

-- a character taken for a digit: what it is worth where it is one
abbrev pub plain : ℕ → ℕ
plain c = (c % 16 + 9 * (c / 64)) % 16

-- the number that the characters s are, each taken for a digit, behind digits that came to n
abbrev pub plain_behind : ℕ → List ℕ → ℕ
plain_behind n [] = n
plain_behind n (c ∷ s) = plain_behind (16 * n + plain c) s

-- the number that the characters s are, each taken for a digit, most significant first
abbrev pub plainly : List ℕ → ℕ
plainly s = plain_behind 0 s

-- characters as one number, the first in the lowest byte
abbrev pub packed : List ℕ → ℕ
packed [] = 0
packed (c ∷ s) = c + 256 * packed s

-- the n lowest bytes of w, the lowest first
abbrev pub bytes : ℕ → ℕ → List ℕ
bytes zero w = []
bytes (suc n) w = w % 256 ∷ bytes n (w / 256)

-- the eight characters of a word, the lowest byte first
abbrev pub chars : ℕ → List ℕ
chars w = bytes 8 w

-- eight characters as one word; 0 where there are not eight
abbrev pub eight_of : List ℕ → ℕ
eight_of s = cond (length s == 8) (packed s) 0

-- four characters behind four digits 0, as one word; 0 where there are not four
abbrev pub four_of : List ℕ → ℕ
four_of s = cond (length s == 4) (packed (48 ∷ 48 ∷ 48 ∷ 48 ∷ s)) 0
