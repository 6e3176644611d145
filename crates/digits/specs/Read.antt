-- What reading digits gives: a character's worth, and the number that up to eight digits are.
use Rattle.std.specs.Prelude.{ℕ, cond, ◌&&◌, List, length, Option, Some, None, nat_le}
use Rattle.digits.specs.Digits.{is_digit, worth, all_digits, number}

-- what a character is worth, and 16 where it is no digit
abbrev pub worth_of : ℕ → ℕ
worth_of c = cond (is_digit c) (worth c) 16

-- the number that the characters are; none where one is no digit or there are more than eight
abbrev pub reading : List ℕ → Option ℕ
reading s = cond (nat_le (length s) 8 && all_digits s) (Some (number s)) None
