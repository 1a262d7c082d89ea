-- A decimal number in an argument.
use Rattle.std.specs.Prelude.{ℕ, ◌+◌, ◌-◌, ◌*◌, min, cond, List, [], ◌∷◌, length, ltb, Option, Some, None}
use Rattle.std.specs.Char.{is_ascii_digit}

-- the number n with the digits that follow, where one above 65,535 counts as 65,535; another byte than a digit makes the argument none
unfoldable pub number_from : ℕ → List ℕ → Option ℕ
number_from n [] = Some n
number_from n (b ∷ bs) = cond (is_ascii_digit b) (number_from (min (10 * n + (b - 48)) 65535) bs) None

-- one digit or more
abbrev pub number_in : List ℕ → Option ℕ
number_in text = cond (ltb (length text) 1) None (number_from 0 text)
