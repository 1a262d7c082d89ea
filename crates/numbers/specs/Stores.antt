-- Numbers that are stored in a slice.
use Rattle.std.specs.Prelude.{ℕ, ◌≡◌, List, get_or}
use Rattle.numbers.specs.Numbers.{stored, returned}

-- the numbers of an answer are stored, and the first of them is the status
pub record Stores (numbers before after : List ℕ) (result : ℕ) : Type 0 where
  pub written : after ≡ stored numbers before
  pub status : result ≡ returned (get_or numbers 0 0) before
