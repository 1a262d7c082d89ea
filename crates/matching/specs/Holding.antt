-- The leaves that hold the events of a word.
use Rattle.std.specs.Prelude.{◌≡◌, List, ℕ, ◌≤◌, ◌<◌, length, get_or}
use Rattle.bits.specs.Rows.{row_has}

-- for each of the first i events of the word, its row of `holding` has the leaves up to n whose row of `sets` has it
pub record HoldingFirst (sets : List ℕ) (n : ℕ) (word : List ℕ) (i : ℕ) (holding : List ℕ) : Type 0 where
  pub rows_long : length holding ≡ 64
  pub first_is : (j q : ℕ) → j < i → 0 < q → q ≤ n → row_has holding (get_or word j 0) q ≡ row_has sets q (get_or word j 0)
