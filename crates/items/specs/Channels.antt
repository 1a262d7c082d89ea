-- The sets of leaves with two channels exchanged.
use Rattle.std.specs.Prelude.{◌≡◌, List, ℕ, ◌≤◌, ◌<◌, get_or}
use Rattle.condition.specs.Exchange.{exchange_set}

-- the sets of the leaves behind the first b, up to leaf n, with the events of channel 0 and of channel c exchanged; those of the first b as before
pub record SetsExchanged (b n c : ℕ) (S S' : List ℕ) : Type 0 where
  pub exchanged_is : (q : ℕ) → b < q → q ≤ n → get_or S' q 0 ≡ exchange_set c (get_or S q 0)
  pub first_stay : (q : ℕ) → q ≤ b → get_or S' q 0 ≡ get_or S q 0
