-- A line as a plain value.
use Rattle.std.specs.Prelude.{ℕ, ◌≤◌, ◌≡◌, List, length, take}

-- the first `size` of 160 bytes are the line
pub record LineIn (line : List ℕ) (bytes : List ℕ) (size : ℕ) : Type 0 where
  pub front : take size bytes ≡ line
  pub short : size ≤ 152
  pub room : length bytes ≡ 160
