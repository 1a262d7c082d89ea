-- The names of a record, as the code reads them.
use Rattle.std.specs.Prelude.{ℕ, ◌+◌, Bool, ◌&&◌, List, ltb}
use Rattle.sheet_laws.specs.AtOffset.{short_at}

-- two and three names in a row, from an offset on, are below n
abbrev pub two_below : List ℕ → ℕ → ℕ → Bool
two_below s i n = ltb (short_at s i) n && ltb (short_at s (i + 2)) n

abbrev pub three_below : List ℕ → ℕ → ℕ → Bool
three_below s i n = ltb (short_at s i) n && two_below s (i + 2) n
