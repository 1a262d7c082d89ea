-- What printing a line does to the bytes that a writer holds.
use Rattle.std.specs.Prelude.{ℕ, List, [], ◌∷◌, ◌++◌, Option}
use Rattle.std.specs.Io.KnownBytes.{Appends}

-- where its type says which bytes a writer holds, the line and a newline, 10, are behind them
abbrev pub Prints : Option (List ℕ) → Option (List ℕ) → List ℕ → Type 0
Prints before after line = Appends before after (line ++ 10 ∷ [])
