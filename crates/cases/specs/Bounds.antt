-- What is known of a number that is read.
use Rattle.std.specs.Prelude.{ℕ, ◌≤◌, ◌≡◌, List, ◌++◌, length, take, Option, IfSome, MatchOption}
use Rattle.std.specs.Io.KnownBytes.{Consumes}
use Rattle.sheet.specs.Record.{number_at}

-- at most a limit, or the input has ended
abbrev pub AtMost : ℕ → Option ℕ → Type 0
AtMost limit r = IfSome r (λ n. n ≤ limit)

-- of the bytes that a reader has left, where its type says which: some were read
abbrev ReadsSome : Option (List ℕ) → Option (List ℕ) → Type 0
ReadsSome before after = (bytes : List ℕ) × Consumes before after bytes

-- the first are the number, the low byte first
abbrev pub Reads : ℕ → Option (List ℕ) → Option (List ℕ) → Option ℕ → Type 0
Reads width before after r =
    MatchOption r (ReadsSome before after) (λ n. (bytes : List ℕ) × Consumes before after bytes × (length bytes ≡ width) × (n ≡ number_at bytes width 0))

-- the first four are a size, and those behind them, at most as many, are put in front of the room
abbrev pub ReadsSheet : Option (List ℕ) → Option (List ℕ) → List ℕ → Option ℕ → Type 0
ReadsSheet before after room r =
    MatchOption r (ReadsSome before after) (λ n. (size : List ℕ) × Consumes before after (size ++ take n room) × (length size ≡ 4) × (n ≤ number_at size 4 0))
