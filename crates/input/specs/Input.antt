-- What reading into a lent slice answers, what it keeps of the slice, and which bytes it gives.
use Rattle.std.specs.Prelude.{ℕ, ◌≤◌, ◌<◌, ◌≡◌, List, length, take, Option, Result, IfOk, MatchResult}
use Rattle.std.specs.Io.KnownBytes.{Consumes, IsAtEnd}

-- as many bytes as there is room for
abbrev pub Within : {E : Type 0} → ℕ → Result ℕ E → Type 0
Within room r = IfOk r (λ n. n ≤ room)

pub record ReadInto {E : Type 0} (before after : List ℕ) (r : Result ℕ E) : Type 0 where
  pub same_length : length after ≡ length before
  pub within : Within (length before) r

-- of the bytes that a reader has left, where its type says which: all of them are read, or the room is full; a read that fails comes after some of
-- them
abbrev pub GivesAll : {E : Type 0} → Option (List ℕ) → Option (List ℕ) → Result ℕ E → List ℕ → Type 0
GivesAll before after r room =
    MatchResult r (λ n. Consumes before after (take n room) × (n < length room → IsAtEnd after)) (λ _. (bytes : List ℕ) × Consumes before after bytes)
