-- What is known of arguments that are read as numbers.
use Rattle.std.specs.Prelude.{ℕ, ◌≤◌, ◌≡◌, List, length, drop, Option, Result, IfSome, MatchResult}

-- a number that is at most a limit, or none
abbrev pub NumberAtMost : ℕ → Option ℕ → Type 0
NumberAtMost limit r = IfSome r (λ n. n ≤ limit)

-- n events fit and nothing behind them is changed; or one of the arguments from `from` on is wrong
abbrev pub EventsRead : ℕ → List ℕ → List ℕ → Result ℕ ℕ → Type 0
EventsRead from before after r = MatchResult r (λ n. (n ≤ length before) × (drop n after ≡ drop n before)) (λ i. from ≤ i)

-- events that are read into a slice
pub record EventsIn (from : ℕ) (before after : List ℕ) (r : Result ℕ ℕ) : Type 0 where
  pub same_length : length after ≡ length before
  pub told : EventsRead from before after r
