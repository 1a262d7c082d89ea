-- The event that is none, which the word test refuses: document 01, refusal 13, "an event above 31, first such index".
use Rattle.std.specs.Prelude.{ℕ, List, Option, nat_le, position}

-- the index of the first event that is not below `events`, if there is one
abbrev pub stray_in : (events : ℕ) → List ℕ → Option ℕ
stray_in events word = position (λ e. nat_le events e) word
