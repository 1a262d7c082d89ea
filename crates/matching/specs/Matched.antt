-- What matching a word tells: the condition holds it, or how far it begins some word of the condition.
use Rattle.std.specs.Prelude.{ℕ, cond, Result, Ok, Err}
use Rattle.condition.specs.Condition.{Condition, Word}
use Rattle.condition.specs.Places.{accepts, longest}

abbrev pub matched : Condition → Word → Result Unit ℕ
matched r w = cond (accepts r w) (Ok tt) (Err (longest r w))
