-- `numbers::refusal_numbers` meets its contract, with a place and without.
use mathlib.Core.Path.{sym, ap, ◌∙◌}
use Rattle.format.specs.Options.{option_of}
use Rattle.numbers.proofs.refusal_numbers.Goals as goal

pub returns-in-Some : goal.returns-in-Some
returns-in-Some c = rw (← (sym (ap option_of c.in-Some.is) ∙ c.refusal_place.ensures), c.refusal_number-number.ensures)

pub returns-in-None : goal.returns-in-None
returns-in-None c = rw (← (sym (ap option_of c.in-None.is) ∙ c.refusal_place.ensures), c.refusal_number-number.ensures)
