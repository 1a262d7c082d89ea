-- The instrument that a program's arguments choose, and the number of the argument behind the option.
use Rattle.std.specs.Prelude.{Option, Some}
use Rattle.instrument.specs.declared.Instrument.{Instrument}
use Rattle.instrument.specs.declared.Instrument.TheVariants.{Large}
use Rattle.arguments.specs.declared.Choice.{Choice}

-- the large one where there is no option; else the option is arguments 1 and 2
pub data Chosen : Choice → Type 0 where
  no_option : Chosen (record { instrument = Some Large; next = 1 })
  option : (instrument : Option Instrument) → Chosen (record { instrument = instrument; next = 3 })
