-- The model of each instrument, the code's limits as a model, and the instruments by number.
use Rattle.std.specs.Prelude.{◌≡◌, ℕ, eqb, cond, Option, Some, None, Result, MatchResult}
use Rattle.sheet.specs.Model.{Model, large, entry, four}
use Rattle.instrument.specs.declared.Instrument.{Instrument}
use Rattle.instrument.specs.declared.Instrument.TheVariants.{Large, Entry, Four}
use Rattle.instrument.specs.declared.UnknownInstrument.{UnknownInstrument}
use Rattle.instrument.specs.declared.Limits.{Limits}

-- the model that an instrument is
abbrev pub model_of : Instrument → Model
model_of Large = large
model_of Entry = entry
model_of Four = four

-- the model that limits stand for, and the limits of a model
abbrev pub model_with : Limits → Model
model_with l = record { bytes = l.bytes; points = l.points; events = l.events; kinds = l.kinds }

abbrev pub limits_of : Instrument → Limits
limits_of i =
    let M = model_of i in record { bytes = M.bytes; points = M.points; events = M.events; kinds = M.kinds }

-- the instrument that a number names: 1 the large one, 2 the entry instrument, 3 the four-channel one, any other number none
abbrev pub instrument_of : ℕ → Option Instrument
instrument_of n = cond (eqb n 1) (Some Large) (cond (eqb n 2) (Some Entry) (cond (eqb n 3) (Some Four) None))

-- the instrument that a number names, or an error with a number that names none
abbrev pub Names : ℕ → Result Instrument UnknownInstrument → Type 0
Names n r = MatchResult r (λ i. instrument_of n ≡ Some i) (λ e. (instrument_of n ≡ None) × (e.0 ≡ n))
