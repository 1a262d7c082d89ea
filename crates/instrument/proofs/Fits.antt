-- What holds of every instrument: the offsets of its sheets fit four bytes, a table of 512 has room for its points, its events fit a set, its kinds have
-- rows in the table of kinds, and it has the events that a leaf's set can hold.
use mathlib.Core.Path.{◌≡◌, sym, subst}
use Prim.Native.Nat.{◌≤◌}
use native.Mathlib.Omega.{arith}
use Rattle.sheet.specs.Model.{Model, set_events}
use Rattle.instrument.specs.declared.Instrument.{Instrument}
use Rattle.instrument.specs.declared.Instrument.TheVariants.{Large, Entry, Four}
use Rattle.instrument.specs.declared.Limits.{Limits}
use Rattle.instrument.specs.Model.{model_of, model_with, limits_of}

pub record Fits (M : Model) : Type 0 where
  pub few_bytes : M.bytes ≤ 4294967296
  pub few_points : M.points ≤ 512
  pub few_events : M.events ≤ 64
  pub few_kinds : M.kinds ≤ 22
  pub wide : set_events M ≤ M.events

pub instrument-fits : (i : Instrument) → Fits (model_of i)
instrument-fits Large = record { few_bytes = omega arith; few_points = omega arith; few_events = omega arith; few_kinds = omega arith; wide = omega arith }
instrument-fits Entry = record { few_bytes = omega arith; few_points = omega arith; few_events = omega arith; few_kinds = omega arith; wide = omega arith }
instrument-fits Four = record { few_bytes = omega arith; few_points = omega arith; few_events = omega arith; few_kinds = omega arith; wide = omega arith }

-- and of its limits
pub limits-fit : (i : Instrument) {l : Limits} → l ≡ limits_of i → Fits (model_with l)
limits-fit i is = subst (λ (l : Limits). Fits (model_with l)) (sym is) (instrument-fits i)
