-- The loop keeps `Ending`; there are no more certificates than bytes before.
use mathlib.Core.Path.{◌≡◌}
use mathlib.Core.List.{[]}
use Prim.Native.Nat.{◌-◌, ◌≤◌}
use lib.ListN.{length}
use Rattle.sheet.specs.Reading.{Reading, ReadResult}
use Rattle.instrument.specs.Model.{model_with}
use Rattle.sections.specs.Sections.{Told, done}
use Rattle.sections.proofs.Ending.{Ending}
use Rattle.sections.proofs.read_certificates.Given as goal

abbrev pub invariant-loop-at : goal.invariant-loop-at
invariant-loop-at l = (l.tally.certificates ≤ l.at)
    × ((o : ReadResult) (u : Reading) → Told (model_with l.limits) l.s o 5 (done l.reached.at l.reached.tally) u → u.own 5 ≡ []
    → Ending (model_with l.limits) l.s o u l.reached.at l.at l.tally l.inside)

abbrev pub decreases-loop-at : goal.decreases-loop-at
decreases-loop-at l = length l.s - l.at
