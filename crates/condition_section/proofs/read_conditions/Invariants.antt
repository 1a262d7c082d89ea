-- The loop keeps `Opening`, from the mark of the edition on. Each answer is the law of the test that led to it.
use mathlib.Core.Path.{◌≡◌}
use mathlib.Core.List.{[]}
use Prim.Native.Nat.{◌-◌, ◌≤◌}
use lib.ListN.{length}
use Rattle.sheet.specs.Reading.{Reading, ReadResult}
use Rattle.instrument.specs.Model.{model_with}
use Rattle.refusals.specs.Step.{Modest}
use Rattle.sections.specs.Sections.{Told, done}
use Rattle.condition_section.proofs.Opening.{Opening}
use Rattle.condition_section.proofs.read_conditions.Given as goal

abbrev pub invariant-loop-at : goal.invariant-loop-at
invariant-loop-at l = Modest l.begun × (l.start ≤ l.at)
    × ((o : ReadResult) (u : Reading) → Told (model_with l.limits) l.s o 0 (done 0 l.initial.tally) u → u.own 1 ≡ [] → Opening (model_with l.limits) l.s o u l.at l.start l.begun l.tally l.initial.table l.table)

abbrev pub decreases-loop-at : goal.decreases-loop-at
decreases-loop-at l = length l.s - l.at
