-- The loop keeps `Filled`, with section k still to come. Each answer is the law of the test that led to it.
use mathlib.Core.Path.{◌≡◌}
use mathlib.Core.List.{[]}
use Prim.Native.Nat.{◌-◌}
use lib.ListN.{length}
use Rattle.kinds.specs.Numbers.{section_number}
use Rattle.sheet.specs.Reading.{Reading, ReadResult}
use Rattle.instrument.specs.Model.{model_with}
use Rattle.sections.specs.Sections.{Told, done, Filled, NamedListed}
use Rattle.sections.proofs.read_alone.Given as goal

abbrev pub invariant-loop-at : goal.invariant-loop-at
invariant-loop-at l = (length l.table ≡ length l.initial.table)
    × ((o : ReadResult) (u : Reading) → Told (model_with l.limits) l.s o (section_number l.section) (done l.initial.at l.initial.tally) u → u.own (section_number l.section) ≡ [] → NamedListed l.s l.points l.methods (section_number l.section) u
    → Filled (model_with l.limits) l.s o (section_number l.section) (done l.at l.tally) (section_number l.section) u l.initial.table l.table)

abbrev pub decreases-loop-at : goal.decreases-loop-at
decreases-loop-at l = length l.s - l.at
