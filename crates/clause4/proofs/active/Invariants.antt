-- `active` meets its contract. The loop's invariant: `found` has the places below q whose leaf holds an event.
use Rattle.clause4.specs.Clause4.{Active}
use Rattle.clause4.proofs.active.Given as goal

abbrev pub invariant-loop-q : goal.invariant-loop-q
invariant-loop-q l = Active l.sets l.q l.events l.found
