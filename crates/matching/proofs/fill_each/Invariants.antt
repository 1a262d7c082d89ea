-- `fill_each` meets its contract. The invariant: the rows of the events so far are filled.
use Rattle.matching.specs.Holding.{HoldingFirst}
use Rattle.matching.proofs.fill_each.Given as goal

abbrev pub invariant-loop-event : goal.invariant-loop-event
invariant-loop-event l = HoldingFirst l.sets l.leaves l.word l.event-index l.holding
