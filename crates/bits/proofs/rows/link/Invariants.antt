-- `rows::link` meets its contract. The invariant, `Linking`: the rows are as asked once those of the numbers that are still to come are linked.
use Rattle.bits.proofs.Filling.{Linking}
use Rattle.bits.proofs.rows.link.Given as goal

abbrev pub invariant-loop-p : goal.invariant-loop-p
invariant-loop-p l = Linking l.set l.more l.initial.rows l.rows l.p-iterator.rest
