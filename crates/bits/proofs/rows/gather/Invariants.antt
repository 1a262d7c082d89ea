-- `rows::gather` meets its contract. The invariant, `Gathering`: `found` and the rows of the numbers that are still to come make the union.
use Rattle.bits.proofs.Filling.{Gathering}
use Rattle.bits.proofs.rows.gather.Given as goal

abbrev pub invariant-loop-p : goal.invariant-loop-p
invariant-loop-p l = Gathering l.rows l.n l.set l.found l.p-iterator.rest
