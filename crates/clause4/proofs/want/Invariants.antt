-- `want` meets its contract. The loop's invariant: each of the places but those that are still to come has its row.
use Rattle.clause4.proofs.Wanting.{Wanting}
use Rattle.clause4.proofs.want.Given as goal

abbrev pub invariant-loop-q : goal.invariant-loop-q
invariant-loop-q l = Wanting l.missers l.sets l.mask l.missing l.q-iterator.rest
