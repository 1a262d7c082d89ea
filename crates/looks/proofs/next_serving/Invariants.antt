-- `next_serving` meets its contract. The loop's invariant: the pairs from `from` on, below i, are passed over.
use Rattle.looks.specs.Looks.{certificate_of, Passed}
use Rattle.looks.proofs.next_serving.Given as goal

abbrev pub invariant-loop-i : goal.invariant-loop-i
invariant-loop-i l = Passed (certificate_of l.search) l.search.scope.m l.onward l.search.sets.now l.missing l.from l.i
