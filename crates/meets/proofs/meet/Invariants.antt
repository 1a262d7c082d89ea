-- `meet` meets its contract. The loop's invariant: what the set holds are the events of `events` that the places that are still to come hold.
use Rattle.meets.proofs.Meeting.{Meeting}
use Rattle.meets.proofs.meet.Given as goal

abbrev pub invariant-loop-k : goal.invariant-loop-k
invariant-loop-k l = Meeting l.sets l.m l.set l.events l.k-iterator.rest
