-- Nothing is found among the points of the turns before.
use Rattle.owners.proofs.Strays.{Onward}
use Rattle.owners.proofs.first_stray_owner.Given as goal

abbrev pub invariant-loop-point : goal.invariant-loop-point
invariant-loop-point l = Onward l.s l.methods l.point-items l.point-index
