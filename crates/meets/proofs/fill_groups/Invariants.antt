-- `fill_groups` meets its contract. The loop's invariant: the rows below j are written.
use Rattle.meets.specs.Meets.{GroupRows}
use Rattle.meets.proofs.fill_groups.Given as goal

abbrev pub invariant-loop-j : goal.invariant-loop-j
invariant-loop-j l = GroupRows l.m l.sets l.j l.rows
