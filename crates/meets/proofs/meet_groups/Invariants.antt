-- `meet_groups` meets its contract. The loop's invariant: `events` are those that the places of the first g groups hold.
use Rattle.meets.specs.Meets.{table_rows, GroupRows}
use Rattle.meets.proofs.Groups.{Gone}
use Rattle.meets.proofs.meet_groups.Given as goal

abbrev pub invariant-loop-g : goal.invariant-loop-g
invariant-loop-g l = GroupRows l.m l.sets table_rows l.rows → Gone l.m l.sets l.set l.g l.events
