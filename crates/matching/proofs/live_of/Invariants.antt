-- `live_of` meets its contract. The invariant: the places above p are found, for each condition whose tables these are.
use Prim.Native.Nat.{◌+◌}
use Rattle.condition.specs.Condition.{Condition}
use Rattle.places.specs.Tables.{Tables}
use Rattle.matching.proofs.Live.{Found}
use Rattle.matching.proofs.live_of.Given as goal

abbrev pub invariant-loop-p : goal.invariant-loop-p
invariant-loop-p l = (r : Condition) → Tables r l.fn.side l.rows.follow l.rows.sets → Found r l.rows.sets (l.p + 1) l.live l.entered
