-- `fill_pairs` meets its contract. The loop's invariant: the certificate has `count` pairs or more, and the rows of
-- these are written.
use Prim.Native.Nat.{◌-◌, ◌≤◌}
use lib.ListN.{length}
use Rattle.sheet_laws.specs.AtOffset.{certificate_at}
use Rattle.meets.specs.Meets.{PairRows}
use Rattle.meets.proofs.fill_pairs.Given as goal

abbrev pub invariant-loop-pair : goal.invariant-loop-pair
invariant-loop-pair l = (l.count ≤ length (certificate_at l.pairs 0)) × PairRows (certificate_at l.pairs 0) l.m l.sets l.count l.rows

abbrev pub decreases-loop-pair : goal.decreases-loop-pair
decreases-loop-pair l = length (certificate_at l.pairs 0) - l.count
