-- `word_along` meets its contract. The invariant: `places` is the start stepped by the events so far, after each of which a word could be finished, for
-- each condition whose tables these are; and the unions that are kept are right.
use Prim.Native.Nat.{◌+◌}
use Rattle.bits.specs.Rows.{Unions}
use Rattle.condition.specs.Condition.{Condition}
use Rattle.condition.proofs.Longest.{Along}
use Rattle.places.specs.Tables.{Tables}
use Rattle.matching.proofs.word_along.Given as goal

abbrev pub invariant-loop-i : goal.invariant-loop-i
invariant-loop-i l = ((r : Condition) → Tables r l.fn.side l.rows.follow l.rows.sets → Along r l.word l.i l.places) × Unions l.rows.follow (l.leaves + 1) l.kept.sets l.kept.unions
