use Rattle.sheet.specs.Sheet.{Sheet}
use Rattle.rules.specs.Order.{IndexOf}
use Rattle.rules.specs.Cursor.{weight}
use Rattle.checker.proofs.Laws.{Onward}
use Rattle.checker.proofs.test_rules.Given as goal

abbrev pub invariant-loop-claim : goal.invariant-loop-claim
invariant-loop-claim l = (S : Sheet) → IndexOf S l.x → Onward l.events l.x.sheet.now S l.from l.at l.cursor

abbrev pub decreases-loop-claim : goal.decreases-loop-claim
decreases-loop-claim l = weight l.x.counts l.cursor
