use mathlib.Core.List.{List}
use Prim.Native.Nat.{◌+◌, ◌-◌, ◌≤◌}
use Rattle.sheet.specs.Sheet.{Sheet}
use Rattle.runs.specs.Rules.{Rule}
use Rattle.rules.specs.Order.{IndexOf}
use Rattle.rules.specs.Cursor.{LeftAt, weight}
use Rattle.rules.proofs.cursor.Cursor.next_claim.Given as goal

abbrev pub invariant-loop-claim : goal.invariant-loop-claim
invariant-loop-claim l = (weight l.x.counts l.self ≤ weight l.x.counts l.initial.self)
    × ((S : Sheet) (xs : List Rule) → IndexOf S l.x → LeftAt l.x.sheet.now S l.initial.self xs → LeftAt l.x.sheet.now S l.self xs)

abbrev pub decreases-loop-claim : goal.decreases-loop-claim
decreases-loop-claim l = l.x.counts.methods + l.x.counts.steps - l.self.number
