-- `push_empty` meets its contract.
use Rattle.std.proofs.Common.{rules}
use Rattle.items.proofs.Turns.{push-empty}
use Rattle.items.proofs.Stack.push_empty.Goals as goal

pub returns-clause-turned : goal.returns-clause-turned
returns-clause-turned c = λ p m. push-empty (search rules) c.requires m
