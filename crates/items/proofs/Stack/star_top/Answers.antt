-- `star_top` meets its contract.
use Rattle.std.proofs.Common.{rules}
use Rattle.items.proofs.Turns.{star-top}
use Rattle.items.proofs.Stack.star_top.Goals as goal

pub returns-clause-turned : goal.returns-clause-turned
returns-clause-turned c = λ m few. star-top (search rules) c.requires.1 c.link.ensures few
