-- `push_leaf` meets its contract.
use Rattle.std.proofs.Common.{rules}
use Rattle.items.proofs.Turns.{push-leaf}
use Rattle.items.proofs.Stack.push_leaf.Goals as goal

pub returns-clause-turned : goal.returns-clause-turned
returns-clause-turned c =
    push-leaf (search rules) c.requires.0 c.args.set c.args.leaves (search rules) (search rules) c.requires.1 c.bit-alone.ensures
