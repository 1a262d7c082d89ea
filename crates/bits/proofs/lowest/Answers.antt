-- `lowest` meets its contract: the machine counts the zeros below the lowest number (`Least`).
use Rattle.bits.proofs.Least.{lowest-bit, lowest-past}
use borrow.Author.Rules.{rules}
use Rattle.bits.proofs.lowest.Goals as goal

pub returns-then-k-n : goal.returns-then-k-n
returns-then-k-n c = lowest-bit _ _ (search rules) c.requires c.if-k-n.true

pub returns-else-k-n : goal.returns-else-k-n
returns-else-k-n c = lowest-past _ _ (search rules) c.requires c.if-k-n.false
