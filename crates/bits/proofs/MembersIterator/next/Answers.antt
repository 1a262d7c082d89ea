-- `Members::next` gives the lowest number of the rest: the machine counts the zeros below it (`Least`).
use Rattle.bits.proofs.Least.{takes-lowest}
use borrow.Author.Rules.{rules}
use Rattle.bits.proofs.MembersIterator.next.Goals as goal

pub returns-clause-steps : goal.returns-clause-steps
returns-clause-steps c = takes-lowest _ c.if-self-eq0.false (search rules)
