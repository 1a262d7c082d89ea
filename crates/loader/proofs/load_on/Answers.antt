-- `load_on` meets its contract: each arm's answer is that of the arm's instrument.
use borrow.Author.Rules.{rules}
use Rattle.loader.proofs.load_on.Goals as goal

pub returns-in-Large : goal.returns-in-Large
returns-in-Large c = rw c.in-Large.is (search rules)

pub returns-in-Entry : goal.returns-in-Entry
returns-in-Entry c = rw c.in-Entry.is (search rules)

pub returns-in-Four : goal.returns-in-Four
returns-in-Four c = rw c.in-Four.is (search rules)
