-- `shares` meets its contract (`Passing`).
use Rattle.looks.proofs.Passing.{shares-none}
use borrow.Author.Rules.{rules}
use Rattle.looks.proofs.shares.Goals as goal

pub returns-clause-none : goal.returns-clause-none
returns-clause-none c = shares-none _ _ (search rules)
