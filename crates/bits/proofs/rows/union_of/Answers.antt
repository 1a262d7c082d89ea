-- `rows::union_of` meets its contract: the set is empty, or its union was kept, or it is gathered and kept.
use Rattle.bits.proofs.Filling.{union-none}
use borrow.Author.Rules.{rules}
use Rattle.bits.proofs.rows.union_of.Goals as goal

pub returns-then-p-ge64-clause-union : goal.returns-then-p-ge64-clause-union
returns-then-p-ge64-clause-union c = union-none c.args.rows.now c.args.n c.args.set (search rules) c.if-p-ge64.true
