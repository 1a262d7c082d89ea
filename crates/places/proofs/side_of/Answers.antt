-- `side_of` meets its contract: one part on an empty stack, and its item as tables.
use Rattle.std.proofs.Common.{rules, [], refl}
use Rattle.items.specs.Stack.{bottom}
use Rattle.places.proofs.Sides.{tables}
use Rattle.places.proofs.side_of.Goals as goal

pub returns-clause-tables : goal.returns-clause-tables
returns-clause-tables c =
    let p = c.push_part-leaves.ensures.pushed in
    λ r h. tables (rw c.item.ensures at c.settle.ensures.settled) (search rules) (p.pushed r h [] (bottom refl refl))
