-- `joined_side` meets its contract: two parts on an empty stack, their join, and its item as tables.
use Rattle.std.proofs.Common.{rules, ◌<◌, [], ◌∷◌, refl}
use Rattle.condition.specs.Condition.{join}
use Rattle.items.specs.Stack.{bottom, a_join}
use Rattle.places.proofs.Sides.{joined, tables}
use Rattle.places.proofs.joined_side.Goals as goal

pub returns-clause-tables : goal.returns-clause-tables
returns-clause-tables c =
    let p = c.push_part-m.ensures.pushed in
    let q = c.push_part-n.ensures.pushed in
    let few : c.push_part-n.result < 64 = search rules in
    λ r t h k.
    tables (rw c.item.ensures at c.settle.ensures.settled) (search rules)
    (joined ((c.join_top.ensures.turned _ few).turned (t ∷ r ∷ []) (join r t ∷ []) a_join (q.pushed t k (r ∷ []) (p.pushed r h [] (bottom refl refl)))))
