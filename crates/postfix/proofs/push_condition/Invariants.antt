-- `push_condition` meets its contract. The invariant, `Going`: for each condition that stands at `from`, the items so far and the symbols to
-- come leave it alone on the stack. The arrays keep their lengths.
use Rattle.items.specs.Stack.{Roomy, Rows, Stacked}
use Rattle.postfix.proofs.Midway.{Going}
use Rattle.postfix.proofs.push_condition.Given as goal

abbrev pub invariant-loop : goal.invariant-loop
invariant-loop l = record {
  going : Going l.s l.from (λ rs. Stacked l.initial.stack l.initial.places l.floor l.base rs) l.stack l.places l.floor l.base l.top.depth l.top.leaves l.at l.counter;
  room : Roomy l.stack;
  rows : Rows l.places;
}
