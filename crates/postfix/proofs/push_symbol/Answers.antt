-- `push_symbol` meets its contract: what it requires of a symbol, at the symbol of each arm.
use Rattle.std.proofs.Common.{rules, subst, ◌≡◌, ◌+◌, ◌<◌, ◌≤◌}
use Rattle.std.specs.Prelude.{Option, Some}
use Rattle.std.specs.Option.{ForSome}
use Rattle.format.specs.declared.symbols.Symbol.{Symbol}
use Rattle.format.specs.Symbols.{items_taken, leaves_in}
use Rattle.postfix.specs.declared.Height.{Height}
use Rattle.postfix.proofs.push_symbol.Goals as goal

-- the items that a symbol takes are there, and there is room for its item and its leaf
abbrev Needs : Height → Symbol → Type 0
Needs top y = (items_taken y ≤ top.depth) × (top.depth < 50) × (top.leaves + leaves_in y ≤ 62)

needs : (top : Height) {o : Option Symbol} {y z : Symbol} → ForSome o (λ y. Needs top y) → o ≡ Some y → y ≡ z → Needs top z
needs top h is here = subst (λ (y : Symbol). Needs top y) here (h _ is)

pub push_leaf-requires : goal.push_leaf-requires
push_leaf-requires c = let h = needs c.args.top c.requires c.in-Some.is c.in-Leaf.is in search rules

pub overflow_add-result : goal.overflow_add-result
overflow_add-result c = let h = needs c.args.top c.requires c.in-Some.is c.in-Leaf.is in search rules

pub overflow_add-result-in-Leaf : goal.overflow_add-result-in-Leaf
overflow_add-result-in-Leaf c = let h = needs c.args.top c.requires c.in-Some.is c.in-Leaf.is in search rules

pub overflow_add-result-in-Empty : goal.overflow_add-result-in-Empty
overflow_add-result-in-Empty c = let h = needs c.args.top c.requires c.in-Some.is c.in-Empty.is in search rules

pub join_top-requires : goal.join_top-requires
join_top-requires c = let h = needs c.args.top c.requires c.in-Some.is c.in-Join.is in search rules

pub overflow_sub-result : goal.overflow_sub-result
overflow_sub-result c = let h = needs c.args.top c.requires c.in-Some.is c.in-Join.is in search rules

pub either_top-requires : goal.either_top-requires
either_top-requires c = let h = needs c.args.top c.requires c.in-Some.is c.in-Either.is in search rules

pub overflow_sub-result-in-Either : goal.overflow_sub-result-in-Either
overflow_sub-result-in-Either c = let h = needs c.args.top c.requires c.in-Some.is c.in-Either.is in search rules

pub star_top-requires : goal.star_top-requires
star_top-requires c = let h = needs c.args.top c.requires c.in-Some.is c.in-Star.is in search rules
