-- `either_top` meets its contract.
use Rattle.std.proofs.Common.{rules, ◌≡◌, ◌||◌, ◌-◌, refl}
use Rattle.items.specs.Stack.{item_at}
use Rattle.items.proofs.Turns.{either-top}
use Rattle.items.proofs.Stack.either_top.Goals as goal

pub returns-clause-turned : goal.returns-clause-turned
returns-clause-turned c =
    let x = c.args.self.now in
    let d = c.args.depth in
    let e : c.if-self-under.self ≡ ((item_at x (d - 1 - 1)).nullable || (item_at x (d - 1)).nullable) = search rules in
    λ p m. either-top (search rules) c.requires.1 (rw e refl)
