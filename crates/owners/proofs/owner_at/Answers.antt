use native.Mathlib.Omega.{arith}
use Rattle.owners.proofs.Owned.{owned_inside, owned, unowned}
use Rattle.owners.proofs.owner_at.Goals as goal

pub overflow_add-at : goal.overflow_add-at
overflow_add-at c =
    let a = c.args in
    omega (arith, owned_inside a.s.now a.at c.byte_at.ensures c.if-byte_at.true)

pub returns-then-byte_at : goal.returns-then-byte_at
returns-then-byte_at c =
    let a = c.args in
    owned a.s.now a.at c.byte_at.ensures c.if-byte_at.true c.short_at.ensures

pub returns-else-byte_at : goal.returns-else-byte_at
returns-else-byte_at c =
    let a = c.args in
    unowned a.s.now a.at c.byte_at.ensures c.if-byte_at.false
