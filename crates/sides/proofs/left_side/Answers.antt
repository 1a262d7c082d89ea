use Rattle.claims.specs.Claims.{JoinIs}
use Rattle.sides.proofs.left_side.Goals as goal

pub returns-in-Two-clause-tables : goal.returns-in-Two-clause-tables
returns-in-Two-clause-tables c = λ r h.
    let j : JoinIs c.args.s.now c.in-Two.first c.in-Two.second r = rw c.in-Two.is at h in
    rw j.join_is (c.joined_side.ensures.tables _ _ j.first_is j.second_is)
