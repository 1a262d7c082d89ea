-- `first_missing` meets its contract: the lowest event of all that is missing, and the lowest place that misses it
-- (`FirstMissing`).
use Rattle.clause4.proofs.FirstMissing.{missing-nothing, missing-none, no_place-misses, missing-first}
use Rattle.clause4.proofs.first_missing.Goals as goal

pub returns-then-missers-eq0 : goal.returns-then-missers-eq0
returns-then-missers-eq0 c = missing-nothing c.args.missing.now c.args.scope.n c.args.i c.args.scope.events c.if-missers-eq0.true

pub returns-in_default : goal.returns-in_default
returns-in_default c =
    let a = c.args in
    missing-none a.missers a.missing.now a.scope.n a.i c.gather-all.result c.gather-all.ensures a.scope.events c.in_default.ensures

pub returns-in_default-lowest_row : goal.returns-in_default-lowest_row
returns-in_default-lowest_row c =
    let a = c.args in
    absurd (no_place-misses a.missers a.missing.now a.scope.n a.i c.gather-all.result c.gather-all.ensures
    a.scope.events c.in-Some.event c.in-Some.ensures c.in_default-lowest_row.ensures)

pub returns : goal.returns
returns c =
    let a = c.args in
    missing-first a.missers a.missing.now a.scope.n a.i c.gather-all.result c.gather-all.ensures
    c.in-Some.event c.in-Some-lowest_row.place c.in-Some-lowest_row.ensures a.scope.events c.in-Some.ensures
