-- `clause4` meets its contract: what the followers want and no pair serves is what clause 4 misses (`FirstMissing`).
use Rattle.std.proofs.Common.{◌∙◌}
use Rattle.looks.specs.Looks.{certificate_of}
use Rattle.clause4.proofs.FirstMissing.{clause4-is}
use Rattle.clause4.proofs.clause4.Goals as goal

pub returns-clause-finding : goal.returns-clause-finding
returns-clause-finding c =
    let a = c.args in
    let s = a.search.now in
    c.first_missing.ensures
    ∙ clause4-is s.scope.events s.scope.n a.ask.followers s.scope.alive c.below.result a.lsets.now c.below.ensures c.requires.alive_is c.want.ensures
    (certificate_of s) a.ask.pair s.scope.m a.ask.onward s.sets.now c.serve-rest.ensures.rest

pub returns-clause-rows : goal.returns-clause-rows
returns-clause-rows c = c.serve-rest.ensures.rest.long
