-- `serve` meets its contract. The loop's invariant, `Going`: the rows are what the pairs that are seen leave; and `lowest` is a `Hint`.
use Rattle.looks.specs.Looks.{certificate_of}
use Rattle.clause4.specs.Clause4.{Hint}
use Rattle.clause4.proofs.Seen.{to_see}
use Rattle.clause4.proofs.Serving.{Going}
use Rattle.clause4.proofs.serve.Given as goal

abbrev pub invariant-loop-missers : goal.invariant-loop-missers
invariant-loop-missers l = Going (certificate_of l.search) l.start l.search.scope.m l.onward l.search.sets.now l.wanted l.initial.missing l.i l.to l.missers l.missing × Hint (certificate_of l.search) l.onward l.wanted l.lowest

abbrev pub decreases-loop-missers : goal.decreases-loop-missers
decreases-loop-missers l = to_see l.start l.i l.to
