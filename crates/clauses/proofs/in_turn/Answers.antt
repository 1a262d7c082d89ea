use Prim.Native.Nat.{◌-◌, ◌^◌}
use mathlib.Core.Path.{◌≡◌, refl, sym, ap, ◌∙◌}
use native.Mathlib.Omega.{arith}
use lib.ListN.{length}
use Rattle.condition.specs.Condition.{Condition}
use Rattle.certificate.specs.Certificate.{in_order}
use Rattle.faults.specs.Fault.{finding_of}
use Rattle.faults.proofs.PassedOn.{passed-on}
use Rattle.pairs.proofs.Laws.{pairs-near}
use Rattle.looks.specs.Looks.{certificate_of}
use Rattle.known.proofs.Covered.{none-served}
use Rattle.clauses.specs.Clauses.{SidesAre, each_pair}
use Rattle.clauses.proofs.AllPairs.{fine_more, first_found, found_of}
use Rattle.clauses.proofs.in_turn.Goals as goal
use Rattle.clauses.proofs.in_turn.Goals.{After-pair_fault}

pub loop-i-init : goal.loop-i-init
unfolding in_order
loop-i-init c =
    let a = c.args in
    (λ l g sides. refl, record { bound = omega arith; served = none-served a.task.now.search a.task.now.left.now.sets 0 }, omega arith)

-- what is found of pair i
found_here : (c : After-pair_fault)
    → let x = c.args.task.now in
    (l g : Condition) → SidesAre x l g
    → finding_of c.pair_fault.result ≡ each_pair x.search.scope.events l g (certificate_of x.search) c.loop-i.i
found_here c l g sides =
    let x = c.args.task.now in
    found_of x.search.scope.events l g (certificate_of x.search) c.loop-i.i c.known_pair.ensures (c.pair_fault.ensures.finding l g sides)

pub returns-in_err-begin-clause-finding : goal.returns-in_err-begin-clause-finding
returns-in_err-begin-clause-finding c = λ l g sides.
    let x = c.args.task.now in
    let w = c.loop-i in
    passed-on _ c.from_residual.ensures.1
    ∙ first_found (length (certificate_of x.search)) w.i (each_pair x.search.scope.events l g (certificate_of x.search)) (omega (arith, c.requires.scoped.searched.count_is)) (w.invariant.0 l g sides)
    (found_here (goal.at.returns-in_err-begin-clause-finding c).After-pair_fault l g sides) c.in_err-begin.was

pub loop-i-preserved : goal.loop-i-preserved
loop-i-preserved c =
    let x = c.args.task.now in
    let w = c.loop-i in (
      λ l g sides.
          fine_more w.i (each_pair x.search.scope.events l g (certificate_of x.search)) (w.invariant.0 l g sides)
          (sym (found_here (goal.at.loop-i-preserved c).After-pair_fault l g sides) ∙ ap finding_of c.in_ok-begin.was),
      c.in_ok-begin.ensures.next,
      c.pair_fault.ensures.rows,
    )

pub bytes_of-requires : goal.bytes_of-requires
bytes_of-requires c =
    let x = c.args.task.now.search in
    omega (arith, pairs-near x.pairs.now x.scope.count (2 ^ 64 - 1) (omega (arith, c.requires.scoped.searched.count_is)) (omega arith))
