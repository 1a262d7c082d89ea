use native.Mathlib.Nat.{le_antisymm}
use Rattle.looks.proofs.Passing.{passed-more, passed_to, off-followers}
use borrow.Author.Rules.{rules}
use Rattle.looks.proofs.next_within.Goals as goal

pub loop-i-preserved : goal.loop-i-preserved
loop-i-preserved c = λ m sets rows.
    passed-more (c.loop-i.invariant m sets rows) c.known_pair-set.ensures
    (λ q e _. off-followers _ _ _ _ sets c.if-set-onward.false q e)

pub returns-clause-passed : goal.returns-clause-passed
returns-clause-passed c = (search rules, λ m sets rows. passed_to (c.loop-i.invariant m sets rows) (le_antisymm (search rules) c.loop-i-test.false))
