-- `push_part` meets its contract; an event from 64 on is no part, and neither is a condition on a channel above the last.
use Rattle.std.proofs.Common.{ℕ, ◌∙◌, sym, ap}
use Rattle.condition.specs.Condition.{leaf}
use Rattle.postfix.proofs.Pushes.{pushed-as, leaf-pushed, exchanged-pushed, event-part, exchanged-part}
use Rattle.postfix.proofs.push_part.Goals as goal

pub returns-else-e-ge64-clause-pushed : goal.returns-else-e-ge64-clause-pushed
returns-else-e-ge64-clause-pushed c =
    pushed-as
    (λ r p. (event-part c.args.s.now c.in-Event.is r p).0 ∙ ap (λ (x : ℕ). leaf x) (sym c.bit.ensures))
    (leaf-pushed c.push_leaf.ensures.turned)

pub returns-else-channel-gt3-clause-pushed : goal.returns-else-channel-gt3-clause-pushed
returns-else-channel-gt3-clause-pushed c =
    let x = c.exchange_sets.ensures in
    pushed-as (exchanged-part c.args.s.now c.in-Exchanged.is) (exchanged-pushed c.push_condition-n.ensures.pushed x.sets x.follow)
