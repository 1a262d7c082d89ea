use mathlib.Core.Path.{refl}
use mathlib.Core.Option.{Option, some}
use Rattle.condition.specs.Condition.{Condition}
use Rattle.sheet.specs.Sheet.{Outcome, CallStep, Sheet, trace, on_channel}
use Rattle.claims.proofs.Says.{a_word}
use Rattle.claims.proofs.Kth.{kth-named}
use Rattle.step_claims.proofs.return_claim.Goals as goal

-- what the call raises: a word of the trace, read on its channel
abbrev raised_by : Sheet → CallStep → Outcome → Option Condition
raised_by S t o = some (on_channel t.channel (trace S t.method o))

pub returns-in-0 : goal.returns-in-0
returns-in-0 c =
    λ s S n i to t o names on p q.
    let raised = a_word (c.on_channel.ensures s _ t.channel q.declared_is.trace_stands on) in
    kth-named c.in-0.is refl names.past_is
    (c.forward.ensures s _ _ (raised_by S t o) p.past_stands raised q.point_is.past_stands)

pub returns-in-1 : goal.returns-in-1
returns-in-1 c =
    λ s S n i to t o names on p q.
    let raised = a_word (c.on_channel.ensures s _ t.channel q.declared_is.trace_stands on) in
    kth-named c.in-1.is refl names.own_is
    (c.forward-in-1.ensures s _ _ (raised_by S t o) p.own_stands raised q.point_is.own_stands)

pub returns-in-2 : goal.returns-in-2
returns-in-2 c =
    λ s S n i to t o names on p q.
    kth-named c.in-2.is refl names.future_is
    (c.within.ensures s _ _ q.point_is.due_stands (c.on_channel-in-2.ensures s _ t.channel q.declared_is.future_stands on))

pub returns-in-3 : goal.returns-in-3
returns-in-3 c =
    λ s S n i to t o names on p q.
    let raised = a_word (c.on_channel.ensures s _ t.channel q.declared_is.trace_stands on) in
    kth-named c.in-3.is refl names.due_is
    (c.backward.ensures s _ _ (raised_by S t o) raised q.point_is.due_stands p.due_stands)
