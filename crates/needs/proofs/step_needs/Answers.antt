use mathlib.Core.Path.{refl}
use mathlib.Core.Option.{none, some}
use mathlib.Core.Logic.{inl, inr}
use Rattle.runs.specs.Rules.{total}
use Rattle.verdict.specs.Verdict.{certificates_needed}
use Rattle.values.specs.Values.{call_value}
use Rattle.needs.proofs.Calls.{others, call-needed, step-needed, call-told}
use Rattle.needs.proofs.step_needs.Goals as goal

pub returns-in-Event : goal.returns-in-Event
unfolding certificates_needed total
returns-in-Event c =
    λ S i h.
    elim c.in-Event.is [
      | inl (p, q, a, is) ↦ step-needed S i is (record { rules_are = refl; certificates_are = refl })
      | inr (p, q, is) ↦ step-needed S i is (record { rules_are = refl; certificates_are = refl })
    ]

pub returns-in-Call : goal.returns-in-Call
unfolding certificates_needed total
returns-in-Call c =
    λ S i h.
    let is = c.in-Call.is in
    let t = call_value c.in-Call.call none none in
    step-needed S i is
    (call-needed S i t (c.entry_asked.ensures S (call-told S _ _ is h))
    (c.call_needs.ensures S i t (others S i t) (record { rules_are = refl; certificates_are = refl })))

pub returns-in-ChannelCall : goal.returns-in-ChannelCall
unfolding certificates_needed total
returns-in-ChannelCall c =
    λ S i h.
    let is = c.in-ChannelCall.is in
    let t = call_value c.in-ChannelCall.call none (some c.in-ChannelCall.field-1) in
    step-needed S i is
    (call-needed S i t (c.entry_asked-in-ChannelCall.ensures S (call-told S _ _ is h))
    (c.call_needs-in-ChannelCall.ensures S i t (others S i t) (record { rules_are = refl; certificates_are = refl })))

pub returns-in-TwoOutcomeCall : goal.returns-in-TwoOutcomeCall
unfolding certificates_needed total
returns-in-TwoOutcomeCall c =
    λ S i h.
    let is = c.in-TwoOutcomeCall.is in
    let t = call_value c.in-TwoOutcomeCall.call (some c.in-TwoOutcomeCall.field-1) none in
    step-needed S i is
    (call-needed S i t (c.entry_asked-in-TwoOutcomeCall.ensures S (call-told S _ _ is h))
    (c.call_needs-in-TwoOutcomeCall.ensures S i t (others S i t) (record { rules_are = refl; certificates_are = refl })))

pub returns-in-Stop : goal.returns-in-Stop
unfolding certificates_needed total
returns-in-Stop c = λ S i h. step-needed S i c.in-Stop.is (record { rules_are = refl; certificates_are = refl })
