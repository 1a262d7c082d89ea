use mathlib.Core.Path.{refl}
use borrow.Author.Tests.{ne_eqb}
use Rattle.sheet_laws.specs.AtOffset.{step_at}
use Rattle.kinds.specs.declared.Kind.TheVariants.{Pass, Event, Call, TwoOutcomeCall, ChannelCall, Stop}
use Rattle.format.proofs.Laws.{byte-of, not-kind}
use Rattle.values.proofs.step_at.Goals as goal

pub returns-in-Event : goal.returns-in-Event
unfolding step_at
returns-in-Event c =
    let a = c.args in
    simp (c.short_at-from.ensures, c.short_at-to.ensures, c.from-event.ensures, c.byte_at.ensures, byte-of a.s.now a.at Pass c.kind_at.result c.kind_at.ensures c.unwrap_or.ensures Event c.in-Event.is refl)

pub returns-in-Call : goal.returns-in-Call
unfolding step_at
returns-in-Call c =
    let a = c.args in
    simp (c.short_at-from.ensures, c.short_at-to.ensures, c.short_at-method.ensures, byte-of a.s.now a.at Pass c.kind_at.result c.kind_at.ensures c.unwrap_or.ensures Call c.in-Call.is refl)

pub returns-in-TwoOutcomeCall : goal.returns-in-TwoOutcomeCall
unfolding step_at
returns-in-TwoOutcomeCall c =
    let a = c.args in
    simp (
      c.short_at-from.ensures,
      c.short_at-to.ensures,
      c.short_at-failed.ensures,
      c.short_at-method-in-TwoOutcomeCall.ensures,
      byte-of a.s.now a.at Pass c.kind_at.result c.kind_at.ensures c.unwrap_or.ensures TwoOutcomeCall c.in-TwoOutcomeCall.is refl,
    )

pub returns-in-ChannelCall : goal.returns-in-ChannelCall
unfolding step_at
returns-in-ChannelCall c =
    let a = c.args in
    simp (
      c.short_at-from.ensures,
      c.short_at-to.ensures,
      c.short_at-method-in-ChannelCall.ensures,
      c.byte_at-channel.ensures,
      byte-of a.s.now a.at Pass c.kind_at.result c.kind_at.ensures c.unwrap_or.ensures ChannelCall c.in-ChannelCall.is refl,
    )

pub returns-in-Stop : goal.returns-in-Stop
unfolding step_at
returns-in-Stop c =
    let a = c.args in
    simp (c.short_at-from.ensures, byte-of a.s.now a.at Pass c.kind_at.result c.kind_at.ensures c.unwrap_or.ensures Stop c.in-Stop.is refl)

pub returns-in_default : goal.returns-in_default
unfolding step_at
returns-in_default c =
    let a = c.args in
    let other = not-kind a.s.now a.at Pass c.kind_at.result c.kind_at.ensures c.unwrap_or.ensures in
    simp (
      c.short_at-from.ensures,
      c.short_at-to.ensures,
      ne_eqb _ _ (other Event c.in_default.not-Event),
      ne_eqb _ _ (other Call c.in_default.not-Call),
      ne_eqb _ _ (other TwoOutcomeCall c.in_default.not-TwoOutcomeCall),
      ne_eqb _ _ (other ChannelCall c.in_default.not-ChannelCall),
      ne_eqb _ _ (other Stop c.in_default.not-Stop),
    )
