use mathlib.Core.Path.{refl}
use mathlib.Core.Option.{none, some}
use Rattle.index.proofs.Indexed.{point-in, fails-in}
use Rattle.rules.proofs.Decoded.{step-rules, named, target, on-channel, fits}
use Rattle.rules.proofs.Told.{told-rules}
use Rattle.rules.proofs.order.step_subject.Goals as goal

pub point-requires : goal.point-requires
point-requires c =
    let (S, x, l) = c.requires in
    (S, point-in x _ (named x l c.in-Event.is c.step_at.ensures).0)

pub point-requires-in-Event : goal.point-requires-in-Event
point-requires-in-Event c =
    let (S, x, l) = c.requires in
    (S, point-in x _ (named x l c.in-Event.is c.step_at.ensures).1)

pub call_subject-requires : goal.call_subject-requires
call_subject-requires c =
    let (S, x, l) = c.requires in
    let names = named x l c.in-Call.is c.step_at.ensures in
    (S, x, names.3, names.0, names.1)

pub failed_way-way-requires : goal.failed_way-way-requires
failed_way-way-requires c =
    let (S, x, l) = c.requires in
    let is = c.in-TwoOutcomeCall.is in
    let read = c.step_at.ensures in
    let names = named x l is read in
    (S, point-in x _ names.2, fails-in x _ names.3 (target x l is read))

pub call_subject-requires-in-TwoOutcomeCall : goal.call_subject-requires-in-TwoOutcomeCall
call_subject-requires-in-TwoOutcomeCall c =
    let (S, x, l) = c.requires in
    let names = named x l c.in-TwoOutcomeCall.is c.step_at.ensures in
    (S, x, names.3, names.0, names.1)

pub call_subject-requires-in-ChannelCall : goal.call_subject-requires-in-ChannelCall
call_subject-requires-in-ChannelCall c =
    let (S, x, l) = c.requires in
    let names = named x l c.in-ChannelCall.is c.step_at.ensures in
    (S, x, names.3, names.0, names.1)

pub point-requires-in-Pass : goal.point-requires-in-Pass
point-requires-in-Pass c =
    let (S, x, l) = c.requires in
    (S, point-in x _ (named x l c.in-Pass.is c.step_at.ensures).0)

pub point-requires-in-Pass-2 : goal.point-requires-in-Pass-2
point-requires-in-Pass-2 c =
    let (S, x, l) = c.requires in
    (S, point-in x _ (named x l c.in-Pass.is c.step_at.ensures).1)

pub point-point-requires : goal.point-point-requires
point-point-requires c =
    let (S, x, l) = c.requires in
    (S, point-in x _ (named x l c.in-Stop.is c.step_at.ensures))

pub returns-in-Event : goal.returns-in-Event
returns-in-Event c =
    λ S x l.
    let is = c.in-Event.is in
    let read = c.step_at.ensures in
    record {
      from = _;
      to = _;
      from_is = c.point.ensures S (point-in x _ (named x l is read).0);
      to_is = c.point-in-Event.ensures S (point-in x _ (named x l is read).1);
      fits = fits x l is read;
      rules_are = step-rules x l is read;
    }

pub returns-in-Call : goal.returns-in-Call
returns-in-Call c =
    λ S x l.
    let is = c.in-Call.is in
    let read = c.step_at.ensures in
    let names = named x l is read in
    told-rules _ S c.call_subject.result (step-rules x l is read)
    (c.call_subject.ensures S none none x names.3 names.0 names.1 tt refl)

pub returns-in-TwoOutcomeCall : goal.returns-in-TwoOutcomeCall
returns-in-TwoOutcomeCall c =
    λ S x l.
    let is = c.in-TwoOutcomeCall.is in
    let read = c.step_at.ensures in
    let names = named x l is read in
    let failing = c.failed_way-way.ensures S (point-in x _ names.2) (fails-in x _ names.3 (target x l is read)) in
    told-rules _ S c.call_subject-in-TwoOutcomeCall.result (step-rules x l is read)
    (c.call_subject-in-TwoOutcomeCall.ensures S (some _) none x names.3 names.0 names.1 failing refl)

pub returns-in-ChannelCall : goal.returns-in-ChannelCall
returns-in-ChannelCall c =
    λ S x l.
    let is = c.in-ChannelCall.is in
    let read = c.step_at.ensures in
    let names = named x l is read in
    let channel = c.in-ChannelCall.channel in
    told-rules _ S c.call_subject-in-ChannelCall.result (step-rules x l is read)
    (c.call_subject-in-ChannelCall.ensures S none (some channel) x names.3 names.0 names.1 tt ((cc), (on-channel x l is read).2))

pub returns-in-Pass : goal.returns-in-Pass
returns-in-Pass c =
    λ S x l.
    let is = c.in-Pass.is in
    let read = c.step_at.ensures in
    record {
      from = _;
      to = _;
      from_is = c.point-in-Pass.ensures S (point-in x _ (named x l is read).0);
      to_is = c.point-in-Pass-2.ensures S (point-in x _ (named x l is read).1);
      rules_are = step-rules x l is read;
    }

pub returns-in-Stop : goal.returns-in-Stop
returns-in-Stop c =
    λ S x l.
    let is = c.in-Stop.is in
    let read = c.step_at.ensures in
    record { from = _; due_is = (c.point-point.ensures S (point-in x _ (named x l is read))).due_stands; rules_are = step-rules x l is read }
