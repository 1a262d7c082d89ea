-- By the kind: each answer is the law of its fields.
use mathlib.Core.Path.{refl, ap}
use native.Mathlib.Omega.{arith}
use borrow.Author.Rules.{rules}
use Rattle.kinds.specs.Numbers.{kind_number}
use Rattle.kinds.specs.declared.Kind.TheVariants as kind
use Rattle.kinds.proofs.Numbers.{other-byte}
use Rattle.format.proofs.Named.{kind-inside, two-inside}
use Rattle.names.proofs.Named.{exist-10, exist-11, exist-17, exist-19, exist-22, exist-two}
use Rattle.names.proofs.step_names_exist.Goals as goal

pub overflow_add-at : goal.overflow_add-at
overflow_add-at c = omega (arith, kind-inside c.requires.0 19 (ap kind_number c.in-Stop.is))

pub below-requires : goal.below-requires
below-requires c = omega (arith, kind-inside c.requires.0 19 (ap kind_number c.in-Stop.is))

pub returns-in-Stop : goal.returns-in-Stop
returns-in-Stop c = exist-19 c.requires.0 c.requires.1 (ap kind_number c.in-Stop.is) c.args.events c.args.tally c.below.ensures

pub overflow_add-at-2 : goal.overflow_add-at-2
overflow_add-at-2 c = omega (arith, two-inside c.requires.0 c.requires.1 (other-byte kind.Stop refl c.in_default.not-Stop))

pub two_below-named-requires : goal.two_below-named-requires
two_below-named-requires c = omega (arith, two-inside c.requires.0 c.requires.1 (other-byte kind.Stop refl c.in_default.not-Stop))

pub overflow_add-at-in-Event : goal.overflow_add-at-in-Event
overflow_add-at-in-Event c = omega (arith, kind-inside c.requires.0 10 (ap kind_number c.in-Event.is))

pub bounds-s-at : goal.bounds-s-at
bounds-s-at c = omega (arith, kind-inside c.requires.0 10 (ap kind_number c.in-Event.is))

pub overflow_add-at-in-Call : goal.overflow_add-at-in-Call
overflow_add-at-in-Call c = omega (arith, kind-inside c.requires.0 11 (ap kind_number c.in-Call.is))

pub below-requires-in-Call : goal.below-requires-in-Call
below-requires-in-Call c = omega (arith, kind-inside c.requires.0 11 (ap kind_number c.in-Call.is))

pub overflow_add-at-in-ChannelCall : goal.overflow_add-at-in-ChannelCall
overflow_add-at-in-ChannelCall c = omega (arith, kind-inside c.requires.0 22 (ap kind_number c.in-ChannelCall.is))

pub below-requires-in-ChannelCall : goal.below-requires-in-ChannelCall
below-requires-in-ChannelCall c = omega (arith, kind-inside c.requires.0 22 (ap kind_number c.in-ChannelCall.is))

pub overflow_add-at-in-TwoOutcomeCall : goal.overflow_add-at-in-TwoOutcomeCall
overflow_add-at-in-TwoOutcomeCall c = omega (arith, kind-inside c.requires.0 17 (ap kind_number c.in-TwoOutcomeCall.is))

pub below-requires-in-TwoOutcomeCall : goal.below-requires-in-TwoOutcomeCall
below-requires-in-TwoOutcomeCall c = omega (arith, kind-inside c.requires.0 17 (ap kind_number c.in-TwoOutcomeCall.is))

pub overflow_add-at-in-TwoOutcomeCall-2 : goal.overflow_add-at-in-TwoOutcomeCall-2
overflow_add-at-in-TwoOutcomeCall-2 c = omega (arith, kind-inside c.requires.0 17 (ap kind_number c.in-TwoOutcomeCall.is))

pub below-requires-in-TwoOutcomeCall-2 : goal.below-requires-in-TwoOutcomeCall-2
below-requires-in-TwoOutcomeCall-2 c = omega (arith, kind-inside c.requires.0 17 (ap kind_number c.in-TwoOutcomeCall.is))

pub returns-in-Event : goal.returns-in-Event
returns-in-Event c =
    exist-10 c.requires.0 c.requires.1 (other-byte kind.Stop refl c.in_default.not-Stop) c.args.events c.args.tally c.two_below-named.ensures
    (ap kind_number c.in-Event.is) c.from.ensures

pub returns-in-Call : goal.returns-in-Call
returns-in-Call c =
    exist-11 c.requires.0 c.requires.1 (other-byte kind.Stop refl c.in_default.not-Stop) c.args.events c.args.tally c.two_below-named.ensures
    (ap kind_number c.in-Call.is) c.below-in-Call.ensures

pub returns-in-ChannelCall : goal.returns-in-ChannelCall
returns-in-ChannelCall c =
    exist-22 c.requires.0 c.requires.1 (other-byte kind.Stop refl c.in_default.not-Stop) c.args.events c.args.tally c.two_below-named.ensures
    (ap kind_number c.in-ChannelCall.is) c.below-in-ChannelCall.ensures

pub returns-in-TwoOutcomeCall : goal.returns-in-TwoOutcomeCall
returns-in-TwoOutcomeCall c =
    exist-17 c.requires.0 c.requires.1 (other-byte kind.Stop refl c.in_default.not-Stop) c.args.events c.args.tally c.two_below-named.ensures
    (ap kind_number c.in-TwoOutcomeCall.is) c.below-in-TwoOutcomeCall.ensures c.below-in-TwoOutcomeCall-2.ensures

pub returns-in_default-kind : goal.returns-in_default-kind
returns-in_default-kind c =
    exist-two c.requires.0 c.requires.1 (other-byte kind.Stop refl c.in_default.not-Stop) c.args.events c.args.tally c.two_below-named.ensures
    (search rules) (search rules) (search rules) (search rules)
