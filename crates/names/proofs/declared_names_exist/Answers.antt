-- By the kind: each answer is the law of its fields.
use mathlib.Core.Path.{ap}
use native.Mathlib.Omega.{arith}
use borrow.Author.Rules.{rules}
use Rattle.kinds.specs.Numbers.{kind_number}
use Rattle.format.proofs.Named.{kind-inside, three-inside}
use Rattle.names.proofs.Named.{exist-9, exist-15, exist-16, exist-three}
use Rattle.names.proofs.declared_names_exist.Goals as goal

pub overflow_add-at : goal.overflow_add-at
overflow_add-at c = omega (arith, three-inside c.requires.0 c.requires.1)

pub three_below-named-requires : goal.three_below-named-requires
three_below-named-requires c = omega (arith, three-inside c.requires.0 c.requires.1)

pub overflow_add-at-in-WithBody : goal.overflow_add-at-in-WithBody
overflow_add-at-in-WithBody c = omega (arith, kind-inside c.requires.0 9 (ap kind_number c.in-WithBody.is))

pub two_below-requires : goal.two_below-requires
two_below-requires c = omega (arith, kind-inside c.requires.0 9 (ap kind_number c.in-WithBody.is))

pub overflow_add-at-in-TwoOutcomePrimitive : goal.overflow_add-at-in-TwoOutcomePrimitive
overflow_add-at-in-TwoOutcomePrimitive c = omega (arith, kind-inside c.requires.0 15 (ap kind_number c.in-TwoOutcomePrimitive.is))

pub two_below-requires-in-TwoOutcomePrimitive : goal.two_below-requires-in-TwoOutcomePrimitive
two_below-requires-in-TwoOutcomePrimitive c = omega (arith, kind-inside c.requires.0 15 (ap kind_number c.in-TwoOutcomePrimitive.is))

pub overflow_add-at-in-TwoOutcomeBody : goal.overflow_add-at-in-TwoOutcomeBody
overflow_add-at-in-TwoOutcomeBody c = omega (arith, kind-inside c.requires.0 16 (ap kind_number c.in-TwoOutcomeBody.is))

pub two_below-requires-in-TwoOutcomeBody : goal.two_below-requires-in-TwoOutcomeBody
two_below-requires-in-TwoOutcomeBody c = omega (arith, kind-inside c.requires.0 16 (ap kind_number c.in-TwoOutcomeBody.is))

pub overflow_add-at-in-TwoOutcomeBody-2 : goal.overflow_add-at-in-TwoOutcomeBody-2
overflow_add-at-in-TwoOutcomeBody-2 c = omega (arith, kind-inside c.requires.0 16 (ap kind_number c.in-TwoOutcomeBody.is))

pub two_below-requires-in-TwoOutcomeBody-2 : goal.two_below-requires-in-TwoOutcomeBody-2
two_below-requires-in-TwoOutcomeBody-2 c = omega (arith, kind-inside c.requires.0 16 (ap kind_number c.in-TwoOutcomeBody.is))

pub overflow_add-at-in-TwoOutcomeBody-3 : goal.overflow_add-at-in-TwoOutcomeBody-3
overflow_add-at-in-TwoOutcomeBody-3 c = omega (arith, kind-inside c.requires.0 16 (ap kind_number c.in-TwoOutcomeBody.is))

pub below-requires : goal.below-requires
below-requires c = omega (arith, kind-inside c.requires.0 16 (ap kind_number c.in-TwoOutcomeBody.is))

pub returns-in-WithBody : goal.returns-in-WithBody
returns-in-WithBody c = λ events. exist-9 c.requires.0 c.requires.1 c.args.tally c.three_below-named.ensures events (ap kind_number c.in-WithBody.is) c.two_below.ensures

pub returns-in-TwoOutcomePrimitive : goal.returns-in-TwoOutcomePrimitive
returns-in-TwoOutcomePrimitive c = λ events. exist-15 c.requires.0 c.requires.1 c.args.tally c.three_below-named.ensures events (ap kind_number c.in-TwoOutcomePrimitive.is) c.two_below-in-TwoOutcomePrimitive.ensures

pub returns-in-TwoOutcomeBody : goal.returns-in-TwoOutcomeBody
returns-in-TwoOutcomeBody c =
    λ events.
    exist-16 c.requires.0 c.requires.1 c.args.tally c.three_below-named.ensures events (ap kind_number c.in-TwoOutcomeBody.is)
    c.two_below-in-TwoOutcomeBody.ensures c.two_below-in-TwoOutcomeBody-2.ensures c.below.ensures

pub returns-in_default : goal.returns-in_default
returns-in_default c =
    λ events.
    exist-three c.requires.0 c.requires.1 c.args.tally c.three_below-named.ensures events
    (search rules) (search rules) (search rules)
