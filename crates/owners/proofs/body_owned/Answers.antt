-- The number is compared with each owner.
use mathlib.Core.Path.{refl, ap}
use Rattle.kinds.specs.declared.Kind.TheVariants.{TwoOutcomeBody}
use Rattle.kinds.specs.Numbers.{kind_number}
use Rattle.kinds.proofs.Numbers.{other-byte}
use Rattle.owners.proofs.Joined.{owned, owned-16}
use Rattle.owners.proofs.body_owned.Goals as goal

pub returns-in-TwoOutcomeBody : goal.returns-in-TwoOutcomeBody
returns-in-TwoOutcomeBody c =
    owned-16 c.requires.0 c.args.number c.args.points.now c.requires.1 c.owner_named.ensures c.owner_named-2.ensures
    c.same_owner-entry.ensures c.same_owner-exit.ensures (ap kind_number c.in-TwoOutcomeBody.is)
    c.owner_named-in-TwoOutcomeBody.ensures c.same_owner.ensures

pub returns-in_default : goal.returns-in_default
returns-in_default c =
    owned c.requires.0 c.args.number c.args.points.now c.requires.1 c.owner_named.ensures c.owner_named-2.ensures
    c.same_owner-entry.ensures c.same_owner-exit.ensures (other-byte TwoOutcomeBody refl c.in_default.not-TwoOutcomeBody)
