-- Of a call with a failed target the owners of its three points are compared, of another step those of its two.
use mathlib.Core.Path.{refl, ap}
use Rattle.kinds.specs.declared.Kind.TheVariants.{TwoOutcomeCall}
use Rattle.kinds.specs.Numbers.{kind_number}
use Rattle.kinds.proofs.Numbers.{other-byte}
use Rattle.owners.proofs.Joined.{joins-17, joins-two}
use Rattle.owners.proofs.step_joins.Goals as goal

pub returns-in-TwoOutcomeCall : goal.returns-in-TwoOutcomeCall
returns-in-TwoOutcomeCall c number =
    joins-17 c.requires.0 number c.args.points.now c.owner_named-from.ensures c.owner_named-to.ensures c.same_owner.ensures
    (ap kind_number c.in-TwoOutcomeCall.is) c.owner_named-failed.ensures c.same_owner-in-TwoOutcomeCall.ensures
    c.same_owner-in-TwoOutcomeCall-2.ensures

pub returns-in_default : goal.returns-in_default
returns-in_default c number =
    joins-two c.requires.0 number c.args.points.now c.owner_named-from.ensures c.owner_named-to.ensures c.same_owner-in_default.ensures
    c.requires.1 (other-byte TwoOutcomeCall refl c.in_default.not-TwoOutcomeCall) c.requires.2
